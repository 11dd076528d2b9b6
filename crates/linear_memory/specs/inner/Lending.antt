-- A `&mut` to the bytes of a page.
use Rattle.std.specs.Prelude.{ℕ, List}
use Rattle.std.specs.Borrow.{Lends, MutBor, Fml}
use Rattle.linear_memory.specs.inner.Ownership.{Block}
use Rattle.linear_memory.specs.declared.raw.RawPage.{RawPage}
use Rattle.linear_memory.specs.contracts.raw.RawPage.{the_row}

abbrev pub with_bytes : RawPage → List ℕ → RawPage
with_bytes page w = record page { bytes = w }

-- the page has the last bytes behind r, once r ends
abbrev pub LendsBytes : MutBor RawPage → MutBor (List ℕ) → Fml
LendsBytes page r = Lends the_row Block page r (with_bytes page.now)
