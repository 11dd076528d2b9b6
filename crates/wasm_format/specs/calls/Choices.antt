-- A test that chooses between two languages, and between two ways to stop.
use Rattle.std.specs.Prelude.{◌≡◌, ℕ, ◌⊎◌, Bool, true, false, get_or}
use Rattle.wasm_bytes.specs.calls.Spelling.{Spellings}
use Rattle.wasm_bytes.specs.calls.Stopping.{Stops}

-- the one language where the test holds, the other one where it does not
abbrev pub on_test : {A : Type 0} → Bool → (A → Spellings) → (A → Spellings) → A → Spellings
on_test b S T x at bytes = ((b ≡ true) × S x at bytes) ⊎ ((b ≡ false) × T x at bytes)

abbrev pub no_spelling : {A : Type 0} → A → Spellings
no_spelling x at bytes = ⊥

-- the one way to stop where the test holds, the other one where it does not
abbrev pub stops_on_test : Bool → Stops → Stops → Stops
stops_on_test b s t at bytes o = ((b ≡ true) × s at bytes o) ⊎ ((b ≡ false) × t at bytes o)

-- The test holds, or else the other fact does.
abbrev pub or_else : Bool → Type 0 → Type 0
or_else b P = (b ≡ true) ⊎ ((b ≡ false) × P)

-- a value, and the first byte of its spelling
abbrev pub first_and : {A : Type 0} → (A → Spellings) → ℕ × A → Spellings
first_and S x at bytes = (get_or bytes 0 0 ≡ x.0) × S x.1 at bytes
