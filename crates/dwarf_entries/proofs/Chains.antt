-- What stands in another entry, by one entry further.
use Rattle.std.proofs.Common.{◌≡◌, ℕ, zero, suc, ◌-◌, ◌<◌, List, Option, refl, arith}
use Rattle.std.specs.Prelude.{option_and_then}
use Rattle.std.specs.Option.{option_or}
use Rattle.dwarf_info.specs.declared.entry.Attribute.{Attribute}
use Rattle.dwarf_info.specs.declared.entry.UnitAnswer.{UnitAnswer}
use Rattle.dwarf_entries.specs.Origins.{through, origin}

pub none_further : {A : Type 0} (units : List UnitAnswer) (says : List Attribute → Option A) (n : ℕ) (es : List Attribute) → n ≡ 0 → through units says n es ≡ says es
none_further units says zero es e = refl
none_further units says (suc n) es e = absurd (omega arith)

pub one_further : {A : Type 0} (units : List UnitAnswer) (says : List Attribute → Option A) (n : ℕ) (es : List Attribute) → 0 < n
    → through units says n es ≡ option_or (says es) (option_and_then (through units says (n - 1)) (origin units es))
one_further units says zero es h = absurd (omega arith)
one_further units says (suc n) es h = let less : suc n - 1 ≡ n = omega arith in rw less refl
