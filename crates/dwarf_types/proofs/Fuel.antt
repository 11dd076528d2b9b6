-- One type entry further.
use Rattle.std.proofs.Common.{◌≡◌, ℕ, zero, suc, ◌-◌, ◌<◌, List, None, refl, arith}
use Rattle.dwarf_info.specs.declared.entry.UnitAnswer.{UnitAnswer}
use Rattle.dwarf_entries.specs.Standing.{Standing}
use Rattle.dwarf_types.specs.declared.behind.Typed.{Typed}
use Rattle.dwarf_types.specs.declared.behind.Typed.TheVariants as typeds
use Rattle.dwarf_types.specs.declared.behind.Behind.TheVariants as behinds
use Rattle.dwarf_types.specs.Types.{class_at, type_of, behind_as, behind}
use Rattle.dwarf_types.specs.Sizes.{size_as, size_within}

pub behind_none : (units : List UnitAnswer) (n : ℕ) → behind units n typeds.Nothing ≡ behinds.Nothing
unfolding behind
behind_none units zero = refl
behind_none units (suc n) = refl

pub behind_spent : (units : List UnitAnswer) (n : ℕ) (s : Standing) (k : ℕ) → n ≡ 0 → behind units n (typeds.At s k) ≡ behinds.TooDeep
unfolding behind
behind_spent units zero s k e = refl
behind_spent units (suc n) s k e = absurd (omega arith)

pub behind_more : (units : List UnitAnswer) (n : ℕ) (s : Standing) (k : ℕ) → 0 < n
    → behind units n (typeds.At s k) ≡ behind_as (class_at s) (behind units (n - 1) (type_of units s.entry.attributes)) s k
unfolding behind
behind_more units zero s k h = absurd (omega arith)
behind_more units (suc n) s k h = let less : suc n - 1 ≡ n = omega arith in rw less refl

pub size_none : (units : List UnitAnswer) (n : ℕ) → size_within units n typeds.Nothing ≡ None
unfolding size_within
size_none units zero = refl
size_none units (suc n) = refl

pub size_spent : (units : List UnitAnswer) (n : ℕ) (t : Typed) → n ≡ 0 → size_within units n t ≡ None
unfolding size_within
size_spent units zero t e = refl
size_spent units (suc n) t e = absurd (omega arith)

pub size_more : (units : List UnitAnswer) (n : ℕ) (s : Standing) (k : ℕ) → 0 < n
    → size_within units n (typeds.At s k) ≡ size_as (class_at s) (size_within units (n - 1) (type_of units s.entry.attributes)) s k
unfolding size_within
size_more units zero s k h = absurd (omega arith)
size_more units (suc n) s k h = let less : suc n - 1 ≡ n = omega arith in rw less refl
