-- What is said with the section, the addresses and the base of a unit.
use Rattle.std.proofs.Common.{◌≡◌, ℕ, List, subst}
use Rattle.dwarf_loc.specs.Addresses.{Table}

pub of_unit : (P : List ℕ → Table → ℕ → Type 0) (lists section : List ℕ) (t addresses : Table) (b base : ℕ) → lists ≡ section → t ≡ addresses → b ≡ base → P lists t b → P section addresses base
of_unit P lists section t addresses b base holds same begins h =
    subst (λ (n : ℕ). P section addresses n) begins (subst (λ (x : Table). P section x b) same (subst (λ (xs : List ℕ). P xs t b) holds h))
