-- An entry that was found stands at its own offset.
use Rattle.std.proofs.Common.{◌≡◌, ℕ, Bool, true, false, List, [], ◌∷◌, Option, Some, None, refl, sym, ap, ◌∙◌}
use Rattle.std.specs.Prelude.{find, IfSome, option_and_then, if◌then◌else◌}
use Rattle.std.proofs.lemmas.Bool.{eqb-true}
use Rattle.dwarf_info.specs.declared.entry.Attribute.{Attribute}
use Rattle.dwarf_info.specs.declared.entry.UnitAnswer.{UnitAnswer}
use Rattle.dwarf_entries.specs.Standing.{Standing, standing, stands_at, standing_at}
use Rattle.dwarf_entries.specs.Origins.{through, own_type as its_type, longest_chain, type_entry}

found_passes : {A : Type 0} (f : A → Bool) (xs : List A) (x : A) → find f xs ≡ Some x → f x ≡ true
found_passes f [] x e = absurd (let no : None ≡ Some x = e in cc)
found_passes f (y ∷ xs) x e = by_test f y xs x (f y) refl e (found_passes f xs x)
  where
    by_test : {A : Type 0} (f : A → Bool) (y : A) (xs : List A) (x : A) (b : Bool) → f y ≡ b → (if b then Some y else find f xs) ≡ Some x → (find f xs ≡ Some x → f x ≡ true) → f x ≡ true
    by_test f y xs x true passes e h = let same : y ≡ x = cc in ap f (sym same) ∙ passes
    by_test f y xs x false fails e h = h e

same_place : (at : ℕ) (s : Standing) → stands_at at s ≡ true → s.entry.at ≡ at
same_place at s e = eqb-true s.entry.at at e

own_by : (units : List UnitAnswer) (at : ℕ) (o : Option Standing) → standing_at units at ≡ o → IfSome o (λ s. standing_at units s.entry.at ≡ Some s)
unfolding standing_at
own_by units at None e = tt
own_by units at (Some s) e = ap (standing_at units) (same_place at s (found_passes (stands_at at) (standing units) s e)) ∙ e

pub own_at : (units : List UnitAnswer) (at : ℕ) → IfSome (standing_at units at) (λ s. standing_at units s.entry.at ≡ Some s)
own_at units at = own_by units at (standing_at units at) refl

own_said : (units : List UnitAnswer) (at : Option ℕ) → IfSome (option_and_then (standing_at units) at) (λ s. standing_at units s.entry.at ≡ Some s)
own_said units None = tt
own_said units (Some at) = own_at units at

pub own_type : (units : List UnitAnswer) (es : List Attribute) → IfSome (type_entry units es) (λ s. standing_at units s.entry.at ≡ Some s)
unfolding type_entry
own_type units es = own_said units (through units its_type longest_chain es)
