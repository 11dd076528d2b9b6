-- A type that an instruction uses is among those of its module.
use Rattle.std.proofs.Common.{◌≡◌, ℕ, zero, suc, Bool, true, false, if◌then◌else◌, List, [], ◌∷◌, ◌++◌, flat_map, slice_get, Some, refl, ap, ◌∙◌, arith}
use Rattle.std.specs.Prelude.{◌==◌}
use Rattle.std.proofs.lemmas.Bool.Decides.{nat_tests}
use Rattle.wasm_syntax.specs.declared.instruction.Op.{Op}
use Rattle.wasm_syntax.specs.declared.parts.Body.{Body}
use Rattle.wasm_syntax.specs.declared.module.ModuleParts.{ModuleParts as Module}
use Rattle.rewrite_bodies.specs.Numbering.{is_in, distinct}
use Rattle.rewrite_modules.specs.Weight.{type_used, types_used}
use Rattle.rewrite_modules.proofs.Listed.{in_distinct}
use Rattle.index_map.specs.inner.Used.{ops_used, bodies_used}
use Rattle.pm_text.proofs.Lists.{some_is}

left_within : (t : ℕ) (xs ys : List ℕ) → is_in t xs ≡ true → is_in t (xs ++ ys) ≡ true
left_within t [] ys e = absurd (cc)
left_within t (x ∷ xs) ys e = by (t == x) e (left_within t xs ys)
  where
    by : (q : Bool) → (if q then true else is_in t xs) ≡ true → (is_in t xs ≡ true → is_in t (xs ++ ys) ≡ true) → (if q then true else is_in t (xs ++ ys)) ≡ true
    by true z ih = refl
    by false z ih = ih z

right_within : (t : ℕ) (xs ys : List ℕ) → is_in t ys ≡ true → is_in t (xs ++ ys) ≡ true
right_within t [] ys e = e
right_within t (x ∷ xs) ys e = by (t == x) (right_within t xs ys e)
  where
    by : (q : Bool) → is_in t (xs ++ ys) ≡ true → (if q then true else is_in t (xs ++ ys)) ≡ true
    by true z = refl
    by false z = z

flat_within : {A : Type 0} (t : ℕ) (f : A → List ℕ) (xs : List A) (i : ℕ) (x : A) → slice_get xs i ≡ Some x → is_in t (f x) ≡ true → is_in t (flat_map f xs) ≡ true
flat_within t f [] i x e h = absurd (cc)
flat_within t f (y ∷ xs) zero x e h = left_within t (f y) (flat_map f xs) (ap (λ z. is_in t (f z)) (some_is e) ∙ h)
flat_within t f (y ∷ xs) (suc i) x e h = right_within t (f y) (flat_map f xs) (flat_within t f xs i x e h)

itself : (t : ℕ) → is_in t (t ∷ []) ≡ true
itself t = let yes : (t == t) ≡ true = grind (arith, nat_tests) in ap (λ q. if q then true else false) yes

pub used_within : (m : Module) (i j t : ℕ) (body : Body) (o : Op) → slice_get m.bodies i ≡ Some body → slice_get body.ops j ≡ Some o → type_used o.code ≡ t ∷ [] → is_in t (types_used m) ≡ true
used_within m i j t body o b at e =
    in_distinct t (bodies_used m.bodies) (flat_within t (λ b. ops_used b.ops) m.bodies i body b (flat_within t (λ o. type_used o.code) body.ops j o at (ap (is_in t) e ∙ itself t)))
