-- The types of groups of locals.
use Rattle.std.proofs.Common.{◌≡◌, ℕ, zero, suc, ◌+◌, ◌<◌, List, [], ◌∷◌, ◌++◌, length, replicate, take, get_or, refl, sym, ap, ◌∙◌, arith, append_assoc, append-nil}
use Rattle.std.proofs.Math.Seq.{take-suc}
use Rattle.std.proofs.lemmas.Grind.{flat_map-append}
use Rattle.wasm_syntax.specs.declared.value.ValType.{ValType}
use Rattle.wasm_syntax.specs.declared.parts.LocalGroup.{LocalGroup}
use Rattle.wasm_syntax.specs.Module.{declared_locals}

-- one more of a type
pub one_more : {A : Type 0} (t : A) (n : ℕ) → replicate n t ++ t ∷ [] ≡ replicate (suc n) t
one_more t zero = refl
one_more t (suc n) = ap (λ ts. t ∷ ts) (one_more t n)

-- one group more
pub one_group : (groups : List LocalGroup) (i : ℕ) (d : LocalGroup) → i < length groups → declared_locals (take (i + 1) groups) ≡ declared_locals (take i groups) ++ replicate (get_or groups i d).count (get_or groups i d).vtype
one_group groups i d lt =
    let one : i + 1 ≡ suc i = omega arith in
    ap (λ n. declared_locals (take n groups)) one ∙ ap declared_locals (take-suc groups i d lt)
    ∙ flat_map-append (λ g. replicate g.count g.vtype) (take i groups) (get_or groups i d ∷ [])
    ∙ ap (λ ts. declared_locals (take i groups) ++ ts) (append-nil (replicate (get_or groups i d).count (get_or groups i d).vtype))

-- a local more of a group
pub push_step : {A : Type 0} (xs ys : List A) (t : A) (n : ℕ) → ys ≡ xs ++ replicate n t → ys ++ t ∷ [] ≡ xs ++ replicate (n + 1) t
push_step xs ys t n e =
    let one : suc n ≡ n + 1 = omega arith in
    ap (λ l. l ++ t ∷ []) e ∙ append_assoc xs (replicate n t) (t ∷ []) ∙ ap (λ l. xs ++ l) (one_more t n) ∙ ap (λ m. xs ++ replicate m t) one

-- a group more
pub group_step : (params xs ys : List ValType) (groups : List LocalGroup) (i : ℕ) (d : LocalGroup) → i < length groups → xs ≡ params ++ declared_locals (take i groups) →
    ys ≡ xs ++ replicate (get_or groups i d).count (get_or groups i d).vtype → ys ≡ params ++ declared_locals (take (i + 1) groups)
group_step params xs ys groups i d lt e f =
    let g : List ValType = replicate (get_or groups i d).count (get_or groups i d).vtype in
    f ∙ ap (λ l. l ++ g) e ∙ append_assoc params (declared_locals (take i groups)) g ∙ ap (λ l. params ++ l) (sym (one_group groups i d lt))
