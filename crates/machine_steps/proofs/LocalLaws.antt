-- The zeros in the locals that a body declares.
use Rattle.std.proofs.Common.{◌≡◌, ℕ, zero, suc, ◌+◌, ◌<◌, List, [], ◌∷◌, ◌++◌, length, reverse, take, replicate, get_or, refl, sym, ap, ◌∙◌, append_assoc, add-one}
use Rattle.std.proofs.lemmas.List.{reverse-append, append-nil}
use Rattle.std.proofs.Math.Seq.{take-suc}
use Rattle.wasm_syntax.specs.declared.value.ValType.{ValType}
use Rattle.wasm_syntax.specs.declared.value.Value.{Value}
use Rattle.wasm_syntax.specs.declared.parts.LocalGroup.{LocalGroup}
use Rattle.wasm_syntax.specs.Module.{declared_locals}
use Rattle.wasm_syntax.specs.Machine.{zero_of, zeros}

zeros_append : (a b : List ValType) → zeros (a ++ b) ≡ zeros a ++ zeros b
zeros_append [] b = refl
zeros_append (t ∷ a) b = ap (λ l. zero_of t ∷ l) (zeros_append a b)

zeros_same : (n : ℕ) (t : ValType) → zeros (replicate n t) ≡ replicate n (zero_of t)
zeros_same zero t = refl
zeros_same (suc n) t = ap (λ l. zero_of t ∷ l) (zeros_same n t)

replicate_more : {A : Type 0} (n : ℕ) (x : A) → replicate n x ++ x ∷ [] ≡ x ∷ replicate n x
replicate_more zero x = refl
replicate_more (suc n) x = ap (λ l. x ∷ l) (replicate_more n x)

reverse_same : {A : Type 0} (n : ℕ) (x : A) → reverse (replicate n x) ≡ replicate n x
reverse_same zero x = refl
reverse_same (suc n) x = reverse-append (x ∷ []) (replicate n x) ∙ ap (λ l. l ++ x ∷ []) (reverse_same n x) ∙ replicate_more n x

locals_append : (a b : List LocalGroup) → declared_locals (a ++ b) ≡ declared_locals a ++ declared_locals b
locals_append [] b = refl
locals_append (g ∷ a) b = ap (λ l. replicate g.count g.vtype ++ l) (locals_append a b) ∙ sym (append_assoc (replicate g.count g.vtype) (declared_locals a) (declared_locals b))

-- one group more
pub one_group : (groups : List LocalGroup) (i : ℕ) (d : LocalGroup) (old values more : List Value) → i < length groups → values ≡ reverse (zeros (declared_locals (take i groups))) ++ old →
    more ≡ replicate (get_or groups i d).count (zero_of (get_or groups i d).vtype) ++ values → more ≡ reverse (zeros (declared_locals (take (i + 1) groups))) ++ old
one_group groups i d old values more lt e q =
    let g = get_or groups i d in
    let before = declared_locals (take i groups) in
    let same : List ValType = replicate g.count g.vtype in
    let taken : take (i + 1) groups ≡ take i groups ++ g ∷ [] = ap (λ n. take n groups) (add-one i) ∙ take-suc groups i d lt in
    let all : declared_locals (take (i + 1) groups) ≡ before ++ same = ap declared_locals taken ∙ locals_append (take i groups) (g ∷ []) ∙ ap (λ l. before ++ l) (append-nil same) in
    let turned : reverse (zeros (declared_locals (take (i + 1) groups))) ≡ replicate g.count (zero_of g.vtype) ++ reverse (zeros before) =
    ap (λ l. reverse (zeros l)) all ∙ ap reverse (zeros_append before same) ∙ reverse-append (zeros before) (zeros same) ∙ ap (λ l. reverse l ++ reverse (zeros before)) (zeros_same g.count g.vtype) ∙ ap (λ l. l ++ reverse (zeros before)) (reverse_same g.count (zero_of g.vtype)) in
    q ∙ ap (λ l. replicate g.count (zero_of g.vtype) ++ l) e ∙ sym (append_assoc (replicate g.count (zero_of g.vtype)) (reverse (zeros before)) old) ∙ ap (λ l. l ++ old) (sym turned)
