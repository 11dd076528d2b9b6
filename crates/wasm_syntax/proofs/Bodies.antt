-- Bodies and functions of a module at an index.
use Rattle.std.proofs.Common.{◌≡◌, ℕ, zero, suc, ◌+◌, ◌-◌, Bool, false, List, [], ◌∷◌, map, length, replicate, slice_get, Some, refl, ap, subst, ◌∙◌, arith, length-append, le-ltb}
use Rattle.std.specs.Prelude.{sum, nat_lt, if◌then◌else◌, None}
use Rattle.std.proofs.lemmas.List.{length-replicate}
use Rattle.std.proofs.lemmas.List.Sums.{sum_by-cons}
use Rattle.pm_text.proofs.Lists.{some_is}
use Rattle.wasm_syntax.specs.declared.value.ValType.{ValType}
use Rattle.wasm_syntax.specs.declared.instruction.Op.{Op}
use Rattle.wasm_syntax.specs.declared.parts.Body.{Body}
use Rattle.wasm_syntax.specs.declared.parts.LocalGroup.{LocalGroup}
use Rattle.wasm_syntax.specs.declared.module.ModuleParts.{ModuleParts as Module}
use Rattle.wasm_syntax.specs.Tree.{Tree, Writes, code_of, placed, item_of}
use Rattle.wasm_syntax.specs.Module.{AllWrite, declared_locals}
use Rattle.wasm_syntax.specs.Valid.{defined_index}

pub tree_there : (bodies : List Body) (trees : List Tree) (i : ℕ) (body : Body) (tree : Tree) → AllWrite bodies trees → slice_get bodies i ≡ Some body → slice_get trees i ≡ Some tree → Writes body.targets body.ops tree
tree_there [] trees i body tree w e f = absurd (cc)
tree_there (b ∷ bodies) [] i body tree w e f = absurd w
tree_there (b ∷ bodies) (t ∷ trees) zero body tree w e f = subst (λ x. Writes x.targets x.ops tree) (some_is e) (subst (Writes b.targets b.ops) (some_is f) w.0)
tree_there (b ∷ bodies) (t ∷ trees) (suc i) body tree w e f = tree_there bodies trees i body tree w.1 e f

pub tree_of : (bodies : List Body) (trees : List Tree) (i : ℕ) (b : Body) → AllWrite bodies trees → slice_get bodies i ≡ Some b → (tree : Tree) × Writes b.targets b.ops tree
tree_of [] trees i b w e = absurd (cc)
tree_of (c ∷ cs) [] i b w e = absurd w
tree_of (c ∷ cs) (t ∷ ts) zero b w e = let q : c ≡ b = some_is e in (t, subst (λ x. Writes x.targets x.ops t) q w.0)
tree_of (c ∷ cs) (t ∷ ts) (suc i) b w e = tree_of cs ts i b w.1 e

pub code_at : (targets : List ℕ) (ops : List Op) (i : ℕ) (op : Op) → slice_get ops i ≡ Some op → slice_get (code_of targets ops) i ≡ Some (placed op.at (item_of targets op.code))
code_at targets [] i op e = absurd (cc)
code_at targets (o ∷ ops) zero op e = ap (λ z. Some (placed z.at (item_of targets z.code))) (some_is e)
code_at targets (o ∷ ops) (suc i) op e = code_at targets ops i op e

-- the index of a defined function is that behind the imports
pub index_of : (m : Module) (i : ℕ) → defined_index m (length m.imports + i) ≡ Some i
index_of m i =
    let defined : nat_lt (length m.imports + i) (length m.imports) ≡ false = le-ltb (length m.imports + i) (length m.imports) (omega arith) in
    let number : length m.imports + i - length m.imports ≡ i = omega arith in
    ap (λ (b : Bool). if b then None else Some (length m.imports + i - length m.imports)) defined ∙ ap Some number

pub declared_length : (groups : List LocalGroup) → length (declared_locals groups) ≡ sum (map (λ g. g.count) groups)
declared_length [] = refl
declared_length (g ∷ gs) =
    let more : sum (g.count ∷ map (λ g. g.count) gs) ≡ g.count + sum (map (λ g. g.count) gs) = sum_by-cons (λ n. n) g.count (map (λ g. g.count) gs) in
    omega (arith, more, declared_length gs, length-append (replicate g.count g.vtype) (declared_locals gs), length-replicate {A = ValType} g.count g.vtype)
