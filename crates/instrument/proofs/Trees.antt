-- Bodies that are the same but for offsets have trees and orders alike.
use Rattle.std.proofs.Common.{◌≡◌, ℕ, suc, ◌^◌, ◌<◌, List, [], ◌∷◌, length, map, Some, slice_get, refl, sym, ap, subst, arith}
use Rattle.std.specs.List.{AllByRecursion}
use Rattle.wasm_syntax.specs.declared.instruction.Instr.{Instr}
use Rattle.wasm_syntax.specs.declared.parts.Body.{Body}
use Rattle.wasm_syntax.specs.declared.module.ModuleParts.{ModuleParts as Module}
use Rattle.wasm_syntax.specs.Tree.{Tree, Writes}
use Rattle.wasm_syntax.specs.Module.{AllWrite, TakeUp, InOrder}
use Rattle.wasm_syntax.specs.Sizes.{ShortBody}
use Rattle.wasm_syntax.specs.Valid.{Valid}
use Rattle.wasm_syntax.specs.SameCode.{body_code}
use Rattle.rewrite_modules.proofs.SameBodies.{codes_of, alike, fine_same}
use Rattle.unwind_rewrite.specs.calls.Rewritten.{Ascends}

abbrev HasTree : Body → Type 0
HasTree b = (tree : Tree) × Writes b.targets b.ops tree

tree_there : (n : Module) (i : ℕ) (c b : Body) → Valid n → slice_get n.bodies i ≡ Some c → body_code b ≡ body_code c → HasTree b
tree_there n i c b valid at e = let is = (fine_same n i c b valid at e).2 in (is.tree, is.writes)

in_order : (b c : Body) → body_code b ≡ body_code c → ShortBody c → Ascends b → InOrder c → InOrder b
in_order b c e short up order =
    let same = alike b c e in
    record {
      offsets = up (let few : length c.ops < 2 ^ 32 = short.ops in omega (arith, same.count, few));
      targets = subst (λ (is : List Instr). TakeUp 0 is (length b.targets)) (sym same.codes) (subst (λ (n : ℕ). TakeUp 0 (codes_of c.ops) n) (ap length (sym same.targets)) order.targets);
    }

-- ---- lists of them

pub all_trees : (bs cs : List Body) → map body_code bs ≡ map body_code cs → ((i : ℕ) (c b : Body) → slice_get cs i ≡ Some c → body_code b ≡ body_code c → HasTree b) → (trees : List Tree) × AllWrite bs trees
all_trees [] [] e h = ([], tt)
all_trees [] (c ∷ cs) e h = absurd cc
all_trees (b ∷ bs) [] e h = absurd cc
all_trees (b ∷ bs) (c ∷ cs) e h =
    let first : body_code b ≡ body_code c = cc in
    let others : map body_code bs ≡ map body_code cs = cc in
    let one = h 0 c b refl first in
    let rest = all_trees bs cs others (λ i x y at. h (suc i) x y at) in
    (one.0 ∷ rest.0, (one.1, rest.1))

pub valid_trees : (n : Module) (bs : List Body) → Valid n → map body_code bs ≡ map body_code n.bodies → (trees : List Tree) × AllWrite bs trees
valid_trees n bs valid e = all_trees bs n.bodies e (λ i c b at same. tree_there n i c b valid at same)

pub all_in_order : (bs cs : List Body) → map body_code bs ≡ map body_code cs → AllByRecursion ShortBody cs → AllByRecursion Ascends bs → AllByRecursion InOrder cs → AllByRecursion InOrder bs
all_in_order [] cs e short up order = tt
all_in_order (b ∷ bs) [] e short up order = absurd cc
all_in_order (b ∷ bs) (c ∷ cs) e short up order =
    let first : body_code b ≡ body_code c = cc in
    let others : map body_code bs ≡ map body_code cs = cc in
    (in_order b c first short.0 up.0 order.0, all_in_order bs cs others short.1 up.1 order.1)
