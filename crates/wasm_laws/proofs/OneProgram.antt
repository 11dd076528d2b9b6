-- A module is that of at most one program.
use Rattle.std.proofs.Common.{◌≡◌, List, [], ◌∷◌, refl, sym, ap, ap₂, subst, ◌∙◌}
use Rattle.wasm_syntax.specs.declared.parts.Body.{Body}
use Rattle.wasm_syntax.specs.declared.module.ModuleParts.{ModuleParts as Module}
use Rattle.wasm_syntax.specs.Tree.{Tree, code_of}
use Rattle.wasm_syntax.specs.Module.{Program, IsProgram, AllWrite}
use Rattle.wasm_laws.proofs.Unique.{one_tree}

pub all_same : (bodies : List Body) (ts us : List Tree) → AllWrite bodies ts → AllWrite bodies us → ts ≡ us
all_same [] [] [] w v = refl
all_same [] (t ∷ ts) us w v = absurd w
all_same [] [] (u ∷ us) w v = absurd v
all_same (body ∷ bodies) [] us w v = absurd w
all_same (body ∷ bodies) (t ∷ ts) [] w v = absurd v
all_same (body ∷ bodies) (t ∷ ts) (u ∷ us) w v = ap₂ (λ a b. a ∷ b) (one_tree (code_of body.targets body.ops) t u w.0 v.0) (all_same bodies ts us w.1 v.1)

pub same_program : (m : Module) (p q : Program) → p.module_ ≡ m → q.module_ ≡ m → IsProgram p → IsProgram q → p ≡ q
same_program m p q ep eq wp wq =
    let trees = all_same m.bodies p.trees q.trees (subst (λ k. AllWrite k.bodies p.trees) ep wp) (subst (λ k. AllWrite k.bodies q.trees) eq wq) in
    ap (λ k. record { module_ = k; trees = p.trees }) (ep ∙ sym eq) ∙ ap (λ ts. record { module_ = q.module_; trees = ts }) trees
