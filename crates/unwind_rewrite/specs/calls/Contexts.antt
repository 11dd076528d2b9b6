-- The context of a function by its plan.
use Rattle.std.specs.Prelude.{◌≡◌, ℕ, List, []}
use Rattle.wasm_syntax.specs.declared.parts.Body.{Body}
use Rattle.wasm_syntax.specs.declared.module.ModuleParts.{ModuleParts as Module}
use Rattle.wasm_syntax.specs.Tree.{Tree, Writes}
use Rattle.wasm_syntax.specs.Module.{type_at}
use Rattle.rewrite_bodies.specs.calls.Slots.{Landing, Derivation, Ctx}
use Rattle.rewrite_bodies.specs.calls.Facts.{exposed_in}
use Rattle.rewrite_bodies.specs.calls.Landings.{landings_from}
use Rattle.rewrite_bodies.specs.calls.Derived.{count_of, derived_in}
use Rattle.rewrite_code.specs.calls.Contexts.{context}
use Rattle.operand_spill.specs.calls.Plans.{Planned}
use Rattle.unwind_rewrite.specs.calls.Rewritten.{gives_of}

-- its offsets, landings and derivations are those of the function with this body, in each tree that the body writes out
pub record IsContextFor (m : Module) (f : ℕ) (plan : Planned) (b : Body) (C : Ctx) : Type 0 where
  pub exposed : List ℕ
  pub landings : List Landing
  pub derivations : List Derivation
  pub is : C ≡ context m plan.locals plan.slots f (gives_of m f) landings exposed derivations
  pub shown : (t : Tree) → Writes b.targets b.ops t → exposed ≡ exposed_in m.memories t.nodes
  pub own : (t : Tree) → Writes b.targets b.ops t → landings ≡ landings_from (context m plan.locals plan.slots f (gives_of m f) [] exposed []) [] t.nodes []
  pub derived : (t : Tree) → Writes b.targets b.ops t → derivations ≡ derived_in (count_of (type_at m f)) plan.locals exposed t.nodes
