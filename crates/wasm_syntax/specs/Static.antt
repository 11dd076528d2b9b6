-- The operand types in live code. Code is dead behind an unconditional transfer in its sequence, with all blocks in it.
use Rattle.std.specs.Prelude.{◌≡◌, ℕ, List, [], ◌∷◌, ◌++◌, reverse, slice_get, Some, option_to_list, ◌⊎◌}
use Rattle.wasm_syntax.specs.declared.value.ValType.{ValType}
use Rattle.wasm_syntax.specs.declared.value.ValType.TheVariants.{I32}
use Rattle.wasm_syntax.specs.Tree.{Jump, BrIf, Call, CallIndirect, Nodes, stop, basic, jump, block, loop, choose, Tree, Writes}
use Rattle.wasm_syntax.specs.declared.parts.FuncType.{FuncType}
use Rattle.wasm_syntax.specs.declared.parts.Body.{Body}
use Rattle.wasm_syntax.specs.Module.{type_at}
use Rattle.wasm_syntax.specs.declared.module.ModuleParts.{ModuleParts as Module}
use Rattle.wasm_syntax.specs.Typing.{Context, BasicTypes, JumpTypes, within, body_context}
use Rattle.wasm_syntax.specs.Machine.{offset_in}

-- the nodes from a place on, with the operand types of their own label and of those outside, the topmost first
pub record Spot : Type 0 where
  pub nodes : Nodes
  pub here : List ValType
  pub outside : List ValType

abbrev pub spot : Nodes → List ValType → List ValType → Spot
spot nodes here outside = record { nodes = nodes; here = here; outside = outside }

abbrev pub goes_on : Jump → Type 0
goes_on (BrIf n) = Unit {0}
goes_on (Call f) = Unit {0}
goes_on (CallIndirect t) = Unit {0}
goes_on _ = ⊥

-- a spot lies in live code of the nodes
abbrev pub Live : Context → Nodes → List ValType → List ValType → Spot → Type 0
Live c stop here outside s = s ≡ spot stop here outside
Live c (basic at i rest) here outside s =
    (s ≡ spot (basic at i rest) here outside) ⊎ ((after : List ValType) × BasicTypes c i here after × Live c rest after outside s)
Live c (jump at j rest) here outside s =
    (s ≡ spot (jump at j rest) here outside) ⊎ ((after : List ValType) × goes_on j × JumpTypes c j here after × Live c rest after outside s)
Live c (block at t body end rest) here outside s =
    (s ≡ spot (block at t body end rest) here outside)
    ⊎ Live (within c (option_to_list t)) body [] (here ++ outside) s
    ⊎ Live c rest (option_to_list t ++ here) outside s
Live c (loop at t body end rest) here outside s =
    (s ≡ spot (loop at t body end rest) here outside)
    ⊎ Live (within c []) body [] (here ++ outside) s
    ⊎ Live c rest (option_to_list t ++ here) outside s
Live c (choose at t a else_at b end rest) here outside s =
    (s ≡ spot (choose at t a else_at b end rest) here outside)
    ⊎ ((below : List ValType) × (here ≡ I32 ∷ below)
    × (Live (within c (option_to_list t)) a [] (below ++ outside) s
    ⊎ Live (within c (option_to_list t)) b [] (below ++ outside) s
    ⊎ Live c rest (option_to_list t ++ below) outside s))

-- an instruction begins here, other than `else` and `end`
abbrev pub IsNode : Nodes → Type 0
IsNode stop = ⊥
IsNode _ = Unit {0}

-- in the body, the live instruction at offset o stands at this spot
pub record LiveAt (m : Module) (type : FuncType) (body : Body) (o : ℕ) (s : Spot) : Type 0 where
  pub tree : Tree
  pub writes : Writes body.targets body.ops tree
  pub live : Live (body_context m type body) tree.nodes [] [] s
  pub node : IsNode s.nodes
  pub at : offset_in s.nodes 0 ≡ o

-- the operand types before the live instruction at o, bottom first
abbrev pub Static : Module → FuncType → Body → ℕ → List ValType → Type 0
Static m type body o types = (s : Spot) × LiveAt m type body o s × (types ≡ reverse (s.here ++ s.outside))

-- what the call there takes, the topmost first
abbrev pub CallTakes : Module → Nodes → List ValType → Type 0
CallTakes m (jump at (Call g) rest) takes = (type : FuncType) × (type_at m g ≡ Some type) × (takes ≡ reverse type.params)
CallTakes m (jump at (CallIndirect t) rest) takes = (type : FuncType) × (slice_get m.types t ≡ Some type) × (takes ≡ I32 ∷ reverse type.params)
CallTakes m nodes takes = ⊥

-- the same without what the call at o takes
abbrev pub Left : Module → FuncType → Body → ℕ → List ValType → Type 0
Left m type body o types =
    (s : Spot) × LiveAt m type body o s × (takes : List ValType) × CallTakes m s.nodes takes
    × (below : List ValType) × (s.here ≡ takes ++ below) × (types ≡ reverse (below ++ s.outside))
