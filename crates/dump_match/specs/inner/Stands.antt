-- Where a frame stands, as the code sees it: at an instruction by its number, with so many operands before it.
use Rattle.std.specs.Prelude.{◌≡◌, ℕ, zero, suc, ◌-◌, Bool, ◌++◌, length, take, reverse, slice_get, Option, Some, None}
use Rattle.wasm_syntax.specs.declared.instruction.Instr.{Instr}
use Rattle.wasm_syntax.specs.declared.instruction.Op.{Op}
use Rattle.wasm_syntax.specs.declared.parts.FuncType.{FuncType}
use Rattle.wasm_syntax.specs.declared.parts.Body.{Body}
use Rattle.wasm_syntax.specs.declared.module.ModuleParts.{ModuleParts as Module}
use Rattle.wasm_syntax.specs.Tree.{Item, item_of}
use Rattle.wasm_syntax.specs.Static.{Spot, LiveAt}
use Rattle.wasm_syntax.specs.Valid.{body_of}
use Rattle.wasm_validate.specs.Heights.{HasOp, TypesAt}
use Rattle.dump_format.specs.declared.dump.Frame.{Frame}
use Rattle.dump_match.specs.declared.stand.Stand.{Stand}
use Rattle.dump_match.specs.Frames.{IsOf, StandsAt, instruction, taken}
use Rattle.dump_match.specs.Values.{can_be}

-- the instruction of this number
abbrev pub CodeIs : Option Instr → Module → ℕ → ℕ → Type 0
CodeIs code m f n = (body : Body) (o : Op) → body_of m f ≡ Some body → slice_get body.ops n ≡ Some o → code ≡ Some o.code

-- The frame stands at this spot, every other one has the same instruction and operands, and the code's view of it is this.
pub record Stands (m : Module) (f : Frame) (x : Stand) : Type 0 where
  pub type : FuncType
  pub body : Body
  pub is_of : IsOf m f type body
  pub spot : Spot
  pub live : LiveAt m type body f.offset spot
  pub only : (s : Spot) → LiveAt m type body f.offset s → (instruction s.nodes ≡ instruction spot.nodes) × (s.here ++ s.outside ≡ spot.here ++ spot.outside)
  pub item : item_of body.targets x.code ≡ instruction spot.nodes
  pub has : HasOp m f.function x.op
  pub types : TypesAt m f.function x.op (reverse (spot.here ++ spot.outside))
  pub height : length (spot.here ++ spot.outside) ≡ x.height

-- where the frame stands, if it stands before a live instruction
abbrev pub StandIs : Option Stand → Module → Frame → Type 0
StandIs None m f = StandsAt m f (λ s. Unit {0}) → ⊥
StandIs (Some x) m f = Stands m f x

-- how many operands the frame of an index shows, of those before this instruction
abbrev pub count_shown : Module → Item → ℕ → ℕ → ℕ
count_shown m item zero height = height
count_shown m item (suc i) height = height - taken m item

-- whether the recorded operands can be the bottom ones, so many, of those before the instruction
abbrev pub OperandsAre : Bool → Module → Frame → Stand → ℕ → Type 0
OperandsAre result m f x count = (st : Stands m f x) → result ≡ can_be (take count (reverse (st.spot.here ++ st.spot.outside))) f.operands
