-- When a frame of a dump can be one of a module (Core 4.2.12; tool-conventions Coredump.md): tests 4 to 9.
use Rattle.std.specs.Prelude.{◌≡◌, ℕ, zero, suc, ◌==◌, Bool, true, false, List, ◌++◌, length, drop, reverse, slice_get, Option, Some}
use Rattle.wasm_syntax.specs.declared.value.ValType.{ValType}
use Rattle.wasm_syntax.specs.declared.parts.FuncType.{FuncType}
use Rattle.wasm_syntax.specs.declared.parts.Body.{Body}
use Rattle.wasm_syntax.specs.declared.module.ModuleParts.{ModuleParts as Module}
use Rattle.wasm_syntax.specs.Tree.{Call, CallIndirect, Item, Plain, Goes, Opens, OpensLoop, OpensIf, End, Nodes, stop, basic, jump, block, loop, choose}
use Rattle.wasm_syntax.specs.Module.{type_at, declared_locals, same_functype}
use Rattle.wasm_syntax.specs.Sizes.{parameter_count}
use Rattle.wasm_syntax.specs.Static.{Spot, LiveAt}
use Rattle.wasm_syntax.specs.Valid.{There, body_of}
use Rattle.dump_format.specs.declared.dump.Frame.{Frame}
use Rattle.dump_match.specs.Values.{can_be}

-- ---- instructions

-- the first instruction of the nodes
abbrev pub instruction : Nodes → Item
instruction stop = End
instruction (basic at i rest) = Plain i
instruction (jump at j rest) = Goes j
instruction (block at t body end rest) = Opens t
instruction (loop at t body end rest) = OpensLoop t
instruction (choose at t a else_at b end rest) = OpensIf t

abbrev pub is_call : Item → Bool
is_call (Goes (Call g)) = true
is_call (Goes (CallIndirect t)) = true
is_call i = false

-- how many operands a call takes: its arguments, and the index into the table (Core 4.4.7)
abbrev pub taken : Module → Item → ℕ
taken m (Goes (Call g)) = parameter_count (type_at m g)
taken m (Goes (CallIndirect t)) = suc (parameter_count (slice_get m.types t))
taken m i = 0

abbrev pub same_signature : Option FuncType → Option FuncType → Bool
same_signature (Some a) (Some b) = same_functype a b
same_signature _ _ = false

-- the call can have called the function: it names it, or has its type by structure
abbrev pub can_call : Module → Item → ℕ → Bool
can_call m (Goes (Call g)) callee = g == callee
can_call m (Goes (CallIndirect t)) callee = same_signature (slice_get m.types t) (type_at m callee)
can_call m i callee = false

-- ---- where a frame stands

-- the frame is of a function that the module defines, with this type and this body
pub record IsOf (m : Module) (f : Frame) (type : FuncType) (body : Body) : Type 0 where
  pub type_is : type_at m f.function ≡ Some type
  pub body_is : body_of m f.function ≡ Some body

abbrev pub OfFunction : Module → Frame → (FuncType → Body → Type 0) → Type 0
OfFunction m f P = (type : FuncType) × (body : Body) × IsOf m f type body × P type body

-- a live instruction other than `else` and `end` begins at the frame's offset, and of its spot this holds
abbrev pub StandsAt : Module → Frame → (Spot → Type 0) → Type 0
StandsAt m f P = OfFunction m f (λ type body. (s : Spot) × LiveAt m type body f.offset s × P s)

-- The types of the operands that the frame of an index shows, bottom first. The innermost frame shows all; each other one shows those that
-- the call under way left, and all where it is at no call.
abbrev pub shown : Module → ℕ → Spot → List ValType
shown m zero s = reverse (s.here ++ s.outside)
shown m (suc i) s = reverse (drop (taken m (instruction s.nodes)) (s.here ++ s.outside))

-- a live instruction begins at the frame's offset, and before each that does the frame of an index shows so many operands
abbrev pub OperandCount : Module → ℕ → Frame → ℕ → Type 0
OperandCount m i f n = OfFunction m f (λ type body.
    ((s : Spot) × LiveAt m type body f.offset s) × ((s : Spot) → LiveAt m type body f.offset s → n ≡ length (shown m i s)))

-- ---- the tests

-- (4) a function that the module defines
abbrev pub FunctionFits : Module → Frame → Type 0
FunctionFits m f = OfFunction m f (λ type body. Unit {0})

-- (5) a live instruction begins there
abbrev pub OffsetFits : Module → Frame → Type 0
OffsetFits m f = StandsAt m f (λ s. Unit {0})

-- (6) locals that are recorded have their types
abbrev pub LocalsFit : Module → Frame → Type 0
LocalsFit m f = OfFunction m f (λ type body. can_be (type.params ++ declared_locals body.groups) f.locals ≡ true)

-- (7) operands that are recorded have the types of those that the frame shows
abbrev pub OperandsFit : Module → ℕ → Frame → Type 0
OperandsFit m i f = StandsAt m f (λ s. can_be (shown m i s) f.operands ≡ true)

-- (8) a frame that is not the innermost one is at a call
abbrev pub CallFits : Module → ℕ → Frame → Type 0
CallFits m zero f = Unit {0}
CallFits m (suc i) f = StandsAt m f (λ s. is_call (instruction s.nodes) ≡ true)

-- (9) which can have called the function of the frame before it
abbrev pub CalleeFits : Module → List Frame → ℕ → Frame → Type 0
CalleeFits m frames zero f = Unit {0}
CalleeFits m frames (suc i) f = There frames i (λ inner. StandsAt m f (λ s. can_call m (instruction s.nodes) inner.function ≡ true))
