-- The locals that are added to a function.
use Rattle.std.specs.Prelude.{◌≡◌, ℕ, ◌+◌, ◌*◌, ◌<◌, ◌^◌, ◌++◌, List, [], length, Option, Some, None}
use Rattle.wasm_syntax.specs.declared.value.ValType.{ValType}
use Rattle.wasm_syntax.specs.declared.parts.FuncType.{FuncType}
use Rattle.wasm_syntax.specs.declared.parts.Body.{Body}
use Rattle.wasm_syntax.specs.declared.module.ModuleParts.{ModuleParts as Module}
use Rattle.wasm_syntax.specs.Tree.{Tree}
use Rattle.wasm_syntax.specs.Module.{Program, declared_locals}
use Rattle.rewrite_bodies.specs.calls.Slots.{slot, slots_of}
use Rattle.wasm_syntax.specs.Valid.{body_of}

-- the module defines the function
abbrev pub IsDefined : Module → ℕ → Type 0
IsDefined m f = (body : Body) × (body_of m f ≡ Some body)

-- the types of the locals of a function with this body, the parameters first
abbrev pub own_types : Option FuncType → Body → List ValType
own_types None body = []
own_types (Some type) body = type.params ++ declared_locals body.groups

-- the types of the function's own locals, with its parameters, and how many heights have slots
pub record Planned : Type 0 where
  pub locals : List ValType
  pub slots : ℕ

abbrev pub planned : List ValType → ℕ → Planned
planned locals slots = record { locals = locals; slots = slots }

-- all locals have numbers of 32 bits
abbrev pub Fits : Planned → Type 0
Fits plan = length plan.locals + 2 * plan.slots + 5 < 2 ^ 32

-- the plan is that of function f of a program: there are as many heights as the rewriting of its body has
pub record IsPlan (p : Program) (f : ℕ) (body : Body) (tree : Tree) (type : FuncType) (plan : Planned) : Type 0 where
  pub locals : plan.locals ≡ type.params ++ declared_locals body.groups
  pub slots : plan.slots ≡ slots_of p f body tree type

-- an added local: the slot of a type at a height, the result of a type, the kind and the offset of a trap, the length of the memory
pub data AddedLocal : Type 0 where
  Slot : (t : ValType) (height : ℕ) → AddedLocal
  Result : (t : ValType) → AddedLocal
  Kind : AddedLocal
  Offset : AddedLocal
  Length : AddedLocal

abbrev pub IsAdded : Planned → AddedLocal → Type 0
IsAdded plan (Slot t height) = height < plan.slots
IsAdded plan (Result t) = Unit {0}
IsAdded plan Kind = Unit {0}
IsAdded plan Offset = Unit {0}
IsAdded plan Length = Unit {0}

-- its place among all locals of the rewritten function
abbrev pub number : Planned → AddedLocal → ℕ
number plan (Slot t height) = length plan.locals + slot plan.slots t height
number plan (Result t) = length plan.locals + slot plan.slots t plan.slots
number plan Kind = length plan.locals + (plan.slots + 1)
number plan Offset = length plan.locals + (plan.slots + 2)
number plan Length = length plan.locals + (2 * plan.slots + 4)
