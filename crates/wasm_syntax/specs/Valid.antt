-- Valid modules (Core 3.4), place by place.
use Rattle.std.specs.Prelude.{◌≡◌, ◌≢◌, ℕ, ◌-◌, ◌<◌, ◌≤◌, ◌^◌, false, List, [], ◌∷◌, ◌++◌, ◌⊎◌, map, length, slice_get, nat_lt, if◌then◌else◌, IfSome, Option, Some, None}
use Rattle.wasm_syntax.specs.declared.value.ValType.{ValType}
use Rattle.wasm_syntax.specs.declared.value.ValType.TheVariants.{I32}
use Rattle.wasm_syntax.specs.declared.instruction.Basic.TheVariants as basics
use Rattle.wasm_syntax.specs.declared.instruction.Instr.{Instr}
use Rattle.wasm_syntax.specs.declared.instruction.Instr.TheVariants as instr
use Rattle.wasm_syntax.specs.declared.parts.ExportKind.{ExportKind}
use Rattle.wasm_syntax.specs.declared.parts.ExportKind.TheVariants as kinds
use Rattle.wasm_syntax.specs.Numbers.{type_of}
use Rattle.wasm_syntax.specs.declared.parts.FuncType.{FuncType}
use Rattle.wasm_syntax.specs.declared.parts.Limits.{Limits}
use Rattle.wasm_syntax.specs.declared.parts.Body.{Body}
use Rattle.wasm_syntax.specs.declared.parts.Import.{Import}
use Rattle.wasm_syntax.specs.declared.parts.Global.{Global}
use Rattle.wasm_syntax.specs.declared.parts.Export.{Export}
use Rattle.wasm_syntax.specs.declared.parts.ElementSeg.{ElementSeg}
use Rattle.wasm_syntax.specs.declared.parts.DataSeg.{DataSeg}
use Rattle.wasm_syntax.specs.Module.{type_at, function_types, option_then}
use Rattle.wasm_syntax.specs.declared.module.ModuleParts.{ModuleParts as Module}
use Rattle.wasm_syntax.specs.declared.place.Place.{Place}
use Rattle.wasm_syntax.specs.declared.place.Place.TheVariants.{TypeAt, ImportAt, Declaration, TableAt, MemoryAt, GlobalAt, ExportAt, Start, ElementAt, DataAt, Function}
use Rattle.wasm_syntax.specs.Tree.{Item, Placed, placed, code_of}
use Rattle.wasm_syntax.specs.Typing.{IsBody, BeginsBody}

-- ---- constant expressions (Core 3.3.7)

-- an instruction is constant and gives this type; globals are those that it may read
abbrev pub ConstTypes : List Global → Instr → ValType → Type 0
ConstTypes globals (instr.Basic (basics.Const v)) t = type_of v ≡ t
ConstTypes globals (instr.Basic (basics.GlobalGet x)) t = (g : Global) × (slice_get globals x ≡ Some g) × (g.mutable ≡ false) × (g.vtype ≡ t)
ConstTypes globals i t = ⊥

abbrev pub ConstBody : List Global → Body → ValType → Type 0
ConstBody globals body t = (i : Instr) × (map (λ o. o.code) body.ops ≡ i ∷ instr.End ∷ []) × ConstTypes globals i t

-- ---- places

abbrev pub FuncTypeFine : FuncType → Type 0
FuncTypeFine type = length type.results ≤ 1

abbrev pub LimitsFine : ℕ → Limits → Type 0
LimitsFine most l = (l.min ≤ most) × IfSome l.max (λ max. (max ≤ most) × (l.min ≤ max))

-- what stands at an index is fine
abbrev pub AtIndex : {A : Type 0} → List A → (ℕ → A → Type 0) → Type 0
AtIndex xs P = (i : ℕ) (x : _) → slice_get xs i ≡ Some x → P i x

abbrev pub index_space : Module → ExportKind → ℕ
index_space m kinds.Function = length (function_types m)
index_space m kinds.Table = length m.tables
index_space m kinds.Memory = length m.memories
index_space m kinds.Global = length m.globals

abbrev pub ImportFine : Module → Import → Type 0
ImportFine m i = i.ftype < length m.types

abbrev pub DeclarationFine : Module → ℕ → Type 0
DeclarationFine m t = t < length m.types

-- at most one table, and one memory (Core 3.4.10)
abbrev pub TableFine : ℕ → Limits → Type 0
TableFine i l = (i ≡ 0) × LimitsFine (2 ^ 32) l

abbrev pub MemoryFine : ℕ → Limits → Type 0
MemoryFine i l = (i ≡ 0) × LimitsFine (2 ^ 16) l

-- a global's first value may read imported globals alone, and there are none
abbrev pub GlobalFine : Global → Type 0
GlobalFine g = ConstBody [] g.init g.vtype

-- no earlier export has the name
abbrev pub ExportFine : Module → ℕ → Export → Type 0
ExportFine m i e = (e.index < index_space m e.kind) × ((j : ℕ) (f : Export) → j < i → slice_get m.exports j ≡ Some f → f.name ≢ e.name)

abbrev pub StartFine : Module → ℕ → Type 0
StartFine m f = type_at m f ≡ Some (record { params = []; results = [] })

abbrev pub ElementFine : Module → ElementSeg → Type 0
ElementFine m e = (e.table < length m.tables) × ConstBody m.globals e.offset I32 × AtIndex e.functions (λ _ f. f < length (function_types m))

abbrev pub DataFine : Module → DataSeg → Type 0
DataFine m s = (s.memory < length m.memories) × ConstBody m.globals s.offset I32

-- function f, which the module defines
abbrev pub BodyFine : Module → ℕ → Body → Type 0
BodyFine m f body = (type : FuncType) × (type_at m f ≡ Some type) × IsBody m type body (code_of body.targets body.ops)

-- what stands at an index has a property
abbrev pub There : {A : Type 0} → List A → ℕ → (A → Type 0) → Type 0
There xs i P = IfSome (slice_get xs i) P

-- the index among the defined functions, where f is one of them
abbrev pub defined_index : Module → ℕ → Option ℕ
defined_index m f = if nat_lt f (length m.imports) then None else Some (f - length m.imports)

-- the body of a function that the module defines
abbrev pub body_of : Module → ℕ → Option Body
body_of m f = option_then (defined_index m f) (slice_get m.bodies)

abbrev pub Fine : Module → Place → Type 0
Fine m (TypeAt i) = There m.types i FuncTypeFine
Fine m (ImportAt i) = There m.imports i (ImportFine m)
Fine m (Declaration f) = IfSome (defined_index m f) (λ i. There m.functions i (DeclarationFine m))
Fine m (TableAt i) = There m.tables i (TableFine i)
Fine m (MemoryAt i) = There m.memories i (MemoryFine i)
Fine m (GlobalAt i) = There m.globals i GlobalFine
Fine m (ExportAt i) = There m.exports i (ExportFine m i)
Fine m Start = IfSome m.start (StartFine m)
Fine m (ElementAt i) = There m.elements i (ElementFine m)
Fine m (DataAt i) = There m.segments i (DataFine m)
Fine m (Function f offset) = IfSome (defined_index m f) (λ i. There m.bodies i (BodyFine m f))

-- valid: each place is fine (Core 3.4.10)
abbrev pub Valid : Module → Type 0
Valid m = (place : Place) → Fine m place

-- ---- the first place that is not

-- the order of the places: by kind, and then by index
abbrev pub kind_number : Place → ℕ
kind_number (TypeAt i) = 0
kind_number (ImportAt i) = 1
kind_number (Declaration f) = 2
kind_number (TableAt i) = 3
kind_number (MemoryAt i) = 4
kind_number (GlobalAt i) = 5
kind_number (ExportAt i) = 6
kind_number Start = 7
kind_number (ElementAt i) = 8
kind_number (DataAt i) = 9
kind_number (Function f offset) = 10

abbrev pub index_number : Place → ℕ
index_number (TypeAt i) = i
index_number (ImportAt i) = i
index_number (Declaration f) = f
index_number (TableAt i) = i
index_number (MemoryAt i) = i
index_number (GlobalAt i) = i
index_number (ExportAt i) = i
index_number Start = 0
index_number (ElementAt i) = i
index_number (DataAt i) = i
index_number (Function f offset) = f

abbrev pub Before : Place → Place → Type 0
Before p q = (kind_number p < kind_number q) ⊎ ((kind_number p ≡ kind_number q) × (index_number p < index_number q))

-- the body up to and with the instruction at this offset is the first beginning that begins no well-typed body
pub record FirstWrong (m : Module) (type : FuncType) (body : Body) (offset : ℕ) : Type 0 where
  pub before : List Placed
  pub code : Item
  pub after : List Placed
  pub splits : code_of body.targets body.ops ≡ before ++ placed offset code ∷ after
  pub begins : BeginsBody m type body before
  pub wrong : BeginsBody m type body (before ++ placed offset code ∷ []) → ⊥

-- in a function, the place says the offset
abbrev pub OffsetIs : Module → Place → Type 0
OffsetIs m (Function f offset) =
    (type : FuncType) × (body : Body) × (type_at m f ≡ Some type) × (body_of m f ≡ Some body) × FirstWrong m type body offset
OffsetIs m place = Unit {0}

pub record FirstInvalid (m : Module) (place : Place) : Type 0 where
  pub not_fine : Fine m place → ⊥
  pub earlier : (other : Place) → Before other place → Fine m other
  pub offset : OffsetIs m place
