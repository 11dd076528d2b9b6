-- Modules (Core 2.5).
use Rattle.std.specs.Prelude.{◌≡◌, ℕ, suc, ◌+◌, ◌-◌, ◌≤◌, Bool, true, false, ◌&&◌, List, [], ◌∷◌, ◌++◌, map, length, replicate, flat_map, slice_get, nat_lt, if◌then◌else◌, bytes_eq, find, IsUtf8, Option, Some, None, option_map}
use Rattle.std.specs.List.{AllByRecursion}
use Rattle.wasm_syntax.specs.declared.value.ValType.{ValType}
use Rattle.wasm_syntax.specs.declared.value.Value.{Value}
use Rattle.wasm_syntax.specs.declared.instruction.Basic.TheVariants as basics
use Rattle.wasm_syntax.specs.declared.instruction.Instr.{Instr}
use Rattle.wasm_syntax.specs.declared.instruction.Instr.TheVariants as instr
use Rattle.wasm_syntax.specs.declared.instruction.Jump.TheVariants as jumps
use Rattle.wasm_syntax.specs.declared.instruction.Op.{Op}
use Rattle.wasm_syntax.specs.declared.module.ModuleParts.{ModuleParts as Module}
use Rattle.wasm_syntax.specs.declared.parts.LocalGroup.{LocalGroup}
use Rattle.wasm_syntax.specs.declared.parts.ExportKind.{ExportKind}
use Rattle.wasm_syntax.specs.declared.parts.ExportKind.TheVariants as kinds
use Rattle.wasm_syntax.specs.declared.parts.FuncType.{FuncType}
use Rattle.wasm_syntax.specs.declared.parts.Body.{Body}
use Rattle.wasm_syntax.specs.declared.parts.Import.{Import}
use Rattle.wasm_syntax.specs.Numbers.{same_type}
use Rattle.wasm_syntax.specs.Tree.{Tree, Writes}

-- each body writes out the tree in its place
abbrev pub AllWrite : List Body → List Tree → Type 0
AllWrite [] [] = Unit {0}
AllWrite (body ∷ bodies) (tree ∷ trees) = Writes body.targets body.ops tree × AllWrite bodies trees
AllWrite _ _ = ⊥

-- the instructions stand at ascending offsets, the first one at this offset or behind it
abbrev pub Ascend : ℕ → List Op → Type 0
Ascend least [] = Unit {0}
Ascend least (o ∷ os) = (least ≤ o.at) × Ascend (suc o.at) os

-- the `br_table`s take up a list of n targets in order from this place on, without a gap and without a rest
abbrev pub TakeUp : ℕ → List Instr → ℕ → Type 0
TakeUp at [] n = at ≡ n
TakeUp at (instr.Jump (jumps.BrTable start count default) ∷ is) n = (start ≡ at) × TakeUp (at + count) is n
TakeUp at (i ∷ is) n = TakeUp at is n

pub record InOrder (body : Body) : Type 0 where
  pub offsets : Ascend 0 body.ops
  pub targets : TakeUp 0 (map (λ o. o.code) body.ops) (length body.targets)

-- an expression is a body without locals (Core 2.4.6)
pub record IsExpression (body : Body) : Type 0 where
  pub tree : Tree
  pub writes : Writes body.targets body.ops tree
  pub in_order : InOrder body
  pub no_locals : body.groups ≡ []

-- What the type of a module keeps: each body writes out some tree, and there are as many as functions.
pub record IsModule (m : Module) : Type 0 where
  pub trees : List Tree
  pub write : AllWrite m.bodies trees
  pub in_order : AllByRecursion InOrder m.bodies
  pub as_many : length m.bodies ≡ length m.functions
  pub globals : AllByRecursion (λ g. IsExpression g.init) m.globals
  pub elements : AllByRecursion (λ e. IsExpression e.offset) m.elements
  pub segments : AllByRecursion (λ s. IsExpression s.offset) m.segments
  -- names are UTF-8 (Core 5.2.4)
  pub import_modules : AllByRecursion (λ i. IsUtf8 i.«module») m.imports
  pub import_names : AllByRecursion (λ i. IsUtf8 i.name) m.imports
  pub export_names : AllByRecursion (λ e. IsUtf8 e.name) m.exports
  pub custom_names : AllByRecursion (λ c. IsUtf8 c.name) m.customs

-- a module with the trees of its bodies
pub record Program : Type 0 where
  pub module_ : Module
  pub trees : List Tree

abbrev pub IsProgram : Program → Type 0
IsProgram p = AllWrite p.module_.bodies p.trees

-- ---- the index spaces (Core 2.5.1)

abbrev pub option_then : {A B : Type 0} → Option A → (A → Option B) → Option B
option_then None go = None
option_then (Some x) go = go x

-- the type indices of all functions, the imported ones first
abbrev pub function_types : Module → List ℕ
function_types m = map (λ i. i.ftype) m.imports ++ m.functions

-- the type of a function
abbrev pub type_at : Module → ℕ → Option FuncType
type_at m f = option_then (slice_get (function_types m) f) (λ t. slice_get m.types t)

-- what a function is
pub data Function : Type 0 where
  imported : Import → FuncType → Function
  defined : Body → Tree → FuncType → Function

abbrev pub defined_at : Program → ℕ → Option Function
defined_at p i =
    option_then (slice_get p.module_.functions i) (λ t.
    option_then (slice_get p.module_.types t) (λ type.
    option_then (slice_get p.module_.bodies i) (λ body.
    option_map (λ tree. defined body tree type) (slice_get p.trees i))))

abbrev pub imported_at : Module → ℕ → Option Function
imported_at m f = option_then (slice_get m.imports f) (λ i. option_map (imported i) (slice_get m.types i.ftype))

abbrev pub function_at : Program → ℕ → Option Function
function_at p f =
    let n = length p.module_.imports in
    if nat_lt f n then imported_at p.module_ f else defined_at p (f - n)

-- the types of the locals that a body declares
abbrev pub declared_locals : List LocalGroup → List ValType
declared_locals groups = flat_map (λ g. replicate g.count g.vtype) groups

abbrev pub same_types : List ValType → List ValType → Bool
same_types [] [] = true
same_types [] (u ∷ us) = false
same_types (t ∷ ts) [] = false
same_types (t ∷ ts) (u ∷ us) = same_type t u && same_types ts us

abbrev pub same_functype : FuncType → FuncType → Bool
same_functype a b = same_types a.params b.params && same_types a.results b.results

-- the function that is exported under a name
abbrev pub is_function : ExportKind → Bool
is_function kinds.Function = true
is_function _ = false

abbrev pub function_export : Module → List ℕ → Option ℕ
function_export m name = option_map (λ e. e.index) (find (λ e. is_function e.kind && bytes_eq e.name name) m.exports)

-- ---- constant expressions (Core 3.3.7): one constant, or the value of a global

abbrev pub const_code : List Value → Instr → Option Value
const_code globals (instr.Basic (basics.Const v)) = Some v
const_code globals (instr.Basic (basics.GlobalGet x)) = slice_get globals x
const_code globals i = None

abbrev pub const_value : List Value → List Op → Option Value
const_value globals [] = None
const_value globals (o ∷ os) = const_code globals o.code
