-- The sizes of a module that are limited, and the limits that each decoded module keeps.
use Rattle.std.specs.Prelude.{ℕ, suc, ◌+◌, ◌-◌, ◌<◌, ◌≤◌, ◌^◌, max, sum, List, [], ◌∷◌, map, length, Option, Some, None}
use Rattle.std.specs.List.{AllByRecursion}
use Rattle.wasm_syntax.specs.declared.instruction.Instr.{Instr}
use Rattle.wasm_syntax.specs.declared.instruction.Instr.TheVariants as instr
use Rattle.wasm_syntax.specs.declared.parts.FuncType.{FuncType}
use Rattle.wasm_syntax.specs.declared.parts.Body.{Body}
use Rattle.wasm_syntax.specs.declared.parts.ElementSeg.{ElementSeg}
use Rattle.wasm_syntax.specs.declared.parts.DataSeg.{DataSeg}
use Rattle.wasm_syntax.specs.declared.quantity.Quantity.TheVariants.{Locals, Nesting, Table, Memory}
use Rattle.wasm_syntax.specs.declared.module.ModuleParts.{ModuleParts as Module}
use Rattle.wasm_syntax.specs.Quantity.{greatest}
use Rattle.wasm_syntax.specs.Module.{type_at}
use Rattle.wasm_syntax.specs.Valid.{AtIndex}

abbrev pub parameter_count : Option FuncType → ℕ
parameter_count None = 0
parameter_count (Some type) = length type.params

-- the locals of a function, with its parameters; a type that is out of range has none
abbrev pub local_count : Option FuncType → Body → ℕ
local_count type body = parameter_count type + sum (map (λ g. g.count) body.groups)

-- how many blocks, loops and ifs are open behind an instruction
abbrev pub depth_behind : ℕ → Instr → ℕ
depth_behind depth (instr.Block t) = suc depth
depth_behind depth (instr.Loop t) = suc depth
depth_behind depth (instr.If t) = suc depth
depth_behind depth instr.End = depth - 1
depth_behind depth _ = depth

-- the most that are open at once
abbrev pub deepest : ℕ → List Instr → ℕ
deepest depth [] = depth
deepest depth (i ∷ is) = max depth (deepest (depth_behind depth i) is)

abbrev pub nesting : Body → ℕ
nesting body = deepest 0 (map (λ o. o.code) body.ops)

abbrev pub Short : {A : Type 0} → List A → Type 0
Short xs = length xs < 2 ^ 32

pub record ShortBody (body : Body) : Type 0 where
  pub groups : Short body.groups
  pub ops : Short body.ops
  pub targets : Short body.targets

pub record ShortType (type : FuncType) : Type 0 where
  pub params : Short type.params
  pub results : Short type.results

pub record ShortElement (e : ElementSeg) : Type 0 where
  pub offset : ShortBody e.offset
  pub functions : Short e.functions

pub record ShortData (s : DataSeg) : Type 0 where
  pub offset : ShortBody s.offset
  pub bytes : Short s.bytes

-- each list has fewer than 2 ^ 32 entries, and so have the imports and the functions together
pub record ShortLists (m : Module) : Type 0 where
  pub types : Short m.types
  pub each_type : AllByRecursion ShortType m.types
  pub functions : length m.imports + length m.functions < 2 ^ 32
  pub import_modules : AllByRecursion (λ i. Short i.«module») m.imports
  pub import_names : AllByRecursion (λ i. Short i.name) m.imports
  pub tables : Short m.tables
  pub memories : Short m.memories
  pub globals : Short m.globals
  pub each_global : AllByRecursion (λ g. ShortBody g.init) m.globals
  pub exports : Short m.exports
  pub export_names : AllByRecursion (λ e. Short e.name) m.exports
  pub elements : Short m.elements
  pub each_element : AllByRecursion ShortElement m.elements
  pub segments : Short m.segments
  pub each_segment : AllByRecursion ShortData m.segments
  pub bodies : Short m.bodies
  pub each_body : AllByRecursion ShortBody m.bodies
  pub customs : Short m.customs
  pub custom_names : AllByRecursion (λ c. Short c.name) m.customs

-- within the limits of the decoder
pub record WithinLimits (m : Module) : Type 0 where
  pub short : ShortLists m
  pub locals : AtIndex m.bodies (λ i body. local_count (type_at m (length m.imports + i)) body ≤ greatest Locals)
  pub nested : AllByRecursion (λ body. nesting body ≤ greatest Nesting) m.bodies
  pub tables : AllByRecursion (λ l. l.min ≤ greatest Table) m.tables
  pub memories : AllByRecursion (λ l. l.min ≤ greatest Memory) m.memories
