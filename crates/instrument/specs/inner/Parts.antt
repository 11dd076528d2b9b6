-- The parts of a rewritten module, as code makes them of a module and of the bodies of its functions.
use Rattle.std.specs.Prelude.{ℕ, ◌+◌, ◌*◌, ◌<◌, List, [], ◌∷◌, ◌++◌, length, map, if◌then◌else◌, true, codes}
use Rattle.std.specs.List.{AllByRecursion}
use Rattle.wasm_syntax.specs.declared.value.ValType.TheVariants.{I32, I64}
use Rattle.wasm_syntax.specs.declared.instruction.Basic.TheVariants.{Const}
use Rattle.wasm_syntax.specs.declared.instruction.Instr.TheVariants as instrs
use Rattle.wasm_syntax.specs.declared.value.Value.{Value}
use Rattle.wasm_syntax.specs.declared.value.Value.TheVariants as values
use Rattle.wasm_syntax.specs.declared.parts.FuncType.{FuncType}
use Rattle.wasm_syntax.specs.declared.parts.Import.{Import}
use Rattle.wasm_syntax.specs.declared.parts.Global.{Global}
use Rattle.wasm_syntax.specs.declared.parts.Export.{Export}
use Rattle.wasm_syntax.specs.declared.parts.ElementSeg.{ElementSeg}
use Rattle.wasm_syntax.specs.declared.parts.Body.{Body}
use Rattle.wasm_syntax.specs.declared.module.ModuleParts.{ModuleParts as Module}
use Rattle.wasm_syntax.specs.Module.{function_types}
use Rattle.wasm_syntax.specs.Run.{table_min, element_at}
use Rattle.rewrite_bodies.specs.Numbering.{doubles, mapped, wrapped, value_type, frame_type}
use Rattle.rewrite_bodies.specs.calls.Pieces.{i32}
use Rattle.rewrite_bodies.specs.calls.Guards.{less_word, helper_type}
use Rattle.rewrite_modules.specs.Collector.{collector_import, memory_export}
use Rattle.rewrite_modules.specs.calls.Instrument.{memory_min, new_exports, new_start, shown_elements, wrapper_type}
use Rattle.rewrite_modules.specs.Interface.{new_tables}
use Rattle.rewrite_modules.specs.Weight.{types_used}

abbrev pub more_types : List FuncType
more_types = value_type I32 ∷ value_type I64 ∷ frame_type ∷ helper_type ∷ []

-- behind so many types
abbrev pub more_imports : ℕ → List Import
more_imports t = collector_import (codes "value_i32") t ∷ collector_import (codes "value_i64") (t + 1) ∷ collector_import (codes "frame") (t + 2) ∷ []

-- the constant expressions of a value, and of a number, at the offsets of their numbers
abbrev pub value_code : Value → Body
value_code v = record {
  groups = [];
  ops = record { at = 0; len = 0; code = instrs.Basic (Const v) } ∷ record { at = 1; len = 0; code = instrs.End } ∷ [];
  targets = [];
  start = 0;
}

abbrev pub number_code : ℕ → Body
number_code n = value_code (i32 n)

-- the flag, and the global that tells the length of the memory, which is this at first
abbrev pub flag : Global
flag = record { vtype = I32; mutable = true; init = number_code 0 }

abbrev pub measured : ℕ → Global
measured n = record { vtype = I64; mutable = true; init = value_code (values.I64 n) }

abbrev pub measure : Module → Global
measure m = measured (less_word (65536 * memory_min m.memories))

-- the functions of an element are functions of the module
abbrev pub ElementThere : Module → ElementSeg → Type 0
ElementThere m e = AllByRecursion (λ f. f < length (function_types m)) e.functions

-- the segments for what the module itself calls, with such expressions, behind those for a host
abbrev pub inner_code : Module → ElementSeg → Body
inner_code m e = if doubles m then number_code (element_at m e + table_min m.tables) else e.offset

abbrev pub written_element : Module → ElementSeg → ElementSeg
written_element m e = record { table = e.table; offset = inner_code m e; functions = map (mapped m) e.functions }

abbrev pub written_elements : Module → List ElementSeg
written_elements m = shown_elements m ++ map (written_element m) m.elements

-- exports with other indices
abbrev pub renumbered : List Export → List ℕ → List Export
renumbered [] is = []
renumbered (e ∷ es) [] = []
renumbered (e ∷ es) (i ∷ is) = record { name = e.name; kind = e.kind; index = i } ∷ renumbered es is

-- all parts, with these bodies
abbrev pub new_parts : Module → List Body → Module
new_parts m bodies = record {
  types = m.types ++ more_types;
  imports = m.imports ++ more_imports (length m.types);
  functions = m.functions ++ (map (wrapper_type m) (wrapped m) ++ map (λ u. length m.types + 3) (types_used m));
  tables = new_tables m;
  memories = m.memories;
  globals = m.globals ++ flag ∷ measure m ∷ [];
  exports = new_exports m 0 m.exports ++ memory_export m.memories;
  start = new_start m m.start;
  elements = written_elements m;
  segments = m.segments;
  bodies = bodies;
  customs = [];
  plain_bytes = 0;
}
