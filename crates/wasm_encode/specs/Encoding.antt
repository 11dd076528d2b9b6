-- The shortest encoding of a module (WebAssembly Core 1.0, 5.5): its sections in order, each where it holds something, no
-- custom sections, and each number in its shortest spelling.
use Rattle.std.specs.Prelude.{ℕ, Bool, true, false, List, [], ◌∷◌, ◌++◌, length, flat_map, Option, Some, None}
use Rattle.wasm_leb.specs.Writing.{unsigned_bytes}
use Rattle.wasm_syntax.specs.declared.value.ValType.{ValType}
use Rattle.wasm_syntax.specs.declared.value.ValType.TheVariants.{I32, I64}
use Rattle.wasm_syntax.specs.declared.parts.Body.{Body}
use Rattle.wasm_syntax.specs.declared.parts.DataSeg.{DataSeg}
use Rattle.wasm_syntax.specs.declared.parts.ElementSeg.{ElementSeg}
use Rattle.wasm_syntax.specs.declared.parts.Export.{Export}
use Rattle.wasm_syntax.specs.declared.parts.ExportKind.{ExportKind}
use Rattle.wasm_syntax.specs.declared.parts.ExportKind.TheVariants as kinds
use Rattle.wasm_syntax.specs.declared.parts.FuncType.{FuncType}
use Rattle.wasm_syntax.specs.declared.parts.Global.{Global}
use Rattle.wasm_syntax.specs.declared.parts.Import.{Import}
use Rattle.wasm_syntax.specs.declared.parts.Limits.{Limits}
use Rattle.wasm_syntax.specs.declared.parts.LocalGroup.{LocalGroup}
use Rattle.wasm_syntax.specs.declared.module.ModuleParts.{ModuleParts}
use Rattle.wasm_format.specs.Encoding.{encoding as instruction_bytes}
use Rattle.wasm_bytes.specs.Tables.{header}

-- ---- vectors, sizes and names

-- a vector is a count and its elements (Core 5.1.3)
abbrev pub vector_bytes : {A : Type 0} → (A → List ℕ) → List A → List ℕ
vector_bytes bytes xs = unsigned_bytes (length xs) ++ flat_map bytes xs

-- a length in bytes, and as many bytes: contents behind their size (Core 5.5.2, 5.5.13), a name (5.2.4), a vector of bytes (5.5.14)
abbrev pub sized_bytes : List ℕ → List ℕ
sized_bytes contents = unsigned_bytes (length contents) ++ contents

-- ---- types (Core 5.3)

unfoldable pub type_byte : ValType → ℕ
type_byte I32 = 0x7f
type_byte I64 = 0x7e

unfoldable pub value_type_bytes : ValType → List ℕ
value_type_bytes t = type_byte t ∷ []

unfoldable pub function_type_bytes : FuncType → List ℕ
function_type_bytes t = 0x60 ∷ (vector_bytes value_type_bytes t.params ++ vector_bytes value_type_bytes t.results)

abbrev pub range_bytes : ℕ → Option ℕ → List ℕ
range_bytes min None = 0x00 ∷ unsigned_bytes min
range_bytes min (Some max) = 0x01 ∷ (unsigned_bytes min ++ unsigned_bytes max)

unfoldable pub limits_bytes : Limits → List ℕ
limits_bytes l = range_bytes l.min l.max

unfoldable pub table_bytes : Limits → List ℕ
table_bytes l = 0x70 ∷ limits_bytes l

unfoldable pub mutability_byte : Bool → ℕ
mutability_byte false = 0x00
mutability_byte true = 0x01

-- ---- expressions (Core 5.4.6)

-- the instructions one after the other; the last one is the `end` of the expression
unfoldable pub expression_bytes : Body → List ℕ
expression_bytes body = flat_map (λ o. instruction_bytes body.targets o.code) body.ops

-- ---- the entries of sections

-- a function import (Core 5.5.5)
unfoldable pub import_bytes : Import → List ℕ
import_bytes i = sized_bytes i.«module» ++ (sized_bytes i.name ++ (0x00 ∷ unsigned_bytes i.ftype))

-- Core 5.5.9
unfoldable pub global_bytes : Global → List ℕ
global_bytes g = type_byte g.vtype ∷ (mutability_byte g.mutable ∷ expression_bytes g.init)

unfoldable pub kind_byte : ExportKind → ℕ
kind_byte kinds.Function = 0x00
kind_byte kinds.Table = 0x01
kind_byte kinds.Memory = 0x02
kind_byte kinds.Global = 0x03

-- Core 5.5.10
unfoldable pub export_bytes : Export → List ℕ
export_bytes e = sized_bytes e.name ++ (kind_byte e.kind ∷ unsigned_bytes e.index)

-- Core 5.5.12
unfoldable pub element_bytes : ElementSeg → List ℕ
element_bytes e = unsigned_bytes e.table ++ (expression_bytes e.offset ++ vector_bytes unsigned_bytes e.functions)

unfoldable pub group_bytes : LocalGroup → List ℕ
group_bytes g = unsigned_bytes g.count ++ value_type_bytes g.vtype

-- the locals and the expression of a function
unfoldable pub function_bytes : Body → List ℕ
function_bytes body = vector_bytes group_bytes body.groups ++ expression_bytes body

-- a code entry (Core 5.5.13)
unfoldable pub entry_bytes : Body → List ℕ
entry_bytes body = sized_bytes (function_bytes body)

-- Core 5.5.14
unfoldable pub segment_bytes : DataSeg → List ℕ
segment_bytes s = unsigned_bytes s.memory ++ (expression_bytes s.offset ++ sized_bytes s.bytes)

-- ---- sections (Core 5.5.2) and modules (Core 5.5.15)

abbrev pub section_bytes : ℕ → List ℕ → List ℕ
section_bytes id contents = id ∷ sized_bytes contents

-- a section that is a vector, where that has elements
abbrev pub vector_section : {A : Type 0} → ℕ → (A → List ℕ) → List A → List ℕ
vector_section id bytes [] = []
vector_section id bytes (x ∷ xs) = section_bytes id (vector_bytes bytes (x ∷ xs))

abbrev pub start_section : Option ℕ → List ℕ
start_section None = []
start_section (Some f) = section_bytes 8 (unsigned_bytes f)

-- types, imports, and the types of functions, tables and memories
unfoldable pub declarations : ModuleParts → List ℕ
declarations m =
    vector_section 1 function_type_bytes m.types
    ++ (vector_section 2 import_bytes m.imports
    ++ (vector_section 3 unsigned_bytes m.functions
    ++ (vector_section 4 table_bytes m.tables
    ++ vector_section 5 limits_bytes m.memories)))

-- the sections in front of the code
unfoldable pub front_sections : ModuleParts → List ℕ
front_sections m =
    declarations m
    ++ (vector_section 6 global_bytes m.globals
    ++ (vector_section 7 export_bytes m.exports
    ++ (start_section m.start
    ++ vector_section 9 element_bytes m.elements)))

unfoldable pub encoding : ModuleParts → List ℕ
encoding m = header ++ (front_sections m ++ (vector_section 10 entry_bytes m.bodies ++ vector_section 11 segment_bytes m.segments))
