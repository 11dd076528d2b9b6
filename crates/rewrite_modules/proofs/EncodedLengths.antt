-- How long the encodings of what a module is made of are.
use Rattle.std.proofs.Common.{◌≡◌, ℕ, suc, ◌+◌, ◌^◌, ◌<◌, ◌≤◌, List, [], ◌∷◌, ◌++◌, length, map, flat_map, Option, Some, None, sym, subst, lit<, arith, length-append, zero, ◌*◌, ◌/◌, Bool, true, false, refl, slice_get, option_map, unwrap_or, nat_lt, if◌then◌else◌, ap, lit≤}
use Rattle.std.specs.List.{AllByRecursion}
use Rattle.std.proofs.lemmas.List.{length-map}
use Rattle.wasm_leb.specs.Writing.{unsigned_bytes}
use Rattle.wasm_syntax.specs.declared.instruction.Instr.{Instr}
use Rattle.wasm_syntax.specs.declared.parts.Export.{Export}
use Rattle.wasm_syntax.specs.declared.parts.Global.{Global}
use Rattle.wasm_syntax.specs.Tree.{Jump, Unreachable, Br, BrIf, BrTable, Return, Call, CallIndirect, Item, Plain, Goes, Opens, OpensLoop, OpensIf, Else, End, item_of}
use Rattle.wasm_format.specs.Encoding.{encoding as instruction_bytes}
use Rattle.wasm_encode.specs.Encoding.{sized_bytes, kind_byte, global_bytes, export_bytes, vector_bytes, group_bytes, function_bytes, entry_bytes, expression_bytes, function_type_bytes, import_bytes, table_bytes, limits_bytes, element_bytes, segment_bytes, encoding}
use Rattle.rewrite_bodies.specs.calls.Length.{jump_length}
use Rattle.rewrite_modules.proofs.CodeLengths.{item_length, item_short, basic_some}
use Rattle.wasm_syntax.specs.declared.parts.LocalGroup.{LocalGroup}
use Rattle.wasm_syntax.specs.declared.parts.Body.{Body}
use Rattle.wasm_format_laws.proofs.Measures.{sized_length}
use Rattle.rewrite_bodies.specs.calls.Slots.{groups}
use Rattle.wasm_format_laws.proofs.Totals.{total, vector_total, section_least}
use Rattle.std.specs.Prelude.{codes}
use Rattle.wasm_syntax.specs.declared.parts.Import.{Import}
use Rattle.wasm_syntax.specs.declared.module.ModuleParts.{ModuleParts as Module}
use Rattle.wasm_format_laws.proofs.Sections.{lengths}
use Rattle.wasm_format_laws.proofs.Entries.{function_import_length}

pub global_some : (g : Global) → 1 ≤ length (global_bytes g)
unfolding global_bytes
global_some g = omega arith

pub export_some : (e : Export) → 1 ≤ length (export_bytes e)
unfolding export_bytes
export_some e = let a = length-append (sized_bytes e.name) (kind_byte e.kind ∷ unsigned_bytes e.index) in omega (arith, a)

pub jump_some : (j : Jump) → 1 ≤ jump_length j
jump_some Unreachable = omega arith
jump_some (Br l) = omega arith
jump_some (BrIf l) = omega arith
jump_some (BrTable ts d) = omega arith
jump_some Return = omega arith
jump_some (Call f) = omega arith
jump_some (CallIndirect t) = omega arith

pub item_some : (x : Item) → 1 ≤ item_length x
item_some (Plain i) = basic_some i
item_some (Goes j) = jump_some j
item_some (Opens t) = omega arith
item_some (OpensLoop t) = omega arith
item_some (OpensIf t) = omega arith
item_some Else = omega arith
item_some End = omega arith

pub instr_some : (T : List ℕ) (i : Instr) → 1 ≤ length (instruction_bytes T i)
instr_some T i = let a = item_short T i in let b = item_some (item_of T i) in omega (arith, a, b)

-- ---- entries

abbrev pub groups_total : List LocalGroup → ℕ
groups_total gs = total (λ g. length (group_bytes g)) gs

pub function_total : (body : Body) → length (function_bytes body) ≡ length (unsigned_bytes (length body.groups)) + groups_total body.groups + length (expression_bytes body)
unfolding function_bytes
function_total body = omega (arith, length-append (vector_bytes group_bytes body.groups) (expression_bytes body), vector_total group_bytes body.groups)

pub entry_total : (body : Body) → length (entry_bytes body) ≡ length (unsigned_bytes (length (function_bytes body))) + (length (unsigned_bytes (length body.groups)) + groups_total body.groups + length (expression_bytes body))
unfolding entry_bytes
entry_total body = omega (arith, sized_length (function_bytes body), function_total body)

-- ---- a whole module

-- the bytes of all entries of all sections
abbrev pub contents : Module → ℕ
contents m =
    total (λ t. length (function_type_bytes t)) m.types + (total (λ i. length (import_bytes i)) m.imports
    + (total (λ n. length (unsigned_bytes n)) m.functions + (total (λ l. length (table_bytes l)) m.tables
    + (total (λ l. length (limits_bytes l)) m.memories + (total (λ g. length (global_bytes g)) m.globals
    + (total (λ e. length (export_bytes e)) m.exports + (total (λ e. length (element_bytes e)) m.elements
    + (total (λ b. length (entry_bytes b)) m.bodies + total (λ s. length (segment_bytes s)) m.segments))))))))

-- the encoding holds the entries
pub contents_least : (m : Module) → 8 + contents m ≤ length (encoding m)
contents_least m =
    let whole = lengths m in
    let a = section_least 1 function_type_bytes m.types in
    let b = section_least 2 import_bytes m.imports in
    let c = section_least 3 unsigned_bytes m.functions in
    let d = section_least 4 table_bytes m.tables in
    let e = section_least 5 limits_bytes m.memories in
    let f = section_least 6 global_bytes m.globals in
    let g = section_least 7 export_bytes m.exports in
    let h = section_least 9 element_bytes m.elements in
    let i = section_least 10 entry_bytes m.bodies in
    let j = section_least 11 segment_bytes m.segments in
    omega (arith, whole, a, b, c, d, e, f, g, h, i, j)

-- ---- imports

pub import_some : (i : Import) → 1 ≤ length (import_bytes i)
import_some i = let a = function_import_length i in omega (arith, a)
