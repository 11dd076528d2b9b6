-- The bytes of the sections of a rewritten module, against those of the module.
use Rattle.std.proofs.Common.{◌≡◌, ℕ, ◌+◌, ◌*◌, ◌<◌, ◌≤◌, Bool, true, false, nat_lt, if◌then◌else◌, List, [], ◌∷◌, ◌++◌, length, map, flat_map, Option, Some, None, option_map, refl, ap, lit≤, arith, length-append, w32, w64}
use Rattle.std.specs.Prelude.{codes}
use Rattle.std.proofs.lemmas.List.{length-map}
use Rattle.wasm_leb.specs.Writing.{unsigned_bytes, signed_groups, signed_bytes}
use Rattle.wasm_syntax.specs.declared.value.ValType.TheVariants.{I32, I64}
use Rattle.wasm_syntax.specs.declared.parts.ExportKind.TheVariants as kinds
use Rattle.wasm_syntax.specs.declared.parts.Import.{Import}
use Rattle.wasm_syntax.specs.declared.parts.Export.{Export}
use Rattle.wasm_syntax.specs.declared.parts.Global.{Global}
use Rattle.wasm_syntax.specs.declared.parts.ElementSeg.{ElementSeg}
use Rattle.wasm_syntax.specs.declared.parts.DataSeg.{DataSeg}
use Rattle.wasm_syntax.specs.declared.value.ValType.{ValType}
use Rattle.wasm_syntax.specs.declared.parts.FuncType.{FuncType}
use Rattle.wasm_syntax.specs.declared.parts.Limits.{Limits}
use Rattle.wasm_syntax.specs.declared.parts.Body.{Body}
use Rattle.wasm_syntax.specs.declared.instruction.Op.{Op}
use Rattle.wasm_syntax.specs.declared.module.ModuleParts.{ModuleParts as Module}
use Rattle.wasm_syntax.specs.declared.value.Value.TheVariants as values
use Rattle.wasm_format.specs.Encoding.{encoding as instruction_bytes}
use Rattle.wasm_encode.specs.Encoding.{vector_bytes, sized_bytes, start_section, type_byte, mutability_byte, value_type_bytes, function_type_bytes, import_bytes, table_bytes, limits_bytes, range_bytes, global_bytes, export_bytes, element_bytes, entry_bytes, segment_bytes, expression_bytes, group_bytes, function_bytes, encoding}
use Rattle.wasm_format_laws.proofs.Measures.{sized_length}
use Rattle.wasm_format_laws.proofs.Sections.{lengths}
use Rattle.rewrite_bodies.specs.Numbering.{import_count, mapped, wraps, shown, element_functions, doubles, value_type, frame_type}
use Rattle.wasm_syntax.specs.Run.{table_min, element_at}
use Rattle.rewrite_bodies.specs.calls.Guards.{less_word, helper_type}
use Rattle.wasm_syntax.specs.SameCode.{op_code, body_code, global_code, element_code, segment_code, code_alone}
use Rattle.rewrite_modules.specs.Collector.{collector_import, memory_export}
use Rattle.rewrite_modules.specs.calls.Instrument.{value_init, number_init, flag_global, memory_min, length_global, shown_element, shown_elements, inner_element, new_index, new_exports}
use Rattle.rewrite_modules.specs.Interface.{doubled, new_tables}
use Rattle.wasm_format_laws.proofs.Numbers.{some_bytes, three_more, single_byte}
use Rattle.wasm_format_laws.proofs.Totals.{total, total-append, vector_total, section_most, section_least}
use Rattle.wasm_format_laws.proofs.Entries.{function_import_length, export_length}
use Rattle.wasm_leb.proofs.Lengths.{ten_bytes, ten_signed}
use Rattle.std.specs.List.{AllByRecursion}
use Rattle.rewrite_modules.proofs.CodeLengths.{expression_total}
use Rattle.rewrite_modules.proofs.EncodedLengths.{contents}
use Rattle.std.specs.Int.{cast_signed}

start_most : (s : Option ℕ) → length (start_section s) ≤ 21
start_most None = omega arith
start_most (Some f) =
    let a = sized_length (unsigned_bytes f) in
    let b = ten_bytes (length (unsigned_bytes f)) in
    let c = ten_bytes f in
    omega (arith, a, b, c)

-- and takes at most 239 bytes more
pub contents_most : (m : Module) → length (encoding m) ≤ 239 + contents m
contents_most m =
    let whole = lengths m in
    let a = section_most 1 function_type_bytes m.types in
    let b = section_most 2 import_bytes m.imports in
    let c = section_most 3 unsigned_bytes m.functions in
    let d = section_most 4 table_bytes m.tables in
    let e = section_most 5 limits_bytes m.memories in
    let f = section_most 6 global_bytes m.globals in
    let g = section_most 7 export_bytes m.exports in
    let h = section_most 9 element_bytes m.elements in
    let i = section_most 10 entry_bytes m.bodies in
    let j = section_most 11 segment_bytes m.segments in
    let s = start_most m.start in
    omega (arith, whole, a, b, c, d, e, f, g, h, i, j, s)

-- ---- types

type_length : (t : FuncType) → length (function_type_bytes t) ≡ 1 + (length (vector_bytes value_type_bytes t.params) + length (vector_bytes value_type_bytes t.results))
unfolding function_type_bytes
type_length t = omega (arith, length-append (vector_bytes value_type_bytes t.params) (vector_bytes value_type_bytes t.results))

-- a short type takes a byte for each parameter and result, and three more
types_few : (n : ℕ) (ts : List ValType) → length ts ≡ n → n < 128 → length (vector_bytes value_type_bytes ts) ≤ 1 + n
unfolding value_type_bytes
types_few n ts e lt =
    let a = vector_total value_type_bytes ts in
    let b = single_byte (length ts) (omega (arith, e, lt)) in
    let c = ones ts in
    omega (arith, a, b, c, e)
  where
    ones : (us : List ValType) → total (λ t. length (value_type_bytes t)) us ≡ length us
    ones [] = refl
    ones (u ∷ us) = omega (arith, ones us)

new_type : (t : FuncType) (n k : ℕ) → length t.params ≡ n → length t.results ≡ k → n < 128 → k < 128 → length (function_type_bytes t) ≤ 3 + n + k
new_type t n k e d lt lt1 =
    let a = type_length t in
    let b = types_few n t.params e lt in
    let c = types_few k t.results d lt1 in
    omega (arith, a, b, c)

pub types_grow : (ts : List FuncType) → total (λ t. length (function_type_bytes t)) (ts ++ value_type I32 ∷ value_type I64 ∷ frame_type ∷ helper_type ∷ []) ≤ 20 + total (λ t. length (function_type_bytes t)) ts
types_grow ts =
    let all = total-append (λ t. length (function_type_bytes t)) ts (value_type I32 ∷ value_type I64 ∷ frame_type ∷ helper_type ∷ []) in
    let a = new_type (value_type I32) 1 0 refl refl (omega arith) (omega arith) in
    let b = new_type (value_type I64) 1 0 refl refl (omega arith) (omega arith) in
    let c = new_type frame_type 4 0 refl refl (omega arith) (omega arith) in
    let d = new_type helper_type 1 1 refl refl (omega arith) (omega arith) in
    omega (arith, all, a, b, c, d)

name_few : (name : List ℕ) (n : ℕ) → length name ≡ n → n < 128 → length (sized_bytes name) ≤ 1 + n
name_few name n e lt =
    let a = sized_length name in
    let b = single_byte (length name) (omega (arith, e, lt)) in
    omega (arith, a, b, e)

new_import : (name : List ℕ) (t : ℕ) → length name ≤ 9 → length (import_bytes (collector_import name t)) ≤ 30
new_import name t few =
    let a = function_import_length (collector_import name t) in
    let b = name_few (codes "coredump") 8 refl (omega arith) in
    let c = name_few name (length name) refl (omega (arith, few)) in
    let d = ten_bytes t in
    omega (arith, a, b, c, d, few)

pub imports_grow : (is : List Import) (t : ℕ) → total (λ i. length (import_bytes i)) (is ++ collector_import (codes "value_i32") t ∷ collector_import (codes "value_i64") (t + 1) ∷ collector_import (codes "frame") (t + 2) ∷ []) ≤ 90 + total (λ i. length (import_bytes i)) is
imports_grow is t =
    let all = total-append (λ i. length (import_bytes i)) is (collector_import (codes "value_i32") t ∷ collector_import (codes "value_i64") (t + 1) ∷ collector_import (codes "frame") (t + 2) ∷ []) in
    let a = new_import (codes "value_i32") t (lit≤ tt) in
    let b = new_import (codes "value_i64") (t + 1) (lit≤ tt) in
    let c = new_import (codes "frame") (t + 2) (lit≤ tt) in
    omega (arith, all, a, b, c)

-- ---- functions

pub functions_grow : {A : Type 0} (fs : List ℕ) (ws : List A) (hs : List ℕ) (go : A → ℕ) (back : ℕ → ℕ) → total (λ n. length (unsigned_bytes n)) (fs ++ (map go ws ++ map back hs)) ≤ total (λ n. length (unsigned_bytes n)) fs + (10 * length ws + 10 * length hs)
functions_grow fs ws hs go back =
    let len = λ (n : ℕ). length (unsigned_bytes n) in
    let a = total-append len fs (map go ws ++ map back hs) in
    let b = total-append len (map go ws) (map back hs) in
    let c = tens (map go ws) in
    let d = tens (map back hs) in
    omega (arith, a, b, c, d, length-map ws go, length-map hs back)
  where
    tens : (ns : List ℕ) → total (λ n. length (unsigned_bytes n)) ns ≤ 10 * length ns
    tens [] = omega arith
    tens (n ∷ ns) = let a = ten_bytes n in let b = tens ns in omega (arith, a, b)

-- ---- globals

flag_length : length (global_bytes flag_global) ≡ 5
unfolding global_bytes expression_bytes instruction_bytes signed_bytes signed_groups type_byte mutability_byte
flag_length = refl

length_length : (m : Module) → length (global_bytes (length_global m)) ≤ 14
unfolding global_bytes instruction_bytes type_byte mutability_byte
length_length m =
    let n = less_word (65536 * memory_min m.memories) in
    let a = ten_signed (cast_signed w64 n) in
    let b = expression_total (value_init (values.I64 n)) in
    omega (arith, a, b)

pub globals_grow : (m : Module) (gs : List Global) → total (λ g. length (global_bytes g)) (gs ++ flag_global ∷ length_global m ∷ []) ≤ 19 + total (λ g. length (global_bytes g)) gs
globals_grow m gs =
    let all = total-append (λ g. length (global_bytes g)) gs (flag_global ∷ length_global m ∷ []) in
    omega (arith, all, flag_length, length_length m)

-- ---- exports

new_exports_grow : (m : Module) (k : ℕ) (es : List Export) → total (λ e. length (export_bytes e)) (new_exports m k es) ≤ 4 * total (λ e. length (export_bytes e)) es
new_exports_grow m k [] = omega arith
new_exports_grow m k (e ∷ es) =
    let index = new_index m k (wraps m e) e.index in
    let new : Export = record { name = e.name; kind = e.kind; index = index } in
    let a = export_length e in
    let b = export_length new in
    let c = ten_bytes index in
    let d = some_bytes e.index in
    let f = sized_length e.name in
    let g = some_bytes (length e.name) in
    let rest = new_exports_grow m (k + length (wraps m e)) es in
    omega (arith, a, b, c, d, f, g, rest)

memory_grows : (ls : List Limits) → total (λ e. length (export_bytes e)) (memory_export ls) ≤ 18
memory_grows [] = omega arith
memory_grows (l ∷ ls) =
    let a = export_length (record { name = codes "coredump.memory"; kind = kinds.Memory; index = 0 }) in
    let b = name_few (codes "coredump.memory") 15 refl (omega arith) in
    let c = single_byte 0 (omega arith) in
    omega (arith, a, b, c)

pub exports_grow : (m : Module) → total (λ e. length (export_bytes e)) (new_exports m 0 m.exports ++ memory_export m.memories) ≤ 18 + 4 * total (λ e. length (export_bytes e)) m.exports
exports_grow m =
    let all = total-append (λ e. length (export_bytes e)) (new_exports m 0 m.exports) (memory_export m.memories) in
    omega (arith, all, new_exports_grow m 0 m.exports, memory_grows m.memories)

-- ---- elements

mapped_more : (m : Module) (f : ℕ) → length (unsigned_bytes (mapped m f)) ≤ 1 + length (unsigned_bytes f)
mapped_more m f = by (nat_lt f (import_count m))
  where
    by : (q : Bool) → length (unsigned_bytes (if q then f else 3 + f)) ≤ 1 + length (unsigned_bytes f)
    by true = omega arith
    by false = three_more (3 + f) f (omega arith)

element_length : (e : ElementSeg) → length (element_bytes e) ≡ length (unsigned_bytes e.table) + (length (expression_bytes e.offset) + (length (unsigned_bytes (length e.functions)) + total (λ f. length (unsigned_bytes f)) e.functions))
unfolding element_bytes
element_length e =
    omega (arith, length-append (unsigned_bytes e.table) (expression_bytes e.offset ++ vector_bytes unsigned_bytes e.functions), length-append (expression_bytes e.offset) (vector_bytes unsigned_bytes e.functions), vector_total unsigned_bytes e.functions)

mapped_total : (m : Module) (fs : List ℕ) → total (λ f. length (unsigned_bytes f)) (map (mapped m) fs) ≤ 2 * total (λ f. length (unsigned_bytes f)) fs
mapped_total m [] = omega arith
mapped_total m (f ∷ fs) = omega (arith, mapped_more m f, some_bytes f, mapped_total m fs)

any_total : (h : ℕ → ℕ) (fs : List ℕ) → total (λ f. length (unsigned_bytes f)) (map h fs) ≤ 10 * length fs
any_total h [] = omega arith
any_total h (f ∷ fs) = omega (arith, ten_bytes (h f), any_total h fs)

-- the constant expression of a number
number_length : (n : ℕ) → length (expression_bytes (number_init n)) ≤ 12
unfolding instruction_bytes
number_length n = let a = ten_signed (cast_signed w32 n) in let b = expression_total (number_init n) in omega (arith, a, b)

-- where the table is not doubled
plain_grow : (m : Module) (es : List ElementSeg) → total (λ e. length (element_bytes e)) (map (λ e. record { table = e.table; offset = e.offset; functions = map (mapped m) e.functions }) es) ≤ 2 * total (λ e. length (element_bytes e)) es
plain_grow m [] = omega arith
plain_grow m (e ∷ es) =
    let new : ElementSeg = record { table = e.table; offset = e.offset; functions = map (mapped m) e.functions } in
    let a = element_length e in
    let b = element_length new in
    let c = mapped_total m e.functions in
    let d = ap (λ n. length (unsigned_bytes n)) (length-map e.functions (mapped m)) in
    omega (arith, a, b, c, d, plain_grow m es)

shown_grow : (m : Module) (es : List ElementSeg) → total (λ e. length (element_bytes e)) (map (shown_element m) es) ≤ total (λ e. length (element_bytes e)) es + 10 * length (flat_map (λ e. e.functions) es)
shown_grow m [] = omega arith
shown_grow m (e ∷ es) =
    let a = element_length e in
    let b = element_length (shown_element m e) in
    let c = any_total (shown m) e.functions in
    let d = ap (λ n. length (unsigned_bytes n)) (length-map e.functions (shown m)) in
    let f = length-append e.functions (flat_map (λ e. e.functions) es) in
    omega (arith, a, b, c, d, f, shown_grow m es)

moved_grow : (m : Module) (es : List ElementSeg) → AllByRecursion (λ e. 1 ≤ length (expression_bytes e.offset)) es → total (λ e. length (element_bytes e)) (map (λ e. record { table = e.table; offset = number_init (element_at m e + table_min m.tables); functions = map (mapped m) e.functions }) es) ≤ 5 * total (λ e. length (element_bytes e)) es
moved_grow m [] some = omega arith
moved_grow m (e ∷ es) some =
    let new : ElementSeg = record { table = e.table; offset = number_init (element_at m e + table_min m.tables); functions = map (mapped m) e.functions } in
    let a = element_length e in
    let b = element_length new in
    let c = mapped_total m e.functions in
    let d = ap (λ n. length (unsigned_bytes n)) (length-map e.functions (mapped m)) in
    let f = number_length (element_at m e + table_min m.tables) in
    let g = some_bytes e.table in
    let h = some_bytes (length e.functions) in
    omega (arith, a, b, c, d, f, g, h, some.0, moved_grow m es some.1)

abbrev pub added_elements : Bool → Module → ℕ
added_elements false m = 0
added_elements true m = 10 * length (element_functions m)

-- the segments of the new module, with ten bytes for each place where it is doubled
pub elements_grow : (m : Module) → AllByRecursion (λ e. 1 ≤ length (expression_bytes e.offset)) m.elements → total (λ e. length (element_bytes e)) (shown_elements m ++ map (inner_element m) m.elements) ≤ 6 * total (λ e. length (element_bytes e)) m.elements + added_elements (doubles m) m
elements_grow m some = by (doubles m)
  where
    by : (q : Bool) → total (λ e. length (element_bytes e)) ((if q then map (shown_element m) m.elements else []) ++ map (λ e. record { table = e.table; offset = if q then number_init (element_at m e + table_min m.tables) else e.offset; functions = map (mapped m) e.functions }) m.elements) ≤ 6 * total (λ e. length (element_bytes e)) m.elements + added_elements q m
    by false = let a = plain_grow m m.elements in omega (arith, a)
    by true =
        let a = shown_grow m m.elements in
        let b = moved_grow m m.elements some in
        let c = total-append (λ e. length (element_bytes e)) (map (shown_element m) m.elements) (map (λ e. record { table = e.table; offset = number_init (element_at m e + table_min m.tables); functions = map (mapped m) e.functions }) m.elements) in
        omega (arith, a, b, c)

-- ---- tables

range_grows : (n : ℕ) (o : Option ℕ) → 1 + length (range_bytes (2 * n) (option_map (λ k. 2 * k) o)) ≤ 6 * (1 + length (range_bytes n o))
range_grows n None = omega (arith, ten_bytes (2 * n), some_bytes n)
range_grows n (Some k) =
    let a = length-append (unsigned_bytes n) (unsigned_bytes k) in
    let b = length-append (unsigned_bytes (2 * n)) (unsigned_bytes (2 * k)) in
    omega (arith, a, b, ten_bytes (2 * n), ten_bytes (2 * k), some_bytes n, some_bytes k)

one_grows : (l : Limits) → length (table_bytes (doubled l)) ≤ 6 * length (table_bytes l)
unfolding table_bytes limits_bytes
one_grows l = let a = range_grows l.min l.max in omega (arith, a)

doubled_grow : (ls : List Limits) → total (λ l. length (table_bytes l)) (map doubled ls) ≤ 6 * total (λ l. length (table_bytes l)) ls
doubled_grow [] = omega arith
doubled_grow (l ∷ ls) = let a = one_grows l in omega (arith, a, doubled_grow ls)

pub tables_grow : (m : Module) → total (λ l. length (table_bytes l)) (new_tables m) ≤ 6 * total (λ l. length (table_bytes l)) m.tables
tables_grow m = by (doubles m)
  where
    by : (q : Bool) → total (λ l. length (table_bytes l)) (if q then map doubled m.tables else m.tables) ≤ 6 * total (λ l. length (table_bytes l)) m.tables
    by false = omega arith
    by true = doubled_grow m.tables

-- ---- offsets and lengths of instructions are not written

codes_bare : (targets : List ℕ) (ops : List Op) → flat_map (λ o. instruction_bytes targets o.code) (map op_code ops) ≡ flat_map (λ o. instruction_bytes targets o.code) ops
codes_bare targets [] = refl
codes_bare targets (o ∷ os) = ap (λ z. instruction_bytes targets o.code ++ z) (codes_bare targets os)

expression_bare : (b : Body) → expression_bytes (body_code b) ≡ expression_bytes b
unfolding expression_bytes
expression_bare b = codes_bare b.targets b.ops

same_total : {A : Type 0} (f : A → ℕ) (go : A → A) (xs : List A) → ((x : A) → f (go x) ≡ f x) → total f (map go xs) ≡ total f xs
same_total f go [] h = refl
same_total f go (x ∷ xs) h = omega (arith, h x, same_total f go xs h)

global_bare : (g : Global) → length (global_bytes (global_code g)) ≡ length (global_bytes g)
unfolding global_bytes
global_bare g = let e = ap length (expression_bare g.init) in omega (arith, e)

element_bare : (e : ElementSeg) → length (element_bytes (element_code e)) ≡ length (element_bytes e)
element_bare e = let a = ap length (expression_bare e.offset) in omega (arith, a, element_length e, element_length (element_code e))

segment_bare : (s : DataSeg) → length (segment_bytes (segment_code s)) ≡ length (segment_bytes s)
unfolding segment_bytes
segment_bare s =
    let a = ap length (expression_bare s.offset) in
    let b = length-append (unsigned_bytes s.memory) (expression_bytes s.offset ++ sized_bytes s.bytes) in
    let c = length-append (expression_bytes s.offset) (sized_bytes s.bytes) in
    let d = length-append (unsigned_bytes s.memory) (expression_bytes (body_code s.offset) ++ sized_bytes s.bytes) in
    let e = length-append (expression_bytes (body_code s.offset)) (sized_bytes s.bytes) in
    omega (arith, a, b, c, d, e)

pub entry_bare : (b : Body) → entry_bytes (body_code b) ≡ entry_bytes b
unfolding entry_bytes function_bytes
entry_bare b = ap (λ z. sized_bytes (vector_bytes group_bytes b.groups ++ z)) (expression_bare b)

pub contents_bare : (m : Module) → contents (code_alone m) ≡ contents m
contents_bare m =
    let a = same_total (λ g. length (global_bytes g)) global_code m.globals global_bare in
    let b = same_total (λ e. length (element_bytes e)) element_code m.elements element_bare in
    let c = same_total (λ b. length (entry_bytes b)) body_code m.bodies (λ b. ap length (entry_bare b)) in
    let d = same_total (λ s. length (segment_bytes s)) segment_code m.segments segment_bare in
    omega (arith, a, b, c, d)
