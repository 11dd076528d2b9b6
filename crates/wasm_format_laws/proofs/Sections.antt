-- What a section adds to a module is no longer than its bytes.
use Rattle.std.proofs.Common.{◌≡◌, ℕ, ◌+◌, ◌≤◌, List, [], ◌∷◌, ◌++◌, length, sum_by, refl, subst, inl, inr, arith, length-append}
use Rattle.std.specs.List.{AllByRecursion}
use Rattle.wasm_leb.specs.Writing.{unsigned_bytes}
use Rattle.wasm_syntax.specs.declared.parts.FuncType.{FuncType}
use Rattle.wasm_syntax.specs.declared.parts.Limits.{Limits}
use Rattle.wasm_syntax.specs.declared.parts.Export.{Export}
use Rattle.wasm_syntax.specs.declared.parts.Body.{Body}
use Rattle.wasm_syntax.specs.declared.parts.Global.{Global}
use Rattle.wasm_syntax.specs.declared.parts.ElementSeg.{ElementSeg}
use Rattle.wasm_syntax.specs.declared.parts.DataSeg.{DataSeg}
use Rattle.wasm_syntax.specs.declared.module.ModuleParts.{ModuleParts}
use Rattle.wasm_bytes.specs.calls.Spelling.{vector}
use Rattle.wasm_format.proofs.Shortest.{number_least}
use Rattle.wasm_bytes.specs.declared.noted.Noted.{Noted}
use Rattle.wasm_format.specs.declared.module.Imported.{Imported}
use Rattle.wasm_format.specs.declared.module.SpelledModule.{SpelledModule}
use Rattle.wasm_format.specs.calls.Grammar.{noted_vector, functype, limits, table, import_entry, export_entry, code, global_entry, element_entry, segment_entry, contents}
use Rattle.wasm_format.specs.Sections.{with_types, with_imports, with_functions, with_tables, with_memories, with_globals, with_exports, with_start, with_elements, with_bodies, with_segments}
use Rattle.wasm_decode.specs.Decode.{functions_of, module_of}
use Rattle.wasm_encode.specs.Encoding.{vector_bytes, sized_bytes, vector_section, start_section, function_type_bytes, import_bytes, table_bytes, limits_bytes, global_bytes, export_bytes, element_bytes, entry_bytes, segment_bytes, declarations, front_sections, encoding}
use Rattle.wasm_format_laws.specs.calls.Sized.{OpsSized, ops_length, CodeSized, code_length}
use Rattle.wasm_format_laws.proofs.Measures.{Least, number_rises, sized_length, vector_least, vector_length, noted_least, noted_each}
use Rattle.wasm_format_laws.proofs.Entries.{function_type_least, limits_least, table_least, import_least, imported_length, functions_length, export_least}
use Rattle.wasm_format_laws.proofs.Bodies.{Holds, global_holds, element_holds, segment_holds, code_holds, numbers_least}
use Rattle.wasm_decode.proofs.Sounds.{imports_few}

-- ---- vectors

pub plain_vector : {A : Type 0} (S : A → ℕ → List ℕ → Type 0) (written : A → List ℕ) → Least S (λ x. length (written x)) → Least (vector S) (λ xs. length (vector_bytes written xs))
plain_vector S written h xs at bytes s = omega (arith, vector_length written xs, vector_least S (λ x. length (written x)) h xs at bytes s)

pub noted_written : {A : Type 0} (S : Noted A → ℕ → List ℕ → Type 0) (written : A → List ℕ) → Least S (λ x. length (written x.value)) → Least (noted_vector S) (λ xs. length (vector_bytes written xs.value))
noted_written S written h xs at bytes s = omega (arith, vector_length written xs.value, noted_least S (λ x. length (written x)) h xs at bytes s)

noted_sum : {A : Type 0} (S : Noted A → ℕ → List ℕ → Type 0) (f : A → ℕ) → Least S (λ x. f x.value) → Least (noted_vector S) (λ xs. sum_by f xs.value)
noted_sum S f h xs at bytes s = omega (arith, noted_least S f h xs at bytes s)

imports_least : Least (noted_vector import_entry) (λ xs. length (vector_bytes import_bytes (functions_of xs.value)))
imports_least xs at bytes s =
    omega (arith, vector_length import_bytes (functions_of xs.value), functions_length xs.value, number_rises (length (functions_of xs.value)) (length xs.value) (imports_few xs.value), noted_least import_entry imported_length import_least xs at bytes s)

-- ---- how long sections are written

-- A section whose contents have so many bytes has at most so many.
abbrev Room : ℕ → ℕ
Room n = 1 + (length (unsigned_bytes n) + n)

contents_room : (contents : List ℕ) (n : ℕ) → length contents ≤ n → 1 + length (sized_bytes contents) ≤ Room n
contents_room contents n le = omega (arith, sized_length contents, number_rises (length contents) n le, le)

section_room : {A : Type 0} (id : ℕ) (written : A → List ℕ) (xs : List A) (n : ℕ) → length (vector_bytes written xs) ≤ n → length (vector_section id written xs) ≤ Room n
section_room id written [] n le = omega arith
section_room id written (x ∷ xs) n le = omega (arith, contents_room (vector_bytes written (x ∷ xs)) n le)

-- how long a module is written, section by section
abbrev pub written_length : ModuleParts → ℕ
written_length m =
    8 + (length (vector_section 1 function_type_bytes m.types) + (length (vector_section 2 import_bytes m.imports)
    + (length (vector_section 3 unsigned_bytes m.functions) + (length (vector_section 4 table_bytes m.tables)
    + (length (vector_section 5 limits_bytes m.memories) + (length (vector_section 6 global_bytes m.globals)
    + (length (vector_section 7 export_bytes m.exports) + (length (start_section m.start)
    + (length (vector_section 9 element_bytes m.elements) + (length (vector_section 10 entry_bytes m.bodies)
    + length (vector_section 11 segment_bytes m.segments)))))))))))

front_length : (m : ModuleParts) → length (front_sections m) ≡ length (declarations m) + (length (vector_section 6 global_bytes m.globals) + (length (vector_section 7 export_bytes m.exports) + (length (start_section m.start) + length (vector_section 9 element_bytes m.elements))))
unfolding front_sections
front_length m =
    let nine = vector_section 9 element_bytes m.elements in
    let eight = start_section m.start in
    let seven = vector_section 7 export_bytes m.exports in
    let six = vector_section 6 global_bytes m.globals in
    omega (arith, length-append (declarations m) (six ++ (seven ++ (eight ++ nine))), length-append six (seven ++ (eight ++ nine)), length-append seven (eight ++ nine), length-append eight nine)

declarations_length : (m : ModuleParts) → length (declarations m) ≡ length (vector_section 1 function_type_bytes m.types) + (length (vector_section 2 import_bytes m.imports) + (length (vector_section 3 unsigned_bytes m.functions) + (length (vector_section 4 table_bytes m.tables) + length (vector_section 5 limits_bytes m.memories))))
unfolding declarations
declarations_length m =
    let five = vector_section 5 limits_bytes m.memories in
    let four = vector_section 4 table_bytes m.tables in
    let three = vector_section 3 unsigned_bytes m.functions in
    let two = vector_section 2 import_bytes m.imports in
    let one = vector_section 1 function_type_bytes m.types in
    omega (arith, length-append one (two ++ (three ++ (four ++ five))), length-append two (three ++ (four ++ five)), length-append three (four ++ five), length-append four five)

pub lengths : (m : ModuleParts) → length (encoding m) ≡ written_length m
unfolding encoding
lengths m =
    let bs = vector_section 10 entry_bytes m.bodies in
    let ds = vector_section 11 segment_bytes m.segments in
    omega (arith, declarations_length m, front_length m, length-append (front_sections m) (bs ++ ds), length-append bs ds)

-- ---- what a section adds

-- One state of reading comes behind another one, by contents of so many bytes.
pub record Adds (s t : SpelledModule) (n : ℕ) : Type 0 where
  pub plain : t.parts.plain_bytes ≡ s.parts.plain_bytes
  pub written : length (encoding (module_of t)) ≤ length (encoding (module_of s)) + Room n
  pub each : CodeSized (module_of s) → CodeSized (module_of t)
  pub code : code_length (module_of t) ≤ code_length (module_of s) + n

types_add : (s : SpelledModule) (x : Noted (List FuncType)) (n : ℕ) → length (vector_bytes function_type_bytes x.value) ≤ n → Adds s (with_types s x) n
unfolding module_of
types_add s x n h = record {
  plain = refl;
  written = omega (arith, lengths (module_of s), lengths (module_of (with_types s x)), section_room 1 function_type_bytes x.value n h);
  each = λ e. record { globals = e.globals; elements = e.elements; bodies = e.bodies; segments = e.segments };
  code = omega arith;
}

imports_add : (s : SpelledModule) (x : Noted (List Imported)) (n : ℕ) → length (vector_bytes import_bytes (functions_of x.value)) ≤ n → Adds s (with_imports s x) n
unfolding module_of
imports_add s x n h = record {
  plain = refl;
  written = omega (arith, lengths (module_of s), lengths (module_of (with_imports s x)), section_room 2 import_bytes (functions_of x.value) n h);
  each = λ e. record { globals = e.globals; elements = e.elements; bodies = e.bodies; segments = e.segments };
  code = omega arith;
}

functions_add : (s : SpelledModule) (x : List ℕ) (n : ℕ) → length (vector_bytes unsigned_bytes x) ≤ n → Adds s (with_functions s x) n
unfolding module_of
functions_add s x n h = record {
  plain = refl;
  written = omega (arith, lengths (module_of s), lengths (module_of (with_functions s x)), section_room 3 unsigned_bytes x n h);
  each = λ e. record { globals = e.globals; elements = e.elements; bodies = e.bodies; segments = e.segments };
  code = omega arith;
}

tables_add : (s : SpelledModule) (x : List Limits) (n : ℕ) → length (vector_bytes table_bytes x) ≤ n → Adds s (with_tables s x) n
unfolding module_of
tables_add s x n h = record {
  plain = refl;
  written = omega (arith, lengths (module_of s), lengths (module_of (with_tables s x)), section_room 4 table_bytes x n h);
  each = λ e. record { globals = e.globals; elements = e.elements; bodies = e.bodies; segments = e.segments };
  code = omega arith;
}

memories_add : (s : SpelledModule) (x : List Limits) (n : ℕ) → length (vector_bytes limits_bytes x) ≤ n → Adds s (with_memories s x) n
unfolding module_of
memories_add s x n h = record {
  plain = refl;
  written = omega (arith, lengths (module_of s), lengths (module_of (with_memories s x)), section_room 5 limits_bytes x n h);
  each = λ e. record { globals = e.globals; elements = e.elements; bodies = e.bodies; segments = e.segments };
  code = omega arith;
}

exports_add : (s : SpelledModule) (x : List Export) (n : ℕ) → length (vector_bytes export_bytes x) ≤ n → Adds s (with_exports s x) n
unfolding module_of
exports_add s x n h = record {
  plain = refl;
  written = omega (arith, lengths (module_of s), lengths (module_of (with_exports s x)), section_room 7 export_bytes x n h);
  each = λ e. record { globals = e.globals; elements = e.elements; bodies = e.bodies; segments = e.segments };
  code = omega arith;
}

start_add : (s : SpelledModule) (x n : ℕ) → length (unsigned_bytes x) ≤ n → Adds s (with_start s x) n
unfolding module_of
start_add s x n h = record {
  plain = refl;
  written = omega (arith, lengths (module_of s), lengths (module_of (with_start s x)), contents_room (unsigned_bytes x) n h);
  each = λ e. record { globals = e.globals; elements = e.elements; bodies = e.bodies; segments = e.segments };
  code = omega arith;
}

-- entries that have expressions
record Code {A : Type 0} (entry : A → List ℕ) (body : A → Body) (xs : List A) (n : ℕ) : Type 0 where
  pub written : length (vector_bytes entry xs) ≤ n
  pub total : sum_by (λ x. ops_length (body x)) xs ≤ n
  pub each : AllByRecursion (λ x. OpsSized (body x)) xs

code_of : {A : Type 0} (S : Noted A → ℕ → List ℕ → Type 0) (written : A → List ℕ) (body : A → Body) → Holds S (λ x. body x.value) (λ x. length (written x.value)) → (xs : Noted (List A)) (at : ℕ) (bytes : List ℕ) → noted_vector S xs at bytes → Code written body xs.value (length bytes)
code_of S written body h xs at bytes s = record {
  written = noted_written S written h.written xs at bytes s;
  total = noted_sum S (λ x. ops_length (body x)) h.ops xs at bytes s;
  each = noted_each S (λ x. OpsSized (body x)) h.each xs at bytes s;
}

globals_add : (s : SpelledModule) (x : Noted (List Global)) (n : ℕ) → Code global_bytes (λ g. g.init) x.value n → Adds s (with_globals s x) n
unfolding module_of
globals_add s x n h = record {
  plain = refl;
  written = omega (arith, lengths (module_of s), lengths (module_of (with_globals s x)), section_room 6 global_bytes x.value n h.written);
  each = λ e. record { globals = h.each; elements = e.elements; bodies = e.bodies; segments = e.segments };
  code = omega (arith, h.total);
}

elements_add : (s : SpelledModule) (x : Noted (List ElementSeg)) (n : ℕ) → Code element_bytes (λ e. e.offset) x.value n → Adds s (with_elements s x) n
unfolding module_of
elements_add s x n h = record {
  plain = refl;
  written = omega (arith, lengths (module_of s), lengths (module_of (with_elements s x)), section_room 9 element_bytes x.value n h.written);
  each = λ e. record { globals = e.globals; elements = h.each; bodies = e.bodies; segments = e.segments };
  code = omega (arith, h.total);
}

bodies_add : (s : SpelledModule) (x : Noted (List Body)) (n : ℕ) → Code entry_bytes (λ b. b) x.value n → Adds s (with_bodies s x) n
unfolding module_of
bodies_add s x n h = record {
  plain = refl;
  written = omega (arith, lengths (module_of s), lengths (module_of (with_bodies s x)), section_room 10 entry_bytes x.value n h.written);
  each = λ e. record { globals = e.globals; elements = e.elements; bodies = h.each; segments = e.segments };
  code = omega (arith, h.total);
}

segments_add : (s : SpelledModule) (x : Noted (List DataSeg)) (n : ℕ) → Code segment_bytes (λ d. d.offset) x.value n → Adds s (with_segments s x) n
unfolding module_of
segments_add s x n h = record {
  plain = refl;
  written = omega (arith, lengths (module_of s), lengths (module_of (with_segments s x)), section_room 11 segment_bytes x.value n h.written);
  each = λ e. record { globals = e.globals; elements = e.elements; bodies = e.bodies; segments = h.each };
  code = omega (arith, h.total);
}

-- ---- the contents of a section

pub contents_add : (s : SpelledModule) (id : ℕ) (t : SpelledModule) (at : ℕ) (inner : List ℕ) → contents s id t at inner → Adds s t (length inner)
contents_add s id t at inner c =
    let n = length inner in
    let to = λ (u : SpelledModule) (e : u ≡ t) (h : Adds s u n). subst (λ (v : SpelledModule). Adds s v n) e h in
    elim c [
      | inl p ↦ let i = p.1 in to _ i.1 (types_add s i.0 n (noted_written functype function_type_bytes function_type_least i.0 at inner i.2))
      | inr c ↦ elim c.1 [
        | inl p ↦ let i = p.1 in to _ i.1 (imports_add s i.0 n (imports_least i.0 at inner i.2))
        | inr c ↦ elim c.1 [
          | inl p ↦ let i = p.1 in to _ i.1 (functions_add s i.0 n (numbers_least i.0 at inner i.2))
          | inr c ↦ elim c.1 [
            | inl p ↦ let i = p.1 in to _ i.1 (tables_add s i.0 n (plain_vector table table_bytes table_least i.0 at inner i.2))
            | inr c ↦ elim c.1 [
              | inl p ↦ let i = p.1 in to _ i.1 (memories_add s i.0 n (plain_vector limits limits_bytes limits_least i.0 at inner i.2))
              | inr c ↦ elim c.1 [
                | inl p ↦ let i = p.1 in to _ i.1 (globals_add s i.0 n (code_of global_entry global_bytes (λ g. g.init) global_holds i.0 at inner i.2))
                | inr c ↦ elim c.1 [
                  | inl p ↦ let i = p.1 in to _ i.1 (exports_add s i.0 n (plain_vector export_entry export_bytes export_least i.0 at inner i.2))
                  | inr c ↦ elim c.1 [
                    | inl p ↦ let i = p.1 in to _ i.1 (start_add s i.0 n (number_least i.0 inner i.2))
                    | inr c ↦ elim c.1 [
                      | inl p ↦ let i = p.1 in to _ i.1 (elements_add s i.0 n (code_of element_entry element_bytes (λ e. e.offset) element_holds i.0 at inner i.2))
                      | inr c ↦ elim c.1 [
                        | inl p ↦ let i = p.1 in let b = i.2 in to _ i.1 (bodies_add s i.0 n (code_of (code at) entry_bytes (λ b. b) (code_holds at) i.0 at inner (b.0, b.1, b.2.1)))
                        | inr p ↦ let i = p.1 in to _ i.1 (segments_add s i.0 n (code_of segment_entry segment_bytes (λ d. d.offset) segment_holds i.0 at inner i.2))
                      ]
                    ]
                  ]
                ]
              ]
            ]
          ]
        ]
      ]
    ]
