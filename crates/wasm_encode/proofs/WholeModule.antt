-- The encoding of a module within the limits spells a module with the same code.
use Rattle.std.proofs.Common.{◌≡◌, ℕ, ◌+◌, ◌<◌, ◌≤◌, ◌^◌, true, eqb, eq-eqb, List, [], ◌++◌, length, map, Option, Some, None, refl, sym, ap, subst, inl, inr, ◌∙◌, arith, length-append}
use Rattle.std.specs.List.{AllByRecursion}
use Rattle.std.specs.Option.{IfSome}
use Rattle.std.specs.Str.{IsUtf8}
use Rattle.std.proofs.lemmas.List.{length-map}
use Rattle.wasm_leb.specs.Writing.{unsigned_bytes}
use Rattle.wasm_syntax.specs.declared.parts.Body.{Body}
use Rattle.wasm_syntax.specs.declared.parts.DataSeg.{DataSeg}
use Rattle.wasm_syntax.specs.declared.parts.ElementSeg.{ElementSeg}
use Rattle.wasm_syntax.specs.declared.parts.Export.{Export}
use Rattle.wasm_syntax.specs.declared.parts.Global.{Global}
use Rattle.wasm_syntax.specs.declared.parts.Import.{Import}
use Rattle.wasm_syntax.specs.declared.module.ModuleParts.{ModuleParts}
use Rattle.wasm_syntax.specs.Module.{IsModule, IsExpression}
use Rattle.wasm_syntax.specs.Sizes.{Short, ShortType, ShortElement, ShortData, WithinLimits}
use Rattle.wasm_syntax.specs.SameCode.{body_code, global_code, element_code, segment_code, code_alone}
use Rattle.wasm_bytes.specs.calls.Spelling.{u32}
use Rattle.wasm_format.specs.declared.module.Imported.{Imported}
use Rattle.wasm_format.specs.declared.module.Imported.TheVariants.{Function}
use Rattle.wasm_format.specs.declared.module.SpelledModule.{SpelledModule}
use Rattle.wasm_bytes.specs.Notes.{plain}
use Rattle.wasm_format.specs.Sections.{with_parts, with_plain, with_types, with_imports, with_functions, with_tables, with_memories, with_globals, with_exports, with_start, with_elements, with_bodies, with_segments, no_parts, no_sections}
use Rattle.wasm_format.specs.calls.Grammar.{functype, import_entry, table, limits, global_entry, export_entry, element_entry, code, segment_entry}
use Rattle.wasm_encode.specs.Encoding.{vector_bytes, vector_section, start_section, function_type_bytes, import_bytes, table_bytes, limits_bytes, global_bytes, export_bytes, element_bytes, entry_bytes, segment_bytes, declarations, front_sections, encoding}
use Rattle.wasm_encode.specs.calls.Fits.{Fits32, FitsLimits, FitsExpression, FitsElement, FitsSegment, FitsModule}
use Rattle.wasm_encode.specs.calls.SameModule.{SpellsSame}
use Rattle.wasm_encode.proofs.Spellings.{vector_spelled, wrapped_vector, vector_alike, same_length}
use Rattle.wasm_encode.proofs.SpelledTypes.{functype_spelled, limits_spelled, table_spelled, import_spelled, export_spelled, plain_items, together_plain, together_wrapped}
use Rattle.wasm_encode.proofs.SpelledEntries.{global_spelled, element_spelled, segment_spelled, CanEnter, code_spelled, neither}
use Rattle.wasm_encode.proofs.SpelledSections.{Says, Adds, section_adds, none_adds, then_adds, vector_adds}
use Rattle.wasm_encode.proofs.Sizes.{SmallSections, small_sections, small_entries, small_locals, all_enter, both}
use Rattle.wasm_bytes.proofs.Numbers.{u32_spelled}
use Rattle.wasm_bytes.specs.Tables.{header}

-- ---- what the sections up to an id say

abbrev parts_0 : ModuleParts
parts_0 = record {
  types = [];
  imports = [];
  functions = [];
  tables = [];
  memories = [];
  globals = [];
  exports = [];
  start = None;
  elements = [];
  segments = [];
  bodies = [];
  customs = [];
  plain_bytes = 0;
}

abbrev parts_1 : ModuleParts → ModuleParts
parts_1 m = record parts_0 { types = m.types }

abbrev parts_3 : ModuleParts → ModuleParts
parts_3 m = record (parts_1 m) { functions = m.functions }

abbrev parts_4 : ModuleParts → ModuleParts
parts_4 m = record (parts_3 m) { tables = m.tables }

abbrev parts_5 : ModuleParts → ModuleParts
parts_5 m = record (parts_4 m) { memories = m.memories }

abbrev parts_6 : ModuleParts → ModuleParts
parts_6 m = record (parts_5 m) { globals = map global_code m.globals }

abbrev parts_7 : ModuleParts → ModuleParts
parts_7 m = record (parts_6 m) { exports = m.exports }

abbrev parts_8 : ModuleParts → ModuleParts
parts_8 m = record (parts_7 m) { start = m.start }

abbrev parts_9 : ModuleParts → ModuleParts
parts_9 m = record (parts_8 m) { elements = map element_code m.elements }

abbrev parts_10 : ModuleParts → ModuleParts
parts_10 m = record (parts_9 m) { bodies = map body_code m.bodies }

abbrev parts_11 : ModuleParts → ModuleParts
parts_11 m = record (parts_10 m) { segments = map segment_code m.segments }

abbrev functions_imported : ModuleParts → List Imported
functions_imported m = map Function m.imports

-- a section that is left out
kept : (s : SpelledModule) (k id : ℕ) (imports : List Imported) (before after : ModuleParts) → Says s k imports before → k ≤ id → before ≡ after → Says s id imports after
kept s k id imports before after says le e = record { ids = omega (arith, says.ids); no_float = says.no_float; imported = says.imported; code = says.code ∙ e }

-- a section that is written
changed : (s : SpelledModule) (k id : ℕ) (imports : List Imported) (before after parts : ModuleParts) → Says s k imports before → code_alone parts ≡ after → Says (with_parts s id None parts) id imports after
changed s k id imports before after parts says e = record { ids = omega arith; no_float = neither s.float None says.no_float refl; imported = says.imported; code = e }

-- a section without types of values and without code
plainly : (s : SpelledModule) (k id : ℕ) (imports : List Imported) (before after parts : ModuleParts) → Says s k imports before → code_alone parts ≡ after → Says (with_plain s id parts) id imports after
plainly s k id imports before after parts says e = record { ids = omega arith; no_float = says.no_float; imported = says.imported; code = e }

-- ---- the sections in front of the code

types_add : (m : ModuleParts) (s : SpelledModule) (at : ℕ) → WithinLimits m → SmallSections m → Says s 0 [] parts_0 → Adds s at (vector_section 1 function_type_bytes m.types) 1 [] (parts_1 m)
types_add m s at within small says =
    vector_adds function_type_bytes m.types s 0 1 at [] (parts_1 m) says.ids (omega arith) (omega arith) small.types
    (λ e. kept s 0 1 [] parts_0 (parts_1 m) says (omega arith) (ap (λ (v : List _). let p : ModuleParts = record parts_0 { types = v } in p) (sym e)))
    (λ here_on. (
      with_types s (plain m.types),
      changed s 0 1 [] parts_0 (parts_1 m) (record s.parts { types = m.types }) says (ap (λ (p : ModuleParts). let q : ModuleParts = record p { types = m.types } in q) says.code),
      inl (refl, (plain m.types, refl, plain_items functype m.types here_on (vector_bytes function_type_bytes m.types) (wrapped_vector functype plain function_type_bytes ShortType functype_spelled m.types here_on within.short.types within.short.each_type))),
    ))

-- an import that can be written
abbrev CanImport : Import → Type 0
CanImport i = (Short i.«module» × Short i.name) × ((IsUtf8 i.«module» × IsUtf8 i.name) × Fits32 i.ftype)

all_imports : (m : ModuleParts) → IsModule m → WithinLimits m → FitsModule m → AllByRecursion CanImport m.imports
all_imports m is within fits =
    both (λ (i : Import). Short i.«module» × Short i.name) (λ (i : Import). (IsUtf8 i.«module» × IsUtf8 i.name) × Fits32 i.ftype) m.imports
    (both (λ (i : Import). Short i.«module») (λ (i : Import). Short i.name) m.imports within.short.import_modules within.short.import_names)
    (both (λ (i : Import). IsUtf8 i.«module» × IsUtf8 i.name) (λ (i : Import). Fits32 i.ftype) m.imports
    (both (λ (i : Import). IsUtf8 i.«module») (λ (i : Import). IsUtf8 i.name) m.imports is.import_modules is.import_names) fits.front.declarations.imports)

few_imports : (m : ModuleParts) → WithinLimits m → length m.imports < 2 ^ 32
few_imports m within = omega (arith, within.short.functions)

imports_add : (m : ModuleParts) (s : SpelledModule) (at : ℕ) → IsModule m → WithinLimits m → FitsModule m → SmallSections m → Says s 1 [] (parts_1 m) → Adds s at (vector_section 2 import_bytes m.imports) 2 (functions_imported m) (parts_1 m)
imports_add m s at is within fits small says =
    let wrap = λ (i : Import). plain (Function i) in
    vector_adds import_bytes m.imports s 1 2 at (functions_imported m) (parts_1 m) says.ids (omega arith) (omega arith) small.imports
    (λ e. record { ids = omega (arith, says.ids); no_float = says.no_float; imported = says.imported ∙ ap (map Function) (sym e); code = says.code })
    (λ here_on. (
      with_imports s (plain (functions_imported m)),
      record { ids = omega arith; no_float = neither s.float None says.no_float refl; imported = refl; code = says.code },
      inr (
        refl,
        inl (
          refl,
          (
            plain (functions_imported m),
            refl,
            (
              map wrap m.imports,
              together_wrapped Function m.imports,
              wrapped_vector import_entry wrap import_bytes CanImport (λ i place can. import_spelled i place can.0.0 can.0.1 can.1.0.0 can.1.0.1 can.1.1) m.imports here_on (few_imports m within) (all_imports m is within fits),
            ),
          ),
        ),
      ),
    ))

functions_add : (m : ModuleParts) (s : SpelledModule) (at : ℕ) → WithinLimits m → FitsModule m → SmallSections m → Says s 2 (functions_imported m) (parts_1 m) → Adds s at (vector_section 3 unsigned_bytes m.functions) 3 (functions_imported m) (parts_3 m)
functions_add m s at within fits small says =
    vector_adds unsigned_bytes m.functions s 2 3 at (functions_imported m) (parts_3 m) says.ids (omega arith) (omega arith) small.functions
    (λ e. kept s 2 3 (functions_imported m) (parts_1 m) (parts_3 m) says (omega arith) (ap (λ (v : List ℕ). let p : ModuleParts = record (parts_1 m) { functions = v } in p) (sym e)))
    (λ here_on. (
      with_functions s m.functions,
      plainly s 2 3 (functions_imported m) (parts_1 m) (parts_3 m) (record s.parts { functions = m.functions }) says (ap (λ (p : ModuleParts). let q : ModuleParts = record p { functions = m.functions } in q) says.code),
      inr (refl, inr (refl, inl (refl, (m.functions, refl, vector_spelled u32 unsigned_bytes Fits32 u32_spelled m.functions here_on (omega (arith, within.short.functions)) fits.front.declarations.functions)))),
    ))

tables_add : (m : ModuleParts) (s : SpelledModule) (at : ℕ) → WithinLimits m → FitsModule m → SmallSections m → Says s 3 (functions_imported m) (parts_3 m) → Adds s at (vector_section 4 table_bytes m.tables) 4 (functions_imported m) (parts_4 m)
tables_add m s at within fits small says =
    vector_adds table_bytes m.tables s 3 4 at (functions_imported m) (parts_4 m) says.ids (omega arith) (omega arith) small.tables
    (λ e. kept s 3 4 (functions_imported m) (parts_3 m) (parts_4 m) says (omega arith) (ap (λ (v : List _). let p : ModuleParts = record (parts_3 m) { tables = v } in p) (sym e)))
    (λ here_on. (
      with_tables s m.tables,
      plainly s 3 4 (functions_imported m) (parts_3 m) (parts_4 m) (record s.parts { tables = m.tables }) says (ap (λ (p : ModuleParts). let q : ModuleParts = record p { tables = m.tables } in q) says.code),
      inr (refl, inr (refl, inr (refl, inl (refl, (m.tables, refl, vector_spelled table table_bytes FitsLimits table_spelled m.tables here_on within.short.tables fits.front.declarations.tables))))),
    ))

memories_add : (m : ModuleParts) (s : SpelledModule) (at : ℕ) → WithinLimits m → FitsModule m → SmallSections m → Says s 4 (functions_imported m) (parts_4 m) → Adds s at (vector_section 5 limits_bytes m.memories) 5 (functions_imported m) (parts_5 m)
memories_add m s at within fits small says =
    vector_adds limits_bytes m.memories s 4 5 at (functions_imported m) (parts_5 m) says.ids (omega arith) (omega arith) small.memories
    (λ e. kept s 4 5 (functions_imported m) (parts_4 m) (parts_5 m) says (omega arith) (ap (λ (v : List _). let p : ModuleParts = record (parts_4 m) { memories = v } in p) (sym e)))
    (λ here_on. (
      with_memories s m.memories,
      plainly s 4 5 (functions_imported m) (parts_4 m) (parts_5 m) (record s.parts { memories = m.memories }) says (ap (λ (p : ModuleParts). let q : ModuleParts = record p { memories = m.memories } in q) says.code),
      inr (refl, inr (refl, inr (refl, inr (refl, inl (refl, (m.memories, refl, vector_spelled limits limits_bytes FitsLimits limits_spelled m.memories here_on within.short.memories fits.front.declarations.memories)))))),
    ))

globals_add : (m : ModuleParts) (s : SpelledModule) (at : ℕ) → IsModule m → WithinLimits m → FitsModule m → SmallSections m → Says s 5 (functions_imported m) (parts_5 m) → Adds s at (vector_section 6 global_bytes m.globals) 6 (functions_imported m) (parts_6 m)
globals_add m s at is within fits small says =
    let P = λ (g : Global). IsExpression g.init × FitsExpression g.init in
    let all = both (λ (g : Global). IsExpression g.init) (λ (g : Global). FitsExpression g.init) m.globals is.globals fits.front.globals in
    vector_adds global_bytes m.globals s 5 6 at (functions_imported m) (parts_6 m) says.ids (omega arith) (omega arith) small.globals
    (λ e. kept s 5 6 (functions_imported m) (parts_5 m) (parts_6 m) says (omega arith) (ap (λ (v : List Global). let p : ModuleParts = record (parts_5 m) { globals = map global_code v } in p) (sym e)))
    (λ here_on.
    let v = vector_alike global_entry plain global_code global_code global_bytes P (λ g place h. global_spelled g place h.0 h.1) m.globals here_on within.short.globals all in (
      with_globals s (plain v.0),
      changed s 5 6 (functions_imported m) (parts_5 m) (parts_6 m) (record s.parts { globals = v.0 }) says (global_parts m s v.0 says.code v.1),
      inr (refl, inr (refl, inr (refl, inr (refl, inr (refl, inl (refl, (plain v.0, refl, plain_items global_entry v.0 here_on (vector_bytes global_bytes m.globals) v.2))))))),
    ))
  where
    global_parts : (m : ModuleParts) (s : SpelledModule) (gs : List Global) → code_alone s.parts ≡ parts_5 m → map global_code gs ≡ map global_code m.globals → code_alone (record s.parts { globals = gs }) ≡ parts_6 m
    global_parts m s gs e f = ap (λ (p : ModuleParts). let q : ModuleParts = record p { globals = map global_code gs } in q) e ∙ ap (λ (v : List Global). let q : ModuleParts = record (parts_5 m) { globals = v } in q) f

exports_add : (m : ModuleParts) (s : SpelledModule) (at : ℕ) → IsModule m → WithinLimits m → FitsModule m → SmallSections m → Says s 6 (functions_imported m) (parts_6 m) → Adds s at (vector_section 7 export_bytes m.exports) 7 (functions_imported m) (parts_7 m)
exports_add m s at is within fits small says =
    let P = λ (e : Export). Short e.name × (IsUtf8 e.name × Fits32 e.index) in
    let all = both (λ (e : Export). Short e.name) (λ (e : Export). IsUtf8 e.name × Fits32 e.index) m.exports within.short.export_names (both (λ (e : Export). IsUtf8 e.name) (λ (e : Export). Fits32 e.index) m.exports is.export_names fits.front.exports) in
    vector_adds export_bytes m.exports s 6 7 at (functions_imported m) (parts_7 m) says.ids (omega arith) (omega arith) small.exports
    (λ e. kept s 6 7 (functions_imported m) (parts_6 m) (parts_7 m) says (omega arith) (ap (λ (v : List Export). let p : ModuleParts = record (parts_6 m) { exports = v } in p) (sym e)))
    (λ here_on. (
      with_exports s m.exports,
      plainly s 6 7 (functions_imported m) (parts_6 m) (parts_7 m) (record s.parts { exports = m.exports }) says (ap (λ (p : ModuleParts). let q : ModuleParts = record p { exports = m.exports } in q) says.code),
      inr (refl, inr (refl, inr (refl, inr (refl, inr (refl, inr (refl, inl (refl, (m.exports, refl, vector_spelled export_entry export_bytes P (λ e place h. export_spelled e place h.0 h.1.0 h.1.1) m.exports here_on within.short.exports all)))))))),
    ))

start_adds : (m : ModuleParts) (start : Option ℕ) (s : SpelledModule) (at : ℕ) → IfSome start Fits32 → length (start_section start) < 2 ^ 32 → Says s 7 (functions_imported m) (parts_7 m)
    → Adds s at (start_section start) 8 (functions_imported m) (let p : ModuleParts = record (parts_7 m) { start = start } in p)
start_adds m None s at fits small says = none_adds s at 8 (functions_imported m) (parts_7 m) (kept s 7 8 (functions_imported m) (parts_7 m) (parts_7 m) says (omega arith) refl)
start_adds m (Some f) s at fits small says =
    let inner = unsigned_bytes f in
    let here_on = at + 1 + length (unsigned_bytes (length inner)) in
    let after : ModuleParts = record (parts_7 m) { start = Some f } in
    section_adds s (with_start s f) 7 8 at inner (functions_imported m) after says.ids (omega arith) (omega arith) (omega (arith, small, length-append (unsigned_bytes (length inner)) inner))
    (plainly s 7 8 (functions_imported m) (parts_7 m) after (record s.parts { start = Some f }) says (ap (λ (p : ModuleParts). let q : ModuleParts = record p { start = Some f } in q) says.code))
    (inr (refl, inr (refl, inr (refl, inr (refl, inr (refl, inr (refl, inr (refl, inl (refl, (f, refl, u32_spelled f here_on fits))))))))))

elements_add : (m : ModuleParts) (s : SpelledModule) (at : ℕ) → IsModule m → WithinLimits m → FitsModule m → SmallSections m → Says s 8 (functions_imported m) (parts_8 m) → Adds s at (vector_section 9 element_bytes m.elements) 9 (functions_imported m) (parts_9 m)
elements_add m s at is within fits small says =
    let P = λ (e : ElementSeg). IsExpression e.offset × (FitsElement e × ShortElement e) in
    let all = both (λ (e : ElementSeg). IsExpression e.offset) (λ (e : ElementSeg). FitsElement e × ShortElement e) m.elements is.elements (both FitsElement ShortElement m.elements fits.front.elements within.short.each_element) in
    vector_adds element_bytes m.elements s 8 9 at (functions_imported m) (parts_9 m) says.ids (omega arith) (omega arith) small.elements
    (λ e. kept s 8 9 (functions_imported m) (parts_8 m) (parts_9 m) says (omega arith) (ap (λ (v : List ElementSeg). let p : ModuleParts = record (parts_8 m) { elements = map element_code v } in p) (sym e)))
    (λ here_on.
    let v = vector_alike element_entry plain element_code element_code element_bytes P (λ e place h. element_spelled e place h.0 h.1.0 h.1.1) m.elements here_on within.short.elements all in (
      with_elements s (plain v.0),
      changed s 8 9 (functions_imported m) (parts_8 m) (parts_9 m) (record s.parts { elements = v.0 }) says (element_parts m s v.0 says.code v.1),
      inr (refl, inr (refl, inr (refl, inr (refl, inr (refl, inr (refl, inr (refl, inr (refl, inl (refl, (plain v.0, refl, plain_items element_entry v.0 here_on (vector_bytes element_bytes m.elements) v.2)))))))))),
    ))
  where
    element_parts : (m : ModuleParts) (s : SpelledModule) (es : List ElementSeg) → code_alone s.parts ≡ parts_8 m → map element_code es ≡ map element_code m.elements → code_alone (record s.parts { elements = es }) ≡ parts_9 m
    element_parts m s es e f = ap (λ (p : ModuleParts). let q : ModuleParts = record p { elements = map element_code es } in q) e ∙ ap (λ (v : List ElementSeg). let q : ModuleParts = record (parts_8 m) { elements = v } in q) f

-- ---- the code and the data

all_bodies : (m : ModuleParts) → IsModule m → WithinLimits m → FitsModule m → SmallSections m → AllByRecursion CanEnter m.bodies
all_bodies m is within fits small = all_enter m.bodies is.trees is.write is.in_order fits.bodies within.short.each_body (small_locals m within) (small_entries m.bodies small.bodies)

as_many : (m : ModuleParts) (s : SpelledModule) (bs : List Body) → IsModule m → code_alone s.parts ≡ parts_9 m → map body_code bs ≡ map body_code m.bodies → length (map plain bs) ≡ length s.parts.functions
as_many m s bs is e f = same_length plain body_code body_code bs m.bodies f ∙ is.as_many ∙ sym (ap (λ (p : ModuleParts). length p.functions) e)

bodies_add : (m : ModuleParts) (s : SpelledModule) (at : ℕ) → IsModule m → WithinLimits m → FitsModule m → SmallSections m → Says s 9 (functions_imported m) (parts_9 m) → Adds s at (vector_section 10 entry_bytes m.bodies) 10 (functions_imported m) (parts_10 m)
bodies_add m s at is within fits small says =
    vector_adds entry_bytes m.bodies s 9 10 at (functions_imported m) (parts_10 m) says.ids (omega arith) (omega arith) small.bodies
    (λ e. kept s 9 10 (functions_imported m) (parts_9 m) (parts_10 m) says (omega arith) (ap (λ (v : List Body). let p : ModuleParts = record (parts_9 m) { bodies = map body_code v } in p) (sym e)))
    (λ here_on.
    let v = vector_alike (code here_on) plain body_code body_code entry_bytes CanEnter (λ body place can. code_spelled here_on body place can) m.bodies here_on within.short.bodies (all_bodies m is within fits small) in (
      with_bodies s (plain v.0),
      changed s 9 10 (functions_imported m) (parts_9 m) (parts_10 m) (record s.parts { bodies = v.0 }) says (body_parts m s v.0 says.code v.1),
      inr (refl, inr (refl, inr (refl, inr (refl, inr (refl, inr (refl, inr (refl, inr (refl, inr (refl, inl (refl, (plain v.0, refl, (map plain v.0, together_plain v.0, (as_many m s v.0 is says.code v.1, v.2))))))))))))),
    ))
  where
    body_parts : (m : ModuleParts) (s : SpelledModule) (bs : List Body) → code_alone s.parts ≡ parts_9 m → map body_code bs ≡ map body_code m.bodies → code_alone (record s.parts { bodies = bs }) ≡ parts_10 m
    body_parts m s bs e f = ap (λ (p : ModuleParts). let q : ModuleParts = record p { bodies = map body_code bs } in q) e ∙ ap (λ (v : List Body). let q : ModuleParts = record (parts_9 m) { bodies = v } in q) f

segments_add : (m : ModuleParts) (s : SpelledModule) (at : ℕ) → IsModule m → WithinLimits m → FitsModule m → SmallSections m → Says s 10 (functions_imported m) (parts_10 m) → Adds s at (vector_section 11 segment_bytes m.segments) 11 (functions_imported m) (parts_11 m)
segments_add m s at is within fits small says =
    let P = λ (d : DataSeg). IsExpression d.offset × (FitsSegment d × ShortData d) in
    let all = both (λ (d : DataSeg). IsExpression d.offset) (λ (d : DataSeg). FitsSegment d × ShortData d) m.segments is.segments (both FitsSegment ShortData m.segments fits.segments within.short.each_segment) in
    vector_adds segment_bytes m.segments s 10 11 at (functions_imported m) (parts_11 m) says.ids (omega arith) (omega arith) small.segments
    (λ e. kept s 10 11 (functions_imported m) (parts_10 m) (parts_11 m) says (omega arith) (ap (λ (v : List DataSeg). let p : ModuleParts = record (parts_10 m) { segments = map segment_code v } in p) (sym e)))
    (λ here_on.
    let v = vector_alike segment_entry plain segment_code segment_code segment_bytes P (λ d place h. segment_spelled d place h.0 h.1.0 h.1.1) m.segments here_on within.short.segments all in (
      with_segments s (plain v.0),
      changed s 10 11 (functions_imported m) (parts_10 m) (parts_11 m) (record s.parts { segments = v.0 }) says (segment_parts m s v.0 says.code v.1),
      inr (refl, inr (refl, inr (refl, inr (refl, inr (refl, inr (refl, inr (refl, inr (refl, inr (refl, inr (refl, (plain v.0, refl, plain_items segment_entry v.0 here_on (vector_bytes segment_bytes m.segments) v.2))))))))))),
    ))
  where
    segment_parts : (m : ModuleParts) (s : SpelledModule) (ds : List DataSeg) → code_alone s.parts ≡ parts_10 m → map segment_code ds ≡ map segment_code m.segments → code_alone (record s.parts { segments = ds }) ≡ parts_11 m
    segment_parts m s ds e f = ap (λ (p : ModuleParts). let q : ModuleParts = record p { segments = map segment_code ds } in q) e ∙ ap (λ (v : List DataSeg). let q : ModuleParts = record (parts_10 m) { segments = v } in q) f

-- ---- the whole

declarations_add : (m : ModuleParts) (s : SpelledModule) (at : ℕ) → IsModule m → WithinLimits m → FitsModule m → SmallSections m → Says s 0 [] parts_0 → Adds s at (declarations m) 5 (functions_imported m) (parts_5 m)
unfolding declarations
declarations_add m s at is within fits small says =
    let ims = functions_imported m in
    then_adds s at 1 5 (vector_section 1 function_type_bytes m.types) _ [] ims (parts_1 m) (parts_5 m) (types_add m s at within small says) (λ t said.
    then_adds t _ 2 5 (vector_section 2 import_bytes m.imports) _ ims ims (parts_1 m) (parts_5 m) (imports_add m t _ is within fits small said) (λ u said.
    then_adds u _ 3 5 (vector_section 3 unsigned_bytes m.functions) _ ims ims (parts_3 m) (parts_5 m) (functions_add m u _ within fits small said) (λ v said.
    then_adds v _ 4 5 (vector_section 4 table_bytes m.tables) _ ims ims (parts_4 m) (parts_5 m) (tables_add m v _ within fits small said) (λ w said.
    memories_add m w _ within fits small said))))

front_adds : (m : ModuleParts) (s : SpelledModule) (at : ℕ) → IsModule m → WithinLimits m → FitsModule m → SmallSections m → Says s 0 [] parts_0 → Adds s at (front_sections m) 9 (functions_imported m) (parts_9 m)
unfolding front_sections
front_adds m s at is within fits small says =
    let ims = functions_imported m in
    then_adds s at 5 9 (declarations m) _ ims ims (parts_5 m) (parts_9 m) (declarations_add m s at is within fits small says) (λ t said.
    then_adds t _ 6 9 (vector_section 6 global_bytes m.globals) _ ims ims (parts_6 m) (parts_9 m) (globals_add m t _ is within fits small said) (λ u said.
    then_adds u _ 7 9 (vector_section 7 export_bytes m.exports) _ ims ims (parts_7 m) (parts_9 m) (exports_add m u _ is within fits small said) (λ v said.
    then_adds v _ 8 9 (start_section m.start) _ ims ims (parts_8 m) (parts_9 m) (start_adds m m.start v _ fits.front.start small.start said) (λ w said.
    elements_add m w _ is within fits small said))))

sections_add : (m : ModuleParts) (s : SpelledModule) (at : ℕ) → IsModule m → WithinLimits m → FitsModule m → SmallSections m → Says s 0 [] parts_0
    → Adds s at (front_sections m ++ (vector_section 10 entry_bytes m.bodies ++ vector_section 11 segment_bytes m.segments)) 11 (functions_imported m) (parts_11 m)
sections_add m s at is within fits small says =
    let ims = functions_imported m in
    then_adds s at 9 11 (front_sections m) _ ims ims (parts_9 m) (parts_11 m) (front_adds m s at is within fits small says) (λ t said.
    then_adds t _ 10 11 (vector_section 10 entry_bytes m.bodies) _ ims ims (parts_10 m) (parts_11 m) (bodies_add m t _ is within fits small said) (λ u said.
    segments_add m u _ is within fits small said))

-- as many bodies as functions
bodies_there : (m : ModuleParts) (parts : ModuleParts) → IsModule m → code_alone parts ≡ parts_11 m → eqb (length parts.bodies) (length parts.functions) ≡ true
bodies_there m parts is e =
    let count : length (map body_code parts.bodies) ≡ length (map body_code m.bodies) = ap (λ (p : ModuleParts). length p.bodies) e in
    let functions : length parts.functions ≡ length m.functions = ap (λ (p : ModuleParts). length p.functions) e in
    eq-eqb (length parts.bodies) (length parts.functions) (sym (length-map parts.bodies body_code) ∙ count ∙ length-map m.bodies body_code ∙ is.as_many ∙ sym functions)

pub spells_same : (m : ModuleParts) → IsModule m → WithinLimits m → FitsModule m → length (encoding m) ≤ 134217728 → SpellsSame m (encoding m)
unfolding encoding no_sections no_parts
spells_same m is within fits short =
    let small = small_sections m (omega (arith, short)) in
    let none : Says no_sections 0 [] parts_0 = record { ids = omega arith; no_float = refl; imported = refl; code = refl } in
    let all = sections_add m no_sections 8 is within fits small none in
    let behind = front_sections m ++ (vector_section 10 entry_bytes m.bodies ++ vector_section 11 segment_bytes m.segments) in
    record {
      read = all.after;
      spelled = (bodies_there m all.after.parts is all.says.code, (header, behind, refl, all.spelled, refl));
      no_float = all.says.no_float;
      imports = all.says.imported;
      code = ap (λ (p : ModuleParts). let q : ModuleParts = record p { imports = m.imports } in q) all.says.code;
    }

-- the same of what was written of the parts of a module
pub parts_spell_same : (parts m : ModuleParts) (bytes : List ℕ) → parts ≡ m → IsModule parts → FitsModule parts → bytes ≡ encoding parts → length (encoding m) ≤ 134217728 → WithinLimits m → SpellsSame m bytes
parts_spell_same parts m bytes e is fits written short within =
    subst (λ (b : List ℕ). SpellsSame m b) (sym (written ∙ ap encoding e)) (spells_same m (subst IsModule e is) within (subst FitsModule e fits) short)
