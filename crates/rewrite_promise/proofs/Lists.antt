-- The lists of a rewritten module are short, so that it is within the limits of the decoder.
use Rattle.std.proofs.Common.{◌≡◌, ℕ, suc, ◌+◌, ◌^◌, ◌<◌, ◌≤◌, List, [], ◌∷◌, ◌++◌, length, map, flat_map, Option, Some, None, sym, subst, lit<, arith, length-append, Bool, if◌then◌else◌, true, false}
use Rattle.std.specs.List.{AllByRecursion}
use Rattle.std.proofs.lemmas.List.{length-map}
use Rattle.wasm_leb.specs.Writing.{unsigned_bytes}
use Rattle.wasm_syntax.specs.declared.instruction.Instr.{Instr}
use Rattle.wasm_syntax.specs.declared.parts.FuncType.{FuncType}
use Rattle.wasm_syntax.specs.declared.parts.Export.{Export}
use Rattle.wasm_syntax.specs.declared.parts.Global.{Global}
use Rattle.wasm_syntax.specs.declared.parts.Limits.{Limits}
use Rattle.wasm_syntax.specs.declared.parts.ElementSeg.{ElementSeg}
use Rattle.wasm_syntax.specs.declared.parts.DataSeg.{DataSeg}
use Rattle.wasm_syntax.specs.declared.parts.LocalGroup.{LocalGroup}
use Rattle.wasm_syntax.specs.declared.parts.Body.{Body}
use Rattle.wasm_syntax.specs.declared.module.ModuleParts.{ModuleParts as Module}
use Rattle.wasm_syntax.specs.Tree.{Jump, Unreachable, Br, BrIf, BrTable, Return, Call, CallIndirect, Nodes, stop, basic, jump, block, loop, choose, Item, Plain, Goes, Opens, OpensLoop, OpensIf, Else, End, item_of}
use Rattle.wasm_syntax.specs.Module.{Program, Function, imported, defined, function_at}
use Rattle.wasm_syntax.specs.Sizes.{Short, ShortBody, ShortType, ShortElement, ShortData, ShortLists, WithinLimits}
use Rattle.wasm_format.specs.Encoding.{encoding as instruction_bytes, labels_bytes}
use Rattle.wasm_encode.specs.Encoding.{vector_bytes, sized_bytes, group_bytes, function_type_bytes, import_bytes, kind_byte, global_bytes, export_bytes, element_bytes, expression_bytes, entry_bytes}
use Rattle.wasm_format_laws.specs.calls.Sized.{Sized}
use Rattle.wasm_syntax.specs.Run.{table_min, element_at}
use Rattle.rewrite_bodies.specs.Numbering.{import_count, mapped, shown, wraps, wrapped, doubles, helped}
use Rattle.rewrite_bodies.specs.calls.Slots.{groups, slots_of}
use Rattle.rewrite_bodies.specs.calls.Guards.{helper}
use Rattle.rewrite_bodies.specs.calls.Length.{jump_length, code_length}
use Rattle.wasm_laws.proofs.Lists.{all_append, all_map}
use Rattle.wasm_syntax.specs.SameCode.{op_code, body_code, global_code, element_code, segment_code, code_alone}
use Rattle.rewrite_modules.specs.calls.FlatCode.{targets_in, body_of}
use Rattle.rewrite_modules.specs.Collector.{memory_export}
use Rattle.rewrite_modules.specs.calls.Instrument.{new_nodes, new_body, each, number_init, shown_element, inner_offset, inner_element, shown_elements, new_exports, new_module}
use Rattle.rewrite_modules.specs.Interface.{doubled, new_tables}
use Rattle.rewrite_modules.specs.Instrumentable.{program_of, Instrumentable}
use Rattle.rewrite_modules.specs.calls.Wrappers.{wrapper}
use Rattle.rewrite_modules.proofs.BareValid.{same_sizes, all_as}
use Rattle.rewrite_modules.proofs.NewSizes.{new_sizes}
use Rattle.wasm_format_laws.proofs.Numbers.{some_bytes}
use Rattle.wasm_format_laws.proofs.Totals.{total, total-append, total_many, flat_total, all_from_map}
use Rattle.rewrite_promise.proofs.Items.{new_expression}
use Rattle.rewrite_promise.proofs.Pieces.{group_some}
use Rattle.rewrite_promise.proofs.Whole.{contents_weigh}
use Rattle.rewrite_modules.proofs.CodeLengths.{item_length, item_short, basic_some, expression_total}
use Rattle.rewrite_modules.proofs.EncodedLengths.{entry_total, contents, import_some, global_some, export_some, instr_some}

-- ---- each entry takes a byte at least

short_of : {A : Type 0} (xs : List A) → length xs ≤ 134217728 → Short xs
short_of xs le = let lt : length xs < 4294967296 = omega (arith, le) in lt

pub type_some : (t : FuncType) → 1 ≤ length (function_type_bytes t)
unfolding function_type_bytes
type_some t = omega arith

entry_some : (b : Body) → 1 ≤ length (entry_bytes b)
entry_some b = let a = entry_total b in let c = some_bytes (length b.groups) in omega (arith, a, c)

-- ---- bodies

labels_many : (ts : List ℕ) (d : ℕ) → length ts ≤ length (labels_bytes (length ts) ts d)
labels_many ts d =
    let a = length-append (unsigned_bytes (length ts) ++ flat_map unsigned_bytes ts) (unsigned_bytes d) in
    let b = length-append (unsigned_bytes (length ts)) (flat_map unsigned_bytes ts) in
    let c = flat_total unsigned_bytes ts in
    let e = total_many (λ t. length (unsigned_bytes t)) ts some_bytes in
    omega (arith, a, b, c, e)

targets_few : (nodes : Nodes) → length (targets_in nodes) ≤ code_length nodes
targets_few stop = omega arith
targets_few (basic o i rest) = omega (arith, targets_few rest)
targets_few (jump o Unreachable rest) = omega (arith, targets_few rest)
targets_few (jump o (Br l) rest) = omega (arith, targets_few rest)
targets_few (jump o (BrIf l) rest) = omega (arith, targets_few rest)
targets_few (jump o (BrTable ts d) rest) = omega (arith, labels_many ts d, length-append ts (targets_in rest), targets_few rest)
targets_few (jump o Return rest) = omega (arith, targets_few rest)
targets_few (jump o (Call f) rest) = omega (arith, targets_few rest)
targets_few (jump o (CallIndirect t) rest) = omega (arith, targets_few rest)
targets_few (block o t inner end rest) = omega (arith, length-append (targets_in inner) (targets_in rest), targets_few inner, targets_few rest)
targets_few (loop o t inner end rest) = omega (arith, length-append (targets_in inner) (targets_in rest), targets_few inner, targets_few rest)
targets_few (choose o t a ea b end rest) =
    omega (arith, length-append (targets_in a) (targets_in b ++ targets_in rest), length-append (targets_in b) (targets_in rest), targets_few a, targets_few b, targets_few rest)

body_lists : (gs : List LocalGroup) (nodes : Nodes) → length (entry_bytes (body_of gs nodes)) ≤ 134217728 → ShortBody (body_of gs nodes)
body_lists gs nodes le =
    let b = body_of gs nodes in
    let a = entry_total b in
    let c = total_many (λ g. length (group_bytes g)) gs group_some in
    let d = expression_total b in
    let e = total_many (λ o. length (instruction_bytes b.targets o.code)) b.ops (λ o. instr_some b.targets o.code) in
    let f = new_expression gs nodes in
    let g = targets_few nodes in
    record {
      groups = short_of gs (omega (arith, le, a, c));
      ops = short_of b.ops (omega (arith, le, a, d, e));
      targets = short_of b.targets (omega (arith, le, a, f, g));
    }

-- ---- the lists that are not copied

names_kept : (m : Module) (k : ℕ) (es : List Export) → AllByRecursion (λ e. Short e.name) es → AllByRecursion (λ e. Short e.name) (new_exports m k es)
names_kept m k [] h = tt
names_kept m k (e ∷ es) h = (h.0, names_kept m (k + length (wraps m e)) es h.1)

memory_name : (ls : List Limits) → AllByRecursion (λ e. Short e.name) (memory_export ls)
memory_name [] = tt
memory_name (l ∷ ls) = (lit< tt, tt)

element_some : (e : ElementSeg) → 1 ≤ length (element_bytes e)
unfolding element_bytes
element_some e = let a = length-append (unsigned_bytes e.table) (expression_bytes e.offset ++ vector_bytes unsigned_bytes e.functions) in omega (arith, a, some_bytes e.table)

-- segments with other functions, as many, and with offsets that are short
elements_kept : (h : ℕ → ℕ) (offset : ElementSeg → Body) → ((e : ElementSeg) → ShortElement e → ShortBody (offset e)) → (es : List ElementSeg) → AllByRecursion ShortElement es → AllByRecursion ShortElement (map (λ e. record { table = e.table; offset = offset e; functions = map h e.functions }) es)
elements_kept h offset short [] all = tt
elements_kept h offset short (e ∷ es) all =
    (record { offset = short e all.0; functions = subst (λ n. n < 2 ^ 32) (sym (length-map e.functions h)) all.0.functions }, elements_kept h offset short es all.1)

new_elements : (m : Module) → AllByRecursion ShortElement m.elements → AllByRecursion ShortElement (shown_elements m ++ map (inner_element m) m.elements)
new_elements m all = all_append ShortElement (shown_elements m) (map (inner_element m) m.elements) (by (doubles m)) (elements_kept (mapped m) (inner_offset m) (λ e s. inner (doubles m) e s) m.elements all)
  where
    by : (q : Bool) → AllByRecursion ShortElement (if q then map (shown_element m) m.elements else [])
    by false = tt
    by true = elements_kept (shown m) (λ e. e.offset) (λ e s. s.offset) m.elements all

    inner : (q : Bool) (e : ElementSeg) → ShortElement e → ShortBody (if q then number_init (element_at m e + table_min m.tables) else e.offset)
    inner false e s = s.offset
    inner true e s = record { groups = lit< tt; ops = lit< tt; targets = lit< tt }

map_bodies : {A : Type 0} (go : A → Nodes) (fs : List A) → total (λ b. length (entry_bytes b)) (map (λ f. body_of [] (go f)) fs) ≤ 134217728 → AllByRecursion ShortBody (map (λ f. body_of [] (go f)) fs)
map_bodies go [] le = tt
map_bodies go (f ∷ fs) le = (body_lists [] (go f) (omega (arith, le)), map_bodies go fs (omega (arith, le)))

new_lists : (p : Program) (f : ℕ) (q : Option Function) → length (entry_bytes (new_body p f q)) ≤ 134217728 → ShortBody (new_body p f q)
new_lists p f None le = body_lists [] stop le
new_lists p f (Some (imported i type)) le = body_lists [] stop le
new_lists p f (Some (defined b tree type)) le = body_lists (b.groups ++ groups (slots_of p f b tree type)) (new_nodes p f b tree type) le

each_bodies : (p : Program) (f : ℕ) (bs : List Body) → total (λ b. length (entry_bytes b)) (each (λ f. new_body p f (function_at p f)) f bs) ≤ 134217728 → AllByRecursion ShortBody (each (λ f. new_body p f (function_at p f)) f bs)
each_bodies p f [] le = tt
each_bodies p f (b ∷ bs) le = (new_lists p f (function_at p f) (omega (arith, le)), each_bodies p (suc f) bs (omega (arith, le)))

-- ---- the rewritten module

tables_short : (m : Module) → Short m.tables → Short (new_tables m)
tables_short m s = by (doubles m)
  where
    by : (q : Bool) → Short (if q then map doubled m.tables else m.tables)
    by false = s
    by true = subst (λ k. k < 2 ^ 32) (sym (length-map m.tables doubled)) s

new_short : (p : Program) → ShortLists p.module_ → contents (new_module p) ≤ 134217728 → ShortLists (new_module p)
new_short p s le =
    let m = p.module_ in
    let n = new_module p in
    let types = total_many (λ t. length (function_type_bytes t)) n.types type_some in
    let imports = total_many (λ i. length (import_bytes i)) n.imports import_some in
    let functions = total_many (λ k. length (unsigned_bytes k)) n.functions some_bytes in
    let globals = total_many (λ g. length (global_bytes g)) n.globals global_some in
    let exports = total_many (λ e. length (export_bytes e)) n.exports export_some in
    let elements = total_many (λ e. length (element_bytes e)) n.elements element_some in
    let bodies = total_many (λ b. length (entry_bytes b)) n.bodies entry_some in
    let both : length n.imports + length n.functions < 4294967296 = omega (arith, imports, functions, le) in
    let news = each (λ f. new_body p f (function_at p f)) (import_count m) m.bodies in
    let ws = map (λ f. body_of [] (wrapper m f)) (wrapped m) in
    let hs = map (λ u. body_of [] (helper m u)) (helped p) in
    let a = total-append (λ b. length (entry_bytes b)) news (ws ++ hs) in
    let b = total-append (λ b. length (entry_bytes b)) ws hs in
    record {
      types = short_of n.types (omega (arith, types, le));
      each_type = all_append ShortType m.types _ s.each_type (record { params = lit< tt; results = lit< tt }, (record { params = lit< tt; results = lit< tt }, (record { params = lit< tt; results = lit< tt }, (record { params = lit< tt; results = lit< tt }, tt))));
      functions = both;
      import_modules = all_append (λ i. Short i.«module») m.imports _ s.import_modules (lit< tt, (lit< tt, (lit< tt, tt)));
      import_names = all_append (λ i. Short i.name) m.imports _ s.import_names (lit< tt, (lit< tt, (lit< tt, tt)));
      tables = tables_short m s.tables;
      memories = s.memories;
      globals = short_of n.globals (omega (arith, globals, le));
      each_global = all_append (λ g. ShortBody g.init) m.globals _ s.each_global (record { groups = lit< tt; ops = lit< tt; targets = lit< tt }, (record { groups = lit< tt; ops = lit< tt; targets = lit< tt }, tt));
      exports = short_of n.exports (omega (arith, exports, le));
      export_names = all_append (λ e. Short e.name) (new_exports m 0 m.exports) _ (names_kept m 0 m.exports s.export_names) (memory_name m.memories);
      elements = short_of n.elements (omega (arith, elements, le));
      each_element = new_elements m s.each_element;
      segments = s.segments;
      each_segment = s.each_segment;
      bodies = short_of n.bodies (omega (arith, bodies, le));
      each_body = all_append ShortBody news (ws ++ hs) (each_bodies p (import_count m) m.bodies (omega (arith, a, b, le))) (all_append ShortBody ws hs (map_bodies (wrapper m) (wrapped m) (omega (arith, a, b, le))) (map_bodies (helper m) (helped p) (omega (arith, a, b, le))));
      customs = lit< tt;
      custom_names = tt;
    }

-- ---- the same without offsets and lengths, and with others

body_bare : (b : Body) → ShortBody b → ShortBody (body_code b)
body_bare b s = record { groups = s.groups; ops = subst (λ n. n < 2 ^ 32) (sym (length-map b.ops op_code)) s.ops; targets = s.targets }

body_back : (b : Body) → ShortBody (body_code b) → ShortBody b
body_back b s = record { groups = s.groups; ops = subst (λ n. n < 2 ^ 32) (length-map b.ops op_code) s.ops; targets = s.targets }

element_bare : (e : ElementSeg) → ShortElement e → ShortElement (element_code e)
element_bare e s = record { offset = body_bare e.offset s.offset; functions = s.functions }

element_back : (e : ElementSeg) → ShortElement (element_code e) → ShortElement e
element_back e s = record { offset = body_back e.offset s.offset; functions = s.functions }

segment_bare : (d : DataSeg) → ShortData d → ShortData (segment_code d)
segment_bare d s = record { offset = body_bare d.offset s.offset; bytes = s.bytes }

segment_back : (d : DataSeg) → ShortData (segment_code d) → ShortData d
segment_back d s = record { offset = body_back d.offset s.offset; bytes = s.bytes }

map_short : {A B : Type 0} (f : A → B) (xs : List A) → Short xs → Short (map f xs)
map_short f xs s = subst (λ n. n < 2 ^ 32) (sym (length-map xs f)) s

short_map : {A B : Type 0} (f : A → B) (xs : List A) → Short (map f xs) → Short xs
short_map f xs s = subst (λ n. n < 2 ^ 32) (length-map xs f) s

lists_bare : (m : Module) → ShortLists m → ShortLists (code_alone m)
lists_bare m s = record {
  types = s.types;
  each_type = s.each_type;
  functions = s.functions;
  import_modules = s.import_modules;
  import_names = s.import_names;
  tables = s.tables;
  memories = s.memories;
  globals = map_short global_code m.globals s.globals;
  each_global = all_map (λ g. ShortBody g.init) global_code m.globals (all_as (λ g. ShortBody g.init) (λ g. ShortBody (body_code g.init)) m.globals (λ g h. body_bare g.init h) s.each_global);
  exports = s.exports;
  export_names = s.export_names;
  elements = map_short element_code m.elements s.elements;
  each_element = all_map ShortElement element_code m.elements (all_as ShortElement (λ e. ShortElement (element_code e)) m.elements element_bare s.each_element);
  segments = map_short segment_code m.segments s.segments;
  each_segment = all_map ShortData segment_code m.segments (all_as ShortData (λ d. ShortData (segment_code d)) m.segments segment_bare s.each_segment);
  bodies = map_short body_code m.bodies s.bodies;
  each_body = all_map ShortBody body_code m.bodies (all_as ShortBody (λ b. ShortBody (body_code b)) m.bodies body_bare s.each_body);
  customs = lit< tt;
  custom_names = tt;
}

lists_back : (m : Module) → m.customs ≡ [] → ShortLists (code_alone m) → ShortLists m
lists_back m none s = record {
  types = s.types;
  each_type = s.each_type;
  functions = s.functions;
  import_modules = s.import_modules;
  import_names = s.import_names;
  tables = s.tables;
  memories = s.memories;
  globals = short_map global_code m.globals s.globals;
  each_global = all_as (λ g. ShortBody (body_code g.init)) (λ g. ShortBody g.init) m.globals (λ g h. body_back g.init h) (all_from_map (λ g. ShortBody g.init) global_code m.globals s.each_global);
  exports = s.exports;
  export_names = s.export_names;
  elements = short_map element_code m.elements s.elements;
  each_element = all_as (λ e. ShortElement (element_code e)) ShortElement m.elements element_back (all_from_map ShortElement element_code m.elements s.each_element);
  segments = short_map segment_code m.segments s.segments;
  each_segment = all_as (λ d. ShortData (segment_code d)) ShortData m.segments segment_back (all_from_map ShortData segment_code m.segments s.each_segment);
  bodies = short_map body_code m.bodies s.bodies;
  each_body = all_as (λ b. ShortBody (body_code b)) ShortBody m.bodies body_back (all_from_map ShortBody body_code m.bodies s.each_body);
  customs = subst (λ xs. Short xs) (sym none) (lit< tt);
  custom_names = subst (AllByRecursion (λ c. Short c.name)) (sym none) tt;
}

pub within : (m other : Module) (x : Instrumentable m) → Sized m → code_alone (new_module (program_of m x.whole)) ≡ code_alone other → other.customs ≡ [] → WithinLimits other
within m other x sized e none =
    let p = program_of m x.whole in
    let weighs = contents_weigh m x sized in
    let new = new_short p x.limits_.short (omega (arith, weighs, x.lightness.light)) in
    let lists = lists_back other none (subst ShortLists e (lists_bare (new_module p) new)) in
    let low = same_sizes (new_module p) other e (new_sizes m x) in
    record { short = lists; locals = low.locals; nested = low.nested; tables = low.tables; memories = low.memories }
