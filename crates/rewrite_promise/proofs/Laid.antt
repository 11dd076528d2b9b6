-- There is a rewriting: the rewritten module with its instructions at ascending offsets.
use Rattle.std.proofs.Common.{◌≡◌, ℕ, suc, ◌+◌, ◌*◌, Bool, true, false, if◌then◌else◌, List, [], ◌∷◌, ◌++◌, length, map, Option, Some, None, refl, sym, ap, ap₂, ◌∙◌, subst, arith, slice_get, append_assoc, length-append}
use Rattle.std.specs.Prelude.{codes, IsUtf8}
use Rattle.std.specs.List.{AllByRecursion}
use Rattle.std.proofs.lemmas.List.{length-map, map-append}
use Rattle.wasm_syntax.specs.declared.instruction.Basic.TheVariants.{Const}
use Rattle.wasm_syntax.specs.declared.instruction.Instr.{Instr}
use Rattle.wasm_syntax.specs.declared.instruction.Instr.TheVariants as instrs
use Rattle.wasm_syntax.specs.declared.instruction.Op.{Op}
use Rattle.wasm_syntax.specs.declared.parts.LocalGroup.{LocalGroup}
use Rattle.wasm_syntax.specs.declared.parts.Body.{Body}
use Rattle.wasm_syntax.specs.declared.parts.Global.{Global}
use Rattle.wasm_syntax.specs.declared.parts.Export.{Export}
use Rattle.wasm_syntax.specs.declared.parts.Limits.{Limits}
use Rattle.wasm_syntax.specs.declared.module.ModuleParts.{ModuleParts as Module}
use Rattle.wasm_syntax.specs.declared.value.Value.{Value}
use Rattle.wasm_syntax.specs.declared.value.Value.TheVariants as values
use Rattle.wasm_syntax.specs.Tree.{Unreachable, Br, BrIf, BrTable, Return, Call, CallIndirect, Nodes, stop, basic, jump, block, loop, choose, Tree, code_of, Writes}
use Rattle.wasm_syntax.specs.Module.{Program, Function, imported, defined, function_at, AllWrite, Ascend, TakeUp, InOrder, IsExpression, IsModule}
use Rattle.wasm_syntax.specs.Machine.{result_of}
use Rattle.wasm_syntax.specs.Typing.{Context, body_context}
use Rattle.wasm_syntax.specs.FlatTyping.{OpenBlock, FlatTypes, body_block}
use Rattle.wasm_syntax.specs.Valid.{Valid}
use Rattle.wasm_laws.proofs.FlatBodies.{body_steps, steps_body}
use Rattle.wasm_laws.proofs.Lists.{all_append, all_map}
use Rattle.wasm_syntax.specs.declared.parts.ElementSeg.{ElementSeg}
use Rattle.wasm_syntax.specs.Run.{table_min, element_at}
use Rattle.rewrite_bodies.specs.Numbering.{import_count, mapped, wraps, wrapped, doubles, helped}
use Rattle.rewrite_bodies.specs.calls.Slots.{groups, slots_of}
use Rattle.rewrite_bodies.specs.calls.Pieces.{i32}
use Rattle.rewrite_bodies.specs.calls.Guards.{less_word, helper}
use Rattle.wasm_syntax.specs.SameCode.{op_code, body_code, global_code, element_code, code_alone}
use Rattle.rewrite_modules.specs.calls.FlatCode.{targets_in, op, else_op, ops_in, body_of}
use Rattle.rewrite_modules.specs.Collector.{memory_export}
use Rattle.rewrite_modules.specs.calls.Instrument.{new_nodes, new_body, each, value_init, number_init, flag_global, memory_min, length_global, shown_element, inner_element, shown_elements, new_exports, wrapper_type, new_module}
use Rattle.rewrite_modules.specs.calls.Wrappers.{wrapper}
use Rattle.rewrite_modules.proofs.FineBodies.{fine_at, gives_one}
use Rattle.rewrite_modules.proofs.Links.{length-each}

-- ---- instructions at ascending offsets

abbrev codes_of : List Op → List Instr
codes_of ops = map (λ o. o.code) ops

abbrev number : ℕ → List Op → List Op
number n [] = []
number n (o ∷ os) = record { at = n; len = 0; code = o.code } ∷ number (suc n) os

abbrev number_body : Body → Body
number_body b = record { groups = b.groups; ops = number 0 b.ops; targets = b.targets; start = 0 }

codes_number : (n : ℕ) (ops : List Op) → codes_of (number n ops) ≡ codes_of ops
codes_number n [] = refl
codes_number n (o ∷ os) = ap (λ (is : List Instr). o.code ∷ is) (codes_number (suc n) os)

bare_number : (n : ℕ) (ops : List Op) → map op_code (number n ops) ≡ map op_code ops
bare_number n [] = refl
bare_number n (o ∷ os) = ap (λ (rest : List Op). op_code o ∷ rest) (bare_number (suc n) os)

abbrev bare_with : Body → List Op → Body
bare_with b ops = record { groups = b.groups; ops = ops; targets = b.targets; start = 0 }

bodies_number : (bs : List Body) → map body_code (map number_body bs) ≡ map body_code bs
bodies_number [] = refl
bodies_number (b ∷ bs) = ap₂ (λ (ops : List Op) (rest : List Body). bare_with b ops ∷ rest) (bare_number 0 b.ops) (bodies_number bs)

ascends : (n : ℕ) (ops : List Op) → Ascend n (number n ops)
ascends n [] = tt
ascends n (o ∷ os) = (omega arith, ascends (suc n) os)

-- flat steps do not look at offsets
number_steps : (c : Context) (T : List ℕ) (n : ℕ) (ops : List Op) (before after : List OpenBlock) → FlatTypes c before (code_of T ops) after → FlatTypes c before (code_of T (number n ops)) after
number_steps c T n [] before after h = h
number_steps c T n (o ∷ os) before after h = (h.0, h.1, number_steps c T (suc n) os h.0 after h.2)

-- ---- targets in order

taken_from : (j k : ℕ) (is : List Instr) (total : ℕ) → j ≡ k → TakeUp j is total → TakeUp k is total
taken_from j k is total e h = subst (λ (n : ℕ). TakeUp n is total) e h

none_taken : (rest : Nodes) (n : ℕ) (after : List Op) (total : ℕ) → TakeUp n (codes_of (ops_in n rest ++ after)) total → TakeUp n (codes_of (ops_in (n + 0) rest ++ after)) total
none_taken rest n after total h = let e : n ≡ n + 0 = omega arith in subst (λ (k : ℕ). TakeUp n (codes_of (ops_in k rest ++ after)) total) e h

else_taken : (else_at : Option ℕ) (arm after : List Op) (n total : ℕ) → TakeUp n (codes_of (arm ++ after)) total → TakeUp n (codes_of (else_op else_at arm ++ after)) total
else_taken None arm after n total h = h
else_taken (Some at) arm after n total h = h

regrouped : (xs ys zs : List Op) (n total : ℕ) → TakeUp n (codes_of (xs ++ (ys ++ zs))) total → TakeUp n (codes_of ((xs ++ ys) ++ zs)) total
regrouped xs ys zs n total h = subst (λ (ops : List Op). TakeUp n (codes_of ops) total) (sym (append_assoc xs ys zs)) h

take_up : (nodes : Nodes) (n : ℕ) (after : List Op) (total : ℕ) → TakeUp (n + length (targets_in nodes)) (codes_of after) total → TakeUp n (codes_of (ops_in n nodes ++ after)) total
take_up stop n after total h = taken_from (n + 0) n (codes_of after) total (omega arith) h
take_up (basic o i rest) n after total h = take_up rest n after total h
take_up (jump o Unreachable rest) n after total h = none_taken rest n after total (take_up rest n after total h)
take_up (jump o (Br l) rest) n after total h = none_taken rest n after total (take_up rest n after total h)
take_up (jump o (BrIf l) rest) n after total h = none_taken rest n after total (take_up rest n after total h)
take_up (jump o (BrTable ts d) rest) n after total h =
    let tr = targets_in rest in
    (refl, take_up rest (n + length ts) after total (taken_from (n + length (ts ++ tr)) (n + length ts + length tr) (codes_of after) total (omega (arith, length-append ts tr)) h))
take_up (jump o Return rest) n after total h = none_taken rest n after total (take_up rest n after total h)
take_up (jump o (Call f) rest) n after total h = none_taken rest n after total (take_up rest n after total h)
take_up (jump o (CallIndirect t) rest) n after total h = none_taken rest n after total (take_up rest n after total h)
take_up (block o t inner end rest) n after total h =
    let ti = targets_in inner in
    let tr = targets_in rest in
    let n2 = n + length ti in
    let r = take_up rest n2 after total (taken_from (n + length (ti ++ tr)) (n2 + length tr) (codes_of after) total (omega (arith, length-append ti tr)) h) in
    regrouped (ops_in n inner) (op instrs.End ∷ ops_in n2 rest) after n total (take_up inner n (op instrs.End ∷ (ops_in n2 rest ++ after)) total r)
take_up (loop o t inner end rest) n after total h =
    let ti = targets_in inner in
    let tr = targets_in rest in
    let n2 = n + length ti in
    let r = take_up rest n2 after total (taken_from (n + length (ti ++ tr)) (n2 + length tr) (codes_of after) total (omega (arith, length-append ti tr)) h) in
    regrouped (ops_in n inner) (op instrs.End ∷ ops_in n2 rest) after n total (take_up inner n (op instrs.End ∷ (ops_in n2 rest ++ after)) total r)
take_up (choose o t a else_at b end rest) n after total h =
    let ta = targets_in a in
    let tb = targets_in b in
    let tr = targets_in rest in
    let na = n + length ta in
    let nb = na + length tb in
    let arm = ops_in na b ++ (op instrs.End ∷ ops_in nb rest) in
    let r = take_up rest nb after total (taken_from (n + length (ta ++ (tb ++ tr))) (nb + length tr) (codes_of after) total (omega (arith, length-append ta (tb ++ tr), length-append tb tr)) h) in
    let y = regrouped (ops_in na b) (op instrs.End ∷ ops_in nb rest) after na total (take_up b na (op instrs.End ∷ (ops_in nb rest ++ after)) total r) in
    regrouped (ops_in n a) (else_op else_at arm) after n total (take_up a n (else_op else_at arm ++ after) total (else_taken else_at arm after na total y))

abbrev Takes : Body → Type 0
Takes b = TakeUp 0 (codes_of b.ops) (length b.targets)

body_takes : (gs : List LocalGroup) (nodes : Nodes) → Takes (body_of gs nodes)
body_takes gs nodes =
    let total = length (targets_in nodes) in
    let all : 0 + total ≡ total = omega arith in
    take_up nodes 0 (op instrs.End ∷ []) total all

new_takes : (p : Program) (f : ℕ) (q : Option Function) → Takes (new_body p f q)
new_takes p f None = body_takes [] stop
new_takes p f (Some (imported i type)) = body_takes [] stop
new_takes p f (Some (defined b tree type)) = body_takes (b.groups ++ groups (slots_of p f b tree type)) (new_nodes p f b tree type)

each_takes : (p : Program) (f : ℕ) (bs : List Body) → AllByRecursion Takes (each (λ f. new_body p f (function_at p f)) f bs)
each_takes p f [] = tt
each_takes p f (b ∷ bs) = (new_takes p f (function_at p f), each_takes p (suc f) bs)

map_takes : (go : ℕ → Nodes) (fs : List ℕ) → AllByRecursion Takes (map (λ f. body_of [] (go f)) fs)
map_takes go [] = tt
map_takes go (f ∷ fs) = (body_takes [] (go f), map_takes go fs)

bodies_take : (p : Program) → AllByRecursion Takes (new_module p).bodies
bodies_take p =
    let m = p.module_ in
    all_append Takes _ _ (each_takes p (import_count m) m.bodies) (all_append Takes _ _ (map_takes (wrapper m) (wrapped m)) (map_takes (helper m) (helped p)))

body_in_order : (b : Body) → Takes b → InOrder (number_body b)
body_in_order b h = record { offsets = ascends 0 b.ops; targets = subst (λ (is : List Instr). TakeUp 0 is (length b.targets)) (sym (codes_number 0 b.ops)) h }

all_in_order : (bs : List Body) → AllByRecursion Takes bs → AllByRecursion InOrder (map number_body bs)
all_in_order [] h = tt
all_in_order (b ∷ bs) h = (body_in_order b h.0, all_in_order bs h.1)

-- ---- trees

abbrev HasTree : Body → Type 0
HasTree b = (tree : Tree) × Writes b.targets b.ops tree

-- a well-typed body has a tree, wherever its instructions stand
body_tree : (m : Module) (i : ℕ) (b : Body) → Valid m → slice_get m.bodies i ≡ Some b → HasTree (number_body b)
body_tree m i b valid e =
    let fine = fine_at m i b valid e in
    let type = fine.0 in
    let result = result_of type in
    let gives = gives_one m (length m.imports + i) type valid fine.1 in
    let all = body_steps m type b result (code_of b.targets b.ops) gives fine.2 in
    let is = steps_body m type b result (code_of b.targets (number 0 b.ops)) gives (number_steps (body_context m type b) b.targets 0 b.ops (body_block result) [] all) in
    (is.tree, is.writes)

all_trees : (bs : List Body) → ((i : ℕ) (b : Body) → slice_get bs i ≡ Some b → HasTree (number_body b)) → (trees : List Tree) × AllWrite (map number_body bs) trees
all_trees [] h = ([], tt)
all_trees (b ∷ bs) h =
    let one = h 0 b refl in
    let rest = all_trees bs (λ i c e. h (suc i) c e) in
    (one.0 ∷ rest.0, (one.1, rest.1))

-- ---- names

utf8_collector : IsUtf8 (codes "coredump")
unfolding lib.Utf8.encode
utf8_collector = (codes "coredump", (refl, refl))

utf8_i32 : IsUtf8 (codes "value_i32")
unfolding lib.Utf8.encode
utf8_i32 = (codes "value_i32", (refl, refl))

utf8_i64 : IsUtf8 (codes "value_i64")
unfolding lib.Utf8.encode
utf8_i64 = (codes "value_i64", (refl, refl))

utf8_frame : IsUtf8 (codes "frame")
unfolding lib.Utf8.encode
utf8_frame = (codes "frame", (refl, refl))

utf8_memory : IsUtf8 (codes "coredump.memory")
unfolding lib.Utf8.encode
utf8_memory = (codes "coredump.memory", (refl, refl))

names_kept : (m : Module) (k : ℕ) (es : List Export) → AllByRecursion (λ e. IsUtf8 e.name) es → AllByRecursion (λ e. IsUtf8 e.name) (new_exports m k es)
names_kept m k [] h = tt
names_kept m k (e ∷ es) h = (h.0, names_kept m (k + length (wraps m e)) es h.1)

memory_name : (ls : List Limits) → AllByRecursion (λ e. IsUtf8 e.name) (memory_export ls)
memory_name [] = tt
memory_name (l ∷ ls) = (utf8_memory, tt)

-- ---- the module

-- an added global, whose initial value has its numbers in place of offsets
abbrev numbered : Global → Global
numbered g = record { vtype = g.vtype; mutable = g.mutable; init = number_body g.init }

value_is : (v : Value) → IsExpression (number_body (value_init v))
value_is v = record {
  tree = record { nodes = basic 0 (Const v) stop; end = 1 };
  writes = record { arms = tt; out = refl };
  in_order = record { offsets = ascends 0 (value_init v).ops; targets = refl };
  no_locals = refl;
}

pub number_is : (n : ℕ) → IsExpression (number_body (number_init n))
number_is n = value_is (i32 n)

-- a segment for what the module itself calls
abbrev laid_offset : Bool → Module → ElementSeg → Body
laid_offset q m e = if q then number_body (number_init (element_at m e + table_min m.tables)) else e.offset

abbrev laid_element : Bool → Module → ElementSeg → ElementSeg
laid_element q m e = record { table = e.table; offset = laid_offset q m e; functions = map (mapped m) e.functions }

same_map : (f g : ElementSeg → ElementSeg) → ((e : ElementSeg) → f e ≡ g e) → (es : List ElementSeg) → map f es ≡ map g es
same_map f g h [] = refl
same_map f g h (e ∷ es) = ap₂ (λ x xs. x ∷ xs) (h e) (same_map f g h es)

-- the segments of the new module are these, but for offsets
elements_same : (m : Module) → map element_code (shown_elements m ++ map (inner_element m) m.elements) ≡ map element_code (shown_elements m ++ map (laid_element (doubles m) m) m.elements)
elements_same m =
    map-append element_code (shown_elements m) (map (inner_element m) m.elements) ∙ ap (λ z. map element_code (shown_elements m) ++ z) inner ∙ sym (map-append element_code (shown_elements m) (map (laid_element (doubles m) m) m.elements))
  where
    one : (q : Bool) (e : ElementSeg) → element_code (record { table = e.table; offset = if q then number_init (element_at m e + table_min m.tables) else e.offset; functions = map (mapped m) e.functions }) ≡ element_code (laid_element q m e)
    one false e = refl
    one true e = refl

    codes : (f : ElementSeg → ElementSeg) (es : List ElementSeg) → map element_code (map f es) ≡ map (λ e. element_code (f e)) es
    codes f [] = refl
    codes f (e ∷ es) = ap (λ z. element_code (f e) ∷ z) (codes f es)

    inner : map element_code (map (inner_element m) m.elements) ≡ map element_code (map (laid_element (doubles m) m) m.elements)
    inner = codes (inner_element m) m.elements ∙ same_map (λ e. element_code (inner_element m e)) (λ e. element_code (laid_element (doubles m) m e)) (λ e. one (doubles m) e) m.elements ∙ sym (codes (laid_element (doubles m) m) m.elements)

expressions : (m : Module) → AllByRecursion (λ e. IsExpression e.offset) m.elements → AllByRecursion (λ e. IsExpression e.offset) (shown_elements m ++ map (laid_element (doubles m) m) m.elements)
expressions m h = all_append (λ e. IsExpression e.offset) (shown_elements m) (map (laid_element (doubles m) m) m.elements) (in_front (doubles m)) (behind (doubles m))
  where
    in_front : (q : Bool) → AllByRecursion (λ e. IsExpression e.offset) (if q then map (shown_element m) m.elements else [])
    in_front false = tt
    in_front true = all_map (λ e. IsExpression e.offset) (shown_element m) m.elements h

    numbers : (es : List ElementSeg) → AllByRecursion (λ e. IsExpression e.offset) (map (laid_element true m) es)
    numbers [] = tt
    numbers (e ∷ es) = (number_is (element_at m e + table_min m.tables), numbers es)

    behind : (q : Bool) → AllByRecursion (λ e. IsExpression e.offset) (map (laid_element q m) m.elements)
    behind false = all_map (λ e. IsExpression e.offset) (laid_element false m) m.elements h
    behind true = numbers m.elements

module _ (p : Program) where
  abbrev m : Module
  m = p.module_

  -- the rewritten module, with ascending offsets
  abbrev pub laid : Module
  laid = record (new_module p) { globals = m.globals ++ numbered flag_global ∷ numbered (length_global m) ∷ []; elements = shown_elements m ++ map (laid_element (doubles m) m) m.elements; bodies = map number_body (new_module p).bodies }

  as_many : length m.bodies ≡ length m.functions → length laid.bodies ≡ length laid.functions
  as_many e =
      let news = each (λ f. new_body p f (function_at p f)) (import_count m) m.bodies in
      let ws = map (λ f. body_of [] (wrapper m f)) (wrapped m) in
      let hs = map (λ u. body_of [] (helper m u)) (helped p) in
      let wt = map (wrapper_type m) (wrapped m) in
      let ht = map (λ u. length m.types + 3) (helped p) in
      let a = length-map (new_module p).bodies number_body in
      let b = length-append news (ws ++ hs) in
      let c = length-append ws hs in
      let d = length-each (λ f. new_body p f (function_at p f)) (import_count m) m.bodies in
      let w = length-map (wrapped m) (λ f. body_of [] (wrapper m f)) in
      let h = length-map (helped p) (λ u. body_of [] (helper m u)) in
      let x = length-append m.functions (wt ++ ht) in
      let y = length-append wt ht in
      let v = length-map (wrapped m) (wrapper_type m) in
      let u = length-map (helped p) (λ u. length m.types + 3) in
      omega (arith, e, a, b, c, d, w, h, x, y, v, u)

  pub laid_is : IsModule m → Valid (new_module p) → IsModule laid
  laid_is whole valid =
      let trees = all_trees (new_module p).bodies (λ i b e. body_tree (new_module p) i b valid e) in
      record {
        trees = trees.0;
        write = trees.1;
        in_order = all_in_order (new_module p).bodies (bodies_take p);
        as_many = as_many whole.as_many;
        globals = all_append (λ g. IsExpression g.init) m.globals (numbered flag_global ∷ numbered (length_global m) ∷ []) whole.globals (number_is 0, (value_is (values.I64 (less_word (65536 * memory_min m.memories))), tt));
        elements = expressions m whole.elements;
        segments = whole.segments;
        import_modules = all_append (λ i. IsUtf8 i.«module») m.imports _ whole.import_modules (utf8_collector, (utf8_collector, (utf8_collector, tt)));
        import_names = all_append (λ i. IsUtf8 i.name) m.imports _ whole.import_names (utf8_i32, (utf8_i64, (utf8_frame, tt)));
        export_names = all_append (λ e. IsUtf8 e.name) (new_exports m 0 m.exports) _ (names_kept m 0 m.exports whole.export_names) (memory_name m.memories);
        custom_names = tt;
      }

  -- it is the rewritten module but for offsets
  pub laid_same : code_alone (new_module p) ≡ code_alone laid
  laid_same =
      let more = flag_global ∷ length_global m ∷ [] in
      let numbers = numbered flag_global ∷ numbered (length_global m) ∷ [] in
      let globals : map global_code (m.globals ++ more) ≡ map global_code (m.globals ++ numbers) = map-append global_code m.globals more ∙ sym (map-append global_code m.globals numbers) in
      let bodies = sym (bodies_number (new_module p).bodies) in
      all_same globals (elements_same m) bodies
    where
      all_same : {gs gs' : List Global} {es es' : List ElementSeg} {bs bs' : List Body} → gs ≡ gs' → es ≡ es' → bs ≡ bs' → ◌≡◌ {A = Module} (record (code_alone (new_module p)) { globals = gs; elements = es; bodies = bs }) (record (code_alone (new_module p)) { globals = gs'; elements = es'; bodies = bs' })
      all_same g e b = cc
