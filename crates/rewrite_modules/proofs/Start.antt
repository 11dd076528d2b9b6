-- The start of the two instances, and their exports.
use Rattle.std.proofs.Common.{◌≡◌, ℕ, zero, suc, ◌+◌, ◌*◌, ◌≤◌, List, [], ◌∷◌, ◌++◌, length, map, Option, Some, None, Bool, true, false, ◌&&◌, nat_lt, nat_le, refl, sym, ap, ap₂, ◌∙◌, subst, arith, ◌⊎◌, inl, inr, slice_get, option_map, take, drop, replicate, unwrap_or, if◌then◌else◌, append_assoc, leb-true, le-leb}
use Rattle.wasm_syntax.specs.declared.value.Value.{Value}
use Rattle.wasm_syntax.specs.declared.value.Value.TheVariants as values
use Rattle.wasm_syntax.specs.declared.module.ModuleParts.{ModuleParts as Module}
use Rattle.wasm_syntax.specs.Module.{Program, const_value, const_code, function_export, is_function}
use Rattle.wasm_syntax.specs.declared.host.Reply.{Reply}
use Rattle.wasm_syntax.specs.Machine.{zero_of}
use Rattle.rewrite_bodies.specs.Numbering.{import_count, mapped, shown, doubles, new_entries, table_wraps, named_wrapped, wrapped, wrapper_base, export_wrapped, start_wraps, wraps}
use Rattle.rewrite_bodies.specs.calls.Guards.{less_word}
use Rattle.rewrite_bodies.proofs.Doubled.{over_len, AllTrue, start_long, segments_fit}
use Rattle.linear_memory.specs.Memory.{Memory}
use Rattle.std.proofs.lemmas.List.{length-map, length-replicate, map-append}
use Rattle.rewrite_bodies.specs.calls.Agreement.{byte_count, told_length, flagged}
use Rattle.wasm_syntax.specs.Run.{start_table, engine, i32_or_zero, first_false, table_min, empty_memory, memory_bytes, globals_at_start, element_at, data_at, element_fits, data_fits, start_memory, start_world, by_data, by_element, cause_of_segments}
use Rattle.std.specs.Prelude.{flat_map, bytes_eq, fold, find, cond}
use Rattle.rewrite_modules.specs.Collector.{memory_export}
use Rattle.rewrite_modules.specs.calls.Instrument.{number_init, memory_min, shown_element, new_module, new_exports, new_index}
use Rattle.rewrite_modules.specs.Interface.{doubled}
use Rattle.wasm_syntax.specs.declared.instruction.Op.{Op}
use Rattle.wasm_syntax.specs.declared.instruction.Instr.{Instr}
use Rattle.wasm_syntax.specs.declared.parts.Export.{Export}
use Rattle.wasm_syntax.specs.declared.parts.ElementSeg.{ElementSeg}
use Rattle.wasm_syntax.specs.declared.parts.Limits.{Limits}
use Rattle.wasm_syntax.specs.declared.parts.Body.{Body}
use Rattle.wasm_syntax.specs.declared.parts.DataSeg.{DataSeg}
use Rattle.wasm_syntax.specs.Run as runs_
use Rattle.rewrite_modules.proofs.Links.{get_right}
use Rattle.pm_text.proofs.Lists.{get_front}
use Rattle.wasm_syntax.proofs.Classes.{Constant, holds_value, reads_global, not_constant, constant_of}

-- ---- constant expressions with two more globals, a zero and an i64

zero_more : (gs : List Value) (n x : ℕ) → i32_or_zero (slice_get (gs ++ values.I32 0 ∷ values.I64 n ∷ []) x) ≡ i32_or_zero (slice_get gs x)
zero_more [] n zero = refl
zero_more [] n (suc zero) = refl
zero_more [] n (suc (suc x)) = refl
zero_more (g ∷ gs) n zero = refl
zero_more (g ∷ gs) n (suc x) = zero_more gs n x

code_as : (gs : List Value) (n : ℕ) (i : Instr) → Constant i → i32_or_zero (const_code (gs ++ values.I32 0 ∷ values.I64 n ∷ []) i) ≡ i32_or_zero (const_code gs i)
code_as gs n i (holds_value v) = refl
code_as gs n i (reads_global x) = zero_more gs n x
code_as gs n i (not_constant none never) = ap i32_or_zero (none (gs ++ values.I32 0 ∷ values.I64 n ∷ []) ∙ sym (none gs))

code_more : (gs : List Value) (n : ℕ) (i : Instr) → i32_or_zero (const_code (gs ++ values.I32 0 ∷ values.I64 n ∷ []) i) ≡ i32_or_zero (const_code gs i)
code_more gs n i = code_as gs n i (constant_of i)

const_more : (gs : List Value) (n : ℕ) (ops : List Op) → i32_or_zero (const_value (gs ++ values.I32 0 ∷ values.I64 n ∷ []) ops) ≡ i32_or_zero (const_value gs ops)
const_more gs n [] = refl
const_more gs n (o ∷ os) = code_more gs n o.code

-- ---- lists under a function

map-over : {A B : Type 0} (f : A → B) (xs new : List A) (at : ℕ) → map f (runs_.over xs at new) ≡ runs_.over (map f xs) at (map f new)
map-over f xs new at =
    map-append f (take at xs) (new ++ drop (at + length new) xs) ∙ ap₂ (λ a b. a ++ b) (map-take at xs) (map-append f new (drop (at + length new) xs) ∙ ap (λ z. map f new ++ z) (map-drop (at + length new) xs ∙ ap (λ n. drop (at + n) (map f xs)) (sym (length-map new f))))
  where
    map-take : (n : ℕ) (xs : List _) → map f (take n xs) ≡ take n (map f xs)
    map-take zero xs = refl
    map-take (suc n) [] = refl
    map-take (suc n) (x ∷ xs) = ap (λ z. f x ∷ z) (map-take n xs)

    map-drop : (n : ℕ) (xs : List _) → map f (drop n xs) ≡ drop n (map f xs)
    map-drop zero xs = refl
    map-drop (suc n) [] = refl
    map-drop (suc n) (x ∷ xs) = map-drop n xs

map-replicate : {A B : Type 0} (f : A → B) (n : ℕ) (x : A) → map f (replicate n x) ≡ replicate n (f x)
map-replicate f zero x = refl
map-replicate f (suc n) x = ap (λ z. f x ∷ z) (map-replicate f n x)

replicate_both : {A : Type 0} (n k : ℕ) (x : A) → replicate (n + k) x ≡ replicate n x ++ replicate k x
replicate_both zero k x = let z : 0 + k ≡ k = omega arith in ap (λ (m : ℕ). replicate m x) z
replicate_both (suc n) k x = let z : suc n + k ≡ suc (n + k) = omega arith in ap (λ (m : ℕ). replicate m x) z ∙ ap (λ z. x ∷ z) (replicate_both n k x)

-- ---- what is put over one of two lists

take_front : {A : Type 0} (n : ℕ) (xs ys : List A) → n ≤ length xs → take n (xs ++ ys) ≡ take n xs
take_front zero xs ys le = refl
take_front (suc n) [] ys le = absurd (omega (arith, le))
take_front (suc n) (x ∷ xs) ys le = ap (λ z. x ∷ z) (take_front n xs ys (omega (arith, le)))

drop_front : {A : Type 0} (n : ℕ) (xs ys : List A) → n ≤ length xs → drop n (xs ++ ys) ≡ drop n xs ++ ys
drop_front zero xs ys le = refl
drop_front (suc n) [] ys le = absurd (omega (arith, le))
drop_front (suc n) (x ∷ xs) ys le = drop_front n xs ys (omega (arith, le))

take_behind : {A : Type 0} (xs ys : List A) (n : ℕ) → take (length xs + n) (xs ++ ys) ≡ xs ++ take n ys
take_behind [] ys n = let z : 0 + n ≡ n = omega arith in ap (λ (k : ℕ). take k ys) z
take_behind (x ∷ xs) ys n = let z : length (x ∷ xs) + n ≡ suc (length xs + n) = omega arith in ap (λ (k : ℕ). take k (x ∷ (xs ++ ys))) z ∙ ap (λ z. x ∷ z) (take_behind xs ys n)

drop_behind : {A : Type 0} (xs ys : List A) (n : ℕ) → drop (length xs + n) (xs ++ ys) ≡ drop n ys
drop_behind [] ys n = let z : 0 + n ≡ n = omega arith in ap (λ (k : ℕ). drop k ys) z
drop_behind (x ∷ xs) ys n = let z : length (x ∷ xs) + n ≡ suc (length xs + n) = omega arith in ap (λ (k : ℕ). drop k (x ∷ (xs ++ ys))) z ∙ drop_behind xs ys n

over_front : {A : Type 0} (xs ys new : List A) (at : ℕ) → at + length new ≤ length xs → runs_.over (xs ++ ys) at new ≡ runs_.over xs at new ++ ys
over_front xs ys new at le =
    ap₂ (λ a b. a ++ (new ++ b)) (take_front at xs ys (omega (arith, le))) (drop_front (at + length new) xs ys le)
    ∙ ap (λ z. take at xs ++ z) (sym (append_assoc new (drop (at + length new) xs) ys)) ∙ sym (append_assoc (take at xs) (new ++ drop (at + length new) xs) ys)

over_behind : {A : Type 0} (xs ys new : List A) (at : ℕ) → runs_.over (xs ++ ys) (length xs + at) new ≡ xs ++ runs_.over ys at new
over_behind xs ys new at =
    let n : length xs + at + length new ≡ length xs + (at + length new) = omega arith in
    ap₂ (λ a b. a ++ (new ++ b)) (take_behind xs ys at) (ap (λ k. drop k (xs ++ ys)) n ∙ drop_behind xs ys (at + length new))
    ∙ append_assoc xs (take at ys) (new ++ drop (at + length new) ys)

fold_both : {A B : Type 0} (f : B → A → B) (xs ys : List A) (z : B) → fold f z (xs ++ ys) ≡ fold f (fold f z xs) ys
fold_both f [] ys z = refl
fold_both f (x ∷ xs) ys z = fold_both f xs ys (f z x)

-- a test that none fails
none_false : (n : ℕ) (bs : List Bool) → AllTrue bs → first_false n bs ≡ None
none_false n [] h = refl
none_false n (true ∷ bs) h = none_false (suc n) bs h.1
none_false n (false ∷ bs) h = absurd (let e : false ≡ true = h.0 in cc)

twice_min : (ls : List Limits) → table_min (map doubled ls) ≡ table_min ls + table_min ls
twice_min [] = refl
twice_min (l ∷ ls) = omega arith

module _ (p : Program) where
  abbrev m : Module
  m = p.module_

  abbrev m' : Module
  m' = new_module p

  -- an entry under a map of functions
  abbrev go : (ℕ → ℕ) → Option ℕ → Option ℕ
  go h = option_map h

  abbrev size : ℕ
  size = table_min m.tables

  -- the bytes of the memory at first
  abbrev bytes : ℕ
  bytes = 65536 * memory_min m.memories

  globals_start : globals_at_start m' ≡ globals_at_start m ++ values.I32 0 ∷ values.I64 (less_word bytes) ∷ []
  globals_start = map-append (λ g. unwrap_or (const_value [] g.init.ops) (zero_of g.vtype)) m.globals _

  -- an offset of the module is the same in both
  offset_same : (b : Body) → i32_or_zero (const_value (globals_at_start m') b.ops) ≡ i32_or_zero (const_value (globals_at_start m) b.ops)
  offset_same b = ap (λ gs. i32_or_zero (const_value gs b.ops)) globals_start ∙ const_more (globals_at_start m) (less_word bytes) b.ops

  data_same : (s : DataSeg) → data_at m' s ≡ data_at m s
  data_same s = ap (λ gs. i32_or_zero (const_value gs s.offset.ops)) globals_start ∙ const_more (globals_at_start m) (less_word bytes) s.offset.ops

  some_map : (h : ℕ → ℕ) (fs : List ℕ) → map Some (map h fs) ≡ map (go h) (map Some fs)
  some_map h [] = refl
  some_map h (f ∷ fs) = ap (λ z. Some (h f) ∷ z) (some_map h fs)

  -- the segments, where the table is doubled or not
  abbrev shown_by : Bool → List ElementSeg → List ElementSeg
  shown_by q es = if q then map (shown_element m) es else []

  abbrev inner_by : Bool → ElementSeg → ElementSeg
  inner_by q e = record { table = e.table; offset = if q then number_init (element_at m e + size) else e.offset; functions = map (mapped m) e.functions }

  abbrev tables_by : Bool → List Limits
  tables_by q = if q then map doubled m.tables else m.tables

  abbrev entries_by : Bool → List (Option ℕ) → List (Option ℕ)
  entries_by q t = (if q then map (go (shown m)) t else []) ++ map (go (mapped m)) t

  -- a segment is put into the table of the new module, and into that of the module
  abbrev put' : List (Option ℕ) → ElementSeg → List (Option ℕ)
  put' t e = runs_.over t (element_at m' e) (map Some e.functions)

  abbrev put : List (Option ℕ) → ElementSeg → List (Option ℕ)
  put t e = runs_.over t (element_at m e) (map Some e.functions)

  over_mapped : (h : ℕ → ℕ) (t : List (Option ℕ)) (at : ℕ) (fs : List ℕ) → runs_.over (map (go h) t) at (map Some (map h fs)) ≡ map (go h) (runs_.over t at (map Some fs))
  over_mapped h t at fs = ap (runs_.over (map (go h) t) at) (some_map h fs) ∙ sym (map-over (go h) t (map Some fs) at)

  -- where it is not doubled
  table_fold : (es : List ElementSeg) (t : List (Option ℕ)) → fold put' (map (go (mapped m)) t) (map (inner_by false) es) ≡ map (go (mapped m)) (fold put t es)
  table_fold [] t = refl
  table_fold (e ∷ es) t =
      ap (λ z. fold put' z (map (inner_by false) es)) (ap (λ n. runs_.over (map (go (mapped m)) t) n (map Some (map (mapped m) e.functions))) (offset_same e.offset) ∙ over_mapped (mapped m) t (element_at m e) e.functions)
      ∙ table_fold es (put t e)

  -- where it is: first those for a host, and then those behind
  front_fold : (es : List ElementSeg) (t back : List (Option ℕ)) → length t ≡ size → AllTrue (map (element_fits m) es) → fold put' (map (go (shown m)) t ++ back) (map (shown_element m) es) ≡ map (go (shown m)) (fold put t es) ++ back
  front_fold [] t back n h = refl
  front_fold (e ∷ es) t back n h =
      let le = leb-true (element_at m e + length e.functions) size h.0 in
      let new = map Some (map (shown m) e.functions) in
      let k : length new ≡ length e.functions = length-map (map (shown m) e.functions) Some ∙ length-map e.functions (shown m) in
      let k1 : length (map Some e.functions) ≡ length e.functions = length-map e.functions Some in
      let long : length (map (go (shown m)) t) ≡ size = length-map t (go (shown m)) ∙ n in
      let one : put' (map (go (shown m)) t ++ back) (shown_element m e) ≡ map (go (shown m)) (put t e) ++ back = ap (λ at. runs_.over (map (go (shown m)) t ++ back) at new) (offset_same e.offset)
      ∙ over_front (map (go (shown m)) t) back new (element_at m e) (omega (arith, le, k, long)) ∙ ap (λ z. z ++ back) (over_mapped (shown m) t (element_at m e) e.functions) in
      ap (λ z. fold put' z (map (shown_element m) es)) one ∙ front_fold es (put t e) back (over_len t (map Some e.functions) (element_at m e) (omega (arith, le, k1, n)) ∙ n) h.1

  back_fold : (es : List ElementSeg) (t front : List (Option ℕ)) → length front ≡ size → fold put' (front ++ map (go (mapped m)) t) (map (inner_by true) es) ≡ front ++ map (go (mapped m)) (fold put t es)
  back_fold [] t front n = refl
  back_fold (e ∷ es) t front n =
      let new = map Some (map (mapped m) e.functions) in
      let at : element_at m e + size ≡ length front + element_at m e = omega (arith, n) in
      let one : put' (front ++ map (go (mapped m)) t) (inner_by true e) ≡ front ++ map (go (mapped m)) (put t e) = ap (λ k. runs_.over (front ++ map (go (mapped m)) t) k new) at
      ∙ over_behind front (map (go (mapped m)) t) new (element_at m e) ∙ ap (λ z. front ++ z) (over_mapped (mapped m) t (element_at m e) e.functions) in
      ap (λ z. fold put' z (map (inner_by true) es)) one ∙ back_fold es (put t e) front n

  table_by : (q : Bool) → doubles m ≡ q → fold put' (replicate (table_min (tables_by q)) None) (shown_by q m.elements ++ map (inner_by q) m.elements) ≡ entries_by q (start_table m)
  table_by false d = ap (λ z. fold put' z (map (inner_by false) m.elements)) (sym (map-replicate (go (mapped m)) size None)) ∙ table_fold m.elements (replicate size None)
  table_by true d =
      let none : List (Option ℕ) = replicate size None in
      let fit = segments_fit m d in
      let first : replicate (table_min (map doubled m.tables)) None ≡ map (go (shown m)) none ++ map (go (mapped m)) none = ap (λ n. replicate n None) (twice_min m.tables) ∙ replicate_both size size None
      ∙ ap₂ (λ a b. a ++ b) (sym (map-replicate (go (shown m)) size None)) (sym (map-replicate (go (mapped m)) size None)) in
      let long : length (map (go (shown m)) (start_table m)) ≡ size = length-map (start_table m) (go (shown m)) ∙ start_long m fit in
      fold_both put' (map (shown_element m) m.elements) (map (inner_by true) m.elements) (replicate (table_min (map doubled m.tables)) None)
      ∙ ap (λ z. fold put' (fold put' z (map (shown_element m) m.elements)) (map (inner_by true) m.elements)) first
      ∙ ap (λ z. fold put' z (map (inner_by true) m.elements)) (front_fold m.elements none (map (go (mapped m)) none) (length-replicate size None) fit)
      ∙ back_fold m.elements none (map (go (shown m)) (start_table m)) long

  pub table_start : start_table m' ≡ new_entries m (start_table m)
  table_start = table_by (doubles m) refl

  memory_fold : (ss : List DataSeg) (k : Memory) → fold (λ k s. record k { bytes = runs_.over k.bytes (data_at m' s) s.bytes }) k ss ≡ fold (λ k s. record k { bytes = runs_.over k.bytes (data_at m s) s.bytes }) k ss
  memory_fold [] k = refl
  memory_fold (s ∷ ss) k = ap (λ n. fold (λ k s. record k { bytes = runs_.over k.bytes (data_at m' s) s.bytes }) (record k { bytes = runs_.over k.bytes n s.bytes }) ss) (data_same s) ∙ memory_fold ss (record k { bytes = runs_.over k.bytes (data_at m s) s.bytes })

  memory_option : (o : Option Memory) → option_map (λ memory. fold (λ k s. record k { bytes = runs_.over k.bytes (data_at m' s) s.bytes }) memory m.segments) o ≡ option_map (λ memory. fold (λ k s. record k { bytes = runs_.over k.bytes (data_at m s) s.bytes }) memory m.segments) o
  memory_option None = refl
  memory_option (Some k) = ap Some (memory_fold m.segments k)

  memory_start : start_memory m' ≡ start_memory m
  memory_start = memory_option (empty_memory m.memories)

  pub world_start : (d : ℕ) (replies : List Reply) → byte_count (start_memory m) ≡ bytes → start_world m' replies ≡ flagged (engine p false d) (start_world m replies) (values.I32 0)
  world_start d replies measured =
      let all : globals_at_start m' ≡ globals_at_start m ++ values.I32 0 ∷ values.I64 (told_length (start_memory m)) ∷ [] = globals_start ∙ ap (λ (n : ℕ). globals_at_start m ++ values.I32 0 ∷ values.I64 (less_word n) ∷ []) (sym measured) in
      λ i. record { globals = all i; memory = memory_start i; table = table_start i; replies = replies; served = [] }

  -- ---- the segments fit in both

  abbrev fits_by : Bool → ElementSeg → Bool
  fits_by q e = nat_le (element_at m' e + length e.functions) (table_min (tables_by q))

  elements_fit : (es : List ElementSeg) → map (fits_by false) (map (inner_by false) es) ≡ map (element_fits m) es
  elements_fit [] = refl
  elements_fit (e ∷ es) = ap₂ (λ a b. a ∷ b) (ap₂ (λ n k. nat_le (n + k) size) (offset_same e.offset) (length-map e.functions (mapped m))) (elements_fit es)

  shown_fit : (es : List ElementSeg) → AllTrue (map (element_fits m) es) → AllTrue (map (fits_by true) (map (shown_element m) es))
  shown_fit [] h = tt
  shown_fit (e ∷ es) h =
      let le = leb-true (element_at m e + length e.functions) size h.0 in
      let at : element_at m' (shown_element m e) ≡ element_at m e = offset_same e.offset in
      (le-leb _ _ (omega (arith, le, at, length-map e.functions (shown m), twice_min m.tables)), shown_fit es h.1)

  inner_fit : (es : List ElementSeg) → AllTrue (map (element_fits m) es) → AllTrue (map (fits_by true) (map (inner_by true) es))
  inner_fit [] h = tt
  inner_fit (e ∷ es) h =
      let le = leb-true (element_at m e + length e.functions) size h.0 in
      (le-leb _ _ (omega (arith, le, length-map e.functions (mapped m), twice_min m.tables)), inner_fit es h.1)

  both_true : (xs ys : List Bool) → AllTrue xs → AllTrue ys → AllTrue (xs ++ ys)
  both_true [] ys h k = k
  both_true (x ∷ xs) ys h k = (h.0, both_true xs ys h.1 k)

  first_by : (q : Bool) → doubles m ≡ q → first_false 0 (map (fits_by q) (shown_by q m.elements ++ map (inner_by q) m.elements)) ≡ first_false 0 (map (element_fits m) m.elements)
  first_by false d = ap (first_false 0) (elements_fit m.elements)
  first_by true d =
      let fit = segments_fit m d in
      let all = both_true (map (fits_by true) (map (shown_element m) m.elements)) (map (fits_by true) (map (inner_by true) m.elements)) (shown_fit m.elements fit) (inner_fit m.elements fit) in
      ap (first_false 0) (map-append (fits_by true) (map (shown_element m) m.elements) (map (inner_by true) m.elements)) ∙ none_false 0 _ all ∙ sym (none_false 0 (map (element_fits m) m.elements) fit)

  data_fit : (ss : List DataSeg) → map (data_fits m') ss ≡ map (data_fits m) ss
  data_fit [] = refl
  data_fit (s ∷ ss) = ap₂ (λ a b. a ∷ b) (ap (λ n. nat_le (n + length s.bytes) (length (memory_bytes (empty_memory m.memories)))) (data_same s)) (data_fit ss)

  segments_of : Option ℕ → List Bool → Option runs_.Cause
  segments_of None ds = by_data (first_false 0 ds)
  segments_of (Some i) ds = Some (runs_.element_out i)

  by_element_is : (n : Module) (q : Option ℕ) → by_element n q ≡ segments_of q (map (data_fits n) n.segments)
  unfolding segments_of
  by_element_is n None = refl
  by_element_is n (Some i) = refl

  pub segments_same : cause_of_segments m' ≡ cause_of_segments m
  segments_same =
      by_element_is m' (first_false 0 (map (element_fits m') m'.elements)) ∙ ap₂ segments_of (first_by (doubles m) refl) (data_fit m.segments) ∙ sym (by_element_is m (first_false 0 (map (element_fits m) m.elements)))

-- ---- exports

-- how a function that is named from outside appears in the new module
abbrev pub Outside : Module → ℕ → ℕ → Type 0
Outside m f f' = ((f' ≡ f) × (nat_lt f (import_count m) ≡ true)) ⊎ ((j : ℕ) × (f' ≡ wrapper_base m + j) × (slice_get (wrapped m) j ≡ Some f) × (nat_lt f (import_count m) ≡ false))

module _ (m : Module) (name : List ℕ) where
  abbrev test : Export → Bool
  test e = is_function e.kind && bytes_eq e.name name

  abbrev renew : ℕ → Export → Export
  renew k e = record { name = e.name; kind = e.kind; index = new_index m k (wraps m e) e.index }

  -- what is found in the one list and in the other
  abbrev Finds : List ℕ → ℕ → Option Export → Option Export → Type 0
  Finds ws k None q = q ≡ None
  Finds ws k (Some e) q = (j : ℕ) × (q ≡ Some (renew (k + j) e)) × ((f : ℕ) → wraps m e ≡ f ∷ [] → slice_get ws j ≡ Some f) × (is_function e.kind ≡ true)

  no_memory : {A : Type 0} (ls : List A) → find test (memory_export ls) ≡ None
  no_memory [] = refl
  no_memory (l ∷ ls) = refl

  later : (e : Export) (ws : List ℕ) (k : ℕ) (q q' : Option Export) → Finds ws (k + length (wraps m e)) q q' → Finds (wraps m e ++ ws) k q q'
  later e ws k None q' h = h
  later e ws k (Some x) q' h =
      let z : k + length (wraps m e) + h.0 ≡ k + (length (wraps m e) + h.0) = omega arith in
      (length (wraps m e) + h.0, h.1 ∙ ap (λ n. Some (renew n x)) z, (λ f w. get_right (wraps m e) ws h.0 (length (wraps m e) + h.0) refl ∙ h.2 f w), h.3)

  finds : {A : Type 0} (es : List Export) (k : ℕ) (ls : List A) → Finds (flat_map (wraps m) es) k (find test es) (find test (new_exports m k es ++ memory_export ls))
  finds [] k ls = no_memory ls
  finds (e ∷ es) k ls = by_test (test e) refl (finds es (k + length (wraps m e)) ls)
    where
      fst_true : (a b : Bool) → (a && b) ≡ true → a ≡ true
      fst_true true b e = refl
      fst_true false b e = absurd (cc)

      by_test : (q : Bool) → test e ≡ q → Finds (flat_map (wraps m) es) (k + length (wraps m e)) (find test es) (find test (new_exports m (k + length (wraps m e)) es ++ memory_export ls)) → Finds (wraps m e ++ flat_map (wraps m) es) k (cond q (Some e) (find test es)) (cond q (Some (renew k e)) (find test (new_exports m (k + length (wraps m e)) es ++ memory_export ls)))
      by_test true t h =
          let z : k ≡ k + 0 = omega arith in
          (0, ap (λ n. Some (renew n e)) z, (λ f w. ap (λ l. slice_get (l ++ flat_map (wraps m) es) 0) w), fst_true (is_function e.kind) (bytes_eq e.name name) t)
      by_test false t h = later e (flat_map (wraps m) es) k (find test es) (find test (new_exports m (k + length (wraps m e)) es ++ memory_export ls)) h

pub record Named (p : Program) (name : List ℕ) (f : ℕ) : Type 0 where
  pub there : ℕ
  pub found : function_export (new_module p) name ≡ Some there
  pub outside : Outside p.module_ f there

module _ (p : Program) (name : List ℕ) where
  abbrev mm : Module
  mm = p.module_

  wraps_by : (e : Export) (j : ℕ) (q b : Bool) → is_function e.kind ≡ true → nat_lt e.index (import_count mm) ≡ b → ((f : ℕ) → wraps mm e ≡ f ∷ [] → slice_get (export_wrapped mm) j ≡ Some f) → Outside mm e.index (new_index mm (0 + j) (wraps mm e) e.index)
  wraps_by e j q true fk lt h = inl (rw (fk, lt) refl, lt)
  wraps_by e j q false fk lt h =
      let w : wraps mm e ≡ e.index ∷ [] = rw (fk, lt) refl in
      let z : 0 + j ≡ j = omega arith in
      inr (j, ap (λ l. new_index mm (0 + j) l e.index) w ∙ ap (λ n. wrapper_base mm + n) z, get_front (named_wrapped mm) (table_wraps mm) j e.index (get_front (export_wrapped mm) (start_wraps mm mm.start) j e.index (h e.index w)), lt)

  named_by : (q q' : Option Export) → find (test mm name) mm.exports ≡ q → find (test mm name) (new_module p).exports ≡ q' → Finds mm name (export_wrapped mm) 0 q q' → (f : ℕ) → option_map (λ e. e.index) q ≡ Some f → Named p name f
  named_by None q' e e' h f o = absurd (cc)
  named_by (Some x) q' e e' h f o =
      let same : x.index ≡ f = cc in
      record { there = new_index mm (0 + h.0) (wraps mm x) x.index; found = ap (option_map (λ e. e.index)) (e' ∙ h.1); outside = subst (λ z. Outside mm z (new_index mm (0 + h.0) (wraps mm x) x.index)) same (wraps_by x h.0 true (nat_lt x.index (import_count mm)) h.3 refl h.2) }

  pub named : (f : ℕ) → function_export mm name ≡ Some f → Named p name f
  named f o = named_by (find (test mm name) mm.exports) (find (test mm name) (new_module p).exports) refl refl (finds mm name mm.exports 0 mm.memories) f o

  unnamed_by : (q q' : Option Export) → find (test mm name) (new_module p).exports ≡ q' → Finds mm name (export_wrapped mm) 0 q q' → option_map (λ e. e.index) q ≡ None → function_export (new_module p) name ≡ None
  unnamed_by None q' e' h o = ap (option_map (λ e. e.index)) (e' ∙ h)
  unnamed_by (Some x) q' e' h o = absurd (cc)

  pub unnamed : function_export mm name ≡ None → function_export (new_module p) name ≡ None
  unnamed o = unnamed_by (find (test mm name) mm.exports) (find (test mm name) (new_module p).exports) refl (finds mm name mm.exports 0 mm.memories) o

  -- the start function
  start_by : (s : ℕ) (b : Bool) → mm.start ≡ Some s → nat_lt s (import_count mm) ≡ b → (s' : ℕ) × ((new_module p).start ≡ Some s') × Outside mm s s'
  start_by s true e lt = (s, rw (e, lt) refl, inl (refl, lt))
  start_by s false e lt =
      (wrapper_base mm + length (export_wrapped mm), rw (e, lt) refl, inr (length (export_wrapped mm), refl, get_front (named_wrapped mm) (table_wraps mm) (length (export_wrapped mm)) s (get_right (export_wrapped mm) (start_wraps mm mm.start) 0 (length (export_wrapped mm)) (omega arith) ∙ rw (e, lt) refl), lt))

  pub started : (s : ℕ) → mm.start ≡ Some s → (s' : ℕ) × ((new_module p).start ≡ Some s') × Outside mm s s'
  started s e = start_by s (nat_lt s (import_count mm)) e refl

  pub not_started_ : mm.start ≡ None → (new_module p).start ≡ None
  not_started_ e = rw e refl
