-- The encoding of a rewritten module takes at most its weight.
use Rattle.std.proofs.Common.{◌≡◌, ℕ, suc, ◌+◌, ◌*◌, ◌≤◌, Bool, true, false, nat_lt, if◌then◌else◌, List, [], ◌∷◌, ◌++◌, length, map, flat_map, Option, Some, None, refl, sym, ap, subst, arith, slice_get, ◌∙◌}
use Rattle.wasm_syntax.specs.declared.parts.FuncType.{FuncType}
use Rattle.wasm_syntax.specs.declared.parts.Export.{Export}
use Rattle.wasm_syntax.specs.declared.parts.Body.{Body}
use Rattle.wasm_syntax.specs.declared.module.ModuleParts.{ModuleParts as Module}
use Rattle.wasm_syntax.specs.Tree.{stop, Tree}
use Rattle.wasm_syntax.specs.Module.{Program, Function, imported, defined, function_at, type_at, is_function}
use Rattle.wasm_syntax.specs.Run.{table_min}
use Rattle.wasm_syntax.specs.Sizes.{local_count}
use Rattle.wasm_encode.specs.Encoding.{entry_bytes, encoding, expression_bytes}
use Rattle.wasm_format_laws.specs.calls.Sized.{Sized}
use Rattle.rewrite_bodies.specs.Numbering.{import_count, wraps, start_wraps, export_wrapped, named_wrapped, table_functions, doubles, table_wraps, wrapped, entry_weight, helped, distinct}
use Rattle.rewrite_bodies.proofs.Doubled.{table_light, weights_more}
use Rattle.rewrite_bodies.specs.calls.Slots.{ctx_of, slots_of}
use Rattle.rewrite_bodies.specs.calls.Guards.{helper}
use Rattle.wasm_syntax.specs.SameCode.{code_alone}
use Rattle.rewrite_modules.specs.calls.FlatCode.{body_of}
use Rattle.rewrite_modules.specs.calls.Instrument.{new_nodes, new_body, each, wrapper_type, new_module}
use Rattle.rewrite_modules.specs.Instrumentable.{program_of, Instrumentable}
use Rattle.rewrite_modules.specs.Weight.{height_at, ops_weight, bodies_weight, types_used, exports_weight, start_weight, weight}
use Rattle.rewrite_modules.specs.calls.Wrappers.{wrapper}
use Rattle.rewrite_modules.proofs.Links.{is_defined}
use Rattle.wasm_format_laws.proofs.Totals.{total, total-append, total-map, total_times, total_many}
use Rattle.wasm_format_laws.proofs.Numbers.{some_bytes}
use Rattle.wasm_leb.specs.Writing.{unsigned_bytes}
use Rattle.std.specs.Prelude.{sum}
use Rattle.rewrite_promise.proofs.Items.{old_expression, peak_few}
use Rattle.rewrite_promise.proofs.Bodies.{few_imports, code_short, same_body, from_first}
use Rattle.rewrite_promise.proofs.Pieces.{plain_entry, wrapper_entry, helper_entry, slots_entry}
use Rattle.rewrite_promise.proofs.Sections.{contents_most, contents_bare, types_grow, imports_grow, functions_grow, globals_grow, exports_grow, added_elements, elements_grow, tables_grow}
use Rattle.wasm_syntax.proofs.Bodies.{tree_there}
use Rattle.rewrite_modules.proofs.CodeLengths.{all_used, expression_total}
use Rattle.rewrite_modules.proofs.EncodedLengths.{contents, contents_least, instr_some}
use Rattle.std.proofs.lemmas.List.{length-map}
use Rattle.wasm_syntax.specs.declared.parts.ElementSeg.{ElementSeg}
use Rattle.std.specs.List.{AllByRecursion}
use Rattle.wasm_syntax.specs.Valid.{ElementFine, ConstBody}
use Rattle.wasm_laws.proofs.Lists.{all_of}
use Rattle.wasm_syntax.specs.declared.value.ValType.TheVariants.{I32}
use Rattle.wasm_syntax.specs.declared.place.Place.TheVariants as places
use Rattle.wasm_format.specs.Encoding.{encoding as instruction_bytes}

-- ---- wrappers: as many as exports of functions and the start function weigh

module _ (m : Module) (go : ℕ → ℕ) (weighs : (f : ℕ) → go f ≤ entry_weight m f) where
  wraps_weigh : (q r : Bool) (f : ℕ) → total go (if q then (if r then [] else f ∷ []) else []) ≤ (if q then entry_weight m f else 0)
  wraps_weigh true true f = omega arith
  wraps_weigh true false f = omega (arith, weighs f)
  wraps_weigh false r f = omega arith

  exports_weigh : (es : List Export) → total go (flat_map (wraps m) es) ≤ exports_weight m es
  exports_weigh [] = omega arith
  exports_weigh (e ∷ es) =
      let a = total-append go (wraps m e) (flat_map (wraps m) es) in
      let b = wraps_weigh (is_function e.kind) (nat_lt e.index (import_count m)) e.index in
      omega (arith, a, b, exports_weigh es)

  start_weighs : (s : Option ℕ) → total go (start_wraps m s) ≤ start_weight m s
  start_weighs None = omega arith
  start_weighs (Some f) = by (nat_lt f (import_count m))
    where
      by : (r : Bool) → total go (if r then [] else f ∷ []) ≤ entry_weight m f
      by true = omega arith
      by false = omega (arith, weighs f)

  functions_weigh : (fs : List ℕ) → total go fs ≤ sum (map (entry_weight m) fs)
  functions_weigh [] = omega arith
  functions_weigh (f ∷ fs) = let more = weights_more m f fs in omega (arith, weighs f, functions_weigh fs, more)

  wrapped_weigh : total go (wrapped m) ≤ exports_weight m m.exports + start_weight m m.start + sum (map (entry_weight m) (table_wraps m))
  wrapped_weigh = omega (arith, total-append go (named_wrapped m) (table_wraps m), total-append go (export_wrapped m) (start_wraps m m.start), exports_weigh m.exports, start_weighs m.start, functions_weigh (table_wraps m))

-- what is added for a table is light, and nothing where it is not doubled
added_light : (m : Module) → sum (map (entry_weight m) (table_wraps m)) + added_elements (doubles m) m ≤ 2 * m.plain_bytes + 128
added_light m = by (doubles m) refl
  where
    by : (q : Bool) → doubles m ≡ q → sum (map (entry_weight m) (if q then table_functions m else [])) + added_elements q m ≤ 2 * m.plain_bytes + 128
    by false d = omega arith
    by true d = let a = table_light m d in omega (arith, a)

-- a sum with as much more for each element
total_more : {A : Type 0} (f : A → ℕ) (n : ℕ) (xs : List A) → total (λ x. n + f x) xs ≡ total f xs + total (λ x. n) xs
total_more f n [] = refl
total_more f n (x ∷ xs) = omega (arith, total_more f n xs)

tens : {A : Type 0} (xs : List A) → total (λ x. 10) xs ≡ 10 * length xs
tens [] = refl
tens (x ∷ xs) = omega (arith, tens xs)

-- ---- the module

module _ (m : Module) (x : Instrumentable m) (sized : Sized m) where
  abbrev p : Program
  p = program_of m x.whole

  abbrev ic : ℕ
  ic = import_count m

  abbrev heights : List (List ℕ)
  heights = x.lightness.heights

  abbrev entry : Body → ℕ
  entry b = length (entry_bytes b)

  -- a defined function
  defined_short : (i : ℕ) (b : Body) (tree : Tree) (type : FuncType) → function_at p (ic + i) ≡ Some (defined b tree type) → entry (new_body p (ic + i) (Some (defined b tree type))) ≤ 6 * entry b + 2 + (192 + 16 * local_count (type_at m (length m.imports + i)) b + ops_weight (height_at heights i) 0 b.ops)
  defined_short i b tree type at =
      let f = ic + i in
      let slots = slots_of p f b tree type in
      let d = is_defined p f b tree type at in
      let w = tree_there m.bodies x.whole.trees d.number b tree x.whole.write d.body_is d.tree_is in
      let many = peak_few (ctx_of p f b type 0) tree.nodes [] in
      let bytes = old_expression b tree w in
      let W = 192 + 16 * local_count (type_at m (length m.imports + i)) b + ops_weight (height_at heights i) 0 b.ops in
      let r = slots_entry b slots W (new_nodes p f b tree type) (omega (arith, many, bytes)) (code_short m x sized i b tree type at) in
      omega (arith, r)

  none_short : (n : ℕ) → entry (body_of [] stop) ≤ n + 192
  none_short n = let a = plain_entry stop in omega (arith, a)

  pub rewritten_short : (i : ℕ) (b : Body) (q : Option Function) → function_at p (ic + i) ≡ q → slice_get m.bodies i ≡ Some b → entry (new_body p (ic + i) q) ≤ 6 * entry b + 2 + (192 + 16 * local_count (type_at m (length m.imports + i)) b + ops_weight (height_at heights i) 0 b.ops)
  rewritten_short i b None at there = let a = none_short 0 in omega (arith, a)
  rewritten_short i b (Some (imported j type)) at there = let a = none_short 0 in omega (arith, a)
  rewritten_short i b (Some (defined c tree type)) at there =
      let equal = same_body m x sized i c b tree type at there in
      let r = defined_short i c tree type at in
      subst (λ z. entry (new_body p (ic + i) (Some (defined c tree type))) ≤ 6 * entry z + 2 + (192 + 16 * local_count (type_at m (length m.imports + i)) z + ops_weight (height_at heights i) 0 z.ops)) equal r

  -- all bodies from the i-th one on
  bodies_short_ : (i f : ℕ) (bs : List Body) → f ≡ ic + i → ((k : ℕ) (b : Body) → slice_get bs k ≡ Some b → slice_get m.bodies (i + k) ≡ Some b) → total entry (each (λ f. new_body p f (function_at p f)) f bs) ≤ 6 * total entry bs + 2 * length bs + bodies_weight m heights i bs
  bodies_short_ i f [] at there = omega arith
  bodies_short_ i f (b ∷ bs) at there =
      let same : i + 0 ≡ i = omega arith in
      let here : slice_get m.bodies i ≡ Some b = subst (λ n. slice_get m.bodies n ≡ Some b) same (there 0 b refl) in
      let one0 = rewritten_short i b (function_at p (ic + i)) refl here in
      let one : entry (new_body p f (function_at p f)) ≤ 6 * entry b + 2 + (192 + 16 * local_count (type_at m (length m.imports + i)) b + ops_weight (height_at heights i) 0 b.ops) = subst (λ n. entry (new_body p n (function_at p n)) ≤ 6 * entry b + 2 + (192 + 16 * local_count (type_at m (length m.imports + i)) b + ops_weight (height_at heights i) 0 b.ops)) (sym at) one0 in
      let rest = bodies_short_ (suc i) (suc f) bs (omega (arith, at)) (λ k c e. (let n : i + suc k ≡ suc i + k = omega arith in subst (λ n. slice_get m.bodies n ≡ Some c) n (there (suc k) c e))) in
      omega (arith, one, rest)

  wrapped_ : total (λ f. 10 + entry (body_of [] (wrapper m f))) (wrapped m) ≤ exports_weight m m.exports + start_weight m m.start + sum (map (entry_weight m) (table_wraps m))
  wrapped_ = wrapped_weigh m (λ f. 10 + entry (body_of [] (wrapper m f))) (λ f. let a = wrapper_entry m f (omega (arith, few_imports m x sized)) in omega (arith, a))

  helpers_are : length (helped p) ≡ length (types_used m)
  helpers_are = ap (λ ts. length (distinct ts)) (all_used m.bodies x.whole.trees x.whole.write)

  helped_ : total (λ u. 10 + entry (body_of [] (helper m u))) (helped p) ≤ length (types_used m) * (128 + 5 * table_min m.tables)
  helped_ =
      let a = total_times (λ u. 10 + entry (body_of [] (helper m u))) (128 + 5 * table_min m.tables) (helped p) (λ u. let a = helper_entry m u in omega (arith, a)) in
      subst (λ n. total (λ u. 10 + entry (body_of [] (helper m u))) (helped p) ≤ n * (128 + 5 * table_min m.tables)) helpers_are a

  code_total : total entry (new_module p).bodies ≤ 6 * total entry m.bodies + 2 * length m.bodies + bodies_weight m heights 0 m.bodies + (total (λ f. entry (body_of [] (wrapper m f))) (wrapped m) + total (λ u. entry (body_of [] (helper m u))) (helped p))
  code_total =
      let new = each (λ f. new_body p f (function_at p f)) ic m.bodies in
      let ws = map (λ f. body_of [] (wrapper m f)) (wrapped m) in
      let hs = map (λ u. body_of [] (helper m u)) (helped p) in
      let a = bodies_short_ 0 ic m.bodies (omega arith) (from_first m x sized) in
      let b = total-append entry new (ws ++ hs) in
      let c = total-append entry ws hs in
      let d = total-map entry (λ f. body_of [] (wrapper m f)) (wrapped m) in
      let e = total-map entry (λ u. body_of [] (helper m u)) (helped p) in
      omega (arith, a, b, c, d, e)

  -- the offset of a segment takes a byte at least
  offsets_some : (es : List ElementSeg) → AllByRecursion (ElementFine m) es → AllByRecursion (λ e. 1 ≤ length (expression_bytes e.offset)) es
  offsets_some [] h = tt
  offsets_some (e ∷ es) h = (const_some e.offset h.0.1, offsets_some es h.1)
    where
      const_some : (b : Body) → ConstBody m.globals b I32 → 1 ≤ length (expression_bytes b)
      const_some b c = let n : length b.ops ≡ 2 = sym (length-map b.ops (λ o. o.code)) ∙ ap length c.1 in omega (arith, n, expression_total b, total_many (λ o. length (instruction_bytes b.targets o.code)) b.ops (λ o. instr_some b.targets o.code))

  -- there are as many functions as bodies, each with a byte for its type
  functions_some : length m.bodies ≤ total (λ n. length (unsigned_bytes n)) m.functions
  functions_some = let a = total_many (λ n. length (unsigned_bytes n)) m.functions some_bytes in omega (arith, a, x.whole.as_many)

  pub contents_weigh : 239 + contents (new_module p) ≤ weight m heights
  contents_weigh =
      let t = length m.types in
      let a = types_grow m.types in
      let b = imports_grow m.imports t in
      let c = functions_grow m.functions (wrapped m) (helped p) (wrapper_type m) (λ u. t + 3) in
      let d = globals_grow m m.globals in
      let e = exports_grow m in
      let f = elements_grow m (offsets_some m.elements (all_of (ElementFine m) m.elements (λ i. x.valid (places.ElementAt i)))) in
      let k = tables_grow m in
      let l = added_light m in
      let g = code_total in
      let h = wrapped_ in
      let i = helped_ in
      let h1 = total_more (λ f. entry (body_of [] (wrapper m f))) 10 (wrapped m) in
      let h2 = tens (wrapped m) in
      let i1 = total_more (λ u. entry (body_of [] (helper m u))) 10 (helped p) in
      let i2 = tens (helped p) in
      let z = contents_least m in
      omega (arith, a, b, c, d, e, f, g, h, h1, h2, i, i1, i2, k, l, z, sized.no_shorter, functions_some)

  -- the encoding of a module that is the rewritten one but for offsets, lengths and custom sections
  pub encoding_weighs : (other : Module) → code_alone (new_module p) ≡ code_alone other → length (encoding other) ≤ weight m heights
  encoding_weighs other e =
      let a = contents_most other in
      let b = contents_bare other in
      let c = contents_bare (new_module p) in
      let d = ap contents e in
      omega (arith, a, b, c, d, contents_weigh)
