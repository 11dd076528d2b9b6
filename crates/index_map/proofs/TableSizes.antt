-- What is weighed for a table is a number of 64 bits.
use Rattle.std.proofs.Common.{◌≡◌, ℕ, zero, suc, ◌+◌, ◌*◌, ◌^◌, ◌<◌, ◌≤◌, List, [], ◌∷◌, ◌++◌, length, map, flat_map, Bool, true, false, nat_lt, if◌then◌else◌, Option, Some, None, slice_get, refl, arith, length-append}
use Rattle.std.specs.Prelude.{sum}
use Rattle.std.specs.List.{AllByRecursion}
use Rattle.wasm_leb.specs.Writing.{unsigned_bytes}
use Rattle.wasm_syntax.specs.declared.value.ValType.{ValType}
use Rattle.wasm_syntax.specs.declared.parts.FuncType.{FuncType}
use Rattle.wasm_syntax.specs.declared.parts.ElementSeg.{ElementSeg}
use Rattle.wasm_syntax.specs.declared.module.ModuleParts.{ModuleParts as Module}
use Rattle.wasm_syntax.specs.declared.place.Place.TheVariants.{ElementAt}
use Rattle.wasm_syntax.specs.Module.{function_types, option_then}
use Rattle.wasm_syntax.specs.Sizes.{parameter_count}
use Rattle.wasm_syntax.specs.Valid.{Valid, AtIndex, ElementFine}
use Rattle.wasm_encode.specs.Encoding.{vector_bytes, value_type_bytes, function_type_bytes, global_bytes, element_bytes, expression_bytes}
use Rattle.wasm_format_laws.specs.calls.Sized.{Sized}
use Rattle.wasm_format_laws.proofs.Numbers.{some_bytes}
use Rattle.wasm_format_laws.proofs.Totals.{total, total_many, vector_total}
use Rattle.wasm_laws.proofs.Lists.{all_of, all_append}
use Rattle.rewrite_bodies.specs.Numbering.{import_count, entry_weight, is_in, distinct, element_functions, defines, table_functions}
use Rattle.rewrite_bodies.proofs.Doubled.{weights_more}
use Rattle.rewrite_modules.proofs.EncodedLengths.{global_some, contents, contents_least}
use Rattle.index_map.specs.inner.Used.{AllBelow}

-- ---- sizes

pub distinct_few : (xs : List ℕ) → length (distinct xs) ≤ length xs
distinct_few [] = omega arith
distinct_few (x ∷ xs) = by (is_in x (distinct xs)) (distinct_few xs)
  where
    by : (q : Bool) → length (distinct xs) ≤ length xs → length (if q then distinct xs else x ∷ distinct xs) ≤ suc (length xs)
    by true h = omega (arith, h)
    by false h = omega (arith, h)

defines_few : (m : Module) (fs : List ℕ) → length (flat_map (defines m) fs) ≤ length fs
defines_few m [] = omega arith
defines_few m (f ∷ fs) = by (nat_lt f (import_count m)) (defines_few m fs)
  where
    by : (q : Bool) → length (flat_map (defines m) fs) ≤ length fs → length ((if q then [] else f ∷ []) ++ flat_map (defines m) fs) ≤ suc (length fs)
    by true h = omega (arith, h)
    by false h = omega (arith, h)

element_many : (e : ElementSeg) → length e.functions ≤ length (element_bytes e)
unfolding element_bytes
element_many e =
    omega (arith, length-append (unsigned_bytes e.table) (expression_bytes e.offset ++ vector_bytes unsigned_bytes e.functions), length-append (expression_bytes e.offset) (vector_bytes unsigned_bytes e.functions), vector_total unsigned_bytes e.functions, total_many (λ f. length (unsigned_bytes f)) e.functions some_bytes)

elements_many : (es : List ElementSeg) → length (flat_map (λ e. e.functions) es) ≤ total (λ e. length (element_bytes e)) es
elements_many [] = omega arith
elements_many (e ∷ es) = omega (arith, length-append e.functions (flat_map (λ e. e.functions) es), element_many e, elements_many es)

type_many : (t : FuncType) → length t.params ≤ length (function_type_bytes t)
unfolding function_type_bytes value_type_bytes
type_many t =
    omega (arith, length-append (vector_bytes value_type_bytes t.params) (vector_bytes value_type_bytes t.results), vector_total value_type_bytes t.params, total_many (λ u. length (value_type_bytes u)) t.params (λ u. omega arith))

types_many : (ts : List FuncType) (t : ℕ) → parameter_count (slice_get ts t) ≤ total (λ t. length (function_type_bytes t)) ts
types_many [] t = omega arith
types_many (u ∷ ts) zero = omega (arith, type_many u)
types_many (u ∷ ts) (suc t) = omega (arith, types_many ts t)

module _ (m : Module) (sized : Sized m) where
  whole : contents m ≤ 134217720
  whole = omega (arith, contents_least m, sized.no_shorter, sized.within_limit)

  places_low : length (element_functions m) ≤ 134217720
  places_low = omega (arith, elements_many m.elements, whole)

  parameters_low : (o : Option ℕ) → parameter_count (option_then o (λ t. slice_get m.types t)) ≤ 134217720
  parameters_low None = omega arith
  parameters_low (Some t) = omega (arith, types_many m.types t, whole)

  entry_low : (f : ℕ) → entry_weight m f ≤ 4294967296
  entry_low f =
      omega (arith, parameters_low (slice_get (function_types m) f), total_many (λ g. length (global_bytes g)) m.globals global_some, whole)

  sum_low : (fs : List ℕ) → sum (map (entry_weight m) fs) ≤ 4294967296 * length fs
  sum_low [] = omega arith
  sum_low (f ∷ fs) = let more = weights_more m f fs in omega (arith, entry_low f, sum_low fs, more)

  pub places_fit : length (element_functions m) < 2 ^ 59
  places_fit = omega (arith, places_low)

  pub wrappers_fit : sum (map (entry_weight m) (table_functions m)) < 2 ^ 63
  wrappers_fit =
      omega (arith, sum_low (table_functions m), distinct_few (flat_map (defines m) (element_functions m)), defines_few m (element_functions m), places_low)
