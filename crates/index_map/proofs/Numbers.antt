-- The numbers of a rewritten module are distinct.
use Rattle.std.proofs.Common.{◌≡◌, ◌≢◌, ℕ, zero, suc, ◌+◌, ◌<◌, ◌≤◌, Bool, true, false, nat_lt, if◌then◌else◌, List, [], ◌∷◌, ◌++◌, length, flat_map, map, take, slice_get, Some, inl, inr, refl, ap, ap₂, ◌∙◌, arith, length-append}
use Rattle.std.specs.Prelude.{◌==◌}
use Rattle.std.proofs.lemmas.Bool.{cases_lt}
use Rattle.std.proofs.lemmas.Bool.Decides.{nat_tests}
use Rattle.std.proofs.lemmas.List.{length-map}
use Rattle.wasm_syntax.specs.declared.value.ValType.{ValType}
use Rattle.wasm_syntax.specs.declared.value.ValType.TheVariants.{I32, I64}
use Rattle.wasm_syntax.specs.declared.parts.Export.{Export}
use Rattle.wasm_syntax.specs.declared.module.ModuleParts.{ModuleParts as Module}
use Rattle.wasm_syntax.specs.Module.{function_types}
use Rattle.rewrite_bodies.specs.Numbering.{import_count, mapped, type_number, value_import, frame_import, wraps, start_wraps, export_wrapped, named_wrapped, table_wraps, wrapper_base, helper_base, is_in, place_in}
use Rattle.rewrite_modules.specs.calls.Instrument.{new_index, new_exports}
use Rattle.index_map.specs.calls.Wrapper.{HasWrapper, wrapper_of}
use Rattle.pm_text.proofs.Lists.{some_is}

-- ---- functions and the collector's imports

pub functions_apart : (m : Module) (f g : ℕ) → mapped m f ≡ mapped m g → f ≡ g
functions_apart m f g e = by (nat_lt f (import_count m)) (nat_lt g (import_count m)) refl refl e
  where
    by : (p q : Bool) → nat_lt f (import_count m) ≡ p → nat_lt g (import_count m) ≡ q → (if p then f else 3 + f) ≡ (if q then g else 3 + g) → f ≡ g
    by true true a b e = e
    by true false a b e = absurd (grind (arith, nat_tests))
    by false true a b e = absurd (grind (arith, nat_tests))
    by false false a b e = omega (arith, e)

low_type : (t : ValType) → type_number t < 2
low_type I32 = omega arith
low_type I64 = omega arith

-- no function of the module stands among the three imports
pub functions_around : (m : Module) (f k : ℕ) → k < 3 → mapped m f ≢ import_count m + k
functions_around m f k lt = by (nat_lt f (import_count m)) refl
  where
    by : (p : Bool) → nat_lt f (import_count m) ≡ p → (if p then f else 3 + f) ≢ import_count m + k
    by true a = λ e. grind (arith, nat_tests)
    by false a = λ e. grind (arith, nat_tests)

pub values_apart : (m : Module) (t u : ValType) → value_import m t ≡ value_import m u → t ≡ u
values_apart m I32 I32 e = refl
values_apart m I32 I64 e = absurd (omega (arith, e))
values_apart m I64 I32 e = absurd (omega (arith, e))
values_apart m I64 I64 e = refl

pub value_around : (m : Module) (f : ℕ) (t : ValType) → mapped m f ≢ value_import m t
value_around m f t = functions_around m f (type_number t) (omega (arith, low_type t))

pub frame_around : (m : Module) (f : ℕ) → mapped m f ≢ frame_import m
frame_around m f = functions_around m f 2 (omega arith)

pub value_no_frame : (m : Module) (t : ValType) → value_import m t ≢ frame_import m
value_no_frame m t = λ e. omega (arith, e, low_type t)

pub functions_low : (m : Module) (f : ℕ) → f < length (function_types m) → mapped m f < wrapper_base m
functions_low m f lt = by (nat_lt f (import_count m)) refl
  where
    few : f < length m.imports + length m.functions
    few = omega (arith, lt, length-append (map (λ i. i.ftype) m.imports) m.functions, length-map m.imports (λ i. i.ftype))

    by : (p : Bool) → nat_lt f (import_count m) ≡ p → (if p then f else 3 + f) < wrapper_base m
    by true a = omega (arith, few)
    by false a = omega (arith, few)

-- ---- wrappers

taken_few : {A : Type 0} (go : A → List ℕ) (xs : List A) (i : ℕ) (x : A) → slice_get xs i ≡ Some x → length (flat_map go (take i xs)) + length (go x) ≤ length (flat_map go xs)
taken_few go [] i x e = absurd cc
taken_few go (y ∷ ys) zero x e = let same : length (go y) ≡ length (go x) = ap (λ z. length (go z)) (some_is e) in omega (arith, same, length-append (go y) (flat_map go ys))
taken_few go (y ∷ ys) (suc i) x e = omega (arith, taken_few go ys i x e, length-append (go y) (flat_map go ys), length-append (go y) (flat_map go (take i ys)))

-- what stands before an element that gives something is less than what stands before a later one
taken_rise : {A : Type 0} (go : A → List ℕ) (xs : List A) (i j : ℕ) (x : A) → slice_get xs i ≡ Some x → i < j → length (flat_map go (take i xs)) + length (go x) ≤ length (flat_map go (take j xs))
taken_rise go [] i j x e lt = absurd cc
taken_rise go (y ∷ ys) i zero x e lt = absurd (omega (arith, lt))
taken_rise go (y ∷ ys) zero (suc j) x e lt = let same : length (go y) ≡ length (go x) = ap (λ z. length (go z)) (some_is e) in omega (arith, same, length-append (go y) (flat_map go (take j ys)))
taken_rise go (y ∷ ys) (suc i) (suc j) x e lt = omega (arith, taken_rise go ys i j x e (omega (arith, lt)), length-append (go y) (flat_map go (take i ys)), length-append (go y) (flat_map go (take j ys)))

later : (m : Module) (i j : ℕ) → HasWrapper m i → i < j → wrapper_of m i < wrapper_of m j
later m i j h lt =
    let one : length (wraps m h.0) ≡ 1 = ap length h.2 in
    omega (arith, one, taken_rise (wraps m) m.exports i j h.0 h.1 lt)

pub wrappers_apart : (m : Module) (i j : ℕ) → HasWrapper m i → HasWrapper m j → wrapper_of m i ≡ wrapper_of m j → i ≡ j
wrappers_apart m i j h k e =
    elim (cases_lt i j) [
      | inl lt ↦ absurd (let z = later m i j h lt in omega (arith, z, e))
      | inr le ↦ elim (cases_lt j i) [
        | inl lt ↦ absurd (let z = later m j i k lt in omega (arith, z, e))
        | inr ge ↦ omega (arith, le, ge)
      ]
    ]

pub wrapper_within : (m : Module) (i : ℕ) → HasWrapper m i → wrapper_of m i < helper_base m
wrapper_within m i h =
    let one : length (wraps m h.0) ≡ 1 = ap length h.2 in
    omega (arith, one, taken_few (wraps m) m.exports i h.0 h.1, length-append (named_wrapped m) (table_wraps m), length-append (export_wrapped m) (start_wraps m m.start))

-- the number that an export gets
pub index_at : (m : Module) (k : ℕ) (es : List Export) (i : ℕ) (e : Export) → slice_get es i ≡ Some e → slice_get (map (λ e. e.index) (new_exports m k es)) i ≡ Some (new_index m (k + length (flat_map (wraps m) (take i es))) (wraps m e) e.index)
index_at m k [] i e at = absurd cc
index_at m k (x ∷ xs) zero e at =
    let same : k ≡ k + 0 = omega arith in
    ap₂ (λ (n : ℕ) (y : Export). Some (new_index m n (wraps m y) y.index)) same (some_is at)
index_at m k (x ∷ xs) (suc i) e at =
    let more : k + length (wraps m x) + length (flat_map (wraps m) (take i xs)) ≡ k + length (wraps m x ++ flat_map (wraps m) (take i xs)) = omega (arith, length-append (wraps m x) (flat_map (wraps m) (take i xs))) in
    index_at m (k + length (wraps m x)) xs i e at ∙ ap (λ n. Some (new_index m n (wraps m e) e.index)) more

pub wrapper_at : (m : Module) (i : ℕ) → HasWrapper m i → slice_get (map (λ e. e.index) (new_exports m 0 m.exports)) i ≡ Some (wrapper_of m i)
wrapper_at m i h =
    let same : 0 + length (flat_map (wraps m) (take i m.exports)) ≡ length (flat_map (wraps m) (take i m.exports)) = omega arith in
    index_at m 0 m.exports i h.0 h.1 ∙ ap₂ (λ (n : ℕ) (ws : List ℕ). Some (new_index m n ws h.0.index)) same h.2

-- ---- helpers

pub helpers_apart : (t u : ℕ) (us : List ℕ) → is_in t us ≡ true → is_in u us ≡ true → place_in t us ≡ place_in u us → t ≡ u
helpers_apart t u [] h k e = absurd cc
helpers_apart t u (x ∷ xs) h k e = by (t == x) (u == x) refl refl h k e (helpers_apart t u xs)
  where
    by : (p q : Bool) → (t == x) ≡ p → (u == x) ≡ q → (if p then true else is_in t xs) ≡ true → (if q then true else is_in u xs) ≡ true → (if p then 0 else suc (place_in t xs)) ≡ (if q then 0 else suc (place_in u xs)) → (is_in t xs ≡ true → is_in u xs ≡ true → place_in t xs ≡ place_in u xs → t ≡ u) → t ≡ u
    by true true a b h k e ih = grind (arith, nat_tests)
    by true false a b h k e ih = absurd (omega (arith, e))
    by false true a b h k e ih = absurd (omega (arith, e))
    by false false a b h k e ih = ih h k (omega (arith, e))
