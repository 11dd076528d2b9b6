-- The place of a type among those that have a helper, and of a function among those of the table.
use Rattle.std.proofs.Common.{◌≡◌, ℕ, suc, ◌+◌, ◌<◌, Bool, true, false, if◌then◌else◌, List, [], ◌∷◌, ◌++◌, length, flat_map, nat_lt, take, drop, reverse, get_or, slice_get, Option, Some, None, refl, sym, ap, subst, ◌∙◌, arith, replicate}
use Rattle.std.proofs.lemmas.List.{append-nil, get_or-replicate, length-replicate, take_all}
use Rattle.std.proofs.Math.Seq.{drop-length}
use Rattle.std.proofs.lemmas.Option.{slice_get-get_or}
use Rattle.std.specs.Prelude.{◌==◌, is_some}
use Rattle.wasm_syntax.specs.declared.parts.Body.{Body}
use Rattle.wasm_syntax.specs.declared.parts.ElementSeg.{ElementSeg}
use Rattle.rewrite_modules.proofs.Listed.{defines_both}
use Rattle.wasm_syntax.specs.declared.module.ModuleParts.{ModuleParts as Module}
use Rattle.rewrite_bodies.specs.Numbering.{import_count, is_in, distinct, place_in, element_functions, defines, table_functions}
use Rattle.rewrite_modules.specs.Weight.{types_used}
use Rattle.index_map.specs.inner.Used.{AllBelow, behind, bodies_used, HasMet}
use Rattle.index_map.specs.inner.Kept.{CanBeNumbered, AreUsed, AreShown}
use Rattle.wasm_syntax.specs.Module.{function_types}
use Rattle.index_map.proofs.Meeting.{is_in_behind}
use Rattle.index_map.proofs.Below.{distinct_below, is_in_below}
use Rattle.pm_text.proofs.Lists.{some_is}

pub place_behind : (t : ℕ) (xs : List ℕ) (k : ℕ) → behind t xs ≡ Some k → place_in t xs + suc k ≡ length xs
place_behind t [] k e = absurd (cc)
place_behind t (u ∷ us) k e = by (t == u) e (place_behind t us k)
  where
    by : (q : Bool) → (if q then Some (length us) else behind t us) ≡ Some k → (behind t us ≡ Some k → place_in t us + suc k ≡ length us) → (if q then 0 else suc (place_in t us)) + suc k ≡ suc (length us)
    by true z ih = let same : length us ≡ k = cc in omega (arith, same)
    by false z ih = let r = ih z in omega (arith, r)

-- what is behind a number that is there
pub record Behind (t : ℕ) (xs : List ℕ) : Type 0 where
  pub number : ℕ
  pub is : behind t xs ≡ Some number

pub behind_there : (t : ℕ) (xs : List ℕ) → is_in t xs ≡ true → Behind t xs
behind_there t xs e = by (behind t xs) refl
  where
    by : (o : Option ℕ) → behind t xs ≡ o → Behind t xs
    by None q = absurd (no (sym (is_in_behind t xs ∙ ap is_some q) ∙ e))
      where
        no : false ≡ true → ⊥
        no z = cc
    by (Some k) q = record { number = k; is = q }

-- A list of how many stand behind each number has those that count once; n numbers are possible.
module _ (xs us : List ℕ) (n : ℕ) (places : List (Option ℕ)) (are : us ≡ distinct xs) (count : length places ≡ n) (below : AllBelow n xs) (hold : (s : ℕ) → s < length places → get_or places s None ≡ behind s (distinct xs)) where
  has : (t : ℕ) → is_in t (distinct xs) ≡ true → (b : Behind t (distinct xs)) → slice_get places t ≡ Some (Some b.number)
  has t e b =
      let within : t < length places = omega (arith, count, is_in_below n t (distinct xs) (distinct_below n xs below) e) in
      slice_get-get_or places t None within ∙ ap Some (hold t within ∙ b.is)

  -- each is less than how many there are
  pub low : (t k : ℕ) → is_in t (distinct xs) ≡ true → slice_get places t ≡ Some (Some k) → k < length us
  low t k e at =
      let b = behind_there t (distinct xs) e in
      let same : b.number ≡ k = some_is (some_is (sym (has t e b) ∙ at)) in
      let a = place_behind t (distinct xs) b.number b.is in
      omega (arith, same, a, ap length are)

  -- the place that the list gives
  pub found : (t r : ℕ) → is_in t (distinct xs) ≡ true → ((k : ℕ) → slice_get places t ≡ Some (Some k) → r + suc k ≡ length us) → (r ≡ place_in t (distinct xs)) × (r < length (distinct xs))
  found t r e of =
      let b = behind_there t (distinct xs) e in
      let a = place_behind t (distinct xs) b.number b.is in
      let c = of b.number (has t e b) in
      let d = ap length are in
      (omega (arith, a, c, d), omega (arith, c, d))

-- of the types that have a helper
pub table_low : (m : Module) (helped : List ℕ) (places : List (Option ℕ)) → CanBeNumbered m → AreUsed m helped places → (t k : ℕ) → is_in t (types_used m) ≡ true → slice_get places t ≡ Some (Some k) → k < length helped
table_low m helped places can h = low (bodies_used m.bodies) helped (length m.types) places h.helped_is h.count can.types_there h.places_are

pub place_found : (m : Module) (helped : List ℕ) (places : List (Option ℕ)) → CanBeNumbered m → AreUsed m helped places → (t r : ℕ) → is_in t (types_used m) ≡ true → ((k : ℕ) → slice_get places t ≡ Some (Some k) → r + suc k ≡ length helped) → (r ≡ place_in t (types_used m)) × (r < length (types_used m))
place_found m helped places can h = found (bodies_used m.bodies) helped (length m.types) places h.helped_is h.count can.types_there h.places_are

-- and of the functions of the table
defined_below : (m : Module) (n : ℕ) (fs : List ℕ) → AllBelow n fs → AllBelow n (flat_map (defines m) fs)
defined_below m n [] h = tt
defined_below m n (f ∷ fs) h = by (nat_lt f (import_count m)) (defined_below m n fs h.1)
  where
    by : (q : Bool) → AllBelow n (flat_map (defines m) fs) → AllBelow n ((if q then [] else f ∷ []) ++ flat_map (defines m) fs)
    by true k = k
    by false k = (h.0, k)

pub shown_low : (m : Module) (functions : List ℕ) (places : List (Option ℕ)) → CanBeNumbered m → AreShown m functions places → (f k : ℕ) → is_in f (table_functions m) ≡ true → slice_get places f ≡ Some (Some k) → k < length functions
shown_low m functions places can h = low (flat_map (defines m) (element_functions m)) functions (length (function_types m)) places h.functions_are h.count (defined_below m (length (function_types m)) (element_functions m) can.functions_there) h.places_are

pub shown_found : (m : Module) (functions : List ℕ) (places : List (Option ℕ)) → CanBeNumbered m → AreShown m functions places → (f r : ℕ) → is_in f (table_functions m) ≡ true → ((k : ℕ) → slice_get places f ≡ Some (Some k) → r + suc k ≡ length functions) → (r ≡ place_in f (table_functions m)) × (r < length (table_functions m))
shown_found m functions places can h = found (flat_map (defines m) (element_functions m)) functions (length (function_types m)) places h.functions_are h.count (defined_below m (length (function_types m)) (element_functions m) can.functions_there) h.places_are

-- ---- what was met when all is read

-- nothing is met yet
pub begun : (n : ℕ) (first : List ℕ) (shown : List (Option ℕ)) → first ≡ [] → shown ≡ replicate n None → HasMet [] first shown
begun n first shown e d = subst (λ l. HasMet [] l shown) (sym e) (subst (λ l. HasMet [] [] l) (sym d) none)
  where
    none : HasMet [] [] (replicate n None)
    none = record { met_is = refl; places_are = λ t within. get_or-replicate n t None None (omega (arith, within, length-replicate {A = Option ℕ} n None)) }

-- the table that a slice of it wrote
pub table_kept : (made left : List (Option ℕ)) (n : ℕ) → length left ≡ length made → n ≡ length made → take n (left ++ drop (length left) made) ≡ left
table_kept made left n e d =
    let none : drop (length left) made ≡ [] = ap (λ k. drop k made) e ∙ drop-length made in
    ap (λ l. take n (left ++ l)) none ∙ ap (take n) (append-nil left) ∙ take_all n left (omega (arith, e, d))

pub all_shown : (m : Module) (elements : List ElementSeg) (met functions : List ℕ) (left places : List (Option ℕ)) → elements ≡ m.elements → functions ≡ reverse met → places ≡ left → length left ≡ length (function_types m) → HasMet (flat_map (λ e. flat_map (defines m) e.functions) elements ++ []) met left → AreShown m functions places
all_shown m elements met functions left places b t p n h = record {
  functions_are = t ∙ h.met_is ∙ ap distinct whole;
  count = ap length p ∙ n;
  places_are = λ s within. ap (λ l. get_or l s None) p ∙ h.places_are s (subst (λ l. s < length l) p within) ∙ ap (λ l. behind s (distinct l)) whole;
}
  where
    flat : (es : List ElementSeg) → flat_map (λ e. flat_map (defines m) e.functions) es ≡ flat_map (defines m) (flat_map (λ e. e.functions) es)
    flat [] = refl
    flat (e ∷ es) = ap (λ z. flat_map (defines m) e.functions ++ z) (flat es) ∙ sym (defines_both m e.functions (flat_map (λ e. e.functions) es))

    whole : flat_map (λ e. flat_map (defines m) e.functions) elements ++ [] ≡ flat_map (defines m) (element_functions m)
    whole = append-nil (flat_map (λ e. flat_map (defines m) e.functions) elements) ∙ ap (λ es. flat_map (λ e. flat_map (defines m) e.functions) es) b ∙ flat m.elements

pub all_met : (m : Module) (bodies : List Body) (met types : List ℕ) (left places : List (Option ℕ)) → bodies ≡ m.bodies → types ≡ reverse met → places ≡ left → length left ≡ length m.types → HasMet (bodies_used bodies ++ []) met left → AreUsed m types places
all_met m bodies met types left places b t p n h = record {
  helped_is = t ∙ h.met_is ∙ ap distinct whole;
  count = ap length p ∙ n;
  places_are = λ s within. ap (λ l. get_or l s None) p ∙ h.places_are s (subst (λ l. s < length l) p within) ∙ ap (λ l. behind s (distinct l)) whole;
}
  where
    whole : bodies_used bodies ++ [] ≡ bodies_used m.bodies
    whole = append-nil (bodies_used bodies) ∙ ap bodies_used b
