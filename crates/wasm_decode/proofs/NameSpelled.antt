-- What is read of the names of functions is what is spelled, and reading stops where the grammar says.
use Rattle.std.proofs.Common.{◌≡◌, ℕ, ◌+◌, ◌-◌, ◌<◌, ◌≤◌, Bool, true, false, List, [], ◌∷◌, ◌++◌, length, take, drop, Option, None, Result, Ok, Err, refl, sym, ap, subst, ◌∙◌, inl, inr, arith}
use Rattle.std.specs.Prelude.{IfOk, nat_le, codes, if◌then◌else◌, Some, unwrap_or}
use Rattle.std.specs.Str.{bytes_eq}
use Rattle.std.proofs.lemmas.Bool.{leb-true, leb-false, le-leb, lt-leb}
use Rattle.std.proofs.lemmas.List.{length-take, take-append-drop}
use Rattle.std.proofs.lemmas.Slice.Eq.{bytes_eq-Decides}
use Rattle.std.proofs.Math.Seq.{take-add}
use Rattle.causes.specs.declared.NoMemory.{NoMemory}
use Rattle.wasm_syntax.specs.declared.parts.Custom.{Custom}
use Rattle.wasm_bytes.specs.Place.{Read}
use Rattle.wasm_bytes.specs.Reading.{mapped, byte_item, u32_item, name_item, rest_item, vector_item, closed, within, steps_to_end}
use Rattle.wasm_bytes.specs.calls.Spelling.{image, byte, u32, text, name, sized, vector}
use Rattle.wasm_bytes.specs.calls.Stopping.{never, unread, sized_stops, vector_stops}
use Rattle.wasm_bytes.specs.Laws.{IsBytes, place, IsExact, IsTail, StopsAt, TakesBytes}
use Rattle.wasm_bytes.proofs.Places.{place_is, IsBytes-rest, IsBytes-front, reading}
use Rattle.wasm_bytes.proofs.Exact.{image_exact, leads_exact, then_exact}
use Rattle.wasm_bytes.proofs.ExactItems.{byte_exact, u32_exact, name_exact}
use Rattle.wasm_bytes.proofs.ExactBlocks.{closed_exact, closed_tail, rest_tail, within_exact}
use Rattle.wasm_bytes.proofs.ExactLists.{vector_exact, steps_to_end_tail}
use Rattle.wasm_bytes.proofs.Stops.{byte_stops_at, u32_stops_at, name_stops_at, mapped_stops_at, leads_stops_at, then_stops_at}
use Rattle.wasm_bytes.proofs.StopsBlocks.{closed_stops_at, closed_tail_stops_at, rest_stops_at, within_stops_at}
use Rattle.wasm_bytes.proofs.StopsLists.{vector_stops_at, steps_to_end_stops_at}
use Rattle.wasm_bytes.proofs.Takes.{byte_takes, leads_takes}
use Rattle.wasm_format.proofs.Tests.{on_test_exact, on_test_stops}
use Rattle.wasm_decode.specs.Names.{Named, firsts, named_item, names_item, counts, subsection_behind, subsection_step, found_names, behind_title, names_in, names_from}
use Rattle.wasm_decode.specs.calls.NameGrammar.{naming, name_map, subsection_tail, subsection, subsections, naming_stops, name_map_stops, subsection_tail_stops, subsection_stops, subsections_stop, behind_its_title, AreNamesIn, AreNamesOf}

-- ---- names

naming_exact : IsExact naming named_item
unfolding named_item
naming_exact = then_exact u32 name u32_item name_item u32_exact name_exact

naming_stops_at : StopsAt naming_stops named_item
unfolding named_item
naming_stops_at = then_stops_at u32 (unread u32) (unread name) u32_item name_item u32_exact u32_stops_at name_stops_at

map_exact : IsExact name_map names_item
unfolding names_item
map_exact = image_exact (vector naming) firsts (vector_item named_item) (vector_exact naming named_item naming_exact)

map_inside : StopsAt (vector_stops naming naming_stops) names_item
unfolding names_item
map_inside = mapped_stops_at firsts (vector_stops naming naming_stops) (vector_item named_item) (vector_stops_at naming naming_stops named_item naming_exact naming_stops_at)

map_stops_at : StopsAt name_map_stops (closed names_item)
map_stops_at = closed_stops_at name_map (vector_stops naming naming_stops) names_item map_exact map_inside

-- ---- subsections

tail_exact : (found : Option (List Named)) (id : ℕ) → IsExact (subsection_tail found id) (subsection_behind found id)
tail_exact found id =
    on_test_exact (counts found id) (image Some (λ names. sized (name_map names))) (image (λ bytes. found) (λ bytes. sized (text bytes))) (mapped Some (within names_item)) (mapped (λ bytes. found) (within rest_item))
    (image_exact (λ names. sized (name_map names)) Some (within names_item) (within_exact name_map names_item (closed_exact name_map names_item map_exact)))
    (image_exact (λ bytes. sized (text bytes)) (λ bytes. found) (within rest_item) (within_exact text rest_item (closed_tail text rest_item rest_tail)))

tail_stops_at : (found : Option (List Named)) (id : ℕ) → StopsAt (subsection_tail_stops found id) (subsection_behind found id)
tail_stops_at found id =
    on_test_stops (counts found id) (sized_stops name_map_stops) (sized_stops never) (mapped Some (within names_item)) (mapped (λ bytes. found) (within rest_item))
    (mapped_stops_at Some (sized_stops name_map_stops) (within names_item) (within_stops_at name_map_stops names_item map_stops_at))
    (mapped_stops_at (λ bytes. found) (sized_stops never) (within rest_item) (within_stops_at never rest_item (closed_tail_stops_at text never rest_item rest_tail rest_stops_at)))

subsection_exact : (found : Option (List Named)) → IsExact (subsection found) (subsection_step found)
unfolding subsection_step
subsection_exact found = leads_exact byte (subsection_tail found) byte_item (subsection_behind found) byte_exact (tail_exact found)

subsection_stops_at : (found : Option (List Named)) → StopsAt (subsection_stops found) (subsection_step found)
unfolding subsection_step
subsection_stops_at found = leads_stops_at byte (unread byte) (subsection_tail_stops found) byte_item (subsection_behind found) byte_exact byte_stops_at (tail_stops_at found)

subsection_takes : (found : Option (List Named)) → TakesBytes (subsection found)
subsection_takes found = leads_takes byte (subsection_tail found) byte_takes

-- ---- what stands behind a title

pub subsections_tail : IsTail subsections (steps_to_end subsection_step None)
subsections_tail = steps_to_end_tail subsection subsection_step subsection_exact subsection_takes None

pub subsections_stop_at : StopsAt subsections_stop (steps_to_end subsection_step None)
subsections_stop_at = steps_to_end_stops_at subsection subsection_stops subsection_step subsection_exact subsection_stops_at subsection_takes None

-- ---- the names that a section gives

module _ (bytes : List ℕ) (fits : IsBytes bytes) (custom : Custom) where
  abbrev before : List ℕ
  before = take custom.at bytes

  abbrev after : List ℕ
  after = behind_its_title bytes custom

  abbrev read : Read (Option (List Named))
  read = steps_to_end subsection_step None (behind_title bytes custom)

  before_length : custom.at + custom.len ≤ length bytes → length before ≡ custom.at
  before_length inside = omega (arith, inside, length-take custom.at bytes)

  title_place : custom.at + custom.len ≤ length bytes → behind_title bytes custom ≡ place before after
  title_place inside =
      let size : (custom.at + custom.len) - custom.at ≡ custom.len = omega arith in
      let block : take (custom.at + custom.len) bytes ≡ before ++ after = take-add custom.at custom.len bytes ∙ ap (λ n. before ++ take n (drop custom.at bytes)) (sym size) in
      place_is (take (custom.at + custom.len) bytes) (before ++ after) custom.at (length before) block (sym (before_length inside))

  after_fits : IsBytes after
  after_fits =
      let rest = drop custom.at bytes in
      let size = (custom.at + custom.len) - custom.at in
      let behind : IsBytes rest = IsBytes-rest before rest (subst IsBytes (sym (take-append-drop custom.at bytes)) fits) in
      IsBytes-front (take size rest) (drop size rest) (subst IsBytes (sym (take-append-drop size rest)) behind)

  in_is : custom.at + custom.len ≤ length bytes → names_in bytes custom ≡ found_names read
  unfolding names_in
  in_is inside = rw (le-leb (custom.at + custom.len) (length bytes) inside) refl

  in_none : length bytes < custom.at + custom.len → names_in bytes custom ≡ []
  unfolding names_in
  in_none outside = rw (lt-leb (custom.at + custom.len) (length bytes) outside) refl

  read_is : custom.at + custom.len ≤ length bytes → (found : Option (List Named)) → subsections found custom.at after → names_in bytes custom ≡ unwrap_or found []
  read_is inside found s =
      let here : subsections found (length before) after = subst (λ n. subsections found n after) (sym (before_length inside)) s in
      in_is inside ∙ ap (λ p. found_names (steps_to_end subsection_step None p)) (title_place inside) ∙ ap found_names (subsections_tail.again before after found here)

  stopped_is : custom.at + custom.len ≤ length bytes → (o : ℕ) → subsections_stop custom.at after o → names_in bytes custom ≡ []
  stopped_is inside o s =
      let here : subsections_stop (length before) after o = subst (λ n. subsections_stop n after o) (sym (before_length inside)) s in
      in_is inside ∙ ap (λ p. found_names (steps_to_end subsection_step None p)) (title_place inside) ∙ ap found_names (subsections_stop_at.again before after o after_fits here)

  -- what is said to be the names is what is read
  in_only : (names : List Named) → AreNamesIn bytes custom names → names_in bytes custom ≡ names
  in_only names (inl (inside, (found, s, e))) = read_is inside found s ∙ sym e
  in_only names (inr (inl outside, e)) = in_none outside ∙ sym e
  in_only names (inr (inr (o, s), e)) = by (nat_le (custom.at + custom.len) (length bytes)) refl where
    by : (b : Bool) → nat_le (custom.at + custom.len) (length bytes) ≡ b → names_in bytes custom ≡ names
    by true h = stopped_is (leb-true (custom.at + custom.len) (length bytes) h) o s ∙ sym e
    by false h = in_none (leb-false (custom.at + custom.len) (length bytes) h) ∙ sym e

  read_names : custom.at + custom.len ≤ length bytes → AreNamesIn bytes custom (names_in bytes custom)
  read_names inside = elim (reading (steps_to_end subsection_step None (place before after))) [
    | inl r ↦
        let t = subsections_tail.sound before after r.0 r.1 after_fits r.2 in
        let s : subsections r.0 custom.at after = subst (λ n. subsections r.0 n after) (before_length inside) t.0 in
        inl (inside, (r.0, s, read_is inside r.0 s))
    | inr r ↦
        let t = subsections_stop_at.only before after r.0 after_fits r.1 in
        let s : subsections_stop custom.at after r.0 = subst (λ n. subsections_stop n after r.0) (before_length inside) t in
        inr (inr (r.0, s), stopped_is inside r.0 s)
  ]

  -- what is read is said to be the names
  in_names : AreNamesIn bytes custom (names_in bytes custom)
  in_names = by (nat_le (custom.at + custom.len) (length bytes)) refl where
    by : (b : Bool) → nat_le (custom.at + custom.len) (length bytes) ≡ b → AreNamesIn bytes custom (names_in bytes custom)
    by true h = read_names (leb-true (custom.at + custom.len) (length bytes) h)
    by false h = let outside : length bytes < custom.at + custom.len = leb-false (custom.at + custom.len) (length bytes) h in inr (inl outside, in_none outside)

-- ---- the names of a module

from_only : (bytes : List ℕ) → IsBytes bytes → (customs : List Custom) (names : List Named) → AreNamesOf bytes customs names → names_from bytes customs ≡ names
from_only bytes fits [] names e = sym e
from_only bytes fits (custom ∷ customs) names (inl (titled, h)) =
    rw ((bytes_eq-Decides custom.name (codes "name")).1 titled) (in_only bytes fits custom names h)
from_only bytes fits (custom ∷ customs) names (inr (other, h)) = by (bytes_eq custom.name (codes "name")) refl (from_only bytes fits customs names h) where
  by : (b : Bool) → bytes_eq custom.name (codes "name") ≡ b → names_from bytes customs ≡ names → (if b then names_in bytes custom else names_from bytes customs) ≡ names
  by true e rest = absurd (other ((bytes_eq-Decides custom.name (codes "name")).0 e))
  by false e rest = rest

from_names : (bytes : List ℕ) → IsBytes bytes → (customs : List Custom) → AreNamesOf bytes customs (names_from bytes customs)
from_names bytes fits [] = refl
from_names bytes fits (custom ∷ customs) = by (bytes_eq custom.name (codes "name")) refl (from_names bytes fits customs) where
  by : (b : Bool) → bytes_eq custom.name (codes "name") ≡ b → AreNamesOf bytes customs (names_from bytes customs) → AreNamesOf bytes (custom ∷ customs) (if b then names_in bytes custom else names_from bytes customs)
  by true e rest = inl ((bytes_eq-Decides custom.name (codes "name")).0 e, in_names bytes fits custom)
  by false e rest = inr ((λ titled. let z : true ≡ false = sym ((bytes_eq-Decides custom.name (codes "name")).1 titled) ∙ e in cc), rest)

-- what a call gives, as the grammar has it
pub are_names : (bytes : List ℕ) (customs : List Custom) (result : Result (List Named) NoMemory) → IsBytes bytes → IfOk result (λ names. names ≡ names_from bytes customs) → IfOk result (AreNamesOf bytes customs)
are_names bytes customs (Ok names) fits e = subst (AreNamesOf bytes customs) (sym e) (from_names bytes fits customs)
are_names bytes customs (Err f) fits e = tt

pub no_others : (bytes : List ℕ) (customs : List Custom) (result : Result (List Named) NoMemory) → IsBytes bytes → IfOk result (λ names. names ≡ names_from bytes customs) → (names : List Named) → AreNamesOf bytes customs names → IfOk result (λ found. found ≡ names)
no_others bytes customs (Ok found) fits e names h = e ∙ from_only bytes fits customs names h
no_others bytes customs (Err f) fits e names h = tt
