-- Reading vectors, steps and choices stops at the first of their elements without a reading.
use Rattle.std.proofs.Common.{◌≡◌, ℕ, zero, suc, ◌+◌, ◌≤◌, ◌<◌, ◌⊎◌, Bool, true, false, cond, ltb, List, [], ◌∷◌, ◌++◌, length, Option, Some, None, Ok, Err, refl, sym, ap, subst, ◌∙◌, inl, inr, append_assoc, arith, length-append}
use Rattle.std.proofs.lemmas.Bool.{ltb-true, lt-ltb}
use Rattle.wasm_bytes.specs.Place.{Place, Read}
use Rattle.wasm_bytes.specs.Reading.{◌>>=◌, u32_item, byte_item, picked, choose, items_from, vector_item, until_end, to_end_item, steps_from, steps_until_end, steps_to_end}
use Rattle.wasm_bytes.specs.calls.Spelling.{byte, u32, items, steps}
use Rattle.wasm_bytes.specs.calls.Stopping.{unread, no_tag, tagged_stops, items_stops, vector_stops, to_end_stops, steps_stops, steps_to_end_stops}
use Rattle.wasm_bytes.specs.Laws.{IsBytes, place, failed, IsExact, StopsAt, TakesBytes, PicksStops}
use Rattle.wasm_bytes.proofs.Places.{IsBytes-rest}
use Rattle.wasm_bytes.proofs.ExactItems.{u32_exact, byte_exact}
use Rattle.wasm_bytes.proofs.ExactLists.{more_left}
use Rattle.wasm_bytes.proofs.Loops.{first}
use Rattle.wasm_bytes.proofs.Stops.{byte_stops_at, u32_stops_at, leads_stops_at, first_fails}
use Rattle.wasm_leb.proofs.Tools.{chosen}

-- ---- choices

-- A test picks one of two.
pub picks_stops_if : {A : Type 0} (test : Bool) (is_tag : Type 0) (s : ℕ → List ℕ → ℕ → Type 0) (one other : Option (Place → Read A)) → (test ≡ true → PicksStops is_tag s one) → (test ≡ false → PicksStops is_tag s other) → PicksStops is_tag s (cond test one other)
picks_stops_if true is_tag s one other e h = e refl
picks_stops_if false is_tag s one other e h = h refl

picked_only : {A : Type 0} (is_tag : Type 0) (s : ℕ → List ℕ → ℕ → Type 0) (pick : Option (Place → Read A)) → PicksStops is_tag s pick → (at : ℕ) (before after : List ℕ) (o : ℕ) → IsBytes after → picked at pick (place before after) ≡ failed o
    → ((o ≡ at) × (is_tag → ⊥)) ⊎ (is_tag × s (length before) after o)
picked_only is_tag s (Some f) h at before after o fits read = inr (h.0, h.1.only before after o fits read)
picked_only is_tag s None h at before after o fits read = let same : o ≡ at = cc in inl (same, h)

picked_again : {A : Type 0} (is_tag : Type 0) (s : ℕ → List ℕ → ℕ → Type 0) (pick : Option (Place → Read A)) → PicksStops is_tag s pick → (at : ℕ) (before after : List ℕ) (o : ℕ) → IsBytes after → is_tag → s (length before) after o → picked at pick (place before after) ≡ failed o
picked_again is_tag s (Some f) h at before after o fits is stops = h.1.again before after o fits stops
picked_again is_tag s None h at before after o fits is stops = absurd (h is)

picked_none : {A : Type 0} (is_tag : Type 0) (s : ℕ → List ℕ → ℕ → Type 0) (pick : Option (Place → Read A)) → PicksStops is_tag s pick → (at : ℕ) (p : Place) → (is_tag → ⊥) → picked at pick p ≡ failed at
picked_none is_tag s (Some f) h at p none = absurd (none h.0)
picked_none is_tag s None h at p none = refl

choose_only : {A : Type 0} (is_tag : ℕ → Type 0) (s : ℕ → ℕ → List ℕ → ℕ → Type 0) (pick : ℕ → Option (Place → Read A)) → ((tag : ℕ) → PicksStops (is_tag tag) (s tag) (pick tag))
    → (before after : List ℕ) (o : ℕ) → IsBytes after → choose pick (place before after) ≡ failed o → tagged_stops is_tag s (length before) after o
unfolding choose
choose_only is_tag s pick h before after o fits read = elim (first_fails byte byte_item byte_exact before after (λ tag. picked (length before) (pick tag.0) tag.1) o fits read) [
  | inl r ↦
      let b = byte_stops_at.only before after o fits r in
      inl (b.0, λ tag rest is parts. b.1 tag (tag ∷ []) rest refl parts)
  | inr r ↦
      let parts : after ≡ r.0 ∷ r.2 = r.4 ∙ ap (λ (t : List ℕ). t ++ r.2) r.3 in
      let at : length before + length r.1 ≡ length before + 1 = ap (λ (t : List ℕ). length before + length t) r.3 in
      elim (picked_only (is_tag r.0) (s r.0) (pick r.0) (h r.0) (length before) (before ++ r.1) r.2 o r.5 r.6) [
        | inl n ↦ inl (n.0, λ tag rest is same. let tags : tag ≡ r.0 = (let both : tag ∷ rest ≡ r.0 ∷ r.2 = sym same ∙ parts in cc) in n.1 (subst is_tag tags is))
        | inr n ↦ inr (r.0, r.2, n.0, parts, subst (λ (k : ℕ). s r.0 k r.2 o) (length-append before r.1 ∙ at) n.1)
      ]
]

choose_again : {A : Type 0} (is_tag : ℕ → Type 0) (s : ℕ → ℕ → List ℕ → ℕ → Type 0) (pick : ℕ → Option (Place → Read A)) → ((tag : ℕ) → PicksStops (is_tag tag) (s tag) (pick tag))
    → (before after : List ℕ) (o : ℕ) → IsBytes after → no_tag is_tag (length before) after o → choose pick (place before after) ≡ failed o
unfolding choose
choose_again is_tag s pick h before [] o fits n =
    let none = byte_stops_at.again before [] o fits (n.0, λ x front rest is parts. absurd (let e : [] ≡ x ∷ rest = parts ∙ ap (λ (t : List ℕ). t ++ rest) is in cc)) in
    rw none refl
choose_again is_tag s pick h before (b ∷ bs) o fits n =
    let one = byte_exact.again before (b ∷ []) bs b refl in
    let two = picked_none (is_tag b) (s b) (pick b) (h b) (length before) (place (before ++ b ∷ []) bs) (λ is. n.1 b bs is refl) in
    rw (one, two) (ap failed (sym n.0))

pub choose_stops_at : {A : Type 0} (is_tag : ℕ → Type 0) (s : ℕ → ℕ → List ℕ → ℕ → Type 0) (pick : ℕ → Option (Place → Read A)) → ((tag : ℕ) → PicksStops (is_tag tag) (s tag) (pick tag)) → StopsAt (tagged_stops is_tag s) (choose pick)
unfolding choose
choose_stops_at is_tag s pick h = record {
  only = choose_only is_tag s pick h;
  again = λ before after o fits stops. elim stops [
    | inl n ↦ choose_again is_tag s pick h before after o fits n
    | inr n ↦
        let one = byte_exact.again before (n.0 ∷ []) n.1 n.0 refl in
        let bytes : IsBytes n.1 = IsBytes-rest (n.0 ∷ []) n.1 (subst IsBytes n.3 fits) in
        let here = subst (λ (k : ℕ). s n.0 k n.1 o) (sym (length-append before (n.0 ∷ []))) n.4 in
        let two = picked_again (is_tag n.0) (s n.0) (pick n.0) (h n.0) (length before) (before ++ n.0 ∷ []) n.1 o bytes n.2 here in
        rw (n.3, one, two) refl
  ];
}

-- ---- so many items

rest_err : {A : Type 0} (x : A) (r : Read (List A)) (o : ℕ) → (r >>= first x) ≡ failed o → r ≡ failed o
rest_err x (Ok y) o e = absurd cc
rest_err x (Err u) o e = let same : u ≡ o = cc in ap failed same

-- the parts of a list of items one of which is at the front
pub one_more : (after front rest others last : List ℕ) → after ≡ front ++ rest → rest ≡ others ++ last → after ≡ (front ++ others) ++ last
one_more after front rest others last e f = e ∙ ap (λ (t : List ℕ). front ++ t) f ∙ sym (append_assoc front others last)

-- an offset behind two fronts
pub behind_both : (before front others : List ℕ) → length (before ++ front) + length others ≡ length before + length (front ++ others)
behind_both before front others = omega (arith, length-append before front, length-append front others)

items_only : {A : Type 0} (S : A → ℕ → List ℕ → Type 0) (s : ℕ → List ℕ → ℕ → Type 0) (f : Place → Read A) → IsExact S f → StopsAt s f
    → (n : ℕ) (before after : List ℕ) (o : ℕ) → IsBytes after → items_from f n (place before after) ≡ failed o → items_stops S s n (length before) after o
unfolding items_from
items_only S s f e h zero before after o fits read = absurd cc
items_only S s f e h (suc n) before after o fits read = elim (first_fails S f e before after (λ x. items_from f n x.1 >>= first x.0) o fits read) [
  | inl r ↦
      let at : length before ≡ length before + 0 = omega arith in
      ([], [], after, omega arith, refl, refl, subst (λ (k : ℕ). s k after o) at (h.only before after o fits r))
  | inr r ↦
      let t = items_only S s f e h n (before ++ r.1) r.2 o r.5 (rest_err r.0 (items_from f n (place (before ++ r.1) r.2)) o r.6) in
      let here = subst (λ (k : ℕ). items S t.0 k t.1) (length-append before r.1) t.4 in
      (r.0 ∷ t.0, r.1 ++ t.1, t.2, omega (arith, t.3), (r.1, t.1, r.3, here, refl), one_more after r.1 r.2 t.1 t.2 r.4 t.5, subst (λ (k : ℕ). s k t.2 o) (behind_both before r.1 t.1) t.6)
]

items_again : {A : Type 0} (S : A → ℕ → List ℕ → Type 0) (s : ℕ → List ℕ → ℕ → Type 0) (f : Place → Read A) → IsExact S f → StopsAt s f
    → (xs : List A) (n : ℕ) (before front rest : List ℕ) (o : ℕ) → IsBytes rest → length xs < n → items S xs (length before) front → s (length before + length front) rest o → items_from f n (place before (front ++ rest)) ≡ failed o
unfolding items_from
items_again S s f e h xs zero before front rest o fits lt is stops = absurd (omega (arith, lt))
items_again S s f e h [] (suc n) before front rest o fits lt is stops =
    let at : length before + length front ≡ length before = omega (arith, ap length is) in
    let one = h.again before rest o fits (subst (λ (k : ℕ). s k rest o) at stops) in
    rw (is, one) refl
items_again S s f e h (x ∷ xs) (suc n) before front rest o fits lt is stops =
    let one = e.again before is.0 (is.1 ++ rest) x is.2 in
    let here = subst (λ (k : ℕ). items S xs k is.1) (sym (length-append before is.0)) is.3 in
    let at : length before + length front ≡ length (before ++ is.0) + length is.1 = omega (arith, ap length is.4, behind_both before is.0 is.1) in
    let two = items_again S s f e h xs n (before ++ is.0) is.1 rest o fits (omega (arith, lt)) here (subst (λ (k : ℕ). s k rest o) at stops) in
    rw (is.4, append_assoc is.0 is.1 rest, one, two) refl

pub items_stops_at : {A : Type 0} (S : A → ℕ → List ℕ → Type 0) (s : ℕ → List ℕ → ℕ → Type 0) (f : Place → Read A) → IsExact S f → StopsAt s f → (n : ℕ) → StopsAt (items_stops S s n) (items_from f n)
items_stops_at S s f e h n = record {
  only = items_only S s f e h n;
  again = λ before after o fits t. rw t.5 (items_again S s f e h t.0 n before t.1 t.2 o (IsBytes-rest t.1 t.2 (subst IsBytes t.5 fits)) t.3 t.4 t.6);
}

pub vector_stops_at : {A : Type 0} (S : A → ℕ → List ℕ → Type 0) (s : ℕ → List ℕ → ℕ → Type 0) (f : Place → Read A) → IsExact S f → StopsAt s f → StopsAt (vector_stops S s) (vector_item f)
unfolding vector_item
vector_stops_at S s f e h = leads_stops_at u32 (unread u32) (items_stops S s) u32_item (items_from f) u32_exact u32_stops_at (items_stops_at S s f e h)

-- ---- items up to the end of the block

until_only : {A : Type 0} (S : A → ℕ → List ℕ → Type 0) (s : ℕ → List ℕ → ℕ → Type 0) (f : Place → Read A) → IsExact S f → StopsAt s f → TakesBytes S
    → (n : ℕ) (before after : List ℕ) (o : ℕ) → IsBytes after → length after ≤ n → until_end f n (place before after) ≡ failed o → to_end_stops S s (length before) after o
unfolding until_end
until_only S s f e h takes zero before after o fits room read = elim (chosen (ltb (length before) (length (before ++ after))) _ _ (failed o) read) [
  | inl c ↦ absurd (omega (arith, ltb-true (length before) (length (before ++ after)) c.0, length-append before after, room))
  | inr c ↦ absurd cc
]
until_only S s f e h takes (suc n) before after o fits room read = elim (chosen (ltb (length before) (length (before ++ after))) _ _ (failed o) read) [
  | inl c ↦ elim (first_fails S f e before after (λ x. until_end f n x.1 >>= first x.0) o fits c.1) [
    | inl r ↦
        let at : length before ≡ length before + 0 = omega arith in
        ([], [], after, omega (arith, ltb-true (length before) (length (before ++ after)) c.0, length-append before after), refl, refl, subst (λ (k : ℕ). s k after o) at (h.only before after o fits r))
    | inr r ↦
        let some : 0 < length r.1 = takes r.0 (length before) r.1 r.3 in
        let left : length r.2 ≤ n = omega (arith, some, room, ap length r.4, length-append r.1 r.2) in
        let t = until_only S s f e h takes n (before ++ r.1) r.2 o r.5 left (rest_err r.0 (until_end f n (place (before ++ r.1) r.2)) o r.6) in
        let here = subst (λ (k : ℕ). items S t.0 k t.1) (length-append before r.1) t.4 in
        (r.0 ∷ t.0, r.1 ++ t.1, t.2, t.3, (r.1, t.1, r.3, here, refl), one_more after r.1 r.2 t.1 t.2 r.4 t.5, subst (λ (k : ℕ). s k t.2 o) (behind_both before r.1 t.1) t.6)
  ]
  | inr c ↦ absurd cc
]

until_again : {A : Type 0} (S : A → ℕ → List ℕ → Type 0) (s : ℕ → List ℕ → ℕ → Type 0) (f : Place → Read A) → IsExact S f → StopsAt s f → TakesBytes S
    → (xs : List A) (n : ℕ) (before front rest : List ℕ) (o : ℕ) → IsBytes rest → 0 < length rest → length (front ++ rest) ≤ n → items S xs (length before) front → s (length before + length front) rest o → until_end f n (place before (front ++ rest)) ≡ failed o
unfolding until_end
until_again S s f e h takes xs zero before front rest o fits some room is stops = absurd (omega (arith, room, some, length-append front rest))
until_again S s f e h takes [] (suc n) before front rest o fits some room is stops =
    let at : length before + length front ≡ length before = omega (arith, ap length is) in
    let one = h.again before rest o fits (subst (λ (k : ℕ). s k rest o) at stops) in
    let more : ltb (length before) (length (before ++ rest)) ≡ true = lt-ltb _ _ (more_left before rest some) in
    rw (is, more, one) refl
until_again S s f e h takes (x ∷ xs) (suc n) before front rest o fits some room is stops =
    let one = e.again before is.0 (is.1 ++ rest) x is.2 in
    let here = subst (λ (k : ℕ). items S xs k is.1) (sym (length-append before is.0)) is.3 in
    let at : length before + length front ≡ length (before ++ is.0) + length is.1 = omega (arith, ap length is.4, behind_both before is.0 is.1) in
    let takes_one : 0 < length is.0 = takes x (length before) is.0 is.2 in
    let left : length (is.1 ++ rest) ≤ n = omega (arith, room, takes_one, ap length is.4, length-append front rest, length-append is.0 is.1, length-append is.1 rest) in
    let two = until_again S s f e h takes xs n (before ++ is.0) is.1 rest o fits some left here (subst (λ (k : ℕ). s k rest o) at stops) in
    let more : ltb (length before) (length (before ++ (is.0 ++ (is.1 ++ rest)))) ≡ true = lt-ltb _ _ (more_left before (is.0 ++ (is.1 ++ rest)) (omega (arith, takes_one, length-append is.0 (is.1 ++ rest)))) in
    rw (is.4, append_assoc is.0 is.1 rest, more, one, two) refl

pub to_end_stops_at : {A : Type 0} (S : A → ℕ → List ℕ → Type 0) (s : ℕ → List ℕ → ℕ → Type 0) (f : Place → Read A) → IsExact S f → StopsAt s f → TakesBytes S → StopsAt (to_end_stops S s) (to_end_item f)
unfolding to_end_item
to_end_stops_at S s f e h takes = record {
  only = λ before after o fits read. until_only S s f e h takes _ before after o fits (omega (arith, length-append before after)) read;
  again = λ before after o fits t. rw t.5 (until_again S s f e h takes t.0 _ before t.1 t.2 o (IsBytes-rest t.1 t.2 (subst IsBytes t.5 fits)) t.3 (omega (arith, length-append before (t.1 ++ t.2))) t.4 t.6);
}

-- ---- steps

steps_only : {S : Type 0} (T : S → S → ℕ → List ℕ → Type 0) (s : S → ℕ → List ℕ → ℕ → Type 0) (f : S → Place → Read S) → ((x : S) → IsExact (T x) (f x)) → ((x : S) → StopsAt (s x) (f x))
    → (n : ℕ) (x : S) (before after : List ℕ) (o : ℕ) → IsBytes after → steps_from f n x (place before after) ≡ failed o → steps_stops T s n x (length before) after o
unfolding steps_from
steps_only T s f e h zero x before after o fits read = absurd cc
steps_only T s f e h (suc n) x before after o fits read = elim (first_fails (T x) (f x) (e x) before after (λ y. steps_from f n y.0 y.1) o fits read) [
  | inl r ↦
      let at : length before ≡ length before + 0 = omega arith in
      (0, x, [], after, omega arith, (refl, refl), refl, subst (λ (k : ℕ). s x k after o) at ((h x).only before after o fits r))
  | inr r ↦
      let t = steps_only T s f e h n r.0 (before ++ r.1) r.2 o r.5 r.6 in
      let here = subst (λ (k : ℕ). steps T t.0 r.0 t.1 k t.2) (length-append before r.1) t.5 in
      (suc t.0, t.1, r.1 ++ t.2, t.3, omega (arith, t.4), (r.0, (r.1, t.2, r.3, here, refl)), one_more after r.1 r.2 t.2 t.3 r.4 t.6, subst (λ (k : ℕ). s t.1 k t.3 o) (behind_both before r.1 t.2) t.7)
]

steps_again : {S : Type 0} (T : S → S → ℕ → List ℕ → Type 0) (s : S → ℕ → List ℕ → ℕ → Type 0) (f : S → Place → Read S) → ((x : S) → IsExact (T x) (f x)) → ((x : S) → StopsAt (s x) (f x))
    → (m n : ℕ) (x y : S) (before front rest : List ℕ) (o : ℕ) → IsBytes rest → m < n → steps T m x y (length before) front → s y (length before + length front) rest o → steps_from f n x (place before (front ++ rest)) ≡ failed o
unfolding steps_from
steps_again T s f e h m zero x y before front rest o fits lt is stops = absurd (omega (arith, lt))
steps_again {S} T s f e h zero (suc n) x y before front rest o fits lt is stops =
    let at : length before + length front ≡ length before = omega (arith, ap length is.1) in
    let one = (h x).again before rest o fits (subst (λ (z : S). s z (length before) rest o) is.0 (subst (λ (k : ℕ). s y k rest o) at stops)) in
    rw (is.1, one) refl
steps_again T s f e h (suc m) (suc n) x y before front rest o fits lt is stops =
    let i = is.1 in
    let one = (e x).again before i.0 (i.1 ++ rest) is.0 i.2 in
    let here = subst (λ (k : ℕ). steps T m is.0 y k i.1) (sym (length-append before i.0)) i.3 in
    let at : length before + length front ≡ length (before ++ i.0) + length i.1 = omega (arith, ap length i.4, behind_both before i.0 i.1) in
    let two = steps_again T s f e h m n is.0 y (before ++ i.0) i.1 rest o fits (omega (arith, lt)) here (subst (λ (k : ℕ). s y k rest o) at stops) in
    rw (i.4, append_assoc i.0 i.1 rest, one, two) refl

pub steps_stops_at : {S : Type 0} (T : S → S → ℕ → List ℕ → Type 0) (s : S → ℕ → List ℕ → ℕ → Type 0) (f : S → Place → Read S) → ((x : S) → IsExact (T x) (f x)) → ((x : S) → StopsAt (s x) (f x)) → (n : ℕ) (x : S) → StopsAt (steps_stops T s n x) (steps_from f n x)
steps_stops_at T s f e h n x = record {
  only = steps_only T s f e h n x;
  again = λ before after o fits t. rw t.6 (steps_again T s f e h t.0 n x t.1 before t.2 t.3 o (IsBytes-rest t.2 t.3 (subst IsBytes t.6 fits)) t.4 t.5 t.7);
}

end_only : {S : Type 0} (T : S → S → ℕ → List ℕ → Type 0) (s : S → ℕ → List ℕ → ℕ → Type 0) (f : S → Place → Read S) → ((x : S) → IsExact (T x) (f x)) → ((x : S) → StopsAt (s x) (f x)) → ((x : S) → TakesBytes (T x))
    → (n : ℕ) (x : S) (before after : List ℕ) (o : ℕ) → IsBytes after → length after ≤ n → steps_until_end f n x (place before after) ≡ failed o → steps_to_end_stops T s x (length before) after o
unfolding steps_until_end
end_only T s f e h takes zero x before after o fits room read = elim (chosen (ltb (length before) (length (before ++ after))) _ _ (failed o) read) [
  | inl c ↦ absurd (omega (arith, ltb-true (length before) (length (before ++ after)) c.0, length-append before after, room))
  | inr c ↦ absurd cc
]
end_only T s f e h takes (suc n) x before after o fits room read = elim (chosen (ltb (length before) (length (before ++ after))) _ _ (failed o) read) [
  | inl c ↦ elim (first_fails (T x) (f x) (e x) before after (λ y. steps_until_end f n y.0 y.1) o fits c.1) [
    | inl r ↦
        let at : length before ≡ length before + 0 = omega arith in
        (0, x, [], after, omega (arith, ltb-true (length before) (length (before ++ after)) c.0, length-append before after), (refl, refl), refl, subst (λ (k : ℕ). s x k after o) at ((h x).only before after o fits r))
    | inr r ↦
        let some : 0 < length r.1 = takes x r.0 (length before) r.1 r.3 in
        let left : length r.2 ≤ n = omega (arith, some, room, ap length r.4, length-append r.1 r.2) in
        let t = end_only T s f e h takes n r.0 (before ++ r.1) r.2 o r.5 left r.6 in
        let here = subst (λ (k : ℕ). steps T t.0 r.0 t.1 k t.2) (length-append before r.1) t.5 in
        (suc t.0, t.1, r.1 ++ t.2, t.3, t.4, (r.0, (r.1, t.2, r.3, here, refl)), one_more after r.1 r.2 t.2 t.3 r.4 t.6, subst (λ (k : ℕ). s t.1 k t.3 o) (behind_both before r.1 t.2) t.7)
  ]
  | inr c ↦ absurd cc
]

end_again : {S : Type 0} (T : S → S → ℕ → List ℕ → Type 0) (s : S → ℕ → List ℕ → ℕ → Type 0) (f : S → Place → Read S) → ((x : S) → IsExact (T x) (f x)) → ((x : S) → StopsAt (s x) (f x)) → ((x : S) → TakesBytes (T x))
    → (m n : ℕ) (x y : S) (before front rest : List ℕ) (o : ℕ) → IsBytes rest → 0 < length rest → length (front ++ rest) ≤ n → steps T m x y (length before) front → s y (length before + length front) rest o → steps_until_end f n x (place before (front ++ rest)) ≡ failed o
unfolding steps_until_end
end_again T s f e h takes m zero x y before front rest o fits some room is stops = absurd (omega (arith, room, some, length-append front rest))
end_again {S} T s f e h takes zero (suc n) x y before front rest o fits some room is stops =
    let at : length before + length front ≡ length before = omega (arith, ap length is.1) in
    let one = (h x).again before rest o fits (subst (λ (z : S). s z (length before) rest o) is.0 (subst (λ (k : ℕ). s y k rest o) at stops)) in
    let more : ltb (length before) (length (before ++ rest)) ≡ true = lt-ltb _ _ (more_left before rest some) in
    rw (is.1, more, one) refl
end_again T s f e h takes (suc m) (suc n) x y before front rest o fits some room is stops =
    let i = is.1 in
    let one = (e x).again before i.0 (i.1 ++ rest) is.0 i.2 in
    let here = subst (λ (k : ℕ). steps T m is.0 y k i.1) (sym (length-append before i.0)) i.3 in
    let at : length before + length front ≡ length (before ++ i.0) + length i.1 = omega (arith, ap length i.4, behind_both before i.0 i.1) in
    let takes_one : 0 < length i.0 = takes x is.0 (length before) i.0 i.2 in
    let left : length (i.1 ++ rest) ≤ n = omega (arith, room, takes_one, ap length i.4, length-append front rest, length-append i.0 i.1, length-append i.1 rest) in
    let two = end_again T s f e h takes m n is.0 y (before ++ i.0) i.1 rest o fits some left here (subst (λ (k : ℕ). s y k rest o) at stops) in
    let more : ltb (length before) (length (before ++ (i.0 ++ (i.1 ++ rest)))) ≡ true = lt-ltb _ _ (more_left before (i.0 ++ (i.1 ++ rest)) (omega (arith, takes_one, length-append i.0 (i.1 ++ rest)))) in
    rw (i.4, append_assoc i.0 i.1 rest, more, one, two) refl

pub steps_to_end_stops_at : {S : Type 0} (T : S → S → ℕ → List ℕ → Type 0) (s : S → ℕ → List ℕ → ℕ → Type 0) (f : S → Place → Read S) → ((x : S) → IsExact (T x) (f x)) → ((x : S) → StopsAt (s x) (f x)) → ((x : S) → TakesBytes (T x)) → (x : S) → StopsAt (steps_to_end_stops T s x) (steps_to_end f x)
unfolding steps_to_end
steps_to_end_stops_at T s f e h takes x = record {
  only = λ before after o fits read. end_only T s f e h takes _ x before after o fits (omega (arith, length-append before after)) read;
  again = λ before after o fits t. rw t.6 (end_again T s f e h takes t.0 _ x t.1 before t.2 t.3 o (IsBytes-rest t.2 t.3 (subst IsBytes t.6 fits)) t.4 (omega (arith, length-append before (t.2 ++ t.3))) t.5 t.7);
}
