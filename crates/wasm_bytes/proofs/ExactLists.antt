-- Vectors, steps and choices read exactly what is spelled by their elements.
use Rattle.std.proofs.Common.{◌≡◌, ℕ, zero, suc, ◌+◌, ◌-◌, ◌≤◌, ◌<◌, Bool, true, false, cond, ltb, List, [], ◌∷◌, ◌++◌, length, Option, Some, None, refl, sym, ap, subst, ◌∙◌, inl, inr, append_assoc, arith, length-append}
use Rattle.std.proofs.lemmas.List.{append-nil}
use Rattle.std.proofs.lemmas.Bool.{ltb-false}
use Rattle.wasm_bytes.specs.Place.{Place, Read}
use Rattle.wasm_bytes.specs.Reading.{◌>>=◌, u32_item, byte_item, picked, choose, items_from, vector_item, until_end, to_end_item, steps_from, steps_until_end, steps_to_end}
use Rattle.wasm_bytes.specs.calls.Spelling.{leads, byte, tagged, u32, items, vector, steps, some_steps}
use Rattle.wasm_bytes.specs.Laws.{IsBytes, place, got, Took, IsExact, IsTail, TakesBytes, PicksExact}
use Rattle.wasm_bytes.proofs.Places.{place_is, bind_ok, took_is, took_nothing}
use Rattle.wasm_bytes.proofs.Exact.{then_took, first_took, same_exact, leads_exact}
use Rattle.wasm_bytes.proofs.ExactItems.{u32_exact, byte_exact}
use Rattle.wasm_bytes.proofs.ExactBlocks.{tail_is, end_behind, none_left}
use Rattle.wasm_bytes.proofs.Loops.{first, end_on, end_done, end_step_on, end_steps_done}
use Rattle.wasm_leb.proofs.Tools.{chosen}

-- ---- so many items

-- lists of that length
abbrev pub counted : {A : Type 0} → (A → ℕ → List ℕ → Type 0) → ℕ → List A → ℕ → List ℕ → Type 0
counted S n xs at bytes = (length xs ≡ n) × items S xs at bytes

items_sound : {A : Type 0} (S : A → ℕ → List ℕ → Type 0) (f : Place → Read A) → IsExact S f
    → (n : ℕ) (before after : List ℕ) (xs : List A) (q : Place) → IsBytes after → items_from f n (place before after) ≡ got xs q → Took (counted S n) before after xs q
unfolding items_from
items_sound S f e zero before after xs q fits read = took_is (counted S 0) before after [] xs (place before after) q read (took_nothing (counted S 0) before after [] fits (refl, refl))
items_sound S f e (suc n) before after xs q fits read =
    let a = first_took S f e before after (λ x. items_from f n x.1 >>= first x.0) xs q fits read in
    let b = bind_ok (items_from f n (place (before ++ a.1) a.2)) (first a.0) xs q a.6 in
    let others = items_sound S f e n (before ++ a.1) a.2 b.0 b.1 a.5 b.2 in
    let all = then_took S (counted S n) (counted S (suc n)) before after a.1 a.2 a.0 b.0 (a.0 ∷ b.0) b.1 (λ bytes s. (ap suc s.3.0, (s.0, s.1, s.2, s.3.1, s.4))) a.3 a.4 others in
    took_is (counted S (suc n)) before after (a.0 ∷ b.0) xs b.1 q b.3 all

items_again : {A : Type 0} (S : A → ℕ → List ℕ → Type 0) (f : Place → Read A) → IsExact S f
    → (xs : List A) (before front rest : List ℕ) → items S xs (length before) front → items_from f (length xs) (place before (front ++ rest)) ≡ got xs (place (before ++ front) rest)
unfolding items_from
items_again S f e [] before front rest s = rw (s, append-nil before) refl
items_again S f e (x ∷ xs) before front rest s =
    let one = e.again before s.0 (s.1 ++ rest) x s.2 in
    let here = subst (λ (n : ℕ). items S xs n s.1) (sym (length-append before s.0)) s.3 in
    let two = items_again S f e xs (before ++ s.0) s.1 rest here in
    rw (s.4, append_assoc s.0 s.1 rest, one, two, append_assoc before s.0 s.1) refl

pub items_exact : {A : Type 0} (S : A → ℕ → List ℕ → Type 0) (f : Place → Read A) → IsExact S f → (n : ℕ) → IsExact (counted S n) (items_from f n)
items_exact S f e n = record {
  sound = items_sound S f e n;
  again = λ before front rest xs s. subst (λ (k : ℕ). items_from f k (place before (front ++ rest)) ≡ got xs (place (before ++ front) rest)) s.0 (items_again S f e xs before front rest s.1);
}

pub vector_exact : {A : Type 0} (S : A → ℕ → List ℕ → Type 0) (f : Place → Read A) → IsExact S f → IsExact (vector S) (vector_item f)
unfolding vector_item
vector_exact S f e = same_exact (leads u32 (counted S)) (vector S) (vector_item f)
    (λ xs at front s. (s.1.0, s.1.1, subst (λ (n : ℕ). u32 n at s.1.0) (sym s.1.3.0) s.1.2, s.1.3.1, s.1.4))
    (λ xs at front s. (length xs, (s.0, s.1, s.2, (refl, s.3), s.4)))
    (leads_exact u32 (counted S) u32_item (items_from f) u32_exact (items_exact S f e))

-- ---- items up to the end of the block

-- Whether bytes are left decides.
pub more_left : (before after : List ℕ) → 0 < length after → length before < length (before ++ after)
more_left before after some = omega (arith, length-append before after)

pub at_end : (before : List ℕ) → length (before ++ []) ≤ length before
at_end before = omega (arith, length-append before [])

pub nil_place : (before : List ℕ) → place before [] ≡ place (before ++ []) []
nil_place before = place_is (before ++ []) ((before ++ []) ++ []) (length before) (length (before ++ [])) (sym (append-nil (before ++ []))) (ap length (sym (append-nil before)))

ended : {A : Type 0} (S : A → ℕ → List ℕ → Type 0) (before after : List ℕ) (x y : A) (q : Place) → ltb (length before) (length (before ++ after)) ≡ false → got x (place before after) ≡ got y q → S x (length before) [] → S y (length before) after × (q ≡ place (before ++ after) [])
ended S before after x y q none read is =
    let full : length before ≡ length (before ++ after) = omega (arith, ltb-false (length before) (length (before ++ after)) none, length-append before after) in
    let nil = none_left before after full in
    let end = subst (λ (t : List ℕ). place before t ≡ place (before ++ t) []) (sym nil) (nil_place before) in
    tail_is S before after x y (place before after) q read (subst (λ (t : List ℕ). S x (length before) t) (sym nil) is) end

until_sound : {A : Type 0} (S : A → ℕ → List ℕ → Type 0) (f : Place → Read A) → IsExact S f
    → (n : ℕ) (before after : List ℕ) (xs : List A) (q : Place) → IsBytes after → until_end f n (place before after) ≡ got xs q → items S xs (length before) after × (q ≡ place (before ++ after) [])
unfolding until_end
until_sound S f e zero before after xs q fits read = elim (chosen (ltb (length before) (length (before ++ after))) _ _ (got xs q) read) [
  | inl p ↦ absurd cc
  | inr p ↦ ended (items S) before after [] xs q p.0 p.1 refl
]
until_sound S f e (suc n) before after xs q fits read = elim (chosen (ltb (length before) (length (before ++ after))) _ _ (got xs q) read) [
  | inl p ↦
      let a = first_took S f e before after (λ x. until_end f n x.1 >>= first x.0) xs q fits p.1 in
      let b = bind_ok (until_end f n (place (before ++ a.1) a.2)) (first a.0) xs q a.6 in
      let t = until_sound S f e n (before ++ a.1) a.2 b.0 b.1 a.5 b.2 in
      let here = subst (λ (k : ℕ). items S b.0 k a.2) (length-append before a.1) t.0 in
      tail_is (items S) before after (a.0 ∷ b.0) xs b.1 q b.3 (a.1, a.2, a.3, here, a.4) (t.1 ∙ end_behind before a.1 a.2 after a.4)
  | inr p ↦ ended (items S) before after [] xs q p.0 p.1 refl
]

until_again : {A : Type 0} (S : A → ℕ → List ℕ → Type 0) (f : Place → Read A) → IsExact S f → TakesBytes S
    → (xs : List A) (n : ℕ) (before after : List ℕ) → length after ≤ n → items S xs (length before) after → until_end f n (place before after) ≡ got xs (place (before ++ after) [])
until_again S f e takes [] n before after room s = subst (λ (w : List ℕ). until_end f n (place before w) ≡ got [] (place (before ++ w) [])) (sym s) (end_done f n (place before []) (at_end before) ∙ ap (λ (p : Place). got [] p) (nil_place before))
until_again S f e takes (x ∷ xs) n before after room s =
    let some : 0 < length s.0 = takes x (length before) s.0 s.2 in
    let len : length after ≡ length s.0 + length s.1 = ap length s.4 ∙ length-append s.0 s.1 in
    let fuel : n ≡ suc (n - 1) = omega (arith, some, len, room) in
    let one : f (place before after) ≡ got x (place (before ++ s.0) s.1) = ap (λ (t : List ℕ). f (place before t)) s.4 ∙ e.again before s.0 s.1 x s.2 in
    let on = end_on f (n - 1) (place before after) (place (before ++ s.0) s.1) x (more_left before after (omega (arith, len, some))) one in
    let here = subst (λ (k : ℕ). items S xs k s.1) (sym (length-append before s.0)) s.3 in
    let two = until_again S f e takes xs (n - 1) (before ++ s.0) s.1 (omega (arith, some, len, room)) here in
    ap (λ (k : ℕ). until_end f k (place before after)) fuel ∙ on ∙ rw two (ap (λ (p : Place). got (x ∷ xs) p) (end_behind before s.0 s.1 after s.4))

pub to_end_tail : {A : Type 0} (S : A → ℕ → List ℕ → Type 0) (f : Place → Read A) → IsExact S f → TakesBytes S → IsTail (items S) (to_end_item f)
unfolding to_end_item
to_end_tail S f e takes = record {
  sound = λ before after xs q fits read. until_sound S f e _ before after xs q fits read;
  again = λ before after xs s. until_again S f e takes xs _ before after (omega (arith, length-append before after)) s;
}

-- ---- steps

pub steps_exact : {S : Type 0} (T : S → S → ℕ → List ℕ → Type 0) (f : S → Place → Read S) → ((s : S) → IsExact (T s) (f s)) → (n : ℕ) (s : S) → IsExact (steps T n s) (steps_from f n s)
unfolding steps_from
steps_exact T f e zero s = record {
  sound = λ before after t q fits read. took_is (steps T 0 s) before after s t (place before after) q read (took_nothing (steps T 0 s) before after s fits (refl, refl));
  again = λ before front rest t is. rw (is.1, is.0, append-nil before) refl;
}
steps_exact T f e (suc n) s = leads_exact (T s) (λ t. steps T n t) (f s) (λ t. steps_from f n t) (e s) (λ t. steps_exact T f e n t)

steps_sound : {S : Type 0} (T : S → S → ℕ → List ℕ → Type 0) (f : S → Place → Read S) → ((s : S) → IsExact (T s) (f s))
    → (n : ℕ) (s : S) (before after : List ℕ) (t : S) (q : Place) → IsBytes after → steps_until_end f n s (place before after) ≡ got t q → some_steps T s t (length before) after × (q ≡ place (before ++ after) [])
unfolding steps_until_end
steps_sound T f e zero s before after t q fits read = elim (chosen (ltb (length before) (length (before ++ after))) _ _ (got t q) read) [
  | inl p ↦ absurd cc
  | inr p ↦ ended (some_steps T s) before after s t q p.0 p.1 (0, (refl, refl))
]
steps_sound T f e (suc n) s before after t q fits read = elim (chosen (ltb (length before) (length (before ++ after))) _ _ (got t q) read) [
  | inl p ↦
      let a = first_took (T s) (f s) (e s) before after (λ x. steps_until_end f n x.0 x.1) t q fits p.1 in
      let more = steps_sound T f e n a.0 (before ++ a.1) a.2 t q a.5 a.6 in
      let here = subst (λ (k : ℕ). steps T more.0.0 a.0 t k a.2) (length-append before a.1) more.0.1 in
      ((suc more.0.0, (a.0, (a.1, a.2, a.3, here, a.4))), more.1 ∙ end_behind before a.1 a.2 after a.4)
  | inr p ↦ ended (some_steps T s) before after s t q p.0 p.1 (0, (refl, refl))
]

steps_again : {S : Type 0} (T : S → S → ℕ → List ℕ → Type 0) (f : S → Place → Read S) → ((s : S) → IsExact (T s) (f s)) → ((s : S) → TakesBytes (T s))
    → (m n : ℕ) (s : S) (before after : List ℕ) (t : S) → length after ≤ n → steps T m s t (length before) after → steps_until_end f n s (place before after) ≡ got t (place (before ++ after) [])
steps_again T f e takes zero n s before after t room is = subst (λ (w : List ℕ). steps_until_end f n s (place before w) ≡ got t (place (before ++ w) [])) (sym is.1) (end_steps_done f n s (place before []) (at_end before) ∙ rw is.0 (ap (λ (p : Place). got s p) (nil_place before)))
steps_again T f e takes (suc m) n s before after t room is =
    let i = is.1 in
    let some : 0 < length i.0 = takes s is.0 (length before) i.0 i.2 in
    let len : length after ≡ length i.0 + length i.1 = ap length i.4 ∙ length-append i.0 i.1 in
    let fuel : n ≡ suc (n - 1) = omega (arith, some, len, room) in
    let one : f s (place before after) ≡ got is.0 (place (before ++ i.0) i.1) = ap (λ (w : List ℕ). f s (place before w)) i.4 ∙ (e s).again before i.0 i.1 is.0 i.2 in
    let on = end_step_on f (n - 1) s is.0 (place before after) (place (before ++ i.0) i.1) (more_left before after (omega (arith, len, some))) one in
    let here = subst (λ (k : ℕ). steps T m is.0 t k i.1) (sym (length-append before i.0)) i.3 in
    let two = steps_again T f e takes m (n - 1) is.0 (before ++ i.0) i.1 t (omega (arith, some, len, room)) here in
    ap (λ (k : ℕ). steps_until_end f k s (place before after)) fuel ∙ on ∙ two ∙ ap (λ (p : Place). got t p) (end_behind before i.0 i.1 after i.4)

pub steps_to_end_tail : {S : Type 0} (T : S → S → ℕ → List ℕ → Type 0) (f : S → Place → Read S) → ((s : S) → IsExact (T s) (f s)) → ((s : S) → TakesBytes (T s)) → (s : S) → IsTail (some_steps T s) (steps_to_end f s)
unfolding steps_to_end
steps_to_end_tail T f e takes s = record {
  sound = λ before after t q fits read. steps_sound T f e _ s before after t q fits read;
  again = λ before after t is. steps_again T f e takes is.0 _ s before after t (omega (arith, length-append before after)) is.1;
}

-- ---- choices

-- A test picks one of two.
pub picks_exact_if : {A : Type 0} (test : Bool) (S : A → ℕ → List ℕ → Type 0) (one other : Option (Place → Read A)) → (test ≡ true → PicksExact S one) → (test ≡ false → PicksExact S other) → PicksExact S (cond test one other)
picks_exact_if true S one other e h = e refl
picks_exact_if false S one other e h = h refl

picked_sound : {A : Type 0} (S : A → ℕ → List ℕ → Type 0) (o : ℕ) (pick : Option (Place → Read A)) → PicksExact S pick → (before after : List ℕ) (x : A) (q : Place) → IsBytes after → picked o pick (place before after) ≡ got x q → Took S before after x q
picked_sound S o (Some f) e before after x q fits read = e.sound before after x q fits read
picked_sound S o None e before after x q fits read = absurd cc

picked_again : {A : Type 0} (S : A → ℕ → List ℕ → Type 0) (o : ℕ) (pick : Option (Place → Read A)) → PicksExact S pick → (before front rest : List ℕ) (x : A) → S x (length before) front → picked o pick (place before (front ++ rest)) ≡ got x (place (before ++ front) rest)
picked_again S o (Some f) e before front rest x s = e.again before front rest x s
picked_again S o None e before front rest x s = absurd (e x (length before) front s)

pub choose_exact : {A : Type 0} (S : ℕ → A → ℕ → List ℕ → Type 0) (pick : ℕ → Option (Place → Read A)) → ((tag : ℕ) → PicksExact (S tag) (pick tag)) → IsExact (tagged S) (choose pick)
unfolding choose
choose_exact S pick e = record {
  sound = λ before after x q fits read.
      let a = first_took byte byte_item byte_exact before after (λ tag. picked (length before) (pick tag.0) tag.1) x q fits read in
      let t = picked_sound (S a.0) (length before) (pick a.0) (e a.0) (before ++ a.1) a.2 x q a.5 a.6 in
      then_took byte (S a.0) (tagged S) before after a.1 a.2 a.0 x x q (λ bytes s. (a.0, s)) a.3 a.4 t;
  again = λ before front rest x s.
      let i = s.1 in
      let one = byte_exact.again before i.0 (i.1 ++ rest) s.0 i.2 in
      let here = subst (λ (n : ℕ). S s.0 x n i.1) (sym (length-append before i.0)) i.3 in
      let two = picked_again (S s.0) (length before) (pick s.0) (e s.0) (before ++ i.0) i.1 rest x here in
      rw (i.4, append_assoc i.0 i.1 rest, one, two, append_assoc before i.0 i.1) refl;
}
