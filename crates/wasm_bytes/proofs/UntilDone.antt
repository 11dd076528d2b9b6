-- Steps up to a state in which nothing more is due: what they read, and where they stop.
use Rattle.std.proofs.Common.{◌≡◌, ℕ, zero, suc, ◌+◌, ◌<◌, Bool, true, false, List, [], ◌++◌, length, refl, sym, ap, subst, ◌∙◌, inl, inr, append_assoc, arith, length-append}
use Rattle.std.proofs.lemmas.List.{append-nil}
use Rattle.wasm_bytes.specs.Place.{Place, Read}
use Rattle.wasm_bytes.specs.Reading.{steps_while_due, steps_until_done}
use Rattle.wasm_bytes.specs.calls.Spelling.{steps, due, steps_to_done}
use Rattle.wasm_bytes.specs.calls.Stopping.{steps_until_done_stops}
use Rattle.wasm_bytes.specs.Laws.{IsBytes, place, got, failed, Took, IsExact, StopsAt, TakesBytes}
use Rattle.wasm_bytes.proofs.Places.{IsBytes-rest, took_is, took_nothing}
use Rattle.wasm_bytes.proofs.Exact.{first_took, then_took}
use Rattle.wasm_bytes.proofs.Stops.{first_fails}
use Rattle.wasm_bytes.proofs.StopsLists.{one_more, behind_both}
use Rattle.wasm_leb.proofs.Tools.{chosen}

-- ---- what is read

done_sound : {S : Type 0} (done : S → Bool) (T : S → S → ℕ → List ℕ → Type 0) (f : S → Place → Read S) → ((s : S) → IsExact (T s) (f s))
    → (n : ℕ) (s : S) (before after : List ℕ) (t : S) (q : Place) → IsBytes after → steps_while_due done f n s (place before after) ≡ got t q → Took (steps_to_done done T s) before after t q
unfolding steps_while_due
done_sound done T f e zero s before after t q fits read = elim (chosen (done s) _ _ (got t q) read) [
  | inl p ↦ took_is (steps_to_done done T s) before after s t (place before after) q p.1 (took_nothing (steps_to_done done T s) before after s fits (p.0, (0, (refl, refl))))
  | inr p ↦ absurd cc
]
done_sound done T f e (suc n) s before after t q fits read = elim (chosen (done s) _ _ (got t q) read) [
  | inl p ↦ took_is (steps_to_done done T s) before after s t (place before after) q p.1 (took_nothing (steps_to_done done T s) before after s fits (p.0, (0, (refl, refl))))
  | inr p ↦
      let a = first_took (T s) (f s) (e s) before after (λ x. steps_while_due done f n x.0 x.1) t q fits p.1 in
      let more = done_sound done T f e n a.0 (before ++ a.1) a.2 t q a.5 a.6 in
      then_took (T s) (steps_to_done done T a.0) (steps_to_done done T s) before after a.1 a.2 a.0 t t q
      (λ bytes i. (i.3.0, (suc i.3.1.0, (a.0, (i.0, i.1, (p.0, i.2), i.3.1.1, i.4))))) a.3 a.4 more
]

done_again : {S : Type 0} (done : S → Bool) (T : S → S → ℕ → List ℕ → Type 0) (f : S → Place → Read S) → ((s : S) → IsExact (T s) (f s)) → ((s : S) → TakesBytes (T s))
    → (m n : ℕ) (s : S) (before front rest : List ℕ) (t : S) → length front < n → done t ≡ true → steps (due done T) m s t (length before) front → steps_while_due done f n s (place before (front ++ rest)) ≡ got t (place (before ++ front) rest)
unfolding steps_while_due
done_again done T f e takes m zero s before front rest t room all is = absurd (omega (arith, room))
done_again {S} done T f e takes zero (suc n) s before front rest t room all is =
    let here : done s ≡ true = ap done (sym is.0) ∙ all in
    rw (here, is.1, is.0, append-nil before) refl
done_again done T f e takes (suc m) (suc n) s before front rest t room all is =
    let i = is.1 in
    let some : 0 < length i.0 = takes s is.0 (length before) i.0 i.2.1 in
    let left : length i.1 < n = omega (arith, some, room, ap length i.4, length-append i.0 i.1) in
    let one = (e s).again before i.0 (i.1 ++ rest) is.0 i.2.1 in
    let here = subst (λ (k : ℕ). steps (due done T) m is.0 t k i.1) (sym (length-append before i.0)) i.3 in
    let two = done_again done T f e takes m n is.0 (before ++ i.0) i.1 rest t left all here in
    rw (i.2.0, i.4, append_assoc i.0 i.1 rest, one, two, append_assoc before i.0 i.1) refl

pub until_done_exact : {S : Type 0} (done : S → Bool) (T : S → S → ℕ → List ℕ → Type 0) (f : S → Place → Read S) → ((s : S) → IsExact (T s) (f s)) → ((s : S) → TakesBytes (T s)) → (s : S) → IsExact (steps_to_done done T s) (steps_until_done done f s)
unfolding steps_until_done
until_done_exact done T f e takes s = record {
  sound = λ before after t q fits read. done_sound done T f e _ s before after t q fits read;
  again = λ before front rest t is. done_again done T f e takes is.1.0 _ s before front rest t (omega (arith, length-append before (front ++ rest), length-append front rest)) is.0 is.1.1;
}

-- ---- where they stop

done_only : {S : Type 0} (done : S → Bool) (T : S → S → ℕ → List ℕ → Type 0) (s : S → ℕ → List ℕ → ℕ → Type 0) (f : S → Place → Read S) → ((x : S) → IsExact (T x) (f x)) → ((x : S) → StopsAt (s x) (f x)) → ((x : S) → TakesBytes (T x))
    → (n : ℕ) (x : S) (before after : List ℕ) (o : ℕ) → IsBytes after → length after < n → steps_while_due done f n x (place before after) ≡ failed o → steps_until_done_stops done T s x (length before) after o
unfolding steps_while_due
done_only done T s f e h takes zero x before after o fits room read = absurd (omega (arith, room))
done_only done T s f e h takes (suc n) x before after o fits room read = elim (chosen (done x) _ _ (failed o) read) [
  | inl c ↦ absurd cc
  | inr c ↦ elim (first_fails (T x) (f x) (e x) before after (λ y. steps_while_due done f n y.0 y.1) o fits c.1) [
    | inl r ↦
        let at : length before ≡ length before + 0 = omega arith in
        (0, x, [], after, c.0, (refl, refl), refl, subst (λ (k : ℕ). s x k after o) at ((h x).only before after o fits r))
    | inr r ↦
        let some : 0 < length r.1 = takes x r.0 (length before) r.1 r.3 in
        let left : length r.2 < n = omega (arith, some, room, ap length r.4, length-append r.1 r.2) in
        let t = done_only done T s f e h takes n r.0 (before ++ r.1) r.2 o r.5 left r.6 in
        let here = subst (λ (k : ℕ). steps (due done T) t.0 r.0 t.1 k t.2) (length-append before r.1) t.5 in
        (suc t.0, t.1, r.1 ++ t.2, t.3, t.4, (r.0, (r.1, t.2, (c.0, r.3), here, refl)), one_more after r.1 r.2 t.2 t.3 r.4 t.6, subst (λ (k : ℕ). s t.1 k t.3 o) (behind_both before r.1 t.2) t.7)
  ]
]

done_stops : {S : Type 0} (done : S → Bool) (T : S → S → ℕ → List ℕ → Type 0) (s : S → ℕ → List ℕ → ℕ → Type 0) (f : S → Place → Read S) → ((x : S) → IsExact (T x) (f x)) → ((x : S) → StopsAt (s x) (f x)) → ((x : S) → TakesBytes (T x))
    → (m n : ℕ) (x y : S) (before front rest : List ℕ) (o : ℕ) → IsBytes rest → length (front ++ rest) < n → done y ≡ false → steps (due done T) m x y (length before) front → s y (length before + length front) rest o → steps_while_due done f n x (place before (front ++ rest)) ≡ failed o
unfolding steps_while_due
done_stops done T s f e h takes m zero x y before front rest o fits room more is stops = absurd (omega (arith, room))
done_stops {S} done T s f e h takes zero (suc n) x y before front rest o fits room more is stops =
    let at : length before + length front ≡ length before = omega (arith, ap length is.1) in
    let one = (h x).again before rest o fits (subst (λ (z : S). s z (length before) rest o) is.0 (subst (λ (k : ℕ). s y k rest o) at stops)) in
    let here : done x ≡ false = ap done (sym is.0) ∙ more in
    rw (is.1, here, one) refl
done_stops done T s f e h takes (suc m) (suc n) x y before front rest o fits room more is stops =
    let i = is.1 in
    let one = (e x).again before i.0 (i.1 ++ rest) is.0 i.2.1 in
    let here = subst (λ (k : ℕ). steps (due done T) m is.0 y k i.1) (sym (length-append before i.0)) i.3 in
    let at : length before + length front ≡ length (before ++ i.0) + length i.1 = omega (arith, ap length i.4, behind_both before i.0 i.1) in
    let some : 0 < length i.0 = takes x is.0 (length before) i.0 i.2.1 in
    let left : length (i.1 ++ rest) < n = omega (arith, room, some, ap length i.4, length-append front rest, length-append i.0 i.1, length-append i.1 rest) in
    let two = done_stops done T s f e h takes m n is.0 y (before ++ i.0) i.1 rest o fits left more here (subst (λ (k : ℕ). s y k rest o) at stops) in
    rw (i.2.0, i.4, append_assoc i.0 i.1 rest, one, two) refl

pub until_done_stops_at : {S : Type 0} (done : S → Bool) (T : S → S → ℕ → List ℕ → Type 0) (s : S → ℕ → List ℕ → ℕ → Type 0) (f : S → Place → Read S) → ((x : S) → IsExact (T x) (f x)) → ((x : S) → StopsAt (s x) (f x)) → ((x : S) → TakesBytes (T x)) → (x : S) → StopsAt (steps_until_done_stops done T s x) (steps_until_done done f x)
unfolding steps_until_done
until_done_stops_at done T s f e h takes x = record {
  only = λ before after o fits read. done_only done T s f e h takes _ x before after o fits (omega (arith, length-append before after)) read;
  again = λ before after o fits t. rw t.6 (done_stops done T s f e h takes t.0 _ x t.1 before t.2 t.3 o (IsBytes-rest t.2 t.3 (subst IsBytes t.6 fits)) (omega (arith, length-append before (t.2 ++ t.3))) t.4 t.5 t.7);
}
