-- A test that chooses between two ways to read, items that know their offset, and items with their first byte.
use Rattle.std.proofs.Common.{◌≡◌, ℕ, ◌+◌, ◌<◌, Bool, true, false, List, [], ◌∷◌, ◌++◌, length, get_or, Option, Some, None, Ok, Err, refl, sym, ap, inl, inr, ◌∙◌, arith, length-append}
use Rattle.std.specs.Prelude.{if◌then◌else◌}
use Rattle.wasm_bytes.specs.Place.{Place, Read}
use Rattle.wasm_bytes.specs.Reading.{◌>>=◌, ◌▷◌, here_item}
use Rattle.wasm_bytes.specs.calls.Spelling.{pair}
use Rattle.wasm_bytes.specs.Laws.{IsBytes, place, got, failed, Took, IsExact, StopsAt, TakesBytes, PicksExact, PicksStops}
use Rattle.wasm_bytes.proofs.Places.{bind_ok, took_is}
use Rattle.wasm_bytes.proofs.Exact.{same_exact}
use Rattle.wasm_bytes.proofs.Stops.{same_stops_at}
use Rattle.wasm_format.specs.calls.Choices.{on_test, no_spelling, stops_on_test, or_else, first_and}
use Rattle.wasm_format.specs.Expressions.{with_first}

-- ---- a language by a test

true_again : {A : Type 0} (S T : A → ℕ → List ℕ → Type 0) (x : A) (at : ℕ) (front : List ℕ) → on_test true S T x at front → S x at front
true_again S T x at front s = elim s [ inl p ↦ p.1 | inr p ↦ absurd cc ]

false_again : {A : Type 0} (S T : A → ℕ → List ℕ → Type 0) (x : A) (at : ℕ) (front : List ℕ) → on_test false S T x at front → T x at front
false_again S T x at front s = elim s [ inl p ↦ absurd cc | inr p ↦ p.1 ]

pub on_test_exact : {A : Type 0} (b : Bool) (S T : A → ℕ → List ℕ → Type 0) (f g : Place → Read A) → IsExact S f → IsExact T g → IsExact (on_test b S T) (if b then f else g)
on_test_exact true S T f g e h = same_exact S (on_test true S T) f (λ x at front s. inl (refl, s)) (true_again S T) e
on_test_exact false S T f g e h = same_exact T (on_test false S T) g (λ x at front s. inr (refl, s)) (false_again S T) h

none_picks : {A : Type 0} (S T : A → ℕ → List ℕ → Type 0) (pick : Option (Place → Read A)) → PicksExact T pick → PicksExact (on_test false S T) pick
none_picks S T (Some g) h = same_exact T (on_test false S T) g (λ x at front s. inr (refl, s)) (false_again S T) h
none_picks S T None h = λ x at front s. h x at front (false_again S T x at front s)

pub on_test_picks : {A : Type 0} (b : Bool) (S T : A → ℕ → List ℕ → Type 0) (f : Place → Read A) (pick : Option (Place → Read A)) → IsExact S f → PicksExact T pick → PicksExact (on_test b S T) (if b then Some f else pick)
on_test_picks true S T f pick e h = same_exact S (on_test true S T) f (λ x at front s. inl (refl, s)) (true_again S T) e
on_test_picks false S T f pick e h = none_picks S T pick h

pub no_spelling_picks : {A : Type 0} (x : A) (at : ℕ) (front : List ℕ) → no_spelling x at front → ⊥
no_spelling_picks x at front s = s

-- ---- where reading stops

true_stops : (s t : ℕ → List ℕ → ℕ → Type 0) (at : ℕ) (bytes : List ℕ) (o : ℕ) → stops_on_test true s t at bytes o → s at bytes o
true_stops s t at bytes o x = elim x [ inl p ↦ p.1 | inr p ↦ absurd cc ]

false_stops : (s t : ℕ → List ℕ → ℕ → Type 0) (at : ℕ) (bytes : List ℕ) (o : ℕ) → stops_on_test false s t at bytes o → t at bytes o
false_stops s t at bytes o x = elim x [ inl p ↦ absurd cc | inr p ↦ p.1 ]

pub on_test_stops : {A : Type 0} (b : Bool) (s t : ℕ → List ℕ → ℕ → Type 0) (f g : Place → Read A) → StopsAt s f → StopsAt t g → StopsAt (stops_on_test b s t) (if b then f else g)
on_test_stops true s t f g e h = same_stops_at s (stops_on_test true s t) f (λ at bytes o x. inl (refl, x)) (true_stops s t) e
on_test_stops false s t f g e h = same_stops_at t (stops_on_test false s t) g (λ at bytes o x. inr (refl, x)) (false_stops s t) h

none_stops : {A : Type 0} (P : Type 0) (s t : ℕ → List ℕ → ℕ → Type 0) (pick : Option (Place → Read A)) → PicksStops P t pick → PicksStops (or_else false P) (stops_on_test false s t) pick
none_stops P s t (Some g) h = (inr (refl, h.0), same_stops_at t (stops_on_test false s t) g (λ at bytes o x. inr (refl, x)) (false_stops s t) h.1)
none_stops P s t None h = λ x. elim x [ inl e ↦ absurd cc | inr p ↦ h p.1 ]

pub picks_stops : {A : Type 0} (b : Bool) (P : Type 0) (s t : ℕ → List ℕ → ℕ → Type 0) (f : Place → Read A) (pick : Option (Place → Read A)) → StopsAt s f → PicksStops P t pick → PicksStops (or_else b P) (stops_on_test b s t) (if b then Some f else pick)
picks_stops true P s t f pick e h = (inl refl, same_stops_at s (stops_on_test true s t) f (λ at bytes o x. inl (refl, x)) (true_stops s t) e)
picks_stops false P s t f pick e h = none_stops P s t pick h

-- ---- an item that knows its offset

pub offset_stops : {A : Type 0} (s : ℕ → ℕ → List ℕ → ℕ → Type 0) (g : ℕ → Place → Read A) → ((at : ℕ) → StopsAt (s at) (g at)) → StopsAt (λ at. s at at) (here_item ▷ g)
offset_stops s g h = record {
  only = λ before after o fits read. (h (length before)).only before after o fits read;
  again = λ before after o fits stops. (h (length before)).again before after o fits stops;
}

-- ---- an item with its first byte

first_byte : (before front rest : List ℕ) → 0 < length front → get_or (before ++ (front ++ rest)) (length before) 0 ≡ get_or front 0 0
first_byte [] [] rest some = absurd (omega (arith, some))
first_byte [] (b ∷ bs) rest some = refl
first_byte (c ∷ cs) front rest some = first_byte cs front rest some

first_sound : {A : Type 0} (S : A → ℕ → List ℕ → Type 0) (f : Place → Read A) → IsExact S f → TakesBytes S
    → (before after : List ℕ) (x : ℕ × A) (q : Place) → IsBytes after → with_first f (place before after) ≡ got x q → Took (first_and S) before after x q
first_sound {A} S f e takes before after x q fits read =
    let a = bind_ok (f (place before after)) (λ (y : A × Place). got (get_or (before ++ after) (length before) 0, y.0) y.1) x q read in
    let t = e.sound before after a.0 a.1 fits a.2 in
    let some : 0 < length t.front = takes a.0 (length before) t.front t.is in
    let byte : get_or t.front 0 0 ≡ get_or (before ++ after) (length before) 0 = sym (ap (λ (w : List ℕ). get_or (before ++ w) (length before) 0) t.parts ∙ first_byte before t.front t.rest some) in
    took_is (first_and S) before after (get_or (before ++ after) (length before) 0, a.0) x a.1 q a.3
    (record { front = t.front; rest = t.rest; is = (byte, t.is); parts = t.parts; behind = t.behind; bytes = t.bytes })

pub first_exact : {A : Type 0} (S : A → ℕ → List ℕ → Type 0) (f : Place → Read A) → IsExact S f → TakesBytes S → IsExact (first_and S) (with_first f)
first_exact {A} S f e takes = record {
  sound = first_sound S f e takes;
  again = λ before front rest x s.
      let some : 0 < length front = takes x.1 (length before) front s.1 in
      let one = e.again before front rest x.1 s.1 in
      rw (one, first_byte before front rest some, s.0) refl;
}

-- ---- items behind which nothing can fail

total_err : {A B : Type 0} (k : A × Place → B × Place) (read : Read A) (o : ℕ) → (read >>= λ y. Ok (k y)) ≡ failed o → read ≡ failed o
total_err k (Ok y) o r = absurd cc
total_err k (Err at) o r = let same : at ≡ o = cc in ap (λ (n : ℕ). Err n) same

pub total_stops_at : {A B : Type 0} (k : Place → A × Place → B × Place) (s : ℕ → List ℕ → ℕ → Type 0) (f : Place → Read A) → StopsAt s f → StopsAt s (λ p. f p >>= λ y. Ok (k p y))
total_stops_at k s f h = record {
  only = λ before after o fits read. h.only before after o fits (total_err (k (place before after)) (f (place before after)) o read);
  again = λ before after o fits stops. let one = h.again before after o fits stops in rw one refl;
}

pub first_takes : {A : Type 0} (S : A → ℕ → List ℕ → Type 0) → TakesBytes S → TakesBytes (first_and S)
first_takes S takes x at front s = takes x.1 at front s.1

pub second_takes : {A B : Type 0} (S : A → ℕ → List ℕ → Type 0) (T : B → ℕ → List ℕ → Type 0) → TakesBytes T → TakesBytes (pair S T)
second_takes S T h z at front s = omega (arith, h z.1 (at + length s.0) s.1 s.3, ap length s.4, length-append s.0 s.1)
