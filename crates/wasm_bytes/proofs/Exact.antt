-- Items put together read exactly what is spelled by the parts.
use Rattle.std.proofs.Common.{◌≡◌, ℕ, ◌+◌, Bool, List, ◌++◌, length, Ok, Err, refl, sym, ap, subst, ◌∙◌, inl, inr, append_assoc, length-append}
use Rattle.std.proofs.lemmas.List.{append-nil}
use Rattle.wasm_bytes.specs.Place.{Place, Read}
use Rattle.wasm_bytes.specs.Reading.{◌>>=◌, ◌⊗◌, ◌▷◌, mapped, checked, if_passes, as_one, at_front, done_item, here_item}
use Rattle.wasm_bytes.specs.calls.Spelling.{◌&◌, pair, leads, image, passing, only, here}
use Rattle.wasm_bytes.specs.Laws.{IsBytes, place, got, Took, IsExact}
use Rattle.wasm_bytes.proofs.Places.{bind_ok, took_as, took_is, took_nothing}
use Rattle.wasm_leb.proofs.Tools.{chosen}

-- ---- one after the other

-- what two took, one after the other
pub then_took : {A B C : Type 0} (S : A → ℕ → List ℕ → Type 0) (T : B → ℕ → List ℕ → Type 0) (U : C → ℕ → List ℕ → Type 0) (before after front rest : List ℕ) (x : A) (y : B) (z : C) (q : Place)
    → ((bytes : List ℕ) → (S x & T y) (length before) bytes → U z (length before) bytes) → S x (length before) front → after ≡ front ++ rest → Took T (before ++ front) rest y q → Took U before after z q
then_took S T U before after front rest x y z q made is parts second = record {
  front = front ++ second.front;
  rest = second.rest;
  is = made (front ++ second.front) (front, second.front, is, subst (λ (n : ℕ). T y n second.front) (length-append before front) second.is, refl);
  parts = parts ∙ ap (λ (t : List ℕ). front ++ t) second.parts ∙ sym (append_assoc front second.front second.rest);
  behind = second.behind ∙ ap (λ (t : List ℕ). place t second.rest) (append_assoc before front second.front);
  bytes = second.bytes;
}

-- what the first of two took
pub first_took : {A B : Type 0} (S : A → ℕ → List ℕ → Type 0) (f : Place → Read A) → IsExact S f → (before after : List ℕ) (g : A × Place → Read B) (y : B) (q : Place) → IsBytes after → (f (place before after) >>= g) ≡ got y q
    → (x : A) × (front : List ℕ) × (rest : List ℕ) × S x (length before) front × (after ≡ front ++ rest) × IsBytes rest × (g (x, place (before ++ front) rest) ≡ got y q)
first_took S f e before after g y q fits read =
    let a = bind_ok (f (place before after)) g y q read in
    let t = e.sound before after a.0 a.1 fits a.2 in
    (a.0, t.front, t.rest, t.is, t.parts, t.bytes, ap (λ (p : Place). g (a.0, p)) (sym t.behind) ∙ a.3)

leads_again : {A B : Type 0} (S : A → ℕ → List ℕ → Type 0) (T : A → B → ℕ → List ℕ → Type 0) (f : Place → Read A) (g : A → Place → Read B) → IsExact S f → ((x : A) → IsExact (T x) (g x))
    → (before front more rest : List ℕ) (x : A) (y : B) → S x (length before) front → T x y (length before + length front) more → (f ▷ g) (place before ((front ++ more) ++ rest)) ≡ got y (place (before ++ (front ++ more)) rest)
leads_again S T f g e h before front more rest x y s t =
    let one = e.again before front (more ++ rest) x s in
    let here : T x y (length (before ++ front)) more = subst (λ (n : ℕ). T x y n more) (sym (length-append before front)) t in
    let two = (h x).again (before ++ front) more rest y here in
    rw (append_assoc front more rest, one, two, append_assoc before front more) refl

-- a value that says what comes after it
pub leads_exact : {A B : Type 0} (S : A → ℕ → List ℕ → Type 0) (T : A → B → ℕ → List ℕ → Type 0) (f : Place → Read A) (g : A → Place → Read B) → IsExact S f → ((x : A) → IsExact (T x) (g x)) → IsExact (leads S T) (f ▷ g)
leads_exact S T f g e h = record {
  sound = λ before after y q fits read.
      let a = first_took S f e before after (λ x. g x.0 x.1) y q fits read in
      let t = (h a.0).sound (before ++ a.1) a.2 y q a.5 a.6 in
      then_took S (T a.0) (leads S T) before after a.1 a.2 a.0 y y q (λ bytes s. (a.0, s)) a.3 a.4 t;
  again = λ before front rest y s. rw s.1.4 (leads_again S T f g e h before s.1.0 s.1.1 rest s.0 y s.1.2 s.1.3);
}

-- ---- one item seen in another way

-- a language that is the same
pub same_exact : {A : Type 0} (S T : A → ℕ → List ℕ → Type 0) (f : Place → Read A) → ((x : A) (at : ℕ) (front : List ℕ) → S x at front → T x at front) → ((x : A) (at : ℕ) (front : List ℕ) → T x at front → S x at front) → IsExact S f → IsExact T f
same_exact S T f made parts e = record {
  sound = λ before after x q fits read. took_as S T before after x x q (made x (length before)) (e.sound before after x q fits read);
  again = λ before front rest x s. e.again before front rest x (parts x (length before) front s);
}

-- the value made of what was read
pub image_exact : {A B : Type 0} (S : A → ℕ → List ℕ → Type 0) (to : A → B) (f : Place → Read A) → IsExact S f → IsExact (image to S) (mapped to f)
image_exact S to f e = record {
  sound = λ before after y q fits read.
      let a = bind_ok (f (place before after)) (λ x. got (to x.0) x.1) y q read in
      let t = e.sound before after a.0 a.1 fits a.2 in
      took_is (image to S) before after (to a.0) y a.1 q a.3 (took_as S (image to S) before after a.0 (to a.0) a.1 (λ front s. (a.0, refl, s)) t);
  again = λ before front rest y s.
      let one = e.again before front rest s.0 s.2 in
      rw (one, s.1) refl;
}

-- a value that is read as its parts
pub mapped_exact : {A B : Type 0} (S : A → ℕ → List ℕ → Type 0) (T : B → ℕ → List ℕ → Type 0) (to : A → B) (from : B → A) (f : Place → Read A)
    → ((y : B) → to (from y) ≡ y) → ((x : A) (at : ℕ) (front : List ℕ) → S x at front → T (to x) at front) → ((y : B) (at : ℕ) (front : List ℕ) → T y at front → S (from y) at front) → IsExact S f → IsExact T (mapped to f)
mapped_exact {A} {B} S T to from f back made parts e =
    same_exact (image to S) T (mapped to f) (λ y at front s. subst (λ (w : B). T w at front) s.1 (made s.0 at front s.2)) (λ y at front t. (from y, back y, parts y at front t)) (image_exact S to f e)

-- two values, one after the other
pub then_exact : {A B : Type 0} (S : A → ℕ → List ℕ → Type 0) (T : B → ℕ → List ℕ → Type 0) (f : Place → Read A) (g : Place → Read B) → IsExact S f → IsExact T g → IsExact (pair S T) (f ⊗ g)
then_exact {A} {B} S T f g e h =
    let parts : A → A × B → ℕ → List ℕ → Type 0 = λ x. image (λ (y : B). (x, y)) T in
    same_exact (leads S parts) (pair S T) (f ⊗ g)
    (λ z at front s. subst (λ (w : A × B). pair S T w at front) s.1.3.1 (s.1.0, s.1.1, s.1.2, s.1.3.2, s.1.4))
    (λ z at front s. (z.0, (s.0, s.1, s.2, (z.1, refl, s.3), s.4)))
    (leads_exact S parts f (λ x. mapped (λ (y : B). (x, y)) g) e (λ x. image_exact T (λ (y : B). (x, y)) g h))

-- the values that pass a test
pub checked_exact : {A : Type 0} (test : A → Bool) (S : A → ℕ → List ℕ → Type 0) (f : Place → Read A) → IsExact S f → IsExact (passing test S) (checked test f)
checked_exact {A} test S f e = record {
  sound = λ before after y q fits read.
      let a = bind_ok (f (place before after)) (if_passes test (length before)) y q read in
      elim (chosen (test a.0) _ _ (got y q) a.3) [
        | inl p ↦
            let t = e.sound before after a.0 a.1 fits a.2 in
            took_is (passing test S) before after a.0 y a.1 q p.1 (took_as S (passing test S) before after a.0 a.0 a.1 (λ front s. (p.0, s)) t)
        | inr p ↦ absurd cc
      ];
  again = λ before front rest x s.
      let one = e.again before front rest x s.1 in
      rw (one, s.0) refl;
}

at_front_ok : {A : Type 0} (at : ℕ) (r : Read A) (x : A) (q : Place) → at_front at r ≡ got x q → r ≡ got x q
at_front_ok at (Ok y) x q e = e
at_front_ok at (Err o) x q e = absurd cc

pub as_one_exact : {A : Type 0} (S : A → ℕ → List ℕ → Type 0) (f : Place → Read A) → IsExact S f → IsExact S (as_one f)
as_one_exact S f e = record {
  sound = λ before after x q fits read. e.sound before after x q fits (at_front_ok (length before) (f (place before after)) x q read);
  again = λ before front rest x s. let one = e.again before front rest x s in rw one refl;
}

-- ---- no byte

pub done_exact : {A : Type 0} (x : A) → IsExact (only x) (done_item x)
done_exact x = record {
  sound = λ before after y q fits read. took_is (only x) before after x y (place before after) q read (took_nothing (only x) before after x fits (refl, refl));
  again = λ before front rest y s. rw (s.1, s.0, append-nil before) refl;
}

pub here_exact : IsExact here here_item
here_exact = record {
  sound = λ before after y q fits read. took_is here before after (length before) y (place before after) q read (took_nothing here before after (length before) fits (refl, refl));
  again = λ before front rest y s. rw (s.1, s.0, append-nil before) refl;
}
