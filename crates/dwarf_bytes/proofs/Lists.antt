-- Values that stand for others, and lists, are read exactly as they are spelled.
use Rattle.std.proofs.Common.{◌≡◌, ℕ, zero, suc, ◌+◌, ◌-◌, ◌<◌, List, [], ◌∷◌, ◌++◌, length, Option, Some, None, refl, sym, ap, subst, append_assoc, arith, length-append}
use Rattle.std.proofs.lemmas.List.{append-nil}
use Rattle.wasm_bytes.specs.Place.{Place, Read}
use Rattle.wasm_bytes.specs.Reading.{◌>>=◌}
use Rattle.wasm_bytes.specs.Laws.{IsBytes, place, got, Took, IsExact, TakesBytes}
use Rattle.wasm_bytes.proofs.Places.{got_is, bind_ok, took_as, took_is, took_nothing}
use Rattle.wasm_bytes.proofs.Exact.{first_took, then_took}
use Rattle.dwarf_bytes.specs.Items.{meant_at, meaning_item, each_item, and_more, ended_from, ended_item}
use Rattle.dwarf_bytes.specs.calls.Spelled.{meaning, each, ended}

-- ---- what a value stands for

meant_ok : {A : Type 0} (at : ℕ) (p : Place) (o : Option A) (y : A) (q : Place) → meant_at at p o ≡ got y q → (o ≡ Some y) × (p ≡ q)
meant_ok {A} at p (Some x) y q e =
    let same = got_is x y p q e in
    (ap (λ (z : A). Some z) same.0, same.1)
meant_ok at p None y q e = absurd cc

pub meaning_exact : {A B : Type 0} (means : A → Option B) (S : A → ℕ → List ℕ → Type 0) (f : Place → Read A) → IsExact S f → IsExact (meaning means S) (meaning_item means f)
meaning_exact {A} {B} means S f e = record {
  sound = λ before after y q fits read.
      let a = bind_ok (f (place before after)) (λ x. meant_at (length before) x.1 (means x.0)) y q read in
      let m = meant_ok (length before) a.1 (means a.0) y q a.3 in
      let t = e.sound before after a.0 a.1 fits a.2 in
      let same : Took (meaning means S) before after y a.1 = took_as S (meaning means S) before after a.0 y a.1 (λ front s. (a.0, m.0, s)) t in
      subst (λ (w : Place). Took (meaning means S) before after y w) m.1 same;
  again = λ before front rest y s.
      let one = e.again before front rest s.0 s.2 in
      rw (one, s.1) refl;
}

-- ---- one for each of a list

each_sound : {A B : Type 0} (S : A → B → ℕ → List ℕ → Type 0) (f : A → Place → Read B) → ((x : A) → IsExact (S x) (f x))
    → (xs : List A) (before after : List ℕ) (ys : List B) (q : Place) → IsBytes after → each_item f xs (place before after) ≡ got ys q → Took (each S xs) before after ys q
unfolding each_item
each_sound S f e [] before after ys q fits read = took_is (each S []) before after [] ys (place before after) q read (took_nothing (each S []) before after [] fits refl)
each_sound {A} {B} S f e (x ∷ xs) before after ys q fits read =
    let a = first_took (S x) (f x) (e x) before after (λ y. each_item f xs y.1 >>= λ others. got (y.0 ∷ others.0) others.1) ys q fits read in
    let b = bind_ok (each_item f xs (place (before ++ a.1) a.2)) (λ others. got (a.0 ∷ others.0) others.1) ys q a.6 in
    let others = each_sound S f e xs (before ++ a.1) a.2 b.0 b.1 a.5 b.2 in
    let all = then_took (S x) (each S xs) (each S (x ∷ xs)) before after a.1 a.2 a.0 b.0 (a.0 ∷ b.0) b.1 (λ bytes s. s) a.3 a.4 others in
    took_is (each S (x ∷ xs)) before after (a.0 ∷ b.0) ys b.1 q b.3 all

each_again : {A B : Type 0} (S : A → B → ℕ → List ℕ → Type 0) (f : A → Place → Read B) → ((x : A) → IsExact (S x) (f x))
    → (xs : List A) (ys : List B) (before front rest : List ℕ) → each S xs ys (length before) front → each_item f xs (place before (front ++ rest)) ≡ got ys (place (before ++ front) rest)
unfolding each_item
each_again S f e [] [] before front rest s = rw (s, append-nil before) refl
each_again S f e [] (y ∷ ys) before front rest s = absurd s
each_again S f e (x ∷ xs) [] before front rest s = absurd s
each_again S f e (x ∷ xs) (y ∷ ys) before front rest s =
    let one = (e x).again before s.0 (s.1 ++ rest) y s.2 in
    let here = subst (λ (n : ℕ). each S xs ys n s.1) (sym (length-append before s.0)) s.3 in
    let two = each_again S f e xs ys (before ++ s.0) s.1 rest here in
    rw (s.4, append_assoc s.0 s.1 rest, one, two, append_assoc before s.0 s.1) refl

pub each_exact : {A B : Type 0} (S : A → B → ℕ → List ℕ → Type 0) (f : A → Place → Read B) → ((x : A) → IsExact (S x) (f x)) → (xs : List A) → IsExact (each S xs) (each_item f xs)
each_exact S f e xs = record { sound = each_sound S f e xs; again = λ before front rest ys s. each_again S f e xs ys before front rest s }

-- ---- a list that an end mark ends

ended_by : {A : Type 0} (S : Option A → ℕ → List ℕ → Type 0) (more : Place → Read (List A))
    → ((before after : List ℕ) (xs : List A) (q : Place) → IsBytes after → more (place before after) ≡ got xs q → Took (ended S) before after xs q)
    → (o : Option A) (before after front rest : List ℕ) (xs : List A) (q : Place) → S o (length before) front → after ≡ front ++ rest → IsBytes rest
    → and_more more o (place (before ++ front) rest) ≡ got xs q → Took (ended S) before after xs q
ended_by S more h None before after front rest xs q is parts fits read =
    took_is (ended S) before after [] xs (place (before ++ front) rest) q read (record { front = front; rest = rest; is = is; parts = parts; behind = refl; bytes = fits })
ended_by {A} S more h (Some x) before after front rest xs q is parts fits read =
    let b = bind_ok (more (place (before ++ front) rest)) (λ others. got (x ∷ others.0) others.1) xs q read in
    let others = h (before ++ front) rest b.0 b.1 fits b.2 in
    let all = then_took S (ended S) (ended S) before after front rest (Some x) b.0 (x ∷ b.0) b.1 (λ bytes s. s) is parts others in
    took_is (ended S) before after (x ∷ b.0) xs b.1 q b.3 all

ended_sound : {A : Type 0} (S : Option A → ℕ → List ℕ → Type 0) (f : Place → Read (Option A)) → IsExact S f
    → (n : ℕ) (before after : List ℕ) (xs : List A) (q : Place) → IsBytes after → ended_from f n (place before after) ≡ got xs q → Took (ended S) before after xs q
unfolding ended_from
ended_sound S f e zero before after xs q fits read = absurd cc
ended_sound S f e (suc n) before after xs q fits read =
    let a = first_took S f e before after (λ x. and_more (ended_from f n) x.0 x.1) xs q fits read in
    ended_by S (ended_from f n) (ended_sound S f e n) a.0 before after a.1 a.2 xs q a.3 a.4 a.5 a.6

ended_again : {A : Type 0} (S : Option A → ℕ → List ℕ → Type 0) (f : Place → Read (Option A)) → IsExact S f
    → (xs : List A) (n : ℕ) (before front rest : List ℕ) → length xs < n → ended S xs (length before) front → ended_from f n (place before (front ++ rest)) ≡ got xs (place (before ++ front) rest)
unfolding ended_from
ended_again S f e xs zero before front rest room s = absurd (omega (arith, room))
ended_again S f e [] (suc n) before front rest room s = let one = e.again before front rest None s in rw one refl
ended_again S f e (x ∷ xs) (suc n) before front rest room s =
    let one = e.again before s.0 (s.1 ++ rest) (Some x) s.2 in
    let here = subst (λ (k : ℕ). ended S xs k s.1) (sym (length-append before s.0)) s.3 in
    let two = ended_again S f e xs n (before ++ s.0) s.1 rest (omega (arith, room)) here in
    rw (s.4, append_assoc s.0 s.1 rest, one, two, append_assoc before s.0 s.1) refl

-- each item and the end mark take a byte
ended_room : {A : Type 0} (S : Option A → ℕ → List ℕ → Type 0) → TakesBytes S → (xs : List A) (at : ℕ) (front : List ℕ) → ended S xs at front → length xs < length front
ended_room S h [] at front s = h None at front s
ended_room S h (x ∷ xs) at front s = omega (arith, h (Some x) at s.0 s.2, ended_room S h xs (at + length s.0) s.1 s.3, ap length s.4, length-append s.0 s.1)

pub ended_exact : {A : Type 0} (S : Option A → ℕ → List ℕ → Type 0) (f : Place → Read (Option A)) → TakesBytes S → IsExact S f → IsExact (ended S) (ended_item f)
unfolding ended_item
ended_exact S f h e = record {
  sound = λ before after xs q fits read. ended_sound S f e (length (before ++ after) + 1 - length before) before after xs q fits read;
  again = λ before front rest xs s.
      ended_again S f e xs (length (before ++ (front ++ rest)) + 1 - length before) before front rest
      (omega (arith, ended_room S h xs (length before) front s, length-append before (front ++ rest), length-append front rest)) s;
}
