-- Blocks read exactly what is spelled in them, up to their end.
use Rattle.std.proofs.Common.{◌≡◌, ℕ, ◌+◌, ◌-◌, ◌≤◌, Bool, true, eqb, leb, List, [], ◌++◌, length, take, drop, Ok, Err, refl, sym, ap, subst, ◌∙◌, inl, inr, append_assoc, arith, length-append}
use Rattle.std.proofs.lemmas.Bool.{eqb-true}
use Rattle.std.proofs.lemmas.List.{append-nil, nil_from_length, take-append-drop, take_at, length-take}
use Rattle.std.proofs.Math.Seq.{take-append-add, drop-append_seam}
use Rattle.wasm_bytes.specs.Place.{Place, Read}
use Rattle.wasm_bytes.specs.Reading.{◌>>=◌, ◌⊗◌, ◌▷◌, mapped, checked, if_passes, complete, if_complete, u32_item, if_inside, block_of, block_item, end_item, rest_item, closed, within, value_of, whole, fixed_item, named_item, section_item}
use Rattle.wasm_bytes.specs.calls.Spelling.{◌&◌, pair, always, leads, image, passing, byte, u32, text, name, sized, section}
use Rattle.wasm_bytes.specs.Laws.{IsBytes, place, got, Took, IsExact, IsTail}
use Rattle.wasm_bytes.proofs.Places.{IsBytes-rest, IsBytes-front, place_is, place_behind, rest_length, got_is, bind_ok, took_is}
use Rattle.wasm_bytes.proofs.Exact.{first_took, then_exact, mapped_exact}
use Rattle.wasm_bytes.proofs.ExactItems.{u32_exact, fixed_exact, named_exact}
use Rattle.wasm_leb.proofs.Tools.{chosen}

-- ---- up to the end of a block

-- what was read up to the end, of a value and a place that are the same
pub tail_is : {A : Type 0} (S : A → ℕ → List ℕ → Type 0) (before after : List ℕ) (x y : A) (p q : Place) → got x p ≡ got y q → S x (length before) after → p ≡ place (before ++ after) [] → S y (length before) after × (q ≡ place (before ++ after) [])
tail_is {A} S before after x y p q e is end =
    let same = got_is x y p q e in
    (subst (λ (w : A). S w (length before) after) same.0 is, sym same.1 ∙ end)

-- the end behind a front
pub end_behind : (before front rest all : List ℕ) → all ≡ front ++ rest → place ((before ++ front) ++ rest) [] ≡ place (before ++ all) []
end_behind before front rest all e = ap (λ (t : List ℕ). place t []) (append_assoc before front rest ∙ ap (λ (t : List ℕ). before ++ t) (sym e))

pub end_ok : (p q : Place) (u : Unit {0}) → end_item p ≡ got u q → (p.at ≡ length p.block) × (p ≡ q)
unfolding end_item
end_ok p q u e = elim (chosen (eqb p.at (length p.block)) _ _ (got u q) e) [
  | inl c ↦ (eqb-true p.at (length p.block) c.0, (got_is tt u p q c.1).1)
  | inr c ↦ absurd cc
]

pub end_here : (before : List ℕ) → end_item (place before []) ≡ got tt (place before [])
unfolding end_item
end_here before = let same : eqb (length before) (length (before ++ [])) ≡ true = grind (arith, append-nil) in rw same refl

-- Nothing is left behind a place at the end.
pub none_left : (before rest : List ℕ) → length before ≡ length (before ++ rest) → rest ≡ []
none_left before rest e = nil_from_length rest (omega (arith, e, length-append before rest))

closed_ok : {A : Type 0} (f : Place → Read A) (p : Place) (y : A) (q : Place) → closed f p ≡ got y q → (x : A) × (r : Place) × (f p ≡ got x r) × (r.at ≡ length r.block) × (got x r ≡ got y q)
closed_ok f p y q read =
    let a = bind_ok (f p) (λ x. end_item x.1 >>= λ e. Ok (x.0, e.1)) y q read in
    let b = bind_ok (end_item a.1) (λ e. got a.0 e.1) y q a.3 in
    let e = end_ok a.1 b.1 b.0 b.2 in
    (a.0, a.1, a.2, e.0, ap (got a.0) e.1 ∙ b.3)

pub closed_exact : {A : Type 0} (S : A → ℕ → List ℕ → Type 0) (f : Place → Read A) → IsExact S f → IsTail S (closed f)
closed_exact S f e = record {
  sound = λ before after y q fits read.
      let a = closed_ok f (place before after) y q read in
      let t = e.sound before after a.0 a.1 fits a.2 in
      let full : length (before ++ t.front) ≡ length ((before ++ t.front) ++ t.rest) = subst (λ (p : Place). p.at ≡ length p.block) t.behind a.3 in
      let none = none_left (before ++ t.front) t.rest full in
      let all : after ≡ t.front = t.parts ∙ ap (λ (r : List ℕ). t.front ++ r) none ∙ append-nil t.front in
      let end : a.1 ≡ place (before ++ after) [] = t.behind ∙ ap (λ (r : List ℕ). place (before ++ t.front) r) none ∙ ap (λ (r : List ℕ). place (before ++ r) []) (sym all) in
      tail_is S before after a.0 y a.1 q a.4 (subst (S a.0 (length before)) (sym all) t.is) end;
  again = λ before after x s.
      let one : f (place before after) ≡ got x (place (before ++ after) []) = ap (λ (t : List ℕ). f (place before t)) (sym (append-nil after)) ∙ e.again before after [] x s in
      rw (one, end_here (before ++ after)) refl;
}

pub closed_tail : {A : Type 0} (S : A → ℕ → List ℕ → Type 0) (f : Place → Read A) → IsTail S f → IsTail S (closed f)
closed_tail S f e = record {
  sound = λ before after y q fits read.
      let a = closed_ok f (place before after) y q read in
      let t = e.sound before after a.0 a.1 fits a.2 in
      tail_is S before after a.0 y a.1 q a.4 t.0 t.1;
  again = λ before after x s. rw (e.again before after x s, end_here (before ++ after)) refl;
}

pub rest_tail : IsTail text rest_item
unfolding rest_item
rest_tail = record {
  sound = λ before after y q fits read.
      let e : got after (place (before ++ after) []) ≡ got y q = ap (λ (p : Place). got after p) (place_is ((before ++ after) ++ []) (before ++ after) (length (before ++ after)) (length (before ++ after)) (append-nil (before ++ after)) refl) ∙ ap (λ (t : List ℕ). got t (record { block = before ++ after; at = length (before ++ after) })) (sym (drop-append_seam before after)) ∙ read in
      tail_is text before after after y _ q e refl refl;
  again = λ before after x s. rw (drop-append_seam before after, s, append-nil (before ++ x)) refl;
}

-- ---- before what stands up to the end

pub leads_tail : {A B : Type 0} (S : A → ℕ → List ℕ → Type 0) (T : A → B → ℕ → List ℕ → Type 0) (f : Place → Read A) (g : A → Place → Read B) → IsExact S f → ((x : A) → IsTail (T x) (g x)) → IsTail (leads S T) (f ▷ g)
leads_tail S T f g e h = record {
  sound = λ before after y q fits read.
      let a = first_took S f e before after (λ x. g x.0 x.1) y q fits read in
      let t = (h a.0).sound (before ++ a.1) a.2 y q a.5 a.6 in
      ((a.0, (a.1, a.2, a.3, subst (λ (n : ℕ). T a.0 y n a.2) (length-append before a.1) t.0, a.4)), t.1 ∙ end_behind before a.1 a.2 after a.4);
  again = λ before after y s.
      let one = e.again before s.1.0 s.1.1 s.0 s.1.2 in
      let here = subst (λ (n : ℕ). T s.0 y n s.1.1) (sym (length-append before s.1.0)) s.1.3 in
      let two = (h s.0).again (before ++ s.1.0) s.1.1 y here in
      rw (s.1.4, one, two, append_assoc before s.1.0 s.1.1) refl;
}

-- ---- one tail seen in another way

pub same_tail : {A : Type 0} (S T : A → ℕ → List ℕ → Type 0) (f : Place → Read A) → ((x : A) (at : ℕ) (front : List ℕ) → S x at front → T x at front) → ((x : A) (at : ℕ) (front : List ℕ) → T x at front → S x at front) → IsTail S f → IsTail T f
same_tail S T f made parts e = record {
  sound = λ before after x q fits read. let t = e.sound before after x q fits read in (made x (length before) after t.0, t.1);
  again = λ before after x s. e.again before after x (parts x (length before) after s);
}

pub image_tail : {A B : Type 0} (S : A → ℕ → List ℕ → Type 0) (to : A → B) (f : Place → Read A) → IsTail S f → IsTail (image to S) (mapped to f)
image_tail S to f e = record {
  sound = λ before after y q fits read.
      let a = bind_ok (f (place before after)) (λ x. got (to x.0) x.1) y q read in
      let t = e.sound before after a.0 a.1 fits a.2 in
      tail_is (image to S) before after (to a.0) y a.1 q a.3 (a.0, refl, t.0) t.1;
  again = λ before after y s. rw (e.again before after s.0 s.2, s.1) refl;
}

pub mapped_tail : {A B : Type 0} (S : A → ℕ → List ℕ → Type 0) (T : B → ℕ → List ℕ → Type 0) (to : A → B) (from : B → A) (f : Place → Read A)
    → ((y : B) → to (from y) ≡ y) → ((x : A) (at : ℕ) (front : List ℕ) → S x at front → T (to x) at front) → ((y : B) (at : ℕ) (front : List ℕ) → T y at front → S (from y) at front) → IsTail S f → IsTail T (mapped to f)
mapped_tail {A} {B} S T to from f back made parts e =
    same_tail (image to S) T (mapped to f) (λ y at front s. subst (λ (w : B). T w at front) s.1 (made s.0 at front s.2)) (λ y at front t. (from y, back y, parts y at front t)) (image_tail S to f e)

pub then_tail : {A B : Type 0} (S : A → ℕ → List ℕ → Type 0) (T : B → ℕ → List ℕ → Type 0) (f : Place → Read A) (g : Place → Read B) → IsExact S f → IsTail T g → IsTail (pair S T) (f ⊗ g)
then_tail {A} {B} S T f g e h =
    let parts : A → A × B → ℕ → List ℕ → Type 0 = λ x. image (λ (y : B). (x, y)) T in
    same_tail (leads S parts) (pair S T) (f ⊗ g)
    (λ z at front s. subst (λ (w : A × B). pair S T w at front) s.1.3.1 (s.1.0, s.1.1, s.1.2, s.1.3.2, s.1.4))
    (λ z at front s. (z.0, (s.0, s.1, s.2, (z.1, refl, s.3), s.4)))
    (leads_tail S parts f (λ x. mapped (λ (y : B). (x, y)) g) e (λ x. image_tail T (λ (y : B). (x, y)) g h))

pub checked_tail : {A : Type 0} (test : A → Bool) (S : A → ℕ → List ℕ → Type 0) (f : Place → Read A) → IsTail S f → IsTail (passing test S) (checked test f)
checked_tail test S f e = record {
  sound = λ before after y q fits read.
      let a = bind_ok (f (place before after)) (if_passes test (length before)) y q read in
      elim (chosen (test a.0) _ _ (got y q) a.3) [
        | inl p ↦
            let t = e.sound before after a.0 a.1 fits a.2 in
            tail_is (passing test S) before after a.0 y a.1 q p.1 (p.0, t.0) t.1
        | inr p ↦ absurd cc
      ];
  again = λ before after x s. rw (e.again before after x s.1, s.0) refl;
}

-- the values that lack nothing
pub complete_tail : {A : Type 0} (test : A → Bool) (S : A → ℕ → List ℕ → Type 0) (f : Place → Read A) → IsTail S f → IsTail (passing test S) (complete test f)
complete_tail test S f e = record {
  sound = λ before after y q fits read.
      let a = bind_ok (f (place before after)) (if_complete test) y q read in
      elim (chosen (test a.0) _ _ (got y q) a.3) [
        | inl p ↦
            let t = e.sound before after a.0 a.1 fits a.2 in
            tail_is (passing test S) before after a.0 y a.1 q p.1 (p.0, t.0) t.1
        | inr p ↦ absurd cc
      ];
  again = λ before after x s. rw (e.again before after x s.1, s.0) refl;
}

-- ---- blocks

-- what a size opens
pub record Opens (before after : List ℕ) (inner outer : Place) : Type 0 where
  pub size : List ℕ
  pub contents : List ℕ
  pub rest : List ℕ
  pub is : u32 (length contents) (length before) size
  pub parts : after ≡ size ++ (contents ++ rest)
  pub front : inner ≡ place (before ++ size) contents
  pub behind : outer ≡ place (before ++ (size ++ contents)) rest
  pub bytes : IsBytes (contents ++ rest)

opens : (before size tail : List ℕ) (n : ℕ) (inner outer : Place) → u32 n (length before) size → n ≤ length tail → IsBytes tail
    → got inner outer ≡ Ok (block_of n (place (before ++ size) tail)) → Opens before (size ++ tail) inner outer
opens before size tail n inner outer is room fits read =
    let start = before ++ size in
    let b = block_of n (place start tail) in
    let same = got_is inner b.0 outer b.1 read in
    let len : length (take n tail) ≡ n = omega (arith, length-take n tail) in
    let parts : tail ≡ take n tail ++ drop n tail = sym (take-append-drop n tail) in
    let behind = place_behind start (take n tail) (drop n tail) (length start + n) (omega (arith, len)) in
    record {
      size = size;
      contents = take n tail;
      rest = drop n tail;
      is = rw len is;
      parts = ap (λ (t : List ℕ). size ++ t) parts;
      front = same.0 ∙ ap (λ (t : List ℕ). let p : Place = record { block = t; at = length start } in p) (take-append-add start tail n);
      behind = same.1 ∙ ap (λ (t : List ℕ). let p : Place = record { block = start ++ t; at = length start + n } in p) parts ∙ behind ∙ ap (λ (t : List ℕ). place t (drop n tail)) (append_assoc before size (take n tail));
      bytes = subst IsBytes parts fits;
    }

pub block_sound : (before after : List ℕ) (inner outer : Place) → IsBytes after → block_item (place before after) ≡ got inner outer → Opens before after inner outer
unfolding block_item
block_sound before after inner outer fits read =
    let a = first_took u32 u32_item u32_exact before after (if_inside (length before)) inner outer fits read in
    elim (chosen (leb a.0 (length ((before ++ a.1) ++ a.2) - length (before ++ a.1))) _ _ (got inner outer) a.6) [
      | inl p ↦ subst (λ (t : List ℕ). Opens before t inner outer) (sym a.4) (opens before a.1 a.2 a.0 inner outer a.3 (grind (arith, p.0, rest_length)) a.5 (sym p.1))
      | inr p ↦ absurd cc
    ]

pub block_again : (before size contents rest : List ℕ) → u32 (length contents) (length before) size → block_item (place before (size ++ (contents ++ rest))) ≡ got (place (before ++ size) contents) (place (before ++ (size ++ contents)) rest)
unfolding block_item
block_again before size contents rest s =
    let one = u32_exact.again before size (contents ++ rest) (length contents) s in
    let room : leb (length contents) (length ((before ++ size) ++ (contents ++ rest)) - length (before ++ size)) ≡ true = grind (arith, rest_length, length-append) in
    let cut : take (length (before ++ size) + length contents) ((before ++ size) ++ (contents ++ rest)) ≡ (before ++ size) ++ contents = take-append-add (before ++ size) (contents ++ rest) (length contents) ∙ ap (λ (t : List ℕ). (before ++ size) ++ t) (take_at contents rest (length contents) refl) in
    rw (one, room, cut, place_behind (before ++ size) contents rest (length (before ++ size) + length contents) refl, append_assoc before size contents) refl

-- a block, and all that stands in it
pub within_exact : {A : Type 0} (S : A → ℕ → List ℕ → Type 0) (f : Place → Read A) → IsTail S (closed f) → IsExact (λ x. sized (S x)) (within f)
within_exact S f e = record {
  sound = λ before after x q fits read.
      let a = bind_ok (block_item (place before after)) (λ b. closed f b.0 >>= λ x. Ok (x.0, b.1)) x q read in
      let o = block_sound before after a.0 a.1 fits a.2 in
      let b = bind_ok (closed f a.0) (λ y. got y.0 a.1) x q a.3 in
      let t = e.sound (before ++ o.size) o.contents b.0 b.1 (IsBytes-front o.contents o.rest o.bytes) (ap (closed f) (sym o.front) ∙ b.2) in
      let is : S b.0 (length before + length o.size) o.contents = subst (λ (n : ℕ). S b.0 n o.contents) (length-append before o.size) t.0 in
      let all : Took (λ y. sized (S y)) before after b.0 a.1 = record {
        front = o.size ++ o.contents;
        rest = o.rest;
        is = (o.size, o.contents, o.is, is, refl);
        parts = o.parts ∙ sym (append_assoc o.size o.contents o.rest);
        behind = o.behind;
        bytes = IsBytes-rest o.contents o.rest o.bytes;
      } in
      took_is (λ y. sized (S y)) before after b.0 x a.1 q b.3 all;
  again = λ before front rest x s.
      let one = block_again before s.0 s.1 rest s.2 in
      let here : S x (length (before ++ s.0)) s.1 = subst (λ (n : ℕ). S x n s.1) (sym (length-append before s.0)) s.3 in
      let two = e.again (before ++ s.0) s.1 x here in
      rw (s.4, append_assoc s.0 s.1 rest, one, two) refl;
}

-- ---- a whole input

value_ok : {A : Type 0} (r : Read A) (x : A) → value_of r ≡ Ok x → (q : Place) × (r ≡ got x q)
value_ok {A} (Ok y) x e = let same : y.0 ≡ x = cc in (y.1, ap (λ (z : A). got z y.1) same)
value_ok (Err o) x e = absurd cc

pub whole_found : {A : Type 0} (S : A → ℕ → List ℕ → Type 0) (f : Place → Read A) → IsTail S (closed f) → (bytes : List ℕ) (x : A) → IsBytes bytes → whole f bytes ≡ Ok x → S x 0 bytes
whole_found S f e bytes x fits read = let v = value_ok (closed f (place [] bytes)) x read in (e.sound [] bytes x v.0 fits v.1).0

pub whole_read : {A : Type 0} (S : A → ℕ → List ℕ → Type 0) (f : Place → Read A) → IsTail S (closed f) → (bytes : List ℕ) (x : A) → S x 0 bytes → whole f bytes ≡ Ok x
whole_read S f e bytes x s = rw (e.again [] bytes x s) refl

-- ---- custom sections of a name

-- what stands behind the name
abbrev titled : {A : Type 0} → List ℕ → (Place → Read A) → Place → Read A
titled title f = mapped (λ x. x.1) (named_item title ⊗ f)

section_with : {A : Type 0} (title : List ℕ) (S : A → ℕ → List ℕ → Type 0) (f : Place → Read A) → IsTail (λ x. name title & S x) (closed (titled title f)) → IsExact (λ x. section title (S x)) (section_item title f)
unfolding section_item
section_with title S f e =
    let block = within_exact (λ x. name title & S x) (titled title f) e in
    let all = then_exact (always (byte 0x00)) (λ x. sized (name title & S x)) (fixed_item 0x00) (within (titled title f)) (fixed_exact 0x00) block in
    mapped_exact _ (λ x. section title (S x)) (λ x. x.1) (λ x. (tt, x)) _ (λ x. refl) (λ x at front s. s) (λ x at front s. s) all

pub section_exact : {A : Type 0} (title : List ℕ) (S : A → ℕ → List ℕ → Type 0) (f : Place → Read A) → IsExact S f → IsExact (λ x. section title (S x)) (section_item title f)
section_exact title S f e =
    let all = then_exact (always (name title)) S (named_item title) f (named_exact title) e in
    let inner : IsExact (λ x. name title & S x) (titled title f) = mapped_exact _ (λ x. name title & S x) (λ x. x.1) (λ x. (tt, x)) _ (λ x. refl) (λ x at front s. s) (λ x at front s. s) all in
    section_with title S f (closed_exact _ _ inner)

-- the same of contents that go on to the end
pub section_tail_exact : {A : Type 0} (title : List ℕ) (S : A → ℕ → List ℕ → Type 0) (f : Place → Read A) → IsTail S f → IsExact (λ x. section title (S x)) (section_item title f)
section_tail_exact title S f e =
    let all = then_tail (always (name title)) S (named_item title) f (named_exact title) e in
    let inner : IsTail (λ x. name title & S x) (titled title f) = mapped_tail _ (λ x. name title & S x) (λ x. x.1) (λ x. (tt, x)) _ (λ x. refl) (λ x at front s. s) (λ x at front s. s) all in
    section_with title S f (closed_tail _ _ inner)
