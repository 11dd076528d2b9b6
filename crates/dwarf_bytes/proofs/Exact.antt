-- Numbers, texts and blocks are read exactly as they are spelled.
use Rattle.std.proofs.Common.{◌≡◌, ◌≢◌, ℕ, suc, ◌+◌, ◌-◌, ◌≤◌, ◌<◌, Bool, true, false, eqb, leb, ltb, List, [], ◌∷◌, ◌++◌, length, take, drop, Ok, refl, sym, ap, subst, ◌∙◌, inl, inr, append_assoc, arith, length-append}
use Rattle.std.specs.Prelude.{not}
use Rattle.std.specs.List.{before_first, prefix_len, AllByRecursion}
use Rattle.std.proofs.lemmas.Bool.{eqb-true}
use Rattle.std.proofs.lemmas.List.{take-append-drop, take_at, length-take}
use Rattle.std.proofs.Math.Seq.{drop-append_seam, take-append-add}
use Rattle.wasm_bytes.specs.Place.{Place, Read}
use Rattle.wasm_bytes.specs.Reading.{◌>>=◌, run_item, if_inside, block_of, closed}
use Rattle.wasm_bytes.specs.calls.Spelling.{run}
use Rattle.wasm_bytes.specs.Laws.{IsBytes, place, got, Took, IsExact, IsTail}
use Rattle.wasm_bytes.proofs.Places.{IsBytes-rest, IsBytes-front, place_behind, rest_length, got_is, bind_ok, took_is}
use Rattle.wasm_bytes.proofs.Exact.{first_took, same_exact, image_exact}
use Rattle.wasm_bytes.proofs.ExactItems.{run_exact}
use Rattle.dwarf_bytes.specs.Items.{little_endian, number_item, is_zero, text_item, if_ended, block_by}
use Rattle.dwarf_bytes.specs.calls.Spelled.{number, ended_text, sized_by}
use Rattle.wasm_leb.proofs.Tools.{chosen}

-- ---- numbers

pub number_exact : (width : ℕ) → IsExact (number width) (number_item width)
unfolding number_item
number_exact width = same_exact _ (number width) (number_item width)
    (λ n at front s. (ap length s.2.0 ∙ s.2.1, sym s.1 ∙ ap little_endian (sym s.2.0)))
    (λ n at front s. (front, sym s.1, (refl, s.0)))
    (image_exact (run width) little_endian (run_item width) (run_exact width))

-- ---- texts

-- what stands before the first zero byte, by the first byte
first_zero : (b : ℕ) (bs : List ℕ) → eqb b 0 ≡ true → before_first is_zero (b ∷ bs) ≡ []
first_zero b bs e = rw e refl

take_first : (n b : ℕ) (bs : List ℕ) → take (1 + n) (b ∷ bs) ≡ b ∷ take n bs
take_first n b bs = let e : 1 + n ≡ suc n = omega arith in rw e refl

first_other : (b : ℕ) (bs : List ℕ) → eqb b 0 ≡ false → before_first is_zero (b ∷ bs) ≡ b ∷ before_first is_zero bs
first_other b bs e = rw e (take_first (prefix_len (λ x. not (is_zero x)) bs) b bs)

-- a text up to the zero byte behind it
before_zero : (text rest : List ℕ) → AllByRecursion (λ b. b ≢ 0) text → before_first is_zero (text ++ 0 ∷ rest) ≡ text
before_zero [] rest h = refl
before_zero (b ∷ bs) rest h = let other : eqb b 0 ≡ false = grind (arith, h.0) in first_other b (bs ++ 0 ∷ rest) other ∙ ap (λ (t : List ℕ). b ∷ t) (before_zero bs rest h.1)

no_zero_from : (b : ℕ) (bs : List ℕ) (t : Bool) → eqb b 0 ≡ t → AllByRecursion (λ b. b ≢ 0) (before_first is_zero bs) → AllByRecursion (λ b. b ≢ 0) (before_first is_zero (b ∷ bs))
no_zero_from b bs true e h = subst (AllByRecursion (λ b. b ≢ 0)) (sym (first_zero b bs e)) tt
no_zero_from b bs false e h = subst (AllByRecursion (λ b. b ≢ 0)) (sym (first_other b bs e)) ((λ z. absurd (grind (arith, e, z))), h)

-- what stands before the first zero byte has none
no_zero : (bytes : List ℕ) → AllByRecursion (λ b. b ≢ 0) (before_first is_zero bytes)
no_zero [] = tt
no_zero (b ∷ bs) = no_zero_from b bs (eqb b 0) refl (no_zero bs)

-- A zero byte stands behind what stands before the first one, where anything does.
abbrev IsBehind : List ℕ → Type 0
IsBehind bytes = length (before_first is_zero bytes) < length bytes → (rest : List ℕ) × (bytes ≡ before_first is_zero bytes ++ 0 ∷ rest)

zero_behind_from : (b : ℕ) (bs : List ℕ) (t : Bool) → eqb b 0 ≡ t → IsBehind bs → IsBehind (b ∷ bs)
zero_behind_from b bs true e more less = (bs, ap (λ (c : ℕ). c ∷ bs) (eqb-true b 0 e) ∙ ap (λ (t : List ℕ). t ++ 0 ∷ bs) (sym (first_zero b bs e)))
zero_behind_from b bs false e more less =
    let shorter : length (before_first is_zero bs) < length bs = omega (arith, less, ap length (first_other b bs e)) in
    let s = more shorter in
    (s.0, ap (λ (t : List ℕ). b ∷ t) s.1 ∙ ap (λ (t : List ℕ). t ++ 0 ∷ s.0) (sym (first_other b bs e)))

zero_behind : (bytes : List ℕ) → IsBehind bytes
zero_behind [] less = absurd (omega (arith, less))
zero_behind (b ∷ bs) less = zero_behind_from b bs (eqb b 0) refl (zero_behind bs) less

text_took : (before after text : List ℕ) (q : Place) → IsBytes after → before_first is_zero after ≡ text → length text < length after
    → (let s : Place = record { block = before ++ after; at = length before + length text + 1 } in s ≡ q) → Took ended_text before after text q
text_took before after text q fits is less e =
    let z = zero_behind after (rw is less) in
    let parts : after ≡ (text ++ 0 ∷ []) ++ z.0 = z.1 ∙ ap (λ (t : List ℕ). t ++ 0 ∷ z.0) is ∙ sym (append_assoc text (0 ∷ []) z.0) in
    let len : length before + length text + 1 ≡ length before + length (text ++ 0 ∷ []) = omega (arith, length-append text (0 ∷ [])) in
    record {
      front = text ++ 0 ∷ [];
      rest = z.0;
      is = (refl, subst (AllByRecursion (λ b. b ≢ 0)) is (no_zero after));
      parts = parts;
      behind = sym e ∙ ap (λ (t : List ℕ). let s : Place = record { block = before ++ t; at = length before + length text + 1 } in s) parts ∙ place_behind before (text ++ 0 ∷ []) z.0 _ len;
      bytes = IsBytes-rest (text ++ 0 ∷ []) z.0 (subst IsBytes parts fits);
    }

pub text_exact : IsExact ended_text text_item
unfolding text_item
text_exact = record {
  sound = λ before after x q fits read.
      let first : List ℕ = before_first is_zero after in
      let here : if_ended first (place before after) ≡ got x q = ap (λ (t : List ℕ). if_ended (before_first is_zero t) (place before after)) (sym (drop-append_seam before after)) ∙ read in
      elim (chosen (ltb (length before + length first) (length (before ++ after))) _ _ (got x q) here) [
        | inl p ↦
            let same = got_is first x (record { block = before ++ after; at = length before + length first + 1 }) q p.1 in
            let less : length first < length after = grind (arith, p.0, length-append) in
            text_took before after x q fits same.0 (subst (λ (t : List ℕ). length t < length after) same.0 less) (subst (λ (t : List ℕ). let s : Place = record { block = before ++ after; at = length before + length t + 1 } in s ≡ q) same.0 same.1)
        | inr p ↦ absurd cc
      ];
  again = λ before front rest x s.
      let first : before_first is_zero ((x ++ 0 ∷ []) ++ rest) ≡ x = rw (append_assoc x (0 ∷ []) rest) (before_zero x rest s.1) in
      let room : ltb (length before + length x) (length (before ++ ((x ++ 0 ∷ []) ++ rest))) ≡ true = grind (arith, length-append) in
      let len : length before + length x + 1 ≡ length before + length (x ++ 0 ∷ []) = omega (arith, length-append x (0 ∷ [])) in
      rw (s.0, drop-append_seam before ((x ++ 0 ∷ []) ++ rest), first, room) (ap (got x) (place_behind before (x ++ 0 ∷ []) rest _ len));
}

-- ---- blocks

-- what a length opens
pub record Opens (S : ℕ → ℕ → List ℕ → Type 0) (before after : List ℕ) (inner outer : Place) : Type 0 where
  pub size : List ℕ
  pub contents : List ℕ
  pub rest : List ℕ
  pub is : S (length contents) (length before) size
  pub parts : after ≡ size ++ (contents ++ rest)
  pub front : inner ≡ place (before ++ size) contents
  pub behind : outer ≡ place (before ++ (size ++ contents)) rest
  pub bytes : IsBytes (contents ++ rest)

opens : (S : ℕ → ℕ → List ℕ → Type 0) (before size tail : List ℕ) (n : ℕ) (inner outer : Place) → S n (length before) size → n ≤ length tail → IsBytes tail
    → got inner outer ≡ Ok (block_of n (place (before ++ size) tail)) → Opens S before (size ++ tail) inner outer
opens S before size tail n inner outer is room fits read =
    let start = before ++ size in
    let b = block_of n (place start tail) in
    let same = got_is inner b.0 outer b.1 read in
    let len : length (take n tail) ≡ n = omega (arith, length-take n tail) in
    let parts : tail ≡ take n tail ++ drop n tail = sym (take-append-drop n tail) in
    let behind = place_behind start (take n tail) (drop n tail) (length start + n) (omega (arith, len)) in
    record {
      size = size;
      contents = take n tail;
      rest = drop n tail;
      is = rw len is;
      parts = ap (λ (t : List ℕ). size ++ t) parts;
      front = same.0 ∙ ap (λ (t : List ℕ). let p : Place = record { block = t; at = length start } in p) (take-append-add start tail n);
      behind = same.1 ∙ ap (λ (t : List ℕ). let p : Place = record { block = start ++ t; at = length start + n } in p) parts ∙ behind ∙ ap (λ (t : List ℕ). place t (drop n tail)) (append_assoc before size (take n tail));
      bytes = subst IsBytes parts fits;
    }

pub block_sound : (S : ℕ → ℕ → List ℕ → Type 0) (f : Place → Read ℕ) → IsExact S f → (before after : List ℕ) (inner outer : Place) → IsBytes after → block_by f (place before after) ≡ got inner outer → Opens S before after inner outer
block_sound S f e before after inner outer fits read =
    let a = first_took S f e before after (if_inside (length before)) inner outer fits read in
    elim (chosen (leb a.0 (length ((before ++ a.1) ++ a.2) - length (before ++ a.1))) _ _ (got inner outer) a.6) [
      | inl p ↦ subst (λ (t : List ℕ). Opens S before t inner outer) (sym a.4) (opens S before a.1 a.2 a.0 inner outer a.3 (grind (arith, p.0, rest_length)) a.5 (sym p.1))
      | inr p ↦ absurd cc
    ]

pub block_again : (S : ℕ → ℕ → List ℕ → Type 0) (f : Place → Read ℕ) → IsExact S f → (before size contents rest : List ℕ) → S (length contents) (length before) size → block_by f (place before (size ++ (contents ++ rest))) ≡ got (place (before ++ size) contents) (place (before ++ (size ++ contents)) rest)
block_again S f e before size contents rest s =
    let one = e.again before size (contents ++ rest) (length contents) s in
    let room : leb (length contents) (length ((before ++ size) ++ (contents ++ rest)) - length (before ++ size)) ≡ true = grind (arith, rest_length, length-append) in
    let cut : take (length (before ++ size) + length contents) ((before ++ size) ++ (contents ++ rest)) ≡ (before ++ size) ++ contents = take-append-add (before ++ size) (contents ++ rest) (length contents) ∙ ap (λ (t : List ℕ). (before ++ size) ++ t) (take_at contents rest (length contents) refl) in
    rw (one, room, cut, place_behind (before ++ size) contents rest (length (before ++ size) + length contents) refl, append_assoc before size contents) refl

-- a block, and what its length says stands in it
abbrev pub in_block : {A : Type 0} → (Place → Read ℕ) → (ℕ → Place → Read A) → Place → Read A
in_block f g p = block_by f p >>= λ b. closed (λ q. g (length b.0.block - b.0.at) q) b.0 >>= λ x. Ok (x.0, b.1)

pub in_block_exact : {A : Type 0} (S : ℕ → ℕ → List ℕ → Type 0) (f : Place → Read ℕ) → IsExact S f → (T : ℕ → A → ℕ → List ℕ → Type 0) (g : ℕ → Place → Read A) → ((n : ℕ) → IsTail (T n) (closed (g n))) → IsExact (λ x. sized_by S (λ n. T n x)) (in_block f g)
in_block_exact {A} S f h T g e = record {
  sound = λ before after x q fits read.
      let a = bind_ok (block_by f (place before after)) (λ b. closed (λ q. g (length b.0.block - b.0.at) q) b.0 >>= λ x. Ok (x.0, b.1)) x q read in
      let o = block_sound S f h before after a.0 a.1 fits a.2 in
      let b = bind_ok (closed (λ q. g (length a.0.block - a.0.at) q) a.0) (λ y. got y.0 a.1) x q a.3 in
      let at_front : closed (g (length ((before ++ o.size) ++ o.contents) - length (before ++ o.size))) (place (before ++ o.size) o.contents) ≡ got b.0 b.1 = subst (λ (p : Place). closed (g (length p.block - p.at)) p ≡ got b.0 b.1) o.front b.2 in
      let by_length : closed (g (length o.contents)) (place (before ++ o.size) o.contents) ≡ got b.0 b.1 = subst (λ (n : ℕ). closed (g n) (place (before ++ o.size) o.contents) ≡ got b.0 b.1) (rest_length (before ++ o.size) o.contents) at_front in
      let t = (e (length o.contents)).sound (before ++ o.size) o.contents b.0 b.1 (IsBytes-front o.contents o.rest o.bytes) by_length in
      let is : T (length o.contents) b.0 (length before + length o.size) o.contents = subst (λ (n : ℕ). T (length o.contents) b.0 n o.contents) (length-append before o.size) t.0 in
      let all : Took (λ y. sized_by S (λ n. T n y)) before after b.0 a.1 = record {
        front = o.size ++ o.contents;
        rest = o.rest;
        is = (o.size, o.contents, o.is, is, refl);
        parts = o.parts ∙ sym (append_assoc o.size o.contents o.rest);
        behind = o.behind;
        bytes = IsBytes-rest o.contents o.rest o.bytes;
      } in
      took_is (λ y. sized_by S (λ n. T n y)) before after b.0 x a.1 q b.3 all;
  again = λ before front rest x s.
      let one = block_again S f h before s.0 s.1 rest s.2 in
      let here : T (length s.1) x (length (before ++ s.0)) s.1 = subst (λ (n : ℕ). T (length s.1) x n s.1) (sym (length-append before s.0)) s.3 in
      let two = (e (length s.1)).again (before ++ s.0) s.1 x here in
      rw (s.4, append_assoc s.0 s.1 rest, one, rest_length (before ++ s.0) s.1, two) refl;
}
