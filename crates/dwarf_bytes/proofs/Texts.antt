-- A text is a run of bytes up to the first zero byte, and one more.
use Rattle.std.proofs.Common.{◌≡◌, ℕ, zero, suc, ◌+◌, ◌-◌, ◌≤◌, ◌<◌, true, false, ltb, leb, List, [], ◌∷◌, length, take, drop, Option, Some, None, refl, sym, ap, ◌∙◌, inl, inr, length-drop, arith}
use Rattle.std.specs.Prelude.{position}
use Rattle.std.specs.List.{position_or_len, before_first}
use Rattle.std.proofs.lemmas.List.{length-take-le, length-take}
use Rattle.wasm_bytes.specs.Place.{Place}
use Rattle.wasm_bytes.specs.Reading.{run_item, rest_item}
use Rattle.wasm_bytes.specs.Laws.{got, failed}
use Rattle.wasm_bytes.proofs.Places.{got_is}
use Rattle.dwarf_bytes.specs.Items.{is_zero, text_item}
use Rattle.wasm_leb.proofs.Tools.{chosen}

-- where the first zero byte is
zero_found : (xs : List ℕ) (len : ℕ) → position is_zero xs ≡ Some len → (position_or_len is_zero xs ≡ len) × (len < length xs)
zero_found xs len e = elim (chosen (ltb (position_or_len is_zero xs) (length xs)) _ _ (Some len) e) [
  | inl c ↦
      let same : position_or_len is_zero xs ≡ len = (let some : Some (position_or_len is_zero xs) ≡ Some len = c.1 in cc) in
      (same, grind (arith, c.0, same))
  | inr c ↦ absurd (let no : None ≡ Some len = c.1 in cc)
]

no_zero_found : (xs : List ℕ) → position is_zero xs ≡ None → length xs ≤ position_or_len is_zero xs
no_zero_found xs e = elim (chosen (ltb (position_or_len is_zero xs) (length xs)) _ _ None e) [
  | inl c ↦ absurd (let no : Some (position_or_len is_zero xs) ≡ None = c.1 in cc)
  | inr c ↦ grind (arith, c.0)
]

take_less : (n : ℕ) (xs : List ℕ) → take n (take (suc n) xs) ≡ take n xs
take_less zero xs = refl
take_less (suc n) [] = refl
take_less (suc n) (x ∷ xs) = ap (λ (t : List ℕ). x ∷ t) (take_less n xs)

-- what a run of bytes is
pub ran : (n : ℕ) (p : Place) (bytes : List ℕ) (q : Place) → run_item n p ≡ got bytes q → (n ≤ length p.block - p.at) × (take n (drop p.at p.block) ≡ bytes) × (let s : Place = record p { at = p.at + n } in s ≡ q)
unfolding run_item
ran n p bytes q e = elim (chosen (leb n (length p.block - p.at)) _ _ (got bytes q) e) [
  | inl c ↦
      let same = got_is (take n (drop p.at p.block)) bytes (record p { at = p.at + n }) q c.1 in
      (grind (arith, c.0), same.0, same.1)
  | inr c ↦ absurd (let no : failed p.at ≡ got bytes q = c.1 in cc)
]

-- a run of one byte more moves, and is longer
pub ran_on : (n : ℕ) (p : Place) (bytes : List ℕ) (q : Place) → run_item (n + 1) p ≡ got bytes q → (p.at < q.at) × (length bytes ≡ n + 1)
ran_on n p bytes q e =
    let r = ran (n + 1) p bytes q e in
    let behind : p.at + (n + 1) ≡ q.at = ap (λ (s : Place). s.at) r.2 in
    let size : length (take (n + 1) (drop p.at p.block)) ≡ length bytes = ap length r.1 in
    (omega (arith, behind), omega (arith, r.0, size, length-take (n + 1) (drop p.at p.block), length-drop p.at p.block))

-- what is searched for a zero byte
pub searched : (fork p : Place) (rest : List ℕ) (q : Place) (o : Option ℕ) → fork ≡ p → rest_item fork ≡ got rest q → o ≡ position is_zero rest → position is_zero (drop p.at p.block) ≡ o
unfolding rest_item
searched fork p rest q o same e found =
    let r = got_is (drop fork.at fork.block) rest (record fork { at = length fork.block }) q e in
    ap (λ (s : Place). position is_zero (drop s.at s.block)) (sym same) ∙ ap (position is_zero) r.0 ∙ sym found

pub text_there : (p : Place) (len : ℕ) (bytes : List ℕ) (q : Place) → position is_zero (drop p.at p.block) ≡ Some len → run_item (len + 1) p ≡ got bytes q → text_item p ≡ got (take len bytes) q
unfolding run_item text_item
text_there p len bytes q e run =
    let xs : List ℕ = drop p.at p.block in
    let z = zero_found xs len e in
    let size : length (take len xs) ≡ len = length-take-le len xs (omega (arith, z.1)) in
    let inside : ltb (p.at + len) (length p.block) ≡ true = grind (arith, z.1, length-drop) in
    let room : leb (len + 1) (length p.block - p.at) ≡ true = grind (arith, z.1, length-drop) in
    let here : got (take (len + 1) xs) (record p { at = p.at + (len + 1) }) ≡ got bytes q = rw room at run in
    let same = got_is (take (len + 1) xs) bytes (record p { at = p.at + (len + 1) }) q here in
    let more : len + 1 ≡ suc len = omega arith in
    let first : take len xs ≡ take len bytes = sym (take_less len xs) ∙ ap (λ (n : ℕ). take len (take n xs)) (sym more) ∙ ap (take len) same.0 in
    let behind : p.at + len + 1 ≡ p.at + (len + 1) = omega arith in
    rw (z.0, size, inside) (ap (λ (n : ℕ). got (take len xs) (record p { at = n })) behind ∙ ap (got (take len xs)) same.1 ∙ ap (λ (t : List ℕ). got t q) first)

pub text_cut : (p : Place) (len o : ℕ) → position is_zero (drop p.at p.block) ≡ Some len → run_item (len + 1) p ≡ failed o → text_item p ≡ failed o
unfolding run_item text_item
text_cut p len o e run =
    let xs : List ℕ = drop p.at p.block in
    let z = zero_found xs len e in
    let room : leb (len + 1) (length p.block - p.at) ≡ true = grind (arith, z.1, length-drop) in
    absurd (let no : got (take (len + 1) xs) (record p { at = p.at + (len + 1) }) ≡ failed o = rw room at run in cc)

pub text_open : (p : Place) → p.at ≤ length p.block → position is_zero (drop p.at p.block) ≡ None → text_item p ≡ failed p.at
unfolding text_item
text_open p inside e =
    let xs : List ℕ = drop p.at p.block in
    let z = no_zero_found xs e in
    let all : length (before_first is_zero xs) ≡ length xs = omega (arith, length-take (position_or_len is_zero xs) xs, z) in
    let outside : ltb (p.at + length (before_first is_zero xs)) (length p.block) ≡ false = grind (arith, all, inside, length-drop) in
    rw outside refl
