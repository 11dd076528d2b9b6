-- A text ends at the first zero byte from its offset on, which is the first of the ascending offsets of zero bytes that is not below it.
use Rattle.std.proofs.Common.{◌≡◌, ℕ, zero, suc, ◌+◌, ◌-◌, ◌<◌, ◌≤◌, Bool, true, false, leb, ltb, List, [], ◌∷◌, ◌++◌, length, take, drop, get_or, Option, Some, None, refl, sym, ap, ◌∙◌, arith, length-drop}
use Rattle.std.specs.Prelude.{find, slice_get, if◌then◌else◌}
use Rattle.std.specs.List.{position_or_len}
use Rattle.std.specs.List.Sorted.{IsNonDecreasing, IsPartitionPoint}
use Rattle.std.proofs.lemmas.List.{length-take-le}
use Rattle.std.proofs.lemmas.List.Sums.{prefix_len-le-length}
use Rattle.dwarf_bytes.specs.Items.{is_zero, text_item, read_at}
use Rattle.dwarf_info.specs.inner.Zeros.{zeros_from}

-- ---- the offsets ascend

-- an offset, where the byte there is zero, in front of others
abbrev in_front : ℕ → Bool → List ℕ → List ℕ
in_front at t rest = (if t then at ∷ [] else []) ++ rest

above_by : (at : ℕ) (t : Bool) (rest : List ℕ) → ((j d : ℕ) → j < length rest → at + 1 ≤ get_or rest j d) → (j d : ℕ) → j < length (in_front at t rest) → at ≤ get_or (in_front at t rest) j d
above_by at true rest above zero d h = omega arith
above_by at true rest above (suc j) d h = let e : at + 1 ≤ get_or rest j d = above j d (omega (arith, h)) in omega (arith, e)
above_by at false rest above j d h = let e : at + 1 ≤ get_or rest j d = above j d h in omega (arith, e)

zeros_above : (bs : List ℕ) (at j d : ℕ) → j < length (zeros_from at bs) → at ≤ get_or (zeros_from at bs) j d
zeros_above [] at j d h = absurd (omega (arith, h))
zeros_above (b ∷ bs) at j d h = above_by at (is_zero b) (zeros_from (at + 1) bs) (zeros_above bs (at + 1)) j d h

rise_by : (at : ℕ) (t : Bool) (rest : List ℕ) → ((j d : ℕ) → j < length rest → at + 1 ≤ get_or rest j d) → IsNonDecreasing rest → IsNonDecreasing (in_front at t rest)
rise_by at true rest above rise zero zero d le h = omega arith
rise_by at true rest above rise zero (suc j) d le h = let e : at + 1 ≤ get_or rest j d = above j d (omega (arith, h)) in omega (arith, e)
rise_by at true rest above rise (suc i) zero d le h = absurd (omega (arith, le))
rise_by at true rest above rise (suc i) (suc j) d le h = rise i j d (omega (arith, le)) (omega (arith, h))
rise_by at false rest above rise i j d le h = rise i j d le h

pub zeros_rise : (bs : List ℕ) (at : ℕ) → IsNonDecreasing (zeros_from at bs)
zeros_rise [] at i j d le h = absurd (omega (arith, h))
zeros_rise (b ∷ bs) at i j d le h = rise_by at (is_zero b) (zeros_from (at + 1) bs) (zeros_above bs (at + 1)) (zeros_rise bs (at + 1)) i j d le h

-- ---- the first of the offsets that is not below one

abbrev pub IsPoint : ℕ → List ℕ → ℕ → Type 0
IsPoint at zs i = IsPartitionPoint (λ z. ltb z at ≡ true) (λ z. ltb z at ≡ false) zs i

found_first : (at z : ℕ) (zs : List ℕ) → leb at z ≡ true → find (leb at) (z ∷ zs) ≡ Some z
found_first at z zs e = rw e refl

found_later : (at z : ℕ) (zs : List ℕ) → leb at z ≡ false → find (leb at) (z ∷ zs) ≡ find (leb at) zs
found_later at z zs e = rw e refl

pub found_at : (at : ℕ) (zs : List ℕ) (i : ℕ) → IsPoint at zs i → find (leb at) zs ≡ slice_get zs i
found_at at [] i p = refl
found_at at (z ∷ zs) zero p =
    let reached : ltb z at ≡ false = p.1 0 z (omega arith) (omega arith) in
    found_first at z zs (grind (arith, reached))
found_at at (z ∷ zs) (suc i) p =
    let below : ltb z at ≡ true = p.0 0 z (omega arith) (omega arith) in
    found_later at z zs (grind (arith, below))
    ∙ found_at at zs i ((λ k d low high. p.0 (suc k) d (omega arith) (omega (arith, high))), (λ k d low high. p.1 (suc k) d (omega (arith, low)) (omega (arith, high))))

-- ---- the first zero byte from an offset on

-- where the first zero byte stands, if there is one and the first byte has that offset
abbrev first_zero : ℕ → List ℕ → Option ℕ
first_zero at bs = if ltb (position_or_len is_zero bs) (length bs) then Some (at + position_or_len is_zero bs) else None

some_by : (t u : Bool) (m n : ℕ) → t ≡ u → m ≡ n → (if t then Some m else None) ≡ (if u then Some n else None)
some_by t u m n same equal = ap (λ (x : Bool). if x then Some m else None) same ∙ ap (λ (k : ℕ). if u then Some k else None) equal

zero_first : (at b : ℕ) (bs : List ℕ) → is_zero b ≡ true → first_zero at (b ∷ bs) ≡ Some at
zero_first at b bs e = rw e (some_by (ltb 0 (length (b ∷ bs))) true (at + 0) at (grind arith) (omega arith))

less_on : (m n : ℕ) (t : Bool) → ltb m n ≡ t → ltb (1 + m) (suc n) ≡ t
less_on m n true e = grind (arith, e)
less_on m n false e = grind (arith, e)

zero_later : (at b : ℕ) (bs : List ℕ) → is_zero b ≡ false → first_zero at (b ∷ bs) ≡ first_zero (at + 1) bs
zero_later at b bs e =
    let n : ℕ = position_or_len is_zero bs in
    rw e (some_by (ltb (1 + n) (length (b ∷ bs))) (ltb n (length bs)) (at + (1 + n)) (at + 1 + n) (less_on n (length bs) (ltb n (length bs)) refl) (omega arith))

here_by : (low at b : ℕ) (bs : List ℕ) (t : Bool) → is_zero b ≡ t → low ≤ at → find (leb low) (zeros_from (at + 1) bs) ≡ first_zero (at + 1) bs → find (leb low) (in_front at t (zeros_from (at + 1) bs)) ≡ first_zero at (b ∷ bs)
here_by low at b bs true e le later = found_first low at (zeros_from (at + 1) bs) (grind (arith, le)) ∙ sym (zero_first at b bs e)
here_by low at b bs false e le later = later ∙ sym (zero_later at b bs e)

first_here : (bs : List ℕ) (low at : ℕ) → low ≤ at → find (leb low) (zeros_from at bs) ≡ first_zero at bs
first_here [] low at le = refl
first_here (b ∷ bs) low at le = here_by low at b bs (is_zero b) refl le (first_here bs low (at + 1) (omega (arith, le)))

passed_by : (low at : ℕ) (t : Bool) (rest : List ℕ) → at < low → find (leb low) (in_front at t rest) ≡ find (leb low) rest
passed_by low at true rest less = found_later low at rest (grind (arith, less))
passed_by low at false rest less = refl

first_on : (k : ℕ) (bs : List ℕ) (at low : ℕ) → low ≡ at + k → find (leb low) (zeros_from at bs) ≡ first_zero low (drop k bs)
first_on zero bs at low is =
    let same : low ≡ at = omega (arith, is) in
    first_here bs low at (omega (arith, is)) ∙ ap (λ (n : ℕ). first_zero n bs) (sym same)
first_on (suc k) [] at low is = refl
first_on (suc k) (b ∷ bs) at low is = passed_by low at (is_zero b) (zeros_from (at + 1) bs) (omega (arith, is)) ∙ first_on k bs (at + 1) low (omega (arith, is))

-- ---- the text

-- the text from an offset up to the zero byte that ends it
abbrev pub text_to : List ℕ → ℕ → Option ℕ → Option (List ℕ)
text_to section at (Some last) = Some (take (last - at) (drop at section))
text_to section at None = None

text_by : (section : List ℕ) (at : ℕ) (t : Bool) → ltb (position_or_len is_zero (drop at section)) (length (drop at section)) ≡ t
    → read_at text_item section at ≡ text_to section at (if t then Some (at + position_or_len is_zero (drop at section)) else None)
unfolding text_item
text_by section at true e =
    let xs : List ℕ = drop at section in
    let n : ℕ = position_or_len is_zero xs in
    let size : length (take n xs) ≡ n = length-take-le n xs (grind (arith, e)) in
    let inside : ltb (at + length (take n xs)) (length section) ≡ true = grind (arith, e, size, length-drop at section) in
    let long : n ≡ at + n - at = omega arith in
    rw inside (ap (λ (k : ℕ). Some (take k xs)) long)
text_by section at false e =
    let xs : List ℕ = drop at section in
    let n : ℕ = position_or_len is_zero xs in
    let most : n ≤ length xs = prefix_len-le-length _ xs in
    let size : length (take n xs) ≡ n = length-take-le n xs most in
    let outside : ltb (at + length (take n xs)) (length section) ≡ false = grind (arith, e, size, length-drop at section) in
    rw outside refl

pub text_ends : (section : List ℕ) (at : ℕ) (o : Option ℕ) → o ≡ find (leb at) (zeros_from 0 section) → read_at text_item section at ≡ text_to section at o
text_ends section at o is =
    let first : o ≡ first_zero at (drop at section) = is ∙ first_on at section 0 at (omega arith) in
    text_by section at (ltb (position_or_len is_zero (drop at section)) (length (drop at section))) refl ∙ ap (text_to section at) (sym first)

inside_by : (section : List ℕ) (at last : ℕ) (t : Bool) → ltb (position_or_len is_zero (drop at section)) (length (drop at section)) ≡ t
    → (if t then Some (at + position_or_len is_zero (drop at section)) else None) ≡ Some last → (at ≤ last) × (last < length section)
inside_by section at last true e is =
    let same : at + position_or_len is_zero (drop at section) ≡ last = cc in
    (omega (arith, same), grind (arith, e, same, length-drop at section))
inside_by section at last false e is = absurd (let other : None ≡ Some last = is in cc)

-- The zero byte stands in the section.
pub end_inside : (section : List ℕ) (at last : ℕ) → Some last ≡ find (leb at) (zeros_from 0 section) → (at ≤ last) × (last < length section)
end_inside section at last is =
    inside_by section at last (ltb (position_or_len is_zero (drop at section)) (length (drop at section))) refl (sym (is ∙ first_on at section 0 at (omega arith)))
