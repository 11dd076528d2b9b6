-- One more of a range.
use Rattle.std.proofs.Common.{◌≡◌, ℕ, zero, suc, ◌+◌, ◌*◌, ◌<◌, ◌≤◌, get_or, drop-cons, List, [], ◌∷◌, ◌++◌, length, map, drop, refl, sym, ap, ◌∙◌, append_assoc, arith}
use Rattle.std.specs.List.{flat_map, range_with_len}
use Rattle.std.proofs.lemmas.List.{append-nil}
use Rattle.wasm_syntax.specs.declared.instruction.Instr.{Instr}
use Rattle.wasm_syntax.specs.declared.instruction.Op.{Op}
use Rattle.wasm_syntax.specs.declared.instruction.Instr.TheVariants as instr
use Rattle.selftest_command.specs.Selftest.{next, number, mixed, beginning, mixing, ending, function_code, ops_from}

pub range_more : (a n : ℕ) → range_with_len a (n + 1) ≡ range_with_len a n ++ (a + n) ∷ []
range_more a zero = let e : a ≡ a + 0 = omega arith in ap (λ x. x ∷ []) e
range_more a (suc n) =
    let e : a + 1 + n ≡ a + suc n = omega arith in
    let f : suc n + 1 ≡ suc (n + 1) = omega arith in
    ap (range_with_len a) f ∙ ap (λ xs. a ∷ xs) (range_more (a + 1) n ∙ ap (λ x. range_with_len (a + 1) n ++ x ∷ []) e)

pub flat_append : {A B : Type 0} (f : A → List B) (xs ys : List A) → flat_map f (xs ++ ys) ≡ flat_map f xs ++ flat_map f ys
flat_append f [] ys = refl
flat_append f (x ∷ xs) ys = ap (λ zs. f x ++ zs) (flat_append f xs ys) ∙ sym (append_assoc (f x) (flat_map f xs) (flat_map f ys))

pub flat_more : {B : Type 0} (f : ℕ → List B) (a n : ℕ) → flat_map f (range_with_len a (n + 1)) ≡ flat_map f (range_with_len a n) ++ f (a + n)
flat_more f a n = ap (flat_map f) (range_more a n) ∙ flat_append f (range_with_len a n) ((a + n) ∷ []) ∙ ap (λ zs. flat_map f (range_with_len a n) ++ zs) (append-nil (f (a + n)))

pub map_append : {A B : Type 0} (f : A → B) (xs ys : List A) → map f (xs ++ ys) ≡ map f xs ++ map f ys
map_append f [] ys = refl
map_append f (x ∷ xs) ys = ap (λ zs. f x ∷ zs) (map_append f xs ys)

pub map_more : {B : Type 0} (f : ℕ → B) (n : ℕ) → map f (range_with_len 0 (n + 1)) ≡ map f (range_with_len 0 n) ++ f n ∷ []
map_more f n = let e : 0 + n ≡ n = omega arith in ap (map f) (range_more 0 n) ∙ map_append f (range_with_len 0 n) ((0 + n) ∷ []) ∙ ap (λ k. map f (range_with_len 0 n) ++ f k ∷ []) e

-- ---- code that is copied

drop_past : {A : Type 0} (xs : List A) (i : ℕ) → length xs ≤ i → drop i xs ≡ []
drop_past [] zero h = refl
drop_past [] (suc i) h = refl
drop_past (x ∷ xs) zero h = absurd (omega (arith, h))
drop_past (x ∷ xs) (suc i) h = drop_past xs i (omega (arith, h))

abbrev op_at : ℕ → Instr → Op
op_at i x = record { at = i; len = 0; code = x }

pub one_more : (ops total : List Op) (code : List Instr) (i : ℕ) (x : Instr) → i < length code → x ≡ get_or code i x → ops ++ ops_from i (drop i code) ≡ total → (ops ++ op_at i x ∷ []) ++ ops_from (i + 1) (drop (i + 1) code) ≡ total
one_more ops total code i x lt is h =
    let next : drop i code ≡ x ∷ drop (suc i) code = drop-cons code i x lt ∙ ap (λ y. y ∷ drop (suc i) code) (sym is) in
    let e : i + 1 ≡ suc i = omega arith in
    ap (λ n. (ops ++ op_at i x ∷ []) ++ ops_from n (drop n code)) e ∙ append_assoc ops (op_at i x ∷ []) (ops_from (suc i) (drop (suc i) code)) ∙ ap (λ d. ops ++ ops_from i d) (sym next) ∙ h

pub all_copied : (ops total : List Op) (code : List Instr) (i : ℕ) → length code ≤ i → ops ++ ops_from i (drop i code) ≡ total → ops ≡ total
all_copied ops total code i end h = sym (append-nil ops) ∙ ap (λ d. ops ++ ops_from i d) (sym (drop_past code i end)) ∙ h

-- ---- numbers

pub number_more : (n k : ℕ) → next (number n k) ≡ number n (k + 1)
unfolding number
number_more n k = let e : suc k ≡ k + 1 = omega arith in ap (number n) e

-- one more number is mixed in
pub mixed_more : (n k i r s : ℕ) (code old new : List Instr) → r ≡ number n (k + i) → s ≡ next r → code ≡ old ++ flat_map (λ j. mixed (number n j)) (range_with_len (k + 1) i) → new ≡ code ++ mixed s → (new ≡ old ++ flat_map (λ j. mixed (number n j)) (range_with_len (k + 1) (i + 1))) × (s ≡ number n (k + (i + 1)))
mixed_more n k i r s code old new a b c d =
    let f : ℕ → List Instr = λ j. mixed (number n j) in
    let e : k + i + 1 ≡ k + (i + 1) = omega arith in
    let e' : k + i + 1 ≡ k + 1 + i = omega arith in
    let is : s ≡ number n (k + i + 1) = b ∙ ap next a ∙ number_more n (k + i) in (
      d ∙ ap (λ xs. xs ++ mixed s) c ∙ append_assoc old (flat_map f (range_with_len (k + 1) i)) (mixed s)
          ∙ ap (λ q. old ++ (flat_map f (range_with_len (k + 1) i) ++ mixed q)) (is ∙ ap (number n) e') ∙ ap (λ xs. old ++ xs) (sym (flat_more f (k + 1) i)),
      is ∙ ap (number n) e,
    )

-- ---- the code of a function

pub code_made : (n i last : ℕ) (a b c d e : List Instr) → a ≡ [] → b ≡ a ++ beginning i → (c ≡ b ++ mixing n (16 * i + 1)) × (last ≡ number n (16 * i + 16)) → d ≡ c ++ ending n i → e ≡ d ++ instr.End ∷ []
    → (e ≡ function_code n i) × (last ≡ number n (16 * (i + 1)))
unfolding function_code
code_made n i last a b c d e empty begun mixes ends closes =
    let more : 16 * i + 16 ≡ 16 * (i + 1) = omega arith in (
      closes
          ∙ ap (λ x. x ++ instr.End ∷ []) (ends ∙ ap (λ x. x ++ ending n i) (mixes.0 ∙ ap (λ x. x ++ mixing n (16 * i + 1)) (begun ∙ ap (λ x. x ++ beginning i) empty))),
      mixes.1 ∙ ap (number n) more,
    )
