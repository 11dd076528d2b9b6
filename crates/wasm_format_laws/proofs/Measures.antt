-- Bytes that spell a value are no fewer than its measure: one lemma for each way of putting items together.
use Rattle.std.proofs.Common.{◌≡◌, ℕ, zero, suc, ◌+◌, ◌/◌, ◌%◌, ◌≤◌, Bool, true, false, List, [], ◌∷◌, length, map, sum_by, flat_map, refl, sym, ap, subst, ◌∙◌, arith, length-append}
use Rattle.std.specs.Prelude.{nat_lt, if◌then◌else◌}
use Rattle.std.specs.List.{AllByRecursion}
use Rattle.std.proofs.lemmas.Bool.{ltb-true, ltb-false}
use Rattle.std.proofs.lemmas.List.{length-map}
use Rattle.std.proofs.lemmas.List.Concat.{length-flat_map}
use Rattle.std.proofs.lemmas.List.Sums.{sum_by-cons}
use Rattle.wasm_leb.specs.Writing.{unsigned_groups, unsigned_bytes}
use Rattle.wasm_bytes.specs.calls.Spelling.{items, name, sized, sized_run, vector}
use Rattle.wasm_format.proofs.Shortest.{number_least}
use Rattle.wasm_bytes.specs.declared.noted.Noted.{Noted}
use Rattle.wasm_bytes.specs.Notes.{plain, together}
use Rattle.wasm_format.specs.calls.Grammar.{noted_vector}
use Rattle.wasm_encode.specs.Encoding.{vector_bytes, sized_bytes}
use Rattle.wasm_decode.proofs.SoundForm.{values_of as values_from}

-- Bytes that spell a value are no fewer than its measure.
abbrev pub Least : {A : Type 0} → (A → ℕ → List ℕ → Type 0) → (A → ℕ) → Type 0
Least {A} S f = (x : A) (at : ℕ) (bytes : List ℕ) → S x at bytes → f x ≤ length bytes

-- What is spelled has the property.
abbrev pub Each : {A : Type 0} → (A → ℕ → List ℕ → Type 0) → (A → Type 0) → Type 0
Each {A} S P = (x : A) (at : ℕ) (bytes : List ℕ) → S x at bytes → P x

-- ---- numbers

groups_rise : (k m n : ℕ) → m ≤ n → length (unsigned_groups k m) ≤ length (unsigned_groups k n)
unfolding unsigned_groups
groups_rise zero m n le = omega arith
groups_rise (suc k) m n le = by (nat_lt m 128) (nat_lt n 128) refl refl (groups_rise k (m / 128) (n / 128) (omega (arith, le)))
  where
    by : (p q : Bool) → nat_lt m 128 ≡ p → nat_lt n 128 ≡ q → length (unsigned_groups k (m / 128)) ≤ length (unsigned_groups k (n / 128)) → length (if p then m ∷ [] else (m % 128 + 128) ∷ unsigned_groups k (m / 128)) ≤ length (if q then n ∷ [] else (n % 128 + 128) ∷ unsigned_groups k (n / 128))
    by true true c d r = omega arith
    by true false c d r = omega arith
    by false true c d r = absurd (omega (arith, le, ltb-false m 128 c, ltb-true n 128 d))
    by false false c d r = omega (arith, r)

-- A greater number has no shorter spelling.
pub number_rises : (m n : ℕ) → m ≤ n → length (unsigned_bytes m) ≤ length (unsigned_bytes n)
unfolding unsigned_bytes
number_rises m n le = groups_rise 9 m n le

-- ---- sizes

-- contents of at least so many bytes, behind their size
pub sized_least : (n : ℕ) (C : ℕ → List ℕ → Type 0) → ((at : ℕ) (inner : List ℕ) → C at inner → n ≤ length inner) → (at : ℕ) (bytes : List ℕ) → sized C at bytes → length (unsigned_bytes n) + n ≤ length bytes
sized_least n C h at bytes s =
    let le = h _ s.1 s.3 in
    omega (arith, le, number_rises n (length s.1) le, number_least (length s.1) s.0 s.2, ap length s.4, length-append s.0 s.1)

pub sized_length : (inner : List ℕ) → length (sized_bytes inner) ≡ length (unsigned_bytes (length inner)) + length inner
sized_length inner = length-append (unsigned_bytes (length inner)) inner

pub name_least : Least name (λ n. length (sized_bytes n))
name_least n at bytes s = omega (arith, sized_length n, number_least (length n) s.0 s.2, ap length s.3.0, ap length s.4, length-append s.0 s.1)

pub run_least : Least sized_run (λ n. length (sized_bytes n))
run_least n at bytes s = omega (arith, sized_length n, number_least (length n) s.0 s.2, ap length s.3, ap length s.4, length-append s.0 s.1)

-- ---- many items

pub items_least : {A : Type 0} (S : A → ℕ → List ℕ → Type 0) (f : A → ℕ) → Least S f → Least (items S) (sum_by f)
items_least S f h [] at bytes s = omega arith
items_least S f h (x ∷ xs) at bytes s =
    omega (arith, sum_by-cons f x xs, h x at s.0 s.2, items_least S f h xs (at + length s.0) s.1 s.3, ap length s.4, length-append s.0 s.1)

pub vector_least : {A : Type 0} (S : A → ℕ → List ℕ → Type 0) (f : A → ℕ) → Least S f → Least (vector S) (λ xs. length (unsigned_bytes (length xs)) + sum_by f xs)
vector_least S f h xs at bytes s =
    omega (arith, number_least (length xs) s.0 s.2, items_least S f h xs (at + length s.0) s.1 s.3, ap length s.4, length-append s.0 s.1)

pub vector_length : {A : Type 0} (bytes : A → List ℕ) (xs : List A) → length (vector_bytes bytes xs) ≡ length (unsigned_bytes (length xs)) + sum_by (λ x. length (bytes x)) xs
vector_length bytes xs = omega (arith, length-append (unsigned_bytes (length xs)) (flat_map bytes xs), length-flat_map bytes xs)

items_each : {A : Type 0} (S : A → ℕ → List ℕ → Type 0) (P : A → Type 0) → Each S P → Each (items S) (AllByRecursion P)
items_each S P h [] at bytes s = tt
items_each S P h (x ∷ xs) at bytes s = (h x at s.0 s.2, items_each S P h xs (at + length s.0) s.1 s.3)

pub vector_each : {A : Type 0} (S : A → ℕ → List ℕ → Type 0) (P : A → Type 0) → Each S P → Each (vector S) (AllByRecursion P)
vector_each S P h xs at bytes s = items_each S P h xs (at + length s.0) s.1 s.3

-- ---- values that may hold floats

pub values_of : {A : Type 0} (xs : List (Noted A)) (ys : Noted (List A)) → together xs ≡ ys → ys.value ≡ map (λ x. x.value) xs
values_of {A} xs ys same = sym (ap (λ (y : Noted (List A)). y.value) same) ∙ values_from (plain []) xs

pub sum_of_map : {A B : Type 0} (g : A → B) (f : B → ℕ) (xs : List A) → sum_by f (map g xs) ≡ sum_by (λ x. f (g x)) xs
sum_of_map g f [] = refl
sum_of_map g f (x ∷ xs) = omega (arith, sum_by-cons f (g x) (map g xs), sum_by-cons (λ y. f (g y)) x xs, sum_of_map g f xs)

all_of_map : {A B : Type 0} (g : A → B) (P : B → Type 0) (xs : List A) → AllByRecursion (λ x. P (g x)) xs → AllByRecursion P (map g xs)
all_of_map g P [] h = tt
all_of_map g P (x ∷ xs) h = (h.0, all_of_map g P xs h.1)

pub noted_least : {A : Type 0} (S : Noted A → ℕ → List ℕ → Type 0) (f : A → ℕ) → Least S (λ x. f x.value) → Least (noted_vector S) (λ ys. length (unsigned_bytes (length ys.value)) + sum_by f ys.value)
noted_least {A} S f h ys at bytes s =
    let is = values_of s.0 ys s.1 in
    let many : length ys.value ≡ length s.0 = ap length is ∙ length-map s.0 (λ (x : Noted A). x.value) in
    let total : sum_by f ys.value ≡ sum_by (λ (x : Noted A). f x.value) s.0 = ap (sum_by f) is ∙ sum_of_map (λ (x : Noted A). x.value) f s.0 in
    omega (arith, total, ap (λ (n : ℕ). length (unsigned_bytes n)) many, vector_least S (λ (x : Noted A). f x.value) h s.0 at bytes s.2)

pub noted_each : {A : Type 0} (S : Noted A → ℕ → List ℕ → Type 0) (P : A → Type 0) → Each S (λ x. P x.value) → Each (noted_vector S) (λ ys. AllByRecursion P ys.value)
noted_each {A} S P h ys at bytes s =
    subst (AllByRecursion P) (sym (values_of s.0 ys s.1)) (all_of_map (λ (x : Noted A). x.value) P s.0 (vector_each S (λ (x : Noted A). P x.value) h s.0 at bytes s.2))

-- greater terms have a greater sum
pub sum_rises : {A : Type 0} (f g : A → ℕ) (xs : List A) → AllByRecursion (λ x. f x ≤ g x) xs → sum_by f xs ≤ sum_by g xs
sum_rises f g [] h = omega arith
sum_rises f g (x ∷ xs) h = omega (arith, sum_by-cons f x xs, sum_by-cons g x xs, h.0, sum_rises f g xs h.1)
