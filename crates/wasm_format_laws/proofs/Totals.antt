-- Sums and facts over lists, and how many bytes vectors and sections take.
use Rattle.std.proofs.Common.{◌≡◌, ℕ, ◌+◌, ◌*◌, ◌≤◌, List, [], ◌∷◌, ◌++◌, length, map, flat_map, refl, arith, length-append}
use Rattle.std.specs.List.{AllByRecursion}
use Rattle.wasm_leb.specs.Writing.{unsigned_bytes}
use Rattle.wasm_encode.specs.Encoding.{vector_bytes, vector_section}
use Rattle.wasm_format_laws.proofs.Measures.{sized_length}
use Rattle.wasm_leb.proofs.Lengths.{ten_bytes}

-- ---- sums over lists

abbrev pub total : {A : Type 0} → (A → ℕ) → List A → ℕ
total f [] = 0
total f (x ∷ xs) = f x + total f xs

pub total-append : {A : Type 0} (f : A → ℕ) (xs ys : List A) → total f (xs ++ ys) ≡ total f xs + total f ys
total-append f [] ys = omega arith
total-append f (x ∷ xs) ys = omega (arith, total-append f xs ys)

pub total-map : {A B : Type 0} (f : B → ℕ) (g : A → B) (xs : List A) → total f (map g xs) ≡ total (λ x. f (g x)) xs
total-map f g [] = refl
total-map f g (x ∷ xs) = omega (arith, total-map f g xs)

-- each at most so many times another
pub total_rises : {A : Type 0} (f g : A → ℕ) (xs : List A) → ((x : A) → f x ≤ g x) → total f xs ≤ total g xs
total_rises f g [] h = omega arith
total_rises f g (x ∷ xs) h = omega (arith, h x, total_rises f g xs h)

pub total_times : {A : Type 0} (f : A → ℕ) (n : ℕ) (xs : List A) → ((x : A) → f x ≤ n) → total f xs ≤ length xs * n
total_times f n [] h = omega arith
total_times f n (x ∷ xs) h = omega (arith, h x, total_times f n xs h)

pub total_many : {A : Type 0} (f : A → ℕ) (xs : List A) → ((x : A) → 1 ≤ f x) → length xs ≤ total f xs
total_many f [] h = omega arith
total_many f (x ∷ xs) h = omega (arith, h x, total_many f xs h)

-- ---- vectors and sections

pub flat_total : {A : Type 0} (bytes : A → List ℕ) (xs : List A) → length (flat_map bytes xs) ≡ total (λ x. length (bytes x)) xs
flat_total bytes [] = refl
flat_total bytes (x ∷ xs) = omega (arith, length-append (bytes x) (flat_map bytes xs), flat_total bytes xs)

pub vector_total : {A : Type 0} (bytes : A → List ℕ) (xs : List A) → length (vector_bytes bytes xs) ≡ length (unsigned_bytes (length xs)) + total (λ x. length (bytes x)) xs
vector_total bytes xs = omega (arith, length-append (unsigned_bytes (length xs)) (flat_map bytes xs), flat_total bytes xs)

pub section_most : {A : Type 0} (id : ℕ) (bytes : A → List ℕ) (xs : List A) → length (vector_section id bytes xs) ≤ 21 + total (λ x. length (bytes x)) xs
section_most id bytes [] = omega arith
section_most id bytes (x ∷ xs) =
    let inner = vector_bytes bytes (x ∷ xs) in
    let a = sized_length inner in
    let b = ten_bytes (length inner) in
    let c = vector_total bytes (x ∷ xs) in
    let d = ten_bytes (length (x ∷ xs)) in
    omega (arith, a, b, c, d)

pub section_least : {A : Type 0} (id : ℕ) (bytes : A → List ℕ) (xs : List A) → total (λ x. length (bytes x)) xs ≤ length (vector_section id bytes xs)
section_least id bytes [] = omega arith
section_least id bytes (x ∷ xs) =
    let inner = vector_bytes bytes (x ∷ xs) in
    let a = sized_length inner in
    let c = vector_total bytes (x ∷ xs) in
    omega (arith, a, c)

-- ---- facts on each element

pub all_from_map : {A B : Type 0} (P : B → Type 0) (f : A → B) (xs : List A) → AllByRecursion P (map f xs) → AllByRecursion (λ x. P (f x)) xs
all_from_map P f [] h = tt
all_from_map P f (x ∷ xs) h = (h.0, all_from_map P f xs h.1)
