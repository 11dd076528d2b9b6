-- What is written of the parts spells them: one lemma for each way of putting items together.
use Rattle.std.proofs.Common.{◌≡◌, ℕ, ◌+◌, ◌<◌, ◌^◌, List, [], ◌∷◌, ◌++◌, length, map, refl, sym, subst, arith}
use Rattle.std.specs.List.{flat_map, AllByRecursion}
use Rattle.std.specs.Str.{IsUtf8}
use Rattle.std.proofs.lemmas.List.{length-map, map-id}
use Rattle.wasm_leb.specs.Writing.{unsigned_bytes}
use Rattle.wasm_bytes.specs.calls.Spelling.{Spellings, ◌&◌, u32, sized_run, name, sized, items, vector}
use Rattle.wasm_encode.specs.Encoding.{vector_bytes, sized_bytes}
use Rattle.wasm_bytes.proofs.Numbers.{u32_spelled}

pub then_spelled : (A B : Spellings) (at : ℕ) (front rest : List ℕ) → A at front → B (at + length front) rest → (A & B) at (front ++ rest)
then_spelled A B at front rest a b = (front, rest, a, b, refl)

pub sized_spelled : (S : Spellings) (at : ℕ) (inner : List ℕ) → length inner < 2 ^ 32 → S (at + length (unsigned_bytes (length inner))) inner → sized S at (sized_bytes inner)
sized_spelled S at inner lt s = (unsigned_bytes (length inner), inner, u32_spelled (length inner) at lt, s, refl)

pub name_spelled : (bytes : List ℕ) (at : ℕ) → length bytes < 2 ^ 32 → IsUtf8 bytes → name bytes at (sized_bytes bytes)
name_spelled bytes at lt utf8 = (unsigned_bytes (length bytes), bytes, u32_spelled (length bytes) at lt, (refl, utf8), refl)

pub run_spelled : (bytes : List ℕ) (at : ℕ) → length bytes < 2 ^ 32 → sized_run bytes at (sized_bytes bytes)
run_spelled bytes at lt = (unsigned_bytes (length bytes), bytes, u32_spelled (length bytes) at lt, refl, refl)

-- ---- many items

-- each item spells its value, which stands in the language in a form of its own
wrapped_items : {A W : Type 0} (S : W → Spellings) (wrap : A → W) (bytes : A → List ℕ) (P : A → Type 0) → ((x : A) (at : ℕ) → P x → S (wrap x) at (bytes x)) → (xs : List A) (at : ℕ) → AllByRecursion P xs → items S (map wrap xs) at (flat_map bytes xs)
wrapped_items S wrap bytes P each [] at all = refl
wrapped_items S wrap bytes P each (x ∷ xs) at all = (bytes x, flat_map bytes xs, each x at all.0, wrapped_items S wrap bytes P each xs (at + length (bytes x)) all.1, refl)

pub wrapped_vector : {A W : Type 0} (S : W → Spellings) (wrap : A → W) (bytes : A → List ℕ) (P : A → Type 0) → ((x : A) (at : ℕ) → P x → S (wrap x) at (bytes x)) → (xs : List A) (at : ℕ) → length xs < 2 ^ 32 → AllByRecursion P xs → vector S (map wrap xs) at (vector_bytes bytes xs)
wrapped_vector {W = W} S wrap bytes P each xs at lt all =
    let n : length (map wrap xs) ≡ length xs = length-map xs wrap in
    let count : u32 (length (map wrap xs)) at (unsigned_bytes (length xs)) = subst (λ (k : ℕ). u32 k at (unsigned_bytes (length xs))) (sym n) (u32_spelled (length xs) at lt) in
    (unsigned_bytes (length xs), flat_map bytes xs, count, wrapped_items S wrap bytes P each xs (at + length (unsigned_bytes (length xs))) all, refl)

-- each item spells its value
pub vector_spelled : {A : Type 0} (S : A → Spellings) (bytes : A → List ℕ) (P : A → Type 0) → ((x : A) (at : ℕ) → P x → S x at (bytes x)) → (xs : List A) (at : ℕ) → length xs < 2 ^ 32 → AllByRecursion P xs → vector S xs at (vector_bytes bytes xs)
vector_spelled {A = A} S bytes P each xs at lt all = subst (λ (ys : List A). vector S ys at (vector_bytes bytes xs)) (map-id xs) (wrapped_vector S (λ x. x) bytes P each xs at lt all)

pub all_true : {A : Type 0} (xs : List A) → AllByRecursion (λ _. Unit {0}) xs
all_true [] = tt
all_true (x ∷ xs) = (tt, all_true xs)

-- values, one for each of a list, that are alike and are spelled by what is written of the list
pub record Alike {A B C W : Type 0} (S : W → Spellings) (wrap : B → W) (seen : B → C) (code : A → C) (bytes : List ℕ) (xs : List A) (at : ℕ) : Type 0 where
  pub values : List B
  pub same : map seen values ≡ map code xs
  pub spelled : items S (map wrap values) at bytes

-- each item spells a value that is alike
pub items_alike : {A B C W : Type 0} (S : W → Spellings) (wrap : B → W) (seen : B → C) (code : A → C) (bytes : A → List ℕ) (P : A → Type 0)
    → ((x : A) (at : ℕ) → P x → (y : B) × (seen y ≡ code x) × S (wrap y) at (bytes x))
    → (xs : List A) (at : ℕ) → AllByRecursion P xs → Alike S wrap seen code (flat_map bytes xs) xs at
items_alike S wrap seen code bytes P each [] at all = record { values = []; same = refl; spelled = refl }
items_alike {C = C} S wrap seen code bytes P each (x ∷ xs) at all =
    let one = each x at all.0 in
    let others = items_alike S wrap seen code bytes P each xs (at + length (bytes x)) all.1 in
    record {
      values = one.0 ∷ others.values;
      same = rw (one.1, others.same) refl;
      spelled = (bytes x, flat_map bytes xs, one.2, others.spelled, refl);
    }

pub same_length : {A B C W : Type 0} (wrap : B → W) (seen : B → C) (code : A → C) (ys : List B) (xs : List A) → map seen ys ≡ map code xs → length (map wrap ys) ≡ length xs
same_length wrap seen code [] [] e = refl
same_length wrap seen code [] (x ∷ xs) e = absurd cc
same_length wrap seen code (y ∷ ys) [] e = absurd cc
same_length wrap seen code (y ∷ ys) (x ∷ xs) e = let rest : map seen ys ≡ map code xs = cc in let n = same_length wrap seen code ys xs rest in omega (arith, n)

pub vector_alike : {A B C W : Type 0} (S : W → Spellings) (wrap : B → W) (seen : B → C) (code : A → C) (bytes : A → List ℕ) (P : A → Type 0)
    → ((x : A) (at : ℕ) → P x → (y : B) × (seen y ≡ code x) × S (wrap y) at (bytes x))
    → (xs : List A) (at : ℕ) → length xs < 2 ^ 32 → AllByRecursion P xs → (ys : List B) × (map seen ys ≡ map code xs) × vector S (map wrap ys) at (vector_bytes bytes xs)
vector_alike {W = W} S wrap seen code bytes P each xs at lt all =
    let a = items_alike S wrap seen code bytes P each xs (at + length (unsigned_bytes (length xs))) all in
    let n = same_length wrap seen code a.values xs a.same in
    let count : u32 (length (map wrap a.values)) at (unsigned_bytes (length xs)) = subst (λ (k : ℕ). u32 k at (unsigned_bytes (length xs))) (sym n) (u32_spelled (length xs) at lt) in
    (a.values, a.same, (unsigned_bytes (length xs), flat_map bytes xs, count, a.spelled, refl))
