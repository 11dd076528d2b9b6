-- Each input is read as one value, or is broken at one offset.
use Rattle.std.proofs.Common.{◌≡◌, ℕ, ◌⊎◌, List, Result, Ok, Err, refl, sym, ◌∙◌, inl, inr}
use Rattle.wasm_bytes.specs.Place.{Place, Read}
use Rattle.wasm_bytes.specs.Reading.{closed, whole}
use Rattle.wasm_bytes.specs.Laws.{IsBytes, IsTail, StopsAt}
use Rattle.wasm_bytes.proofs.ExactBlocks.{whole_found, whole_read}
use Rattle.wasm_bytes.proofs.StopsBlocks.{whole_stops, whole_stopped}

abbrev ok : {A : Type 0} → A → Result A ℕ
ok x = Ok x

abbrev err : {A : Type 0} → ℕ → Result A ℕ
err o = Err o

pub read_or_broken : {A : Type 0} (S : A → ℕ → List ℕ → Type 0) (s : ℕ → List ℕ → ℕ → Type 0) (f : Place → Read A) → IsTail S (closed f) → StopsAt s (closed f) → (bytes : List ℕ) → IsBytes bytes → ((x : A) × S x 0 bytes) ⊎ ((o : ℕ) × s 0 bytes o)
read_or_broken {A} S s f e h bytes fits = by (whole f bytes) (λ x r. whole_found S f e bytes x fits r) (λ o r. whole_stops s f h bytes o fits r) where
  by : (r : Result A ℕ) → ((x : A) → r ≡ ok x → S x 0 bytes) → ((o : ℕ) → r ≡ err o → s 0 bytes o) → ((x : A) × S x 0 bytes) ⊎ ((o : ℕ) × s 0 bytes o)
  by (Ok x) found stops = inl (x, found x refl)
  by (Err o) found stops = inr (o, stops o refl)

pub read_once : {A : Type 0} (S : A → ℕ → List ℕ → Type 0) (f : Place → Read A) → IsTail S (closed f) → (bytes : List ℕ) (x y : A) → S x 0 bytes → S y 0 bytes → x ≡ y
read_once S f e bytes x y s t = let both : ok x ≡ ok y = sym (whole_read S f e bytes x s) ∙ whole_read S f e bytes y t in cc

pub broken_once : {A : Type 0} (s : ℕ → List ℕ → ℕ → Type 0) (f : Place → Read A) → StopsAt s (closed f) → (bytes : List ℕ) → IsBytes bytes → (o p : ℕ) → s 0 bytes o → s 0 bytes p → o ≡ p
broken_once {A} s f h bytes fits o p i j = let both : err {A = A} o ≡ err p = sym (whole_stopped s f h bytes o fits i) ∙ whole_stopped s f h bytes p fits j in cc

pub not_both : {A : Type 0} (S : A → ℕ → List ℕ → Type 0) (s : ℕ → List ℕ → ℕ → Type 0) (f : Place → Read A) → IsTail S (closed f) → StopsAt s (closed f) → (bytes : List ℕ) → IsBytes bytes → (x : A) (o : ℕ) → S x 0 bytes → s 0 bytes o → ⊥
not_both S s f e h bytes fits x o i j = let both : ok x ≡ err o = sym (whole_read S f e bytes x i) ∙ whole_stopped s f h bytes o fits j in absurd cc
