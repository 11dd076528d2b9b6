-- Reading into a state, where the state is a function of what was read.
use Rattle.std.proofs.Common.{◌≡◌, ℕ, zero, suc, length, Bool, true, false, Ok, Err, refl}
use Rattle.std.specs.Prelude.{nat_lt, if◌then◌else◌}
use Rattle.wasm_bytes.specs.Place.{Place, Read}
use Rattle.wasm_bytes.specs.Reading.{◌>>=◌, steps_until_end, end_item, block_item, closed, within}
use Rattle.wasm_bytes.proofs.Offsets.{bind-same}
use Rattle.wasm_bytes.proofs.Vectors.{made, made-bind, bind-made}

-- ---- steps

-- a test decides whether anything is read
test_made : {S T : Type 0} (h : S → T) (b : Bool) (x : Read T) (y : Read S) (z : Read T) (w : Read S) → x ≡ made h y → z ≡ made h w → (if b then x else z) ≡ made h (if b then y else w)
test_made h true x y z w one other = one
test_made h false x y z w one other = other

pub until_end-made : {S T : Type 0} (h : S → T) (f : S → Place → Read S) (g : T → Place → Read T) → ((s : S) (p : Place) → g (h s) p ≡ made h (f s p))
    → (n : ℕ) (s : S) (p : Place) → steps_until_end g n (h s) p ≡ made h (steps_until_end f n s p)
unfolding steps_until_end
until_end-made h f g step zero s p = test_made h (nat_lt p.at (length p.block)) (Err p.at) (Err p.at) (Ok (h s, p)) (Ok (s, p)) refl refl
until_end-made h f g step (suc n) s p =
    test_made h (nat_lt p.at (length p.block)) (g (h s) p >>= λ x. steps_until_end g n x.0 x.1) (f s p >>= λ x. steps_until_end f n x.0 x.1) (Ok (h s, p)) (Ok (s, p))
    (rw (step s p, made-bind h (f s p) (λ x. steps_until_end g n x.0 x.1), bind-made h (f s p) (λ x. steps_until_end f n x.0 x.1))
    (bind-same (f s p) _ _ (λ x q. until_end-made h f g step n x q))) refl

-- ---- blocks and inputs

pub closed-made : {A B : Type 0} (to : A → B) (f : Place → Read A) (g : Place → Read B) → ((p : Place) → g p ≡ made to (f p)) → (p : Place) → closed g p ≡ made to (closed f p)
closed-made {A} {B} to f g same p = rw (same p) (cases (f p)) where
  ended : (x : A × Place) (read : Read (Unit {0})) → (read >>= λ e. Ok (to x.0, e.1)) ≡ made to (read >>= λ e. Ok (x.0, e.1))
  ended x (Ok e) = refl
  ended x (Err at) = refl

  cases : (read : Read A) → (made to read >>= λ x. end_item x.1 >>= λ e. Ok (x.0, e.1)) ≡ made to (read >>= λ x. end_item x.1 >>= λ e. Ok (x.0, e.1))
  cases (Ok x) = ended x (end_item x.1)
  cases (Err at) = refl

pub within-made : {A B : Type 0} (to : A → B) (f : Place → Read A) (g : Place → Read B) → ((p : Place) → g p ≡ made to (f p)) → (p : Place) → within g p ≡ made to (within f p)
within-made {A} {B} to f g same p = cases (block_item p) where
  behind : (outer : Place) (read : Read A) → (made to read >>= λ x. Ok (x.0, outer)) ≡ made to (read >>= λ x. Ok (x.0, outer))
  behind outer (Ok x) = refl
  behind outer (Err at) = refl

  cases : (read : Read Place) → (read >>= λ b. closed g b.0 >>= λ x. Ok (x.0, b.1)) ≡ made to (read >>= λ b. closed f b.0 >>= λ x. Ok (x.0, b.1))
  cases (Ok b) = rw (closed-made to f g same b.0) (behind b.1 (closed f b.0))
  cases (Err at) = refl
