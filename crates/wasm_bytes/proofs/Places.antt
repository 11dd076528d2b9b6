-- Places between the bytes before and the bytes behind them, and readings one after the other.
use Rattle.std.proofs.Common.{◌≡◌, ℕ, ◌+◌, ◌-◌, ◌⊎◌, List, [], ◌∷◌, ◌++◌, length, get_or, Ok, Err, refl, sym, ap, subst, ◌∙◌, inl, inr, append_assoc, arith, length-append}
use Rattle.std.specs.List.{slice_get}
use Rattle.std.proofs.lemmas.Bool.{cases_lt}
use Rattle.std.proofs.lemmas.List.{append-nil, get_or-append_right, get_or_append_left, get_or_past}
use Rattle.wasm_bytes.specs.Place.{Place, Read}
use Rattle.wasm_bytes.specs.Reading.{◌>>=◌}
use Rattle.wasm_bytes.specs.Laws.{IsBytes, place, got, failed, Took}

-- ---- bytes

pub IsBytes-rest : (front rest : List ℕ) → IsBytes (front ++ rest) → IsBytes rest
IsBytes-rest front rest h i = let e : get_or (front ++ rest) (length front + i) 0 ≡ get_or rest i 0 = grind (arith, get_or-append_right) in rw (← e) (h (length front + i))

pub IsBytes-front : (front rest : List ℕ) → IsBytes (front ++ rest) → IsBytes front
IsBytes-front front rest h i = elim (cases_lt i (length front)) [
  | inl lt ↦ let e : get_or (front ++ rest) i 0 ≡ get_or front i 0 = grind (arith, get_or_append_left) in rw (← e) (h i)
  | inr le ↦ rw (get_or_past front i 0 le) (omega arith)
]

-- ---- places

pub place_is : (b c : List ℕ) (m n : ℕ) → b ≡ c → m ≡ n → let p : Place = record { block = b; at = m } in let q : Place = record { block = c; at = n } in p ≡ q
place_is b c m n e f = cc

-- the place behind a front
pub place_behind : (before front rest : List ℕ) (n : ℕ) → n ≡ length before + length front → let p : Place = record { block = before ++ (front ++ rest); at = n } in p ≡ place (before ++ front) rest
place_behind before front rest n e = place_is (before ++ (front ++ rest)) ((before ++ front) ++ rest) n (length (before ++ front)) (sym (append_assoc before front rest)) (e ∙ sym (length-append before front))

pub rest_length : (before after : List ℕ) → length (before ++ after) - length before ≡ length after
rest_length before after = omega (arith, length-append before after)

-- the byte at a place is the first one behind it
pub byte_here : (before after : List ℕ) → slice_get (before ++ after) (length before) ≡ slice_get after 0
byte_here [] after = refl
byte_here (b ∷ bs) after = byte_here bs after

-- ---- readings

pub got_is : {A : Type 0} (x y : A) (p q : Place) → got x p ≡ got y q → (x ≡ y) × (p ≡ q)
got_is {A} x y p q e =
    let same : (x, p) ≡ (y, q) = cc in
    (ap (λ (z : A × Place). z.0) same, ap (λ (z : A × Place). z.1) same)

pub bind_ok : {A B : Type 0} (r : Read A) (f : A × Place → Read B) (y : B) (q : Place) → (r >>= f) ≡ got y q → (x : A) × (p : Place) × (r ≡ got x p) × (f (x, p) ≡ got y q)
bind_ok (Ok x) f y q e = (x.0, x.1, refl, e)
bind_ok (Err o) f y q e = absurd cc

pub bind_err : {A B : Type 0} (r : Read A) (f : A × Place → Read B) (o : ℕ) → (r >>= f) ≡ failed o → (r ≡ failed o) ⊎ ((x : A) × (p : Place) × (r ≡ got x p) × (f (x, p) ≡ failed o))
bind_err (Ok x) f o e = inr (x.0, x.1, refl, e)
bind_err (Err u) f o e = inl (let same : u ≡ o = cc in ap failed same)

-- A reading is had or fails.
pub reading : {A : Type 0} (r : Read A) → ((x : A) × (p : Place) × (r ≡ got x p)) ⊎ ((o : ℕ) × (r ≡ failed o))
reading (Ok x) = inl (x.0, x.1, refl)
reading (Err o) = inr (o, refl)

-- ---- what was taken

-- the front that was taken spells something else too
pub took_as : {A B : Type 0} (S : A → ℕ → List ℕ → Type 0) (T : B → ℕ → List ℕ → Type 0) (before after : List ℕ) (x : A) (y : B) (q : Place)
    → ((front : List ℕ) → S x (length before) front → T y (length before) front) → Took S before after x q → Took T before after y q
took_as S T before after x y q made t = record { front = t.front; rest = t.rest; is = made t.front t.is; parts = t.parts; behind = t.behind; bytes = t.bytes }

-- what was taken, of a value and a place that are the same
pub took_is : {A : Type 0} (S : A → ℕ → List ℕ → Type 0) (before after : List ℕ) (x y : A) (p q : Place) → got x p ≡ got y q → Took S before after x p → Took S before after y q
took_is {A} S before after x y p q e t =
    let same = got_is x y p q e in
    let moved = subst (λ (w : A). Took S before after w p) same.0 t in
    subst (λ (w : Place). Took S before after y w) same.1 moved

-- nothing was taken
pub took_nothing : {A : Type 0} (S : A → ℕ → List ℕ → Type 0) (before after : List ℕ) (x : A) → IsBytes after → S x (length before) [] → Took S before after x (place before after)
took_nothing S before after x fits is = record { front = []; rest = after; is = is; parts = refl; behind = ap (λ (t : List ℕ). place t after) (sym (append-nil before)); bytes = fits }
