-- What a reading function of numbers does, and what follows from that at a place in the bytes.
use Rattle.std.proofs.Common.{◌≡◌, ℕ, zero, suc, ◌+◌, ◌-◌, ◌<◌, ◌≤◌, ◌↔◌, List, ◌∷◌, ◌++◌, length, get_or, drop, Result, Ok, Err, refl, sym, ap, subst, ◌∙◌, arith, length-append, length-drop}
use Rattle.std.specs.Prelude.{IfOk, IsErrOf, slice_range}
use Rattle.std.proofs.lemmas.List.{take_at, get_or-drop, append_cancel_right}
use Rattle.std.proofs.Math.Seq.{drop-append_seam}
use Rattle.wasm_leb.specs.declared.LebFault.{LebFault}
use Rattle.wasm_leb.specs.declared.LebFault.TheVariants.{Truncated, TooLong}
use Rattle.wasm_leb.specs.calls.Numbers.{IsUnfinished, BeginsNone}
use Rattle.wasm_leb.specs.Reading.{placed}

abbrev pub IsBytes : List ℕ → Type 0
IsBytes bytes = (i : ℕ) → get_or bytes i 0 < 256

pub IsBytes-rest : (b : ℕ) (bs : List ℕ) → IsBytes (b ∷ bs) → IsBytes bs
IsBytes-rest b bs h i = h (suc i)

pub IsBytes-cons : (b : ℕ) (bs : List ℕ) → b < 256 → IsBytes bs → IsBytes (b ∷ bs)
IsBytes-cons b bs first rest zero = first
IsBytes-cons b bs first rest (suc i) = rest i

pub IsBytes-drop : (n : ℕ) (bytes : List ℕ) → IsBytes bytes → IsBytes (drop n bytes)
IsBytes-drop n bytes h i = rw get_or-drop (h (n + i))

abbrev pub got : {A : Type 0} → A × List ℕ → Result (A × List ℕ) LebFault
got x = Ok x

abbrev pub fault : {A : Type 0} → LebFault → Result (A × List ℕ) LebFault
fault e = Err e

-- the front of the bytes that spells the number
pub record Spelled {A : Type 0} (spelling : List ℕ → A → Type 0) (bytes : List ℕ) (n : A) (rest : List ℕ) : Type 0 where
  pub front : List ℕ
  pub parts : bytes ≡ front ++ rest
  pub spells : spelling front n

-- reading gives a number exactly where a front of the bytes spells it; k bytes are the full length
pub record IsReading {A : Type 0} (spelling : List ℕ → A → Type 0) (read : List ℕ → Result (A × List ℕ) LebFault) (k : ℕ) : Type 0 where
  pub some : (front : List ℕ) (n : A) → spelling front n → 0 < length front
  pub most : (front : List ℕ) (n : A) → spelling front n → length front ≤ k
  pub bytes : (front : List ℕ) (n : A) → spelling front n → IsBytes front
  pub sound : (bytes : List ℕ) (x : A × List ℕ) → IsBytes bytes → read bytes ≡ got x → Spelled spelling bytes x.0 x.1
  pub complete : (front rest : List ℕ) (n : A) → spelling front n → read (front ++ rest) ≡ got (n, rest)
  pub truncated : (bytes : List ℕ) → read bytes ≡ fault Truncated → IsUnfinished k bytes
  pub unfinished : (bytes : List ℕ) → IsUnfinished k bytes → read bytes ≡ fault Truncated
  pub too_long : (bytes : List ℕ) → read bytes ≡ fault TooLong → k ≤ length bytes

-- one number has one front: no spelling begins another, and none spells two numbers
pub record SameFront {A : Type 0} (front other rest behind : List ℕ) (n m : A) : Type 0 where
  pub same_number : n ≡ m
  pub same_bytes : front ≡ other
  pub same_rest : rest ≡ behind

got_same : {A : Type 0} (n m : A) (rest behind : List ℕ) → got (n, rest) ≡ got (m, behind) → (n ≡ m) × (rest ≡ behind)
got_same {A} n m rest behind e =
    let pair : (n, rest) ≡ (m, behind) = cc in
    (ap (λ (x : A × List ℕ). x.0) pair, ap (λ (x : A × List ℕ). x.1) pair)

pub same_front : {A : Type 0} (spelling : List ℕ → A → Type 0) (read : List ℕ → Result (A × List ℕ) LebFault) (k : ℕ) (front other rest behind : List ℕ) (n m : A) → IsReading spelling read k → spelling front n → spelling other m → front ++ rest ≡ other ++ behind → SameFront front other rest behind n m
same_front spelling read k front other rest behind n m r s t e =
    let same = got_same n m rest behind (sym (r.complete front rest n s) ∙ ap read e ∙ r.complete other behind m t) in
    record { same_number = same.0; same_bytes = append_cancel_right front other behind (ap (λ (w : List ℕ). front ++ w) (sym same.1) ∙ e); same_rest = same.1 }

-- behind other bytes, a spelling is read with the place behind it
pub reads_at : {A : Type 0} (spelling : List ℕ → A → Type 0) (read : List ℕ → Result (A × List ℕ) LebFault) (k : ℕ) (earlier front rest : List ℕ) (n : A) → IsReading spelling read k → spelling front n → placed (length (earlier ++ (front ++ rest))) (read (drop (length earlier) (earlier ++ (front ++ rest)))) ≡ Ok (n, length earlier + length front)
reads_at spelling read k earlier front rest n r s =
    let behind : length (earlier ++ (front ++ rest)) - length rest ≡ length earlier + length front = omega (arith, length-append earlier (front ++ rest), length-append front rest) in
    rw (drop-append_seam earlier (front ++ rest), r.complete front rest n s, behind) refl

abbrev pub IsFoundAt : {A : Type 0} → (List ℕ → A → Type 0) → List ℕ → ℕ → A × ℕ → Type 0
IsFoundAt spelling bytes at x = (at < x.1) × (x.1 ≤ length bytes) × spelling (slice_range bytes at x.1) x.0

found_front : {A : Type 0} (spelling : List ℕ → A → Type 0) (at : ℕ) (bytes front rest : List ℕ) (n : A) → at ≤ length bytes → drop at bytes ≡ front ++ rest → 0 < length front → spelling front n → IsFoundAt spelling bytes at (n, length bytes - length rest)
found_front spelling at bytes front rest n inside parts some s =
    let lengths : length bytes - at ≡ length front + length rest = sym (length-drop at bytes) ∙ ap length parts ∙ length-append front rest in
    let size : length bytes - length rest - at ≡ length front = omega (arith, lengths) in
    let same : slice_range bytes at (length bytes - length rest) ≡ front = rw (size, parts, take_at front rest (length front) refl) refl in
    (omega (arith, lengths, some), omega arith, subst (λ (f : List ℕ). spelling f n) (sym same) s)

pub found_at : {A : Type 0} (spelling : List ℕ → A → Type 0) (read : List ℕ → Result (A × List ℕ) LebFault) (k at : ℕ) (bytes : List ℕ) (q : Result (A × List ℕ) LebFault) → IsReading spelling read k → read (drop at bytes) ≡ q → IsBytes bytes → at ≤ length bytes → IfOk (placed (length bytes) q) (IsFoundAt spelling bytes at)
found_at spelling read k at bytes (Err e) r is fits inside = tt
found_at spelling read k at bytes (Ok x) r is fits inside =
    let s = r.sound (drop at bytes) x (IsBytes-drop at bytes fits) is in
    found_front spelling at bytes s.front x.1 x.0 inside s.parts (r.some s.front x.0 s.spells) s.spells

placed_err : {A : Type 0} (len : ℕ) (q : Result (A × List ℕ) LebFault) (e : LebFault) → IsErrOf (placed len q) e → q ≡ fault e
placed_err len (Ok x) e h = absurd cc
placed_err len (Err f) e h = cc

pub truncated_at : {A : Type 0} (spelling : List ℕ → A → Type 0) (read : List ℕ → Result (A × List ℕ) LebFault) (k at : ℕ) (bytes : List ℕ) → IsReading spelling read k → IsErrOf (placed (length bytes) (read (drop at bytes))) Truncated ↔ IsUnfinished k (drop at bytes)
truncated_at spelling read k at bytes r =
    (λ e. r.truncated (drop at bytes) (placed_err (length bytes) (read (drop at bytes)) Truncated e), λ u. ap (placed (length bytes)) (r.unfinished (drop at bytes) u))

no_number : {A : Type 0} (spelling : List ℕ → A → Type 0) (read : List ℕ → Result (A × List ℕ) LebFault) (k : ℕ) (bytes : List ℕ) (q : Result (A × List ℕ) LebFault) → IsReading spelling read k → read bytes ≡ q → IsBytes bytes → k ≤ length bytes → BeginsNone spelling bytes → q ≡ fault TooLong
no_number spelling read k bytes (Ok x) r is fits long none =
    let s = r.sound bytes x fits is in
    absurd (none s.front x.1 x.0 s.parts s.spells)
no_number spelling read k bytes (Err Truncated) r is fits long none = absurd (omega (arith, (r.truncated bytes is).0))
no_number spelling read k bytes (Err TooLong) r is fits long none = refl

begins_none : {A : Type 0} (spelling : List ℕ → A → Type 0) (read : List ℕ → Result (A × List ℕ) LebFault) (k : ℕ) (bytes : List ℕ) → IsReading spelling read k → read bytes ≡ fault TooLong → BeginsNone spelling bytes
begins_none spelling read k bytes r e front rest n parts s =
    let reads : read bytes ≡ got (n, rest) = ap read parts ∙ r.complete front rest n s in
    cc

pub too_long_at : {A : Type 0} (spelling : List ℕ → A → Type 0) (read : List ℕ → Result (A × List ℕ) LebFault) (k at : ℕ) (bytes : List ℕ) → IsReading spelling read k → IsBytes bytes → IsErrOf (placed (length bytes) (read (drop at bytes))) TooLong ↔ ((k ≤ length (drop at bytes)) × BeginsNone spelling (drop at bytes))
too_long_at spelling read k at bytes r fits = (
  λ e. let e' = placed_err (length bytes) (read (drop at bytes)) TooLong e in (r.too_long (drop at bytes) e', begins_none spelling read k (drop at bytes) r e'),
  λ p. ap (placed (length bytes)) (no_number spelling read k (drop at bytes) (read (drop at bytes)) r refl (IsBytes-drop at bytes fits) p.0 p.1),
)
