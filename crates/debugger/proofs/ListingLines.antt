-- Numbered lines, one after the other.
use Rattle.std.proofs.Common.{◌≡◌, ℕ, zero, suc, ◌+◌, ◌-◌, ◌<◌, ◌≤◌, ◌==◌, false, List, [], ◌∷◌, ◌++◌, length, get_or, drop, replicate, refl, sym, ◌∙◌, arith, append_assoc, add-one, drop-cons}
use Rattle.std.proofs.lemmas.List.{append-nil, drop_all}
use Rattle.wasm_syntax.specs.declared.value.Seen.{Seen}
use Rattle.wasm_syntax.specs.declared.value.Seen.TheVariants.{Missing}
use Rattle.debugger.specs.Listings.{value_line, none_text, listing, recorded_or}
use Rattle.commands.specs.Values.{numbered}

numbered_cons : {A : Type 0} (line : ℕ → A → List ℕ) (i : ℕ) (x : A) (xs : List A) → numbered line i (x ∷ xs) ≡ line i x ++ numbered line (i + 1) xs
numbered_cons line i x xs = refl

-- one more line is written
pub goes_on : {A : Type 0} (line : ℕ → A → List ℕ) (xs : List A) (i : ℕ) (x other : A) (out more total : List ℕ) → i < length xs → x ≡ get_or xs i other → more ≡ out ++ line i x
    → out ++ numbered line i (drop i xs) ≡ total → more ++ numbered line (i + 1) (drop (i + 1) xs) ≡ total
goes_on line xs i x other out more total lt is wrote so_far =
    let rest : drop i xs ≡ x ∷ drop (i + 1) xs = rw (drop-cons xs i other, ← is, add-one) refl in
    let one : out ++ numbered line i (drop i xs) ≡ more ++ numbered line (i + 1) (drop (i + 1) xs) = rw (rest, numbered_cons line i x (drop (i + 1) xs), wrote, append_assoc) refl in
    sym one ∙ so_far

-- all lines are written
pub is_done : {A : Type 0} (line : ℕ → A → List ℕ) (xs : List A) (i : ℕ) (out total : List ℕ) → length xs ≤ i → out ++ numbered line i (drop i xs) ≡ total → out ≡ total
is_done line xs i out total le so_far =
    let none : drop i xs ≡ [] = drop_all i xs le in
    let one : out ++ numbered line i (drop i xs) ≡ out = rw none (append-nil out) in
    sym one ∙ so_far

-- the same for a list of one value
pub same_goes_on : {A : Type 0} (line : ℕ → A → List ℕ) (x : A) (count i : ℕ) (out more total : List ℕ) → i < count → more ≡ out ++ line i x
    → out ++ numbered line i (replicate (count - i) x) ≡ total → more ++ numbered line (i + 1) (replicate (count - (i + 1)) x) ≡ total
same_goes_on line x count i out more total lt wrote so_far =
    let n : count - i ≡ suc (count - (i + 1)) = omega (arith, lt) in
    let one : out ++ numbered line i (replicate (count - i) x) ≡ more ++ numbered line (i + 1) (replicate (count - (i + 1)) x) = rw (n, numbered_cons line i x (replicate (count - (i + 1)) x), wrote, append_assoc) refl in
    sym one ∙ so_far

pub same_done : {A : Type 0} (line : ℕ → A → List ℕ) (x : A) (count i : ℕ) (out total : List ℕ) → count ≤ i → out ++ numbered line i (replicate (count - i) x) ≡ total → out ≡ total
same_done line x count i out total le so_far =
    let n : count - i ≡ 0 = omega (arith, le) in
    let one : out ++ numbered line i (replicate (count - i) x) ≡ out = rw n (append-nil out) in
    sym one ∙ so_far

-- ---- listings

pub recorded : (label : List ℕ) (count : ℕ) (vs : List Seen) → (length vs == 0) ≡ false → numbered (value_line label) 0 vs ≡ listing label (recorded_or count vs)
unfolding listing
recorded label count [] e = absurd (cc)
recorded label count (v ∷ vs) e = refl

pub empty_is : (vs : List Seen) → length vs ≡ 0 → vs ≡ []
empty_is [] e = refl
empty_is (v ∷ vs) e = absurd (omega (arith, e))

pub nothing : (label : List ℕ) (count : ℕ) (vs : List Seen) → length vs ≡ 0 → count ≡ 0 → none_text label ≡ listing label (recorded_or count vs)
unfolding listing
nothing label count vs e n = rw (empty_is vs e, n) refl

pub unrecorded : (label : List ℕ) (count : ℕ) (vs : List Seen) → length vs ≡ 0 → 0 < count → numbered (value_line label) 0 (replicate count Missing) ≡ listing label (recorded_or count vs)
unfolding listing
unrecorded label zero vs e n = absurd (omega (arith, n))
unrecorded label (suc k) vs e n = rw (empty_is vs e) refl
