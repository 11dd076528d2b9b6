-- Numbered lines, one after the other.
use Rattle.std.proofs.Common.{◌≡◌, ℕ, ◌+◌, ◌<◌, ◌≤◌, List, [], ◌∷◌, ◌++◌, length, get_or, drop, refl, sym, ◌∙◌, append_assoc, add-one, drop-cons}
use Rattle.std.proofs.lemmas.List.{append-nil, drop_all}
use Rattle.commands.specs.Values.{numbered}

numbered_cons : {A : Type 0} (line : ℕ → A → List ℕ) (i : ℕ) (x : A) (xs : List A) → numbered line i (x ∷ xs) ≡ line i x ++ numbered line (i + 1) xs
numbered_cons line i x xs = refl

-- one more line is written
pub goes_on : {A : Type 0} (line : ℕ → A → List ℕ) (xs : List A) (i : ℕ) (x other : A) (out more total : List ℕ) → i < length xs → x ≡ get_or xs i other → more ≡ out ++ line i x
    → out ++ numbered line i (drop i xs) ≡ total → more ++ numbered line (i + 1) (drop (i + 1) xs) ≡ total
goes_on line xs i x other out more total lt is wrote so_far =
    let rest : drop i xs ≡ x ∷ drop (i + 1) xs = rw (drop-cons xs i other, ← is, add-one) refl in
    let one : out ++ numbered line i (drop i xs) ≡ more ++ numbered line (i + 1) (drop (i + 1) xs) = rw (rest, numbered_cons line i x (drop (i + 1) xs), wrote, append_assoc) refl in
    sym one ∙ so_far

-- all lines are written
pub is_done : {A : Type 0} (line : ℕ → A → List ℕ) (xs : List A) (i : ℕ) (out total : List ℕ) → length xs ≤ i → out ++ numbered line i (drop i xs) ≡ total → out ≡ total
is_done line xs i out total le so_far =
    let none : drop i xs ≡ [] = drop_all i xs le in
    let one : out ++ numbered line i (drop i xs) ≡ out = rw none (append-nil out) in
    sym one ∙ so_far
