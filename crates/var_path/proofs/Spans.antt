-- The bytes in front that pass a test.
use Rattle.std.proofs.Common.{◌≡◌, ℕ, suc, ◌+◌, ◌<◌, Bool, true, false, List, [], ◌∷◌, ◌++◌, length, drop, get_or, refl, sym, ap, ◌∙◌, add-one, append_assoc, drop-cons}
use Rattle.std.specs.Prelude.{reverse, ◌&&◌, if◌then◌else◌}
use Rattle.std.specs.List.{list_all}
use Rattle.std.proofs.lemmas.List.{reverse-append}
use Rattle.std.proofs.lemmas.List.Folds.{list_all-append}
use Rattle.var_path.specs.Words.{in_front, behind}
use Rattle.std.proofs.lemmas.Bool.{and_parts}

-- What stands here does not begin with what passes.
abbrev pub Stops : (ℕ → Bool) → List ℕ → Type 0
Stops p [] = Unit {0}
Stops p (b ∷ bs) = p b ≡ false

parts_by : (p : ℕ → Bool) (b : ℕ) (bs : List ℕ) (t : Bool) → in_front p bs ++ behind p bs ≡ bs → (if t then b ∷ in_front p bs else []) ++ (if t then behind p bs else b ∷ bs) ≡ b ∷ bs
parts_by p b bs true e = ap (λ (xs : List ℕ). b ∷ xs) e
parts_by p b bs false e = refl

pub parts : (p : ℕ → Bool) (bs : List ℕ) → in_front p bs ++ behind p bs ≡ bs
parts p [] = refl
parts p (b ∷ bs) = parts_by p b bs (p b) (parts p bs)

passes_by : (p : ℕ → Bool) (b : ℕ) (bs : List ℕ) (t : Bool) → p b ≡ t → list_all p (in_front p bs) ≡ true → list_all p (if t then b ∷ in_front p bs else []) ≡ true
passes_by p b bs true is e = ap (λ (t : Bool). t && list_all p (in_front p bs)) is ∙ e
passes_by p b bs false is e = refl

pub passes : (p : ℕ → Bool) (bs : List ℕ) → list_all p (in_front p bs) ≡ true
passes p [] = refl
passes p (b ∷ bs) = passes_by p b bs (p b) refl (passes p bs)

stops_by : (p : ℕ → Bool) (b : ℕ) (bs : List ℕ) (t : Bool) → p b ≡ t → Stops p (behind p bs) → Stops p (if t then behind p bs else b ∷ bs)
stops_by p b bs true is e = e
stops_by p b bs false is e = is

pub stops : (p : ℕ → Bool) (bs : List ℕ) → Stops p (behind p bs)
stops p [] = tt
stops p (b ∷ bs) = stops_by p b bs (p b) refl (stops p bs)

-- ---- a word and what stops it

front_none : (p : ℕ → Bool) (rest : List ℕ) → Stops p rest → in_front p rest ≡ []
front_none p [] h = refl
front_none p (b ∷ bs) h = ap (λ (t : Bool). if t then b ∷ in_front p bs else []) h

behind_none : (p : ℕ → Bool) (rest : List ℕ) → Stops p rest → behind p rest ≡ rest
behind_none p [] h = refl
behind_none p (b ∷ bs) h = ap (λ (t : Bool). if t then behind p bs else b ∷ bs) h

pub front_of : (p : ℕ → Bool) (word rest : List ℕ) → list_all p word ≡ true → Stops p rest → in_front p (word ++ rest) ≡ word
front_of p [] rest all h = front_none p rest h
front_of p (b ∷ bs) rest all h =
    let parted = and_parts (p b) (list_all p bs) all in
    ap (λ (t : Bool). if t then b ∷ in_front p (bs ++ rest) else []) parted.0 ∙ ap (λ (xs : List ℕ). b ∷ xs) (front_of p bs rest parted.1 h)

pub behind_of : (p : ℕ → Bool) (word rest : List ℕ) → list_all p word ≡ true → Stops p rest → behind p (word ++ rest) ≡ rest
behind_of p [] rest all h = behind_none p rest h
behind_of p (b ∷ bs) rest all h =
    let parted = and_parts (p b) (list_all p bs) all in
    ap (λ (t : Bool). if t then behind p (bs ++ rest) else b ∷ (bs ++ rest)) parted.0 ∙ behind_of p bs rest parted.1 h

-- ---- reversed

pub reversed_onto : (b : ℕ) (bs rest : List ℕ) → reverse (b ∷ bs) ++ rest ≡ reverse bs ++ (b ∷ rest)
reversed_onto b bs rest = ap (λ (xs : List ℕ). xs ++ rest) (reverse-append (b ∷ []) bs) ∙ append_assoc (reverse bs) (b ∷ []) rest

and_true : (a : Bool) → (a && true) ≡ a
and_true true = refl
and_true false = refl

turned : (a b : Bool) → (a && b) ≡ (b && a)
turned true b = sym (and_true b)
turned false true = refl
turned false false = refl

pub all_reversed : (p : ℕ → Bool) (bs : List ℕ) → list_all p (reverse bs) ≡ list_all p bs
all_reversed p [] = refl
all_reversed p (b ∷ bs) =
    ap (list_all p) (reverse-append (b ∷ []) bs) ∙ list_all-append p (reverse bs) (b ∷ [])
    ∙ ap (λ (t : Bool). list_all p (reverse bs) && t) (and_true (p b)) ∙ turned (list_all p (reverse bs)) (p b) ∙ ap (λ (t : Bool). p b && t) (all_reversed p bs)

-- ---- byte by byte

pub span_more : (p : ℕ → Bool) (bs : List ℕ) (i b : ℕ) → i < length bs → get_or bs i b ≡ b → p b ≡ true
    → (in_front p (drop i bs) ≡ b ∷ in_front p (drop (i + 1) bs)) × (behind p (drop i bs) ≡ behind p (drop (i + 1) bs))
span_more p bs i b lt is passed =
    let next : drop i bs ≡ b ∷ drop (i + 1) bs = drop-cons bs i b lt ∙ ap (λ (x : ℕ). x ∷ drop (suc i) bs) is ∙ ap (λ (n : ℕ). b ∷ drop n bs) (sym (add-one i)) in (
      ap (in_front p) next ∙ ap (λ (t : Bool). if t then b ∷ in_front p (drop (i + 1) bs) else []) passed,
      ap (behind p) next ∙ ap (λ (t : Bool). if t then behind p (drop (i + 1) bs) else b ∷ drop (i + 1) bs) passed,
    )

pub span_ends : (p : ℕ → Bool) (bs : List ℕ) (i b : ℕ) → i < length bs → get_or bs i b ≡ b → p b ≡ false
    → (in_front p (drop i bs) ≡ []) × (behind p (drop i bs) ≡ drop i bs)
span_ends p bs i b lt is passed =
    let next : drop i bs ≡ b ∷ drop (i + 1) bs = drop-cons bs i b lt ∙ ap (λ (x : ℕ). x ∷ drop (suc i) bs) is ∙ ap (λ (n : ℕ). b ∷ drop n bs) (sym (add-one i)) in (
      ap (in_front p) next ∙ ap (λ (t : Bool). if t then b ∷ in_front p (drop (i + 1) bs) else []) passed,
      ap (behind p) next ∙ ap (λ (t : Bool). if t then behind p (drop (i + 1) bs) else b ∷ drop (i + 1) bs) passed ∙ sym next,
    )
