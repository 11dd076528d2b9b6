-- Laws of tables of steps.
use Rattle.std.proofs.Common.{◌≡◌, ℕ, zero, suc, ◌<◌, ◌≤◌, Bool, true, false, leb, ltb, List, [], ◌∷◌, ◌++◌, length, drop, get_or, Option, Some, None, refl, sym, ap, subst, ◌∙◌, arith}
use Rattle.std.specs.Prelude.{find, option_map, if◌then◌else◌}
use Rattle.std.specs.Option.{option_or}
use Rattle.std.proofs.lemmas.List.{append-nil, drop_all}
use Rattle.std.proofs.lemmas.List.Folds.{find-append}
use Rattle.dwarf_scopes.specs.declared.steps.Range.{Range}
use Rattle.dwarf_scopes.specs.declared.steps.Step.{Step}
use Rattle.dwarf_scopes.specs.calls.Steps.{is_in, first_in, answer, AtMost, Descend, AreSteps, merged_with, merged}
use Rattle.dwarf_scopes.proofs.OrderLaws.{Fall, IsPassed, passed_behind}
use Rattle.dwarf_info.proofs.FindLaws.{or_none}

-- ---- what two tables answer

-- where the first step of the left table is taken
left_by : (a : ℕ) (s t : Step) (left rest : Option ℕ) (more : Option ℕ) (reached next : Bool) → leb s.from a ≡ reached → leb t.from a ≡ next → t.from ≤ s.from
    → more ≡ option_or left (if next then t.index else rest)
    → (if reached then option_or s.index t.index else more) ≡ option_or (if reached then s.index else left) (if next then t.index else rest)
left_by a s t left rest more true true one two le h = refl
left_by a s t left rest more true false one two le h = absurd (grind (arith, one, two, le))
left_by a s t left rest more false next one two le h = h

-- where that of the right table is taken
right_by : (a : ℕ) (s t : Step) (left rest : Option ℕ) (more : Option ℕ) (reached next : Bool) → leb s.from a ≡ reached → leb t.from a ≡ next → s.from < t.from
    → more ≡ option_or (if reached then s.index else left) rest
    → (if next then option_or s.index t.index else more) ≡ option_or (if reached then s.index else left) (if next then t.index else rest)
right_by a s t left rest more true true one two lt h = refl
right_by a s t left rest more false true one two lt h = absurd (grind (arith, one, two, lt))
right_by a s t left rest more reached false one two lt h = h

answer_step : (a : ℕ) (s t : Step) (steps others : List Step) (rest : List Step → List Step) (first : Bool) → leb t.from s.from ≡ first
    → answer (rest (t ∷ others)) a ≡ option_or (answer steps a) (answer (t ∷ others) a)
    → answer (merged_with s steps rest others) a ≡ option_or (answer (s ∷ steps) a) (answer others a)
    → answer (merged_with s steps rest (t ∷ others)) a ≡ option_or (answer (s ∷ steps) a) (answer (t ∷ others) a)
answer_step a s t steps others rest true e left right =
    rw e (left_by a s t (answer steps a) (answer others a) (answer (rest (t ∷ others)) a) (leb s.from a) (leb t.from a) refl refl (grind (arith, e)) left)
answer_step a s t steps others rest false e left right =
    rw e (right_by a s t (answer steps a) (answer others a) (answer (merged_with s steps rest others) a) (leb s.from a) (leb t.from a) refl refl (grind (arith, e)) right)

answer_with : (a : ℕ) (s : Step) (steps : List Step) (rest : List Step → List Step) → ((others : List Step) → answer (rest others) a ≡ option_or (answer steps a) (answer others a))
    → (others : List Step) → answer (merged_with s steps rest others) a ≡ option_or (answer (s ∷ steps) a) (answer others a)
answer_with a s steps rest h [] = sym (or_none (answer (s ∷ steps) a))
answer_with a s steps rest h (t ∷ others) = answer_step a s t steps others rest (leb t.from s.from) refl (h (t ∷ others)) (answer_with a s steps rest h others)

-- The left one's answer counts.
pub answer_merged : (left right : List Step) (a : ℕ) → answer (merged left right) a ≡ option_or (answer left a) (answer right a)
answer_merged [] right a = refl
answer_merged (s ∷ left) right a = answer_with a s left (merged left) (λ others. answer_merged left others a) right

-- ---- their order

most_with : (most : ℕ) (s : Step) (steps : List Step) (rest : List Step → List Step) (others : List Step) → s.from ≤ most → AtMost most others → AtMost most (merged_with s steps rest others)
most_with most s steps rest [] own other = own
most_with most s steps rest (t ∷ others) own other = by (leb t.from s.from) refl where
  by : (first : Bool) → leb t.from s.from ≡ first → AtMost most (merged_with s steps rest (t ∷ others))
  by true e = rw e own
  by false e = rw e other

most_merged : (most : ℕ) (left right : List Step) → AtMost most left → AtMost most right → AtMost most (merged left right)
most_merged most [] right own other = other
most_merged most (s ∷ left) right own other = most_with most s left (merged left) right own other

descend_step : (s t : Step) (steps others : List Step) (first : Bool) → leb t.from s.from ≡ first → AtMost s.from steps → AtMost t.from others
    → Descend (merged steps (t ∷ others)) → Descend (merged_with s steps (merged steps) others) → Descend (merged_with s steps (merged steps) (t ∷ others))
descend_step s t steps others true e own other left right =
    let le : t.from ≤ s.from = grind (arith, e) in
    rw e (most_merged s.from steps (t ∷ others) own le, left)
descend_step s t steps others false e own other left right =
    let le : s.from ≤ t.from = grind (arith, e) in
    rw e (most_with t.from s steps (merged steps) others le other, right)

descend_with : (s : Step) (steps : List Step) → Descend (s ∷ steps) → ((others : List Step) → Descend others → Descend (merged steps others))
    → (others : List Step) → Descend others → Descend (merged_with s steps (merged steps) others)
descend_with s steps d h [] e = d
descend_with s steps d h (t ∷ others) e = descend_step s t steps others (leb t.from s.from) refl d.0 e.0 (h (t ∷ others) e) (descend_with s steps d h others e.1)

pub descend_merged : (left right : List Step) → Descend left → Descend right → Descend (merged left right)
descend_merged [] right d e = e
descend_merged (s ∷ left) right d e = descend_with s left d (λ others f. descend_merged left others d.1 f) right e

-- ---- ranges in two parts

first_by : (o p : Option Range) → option_map (λ (r : Range). r.index) (option_or o p) ≡ option_or (option_map (λ (r : Range). r.index) o) (option_map (λ (r : Range). r.index) p)
first_by None p = refl
first_by (Some r) p = refl

pub first_in_append : (front back : List Range) (a : ℕ) → first_in (front ++ back) a ≡ option_or (first_in front a) (first_in back a)
first_in_append front back a = ap (option_map (λ (r : Range). r.index)) (find-append (is_in a) front back) ∙ first_by (find (is_in a) front) (find (is_in a) back)

pub are_merged : (front back : List Range) (left right : List Step) → AreSteps front left → AreSteps back right → AreSteps (front ++ back) (merged left right)
are_merged front back left right one two = (
  descend_merged left right one.0 two.0,
  λ a small.
      answer_merged left right a ∙ ap (λ (o : Option ℕ). option_or o (answer right a)) (one.1 a small) ∙ ap (option_or (first_in front a)) (two.1 a small) ∙ sym (first_in_append front back a),
)

pub are_in_parts : (ranges front back : List Range) (left right steps : List Step) → ranges ≡ front ++ back → AreSteps front left → AreSteps back right → steps ≡ merged left right → AreSteps ranges steps
are_in_parts ranges front back left right steps parts one two is =
    subst (λ (rs : List Range). AreSteps rs steps) (sym parts) (subst (AreSteps (front ++ back)) (sym is) (are_merged front back left right one two))

-- ---- the end of a merge

merged_none : (left : List Step) → merged left [] ≡ left
merged_none [] = refl
merged_none (s ∷ left) = refl

pub left_done : (left right : List Step) (i j : ℕ) → length left ≤ i → merged (drop i left) (drop j right) ≡ drop i left ++ drop j right
left_done left right i j le = rw (drop_all i left le) refl

pub right_done : (left right : List Step) (i j : ℕ) → length right ≤ j → merged (drop i left) (drop j right) ≡ drop i left ++ drop j right
right_done left right i j le = rw (drop_all j right le) (merged_none (drop i left) ∙ sym (append-nil (drop i left)))

-- ---- the step that counts for an address

pub none_passed : (a : ℕ) (steps : List Step) (i : ℕ) → length steps ≤ i → IsPassed (λ (s : Step). s.from) a steps i → answer steps a ≡ None
none_passed a [] i le p = refl
none_passed a (s ∷ steps) zero le p = absurd (omega (arith, le))
none_passed a (s ∷ steps) (suc i) le p =
    let past : ltb a s.from ≡ true = p.0 0 s (omega arith) (omega arith) in
    let ahead : leb s.from a ≡ false = grind (arith, past) in
    rw ahead (none_passed a steps i (omega (arith, le)) (passed_behind (λ (s : Step). s.from) a s steps i p))

pub at_passed : (a : ℕ) (steps : List Step) (i : ℕ) (d : Step) → i < length steps → IsPassed (λ (s : Step). s.from) a steps i → (get_or steps i d).index ≡ answer steps a
at_passed a [] i d lt p = absurd (omega (arith, lt))
at_passed a (s ∷ steps) zero d lt p =
    let past : ltb a s.from ≡ false = p.1 0 s (omega arith) (omega arith) in
    let reached : leb s.from a ≡ true = grind (arith, past) in
    rw reached refl
at_passed a (s ∷ steps) (suc i) d lt p =
    let past : ltb a s.from ≡ true = p.0 0 s (omega arith) (omega arith) in
    let ahead : leb s.from a ≡ false = grind (arith, past) in
    rw ahead (at_passed a steps i d (omega (arith, lt)) (passed_behind (λ (s : Step). s.from) a s steps i p))

pub falling : (steps : List Step) → Descend steps → Fall (λ (s : Step). s.from) steps
falling [] e = tt
falling (s ∷ []) e = (tt, tt)
falling (s ∷ t ∷ steps) e = (e.0, falling (t ∷ steps) e.1)
