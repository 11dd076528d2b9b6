-- How the steps behind a name are read, one at a time.
use Rattle.std.proofs.Common.{◌≡◌, ℕ, zero, suc, ◌+◌, ◌≤◌, Bool, true, false, List, [], ◌∷◌, ◌++◌, length, Option, Some, None, refl, sym, ap, ◌∙◌, subst, append_assoc, length-append, arith}
use Rattle.std.specs.Prelude.{◌==◌, ◌&&◌, not, option_map, if◌then◌else◌}
use Rattle.std.specs.List.{list_all}
use Rattle.std.proofs.lemmas.Bool.{eqb-true}
use Rattle.var_path.specs.declared.path.Step.{Step}
use Rattle.var_path.specs.declared.path.Step.TheVariants.{Member, Arrow, Index, Deref}
use Rattle.var_path.specs.declared.path.StepRead.{StepRead}
use Rattle.var_path.specs.Words.{is_letter, is_name_byte, is_bracketed, is_name, index_value, in_front, behind}
use Rattle.var_path.specs.Reading.{step_read, begins_name, named_step, arrow_step, index_of, index_step, one_step, derefs, behind_stars, if_none_open, if_one_open, step_and, steps_within, steps_behind}
use Rattle.var_path.proofs.Spans.{parts, passes, stops, Stops}

-- what spells a step
abbrev pub IsStep : Step → List ℕ → Type 0
IsStep (Member name) word = (is_name name ≡ true) × (word ≡ 46 ∷ name)
IsStep (Arrow name) word = (is_name name ≡ true) × (word ≡ 45 ∷ 62 ∷ name)
IsStep (Index n) word = (digits : List ℕ) × (index_value digits ≡ Some n) × (word ≡ 91 ∷ (digits ++ 93 ∷ []))
IsStep Deref word = ⊥

-- ---- what is read is spelled

pub name_byte : (b : ℕ) → is_letter b ≡ true → is_name_byte b ≡ true
name_byte b is = rw is refl

pub name_in_front : (text : List ℕ) → begins_name text ≡ true → is_name (in_front is_name_byte text) ≡ true
name_in_front [] e = absurd cc
name_in_front (b ∷ bs) e =
    ap is_name (ap (λ (t : Bool). if t then b ∷ in_front is_name_byte bs else []) (name_byte b e))
    ∙ ap (λ (t : Bool). t && list_all is_name_byte (in_front is_name_byte bs)) e ∙ passes is_name_byte bs

abbrev pub Spelled : ℕ → List ℕ → StepRead → Type 0
Spelled b text r = (word : List ℕ) × IsStep r.step word × (b ∷ text ≡ word ++ r.behind)

pub some_is : {A : Type 0} (x y : A) → Some x ≡ Some y → x ≡ y
some_is x y e = cc

member_by : (text : List ℕ) (r : StepRead) (t : Bool) → begins_name text ≡ t → (if t then Some (step_read (Member (in_front is_name_byte text)) (behind is_name_byte text)) else None) ≡ Some r → Spelled 46 text r
member_by text r true is e =
    subst (Spelled 46 text) (some_is (step_read (Member (in_front is_name_byte text)) (behind is_name_byte text)) r e)
    (46 ∷ in_front is_name_byte text, (name_in_front text is, refl), ap (λ (xs : List ℕ). 46 ∷ xs) (sym (parts is_name_byte text)))
member_by text r false is e = absurd cc

arrow_by : (text : List ℕ) (r : StepRead) (t : Bool) → begins_name text ≡ t → (if t then Some (step_read (Arrow (in_front is_name_byte text)) (behind is_name_byte text)) else None) ≡ Some r → Spelled 45 (62 ∷ text) r
arrow_by text r true is e =
    subst (Spelled 45 (62 ∷ text)) (some_is (step_read (Arrow (in_front is_name_byte text)) (behind is_name_byte text)) r e)
    (45 ∷ 62 ∷ in_front is_name_byte text, (name_in_front text is, refl), ap (λ (xs : List ℕ). 45 ∷ 62 ∷ xs) (sym (parts is_name_byte text)))
arrow_by text r false is e = absurd cc

arrow_spelled : (text : List ℕ) (r : StepRead) → arrow_step text ≡ Some r → Spelled 45 text r
arrow_spelled [] r e = absurd cc
arrow_spelled (b ∷ text) r e = by_test b text r (b == 62) refl e
  where
    by_test : (b : ℕ) (text : List ℕ) (r : StepRead) (t : Bool) → (b == 62) ≡ t → (if t then named_step Arrow text else None) ≡ Some r → Spelled 45 (b ∷ text) r
    by_test b text r true is e = let same : b ≡ 62 = eqb-true b 62 is in rw same (arrow_by text r (begins_name text) refl e)
    by_test b text r false is e = absurd cc

closing : (b : ℕ) → is_bracketed b ≡ false → b ≡ 93
closing b is = eqb-true b 93 (by_test (b == 93) is)
  where
    by_test : (t : Bool) → not t ≡ false → t ≡ true
    by_test true e = refl
    by_test false e = absurd cc

index_by : (text digits rest : List ℕ) (r : StepRead) → digits ++ rest ≡ text → Stops is_bracketed rest → index_of digits rest ≡ Some r → Spelled 91 text r
index_by text digits [] r are h e = absurd cc
index_by text digits (b ∷ rest) r are h e = by_value text digits b rest r are (closing b h) (index_value digits) refl e
  where
    by_value : (text digits : List ℕ) (b : ℕ) (rest : List ℕ) (r : StepRead) → digits ++ (b ∷ rest) ≡ text → b ≡ 93 → (o : Option ℕ) → index_value digits ≡ o → option_map (λ n. step_read (Index n) rest) o ≡ Some r → Spelled 91 text r
    by_value text digits b rest r are same None is e = absurd cc
    by_value text digits b rest r are same (Some n) is e =
        subst (Spelled 91 text) (some_is (step_read (Index n) rest) r e) (
          91 ∷ (digits ++ 93 ∷ []),
          (digits, is, refl),
          ap (λ (xs : List ℕ). 91 ∷ xs) (sym are ∙ ap (λ (x : ℕ). digits ++ (x ∷ rest)) same ∙ sym (append_assoc digits (93 ∷ []) rest)),
        )

pub step_spelled : (b : ℕ) (text : List ℕ) (r : StepRead) → one_step b text ≡ Some r → Spelled b text r
unfolding one_step
step_spelled b text r e = by_dot b text r (b == 46) refl e
  where
    by_bracket : (b : ℕ) (text : List ℕ) (r : StepRead) (t : Bool) → (b == 91) ≡ t → (if t then index_step text else None) ≡ Some r → Spelled b text r
    by_bracket b text r true is e =
        let same : b ≡ 91 = eqb-true b 91 is in
        rw same (index_by text (in_front is_bracketed text) (behind is_bracketed text) r (parts is_bracketed text) (stops is_bracketed text) e)
    by_bracket b text r false is e = absurd cc

    by_dash : (b : ℕ) (text : List ℕ) (r : StepRead) (t : Bool) → (b == 45) ≡ t → (if t then arrow_step text else (if b == 91 then index_step text else None)) ≡ Some r → Spelled b text r
    by_dash b text r true is e = let same : b ≡ 45 = eqb-true b 45 is in rw same (arrow_spelled text r e)
    by_dash b text r false is e = by_bracket b text r (b == 91) refl e

    by_dot : (b : ℕ) (text : List ℕ) (r : StepRead) (t : Bool) → (b == 46) ≡ t
        → (if t then named_step Member text else (if b == 45 then arrow_step text else (if b == 91 then index_step text else None))) ≡ Some r → Spelled b text r
    by_dot b text r true is e = let same : b ≡ 46 = eqb-true b 46 is in rw same (member_by text r (begins_name text) refl e)
    by_dot b text r false is e = by_dash b text r (b == 45) refl e

word_takes : (s : Step) (word : List ℕ) → IsStep s word → 1 ≤ length word
word_takes (Member name) word h = rw h.1 (omega arith)
word_takes (Arrow name) word h = rw h.1 (omega arith)
word_takes (Index n) word h = rw h.2 (omega arith)
word_takes Deref word h = absurd h

pub shorter : (b : ℕ) (text : List ℕ) (r : StepRead) → one_step b text ≡ Some r → length r.behind ≤ length text
shorter b text r e =
    let s = step_spelled b text r e in
    let takes : 1 ≤ length s.0 = word_takes r.step s.0 s.1 in
    let all : suc (length text) ≡ length s.0 + length r.behind = ap length s.2 ∙ length-append s.0 r.behind in
    omega arith

-- ---- more bytes change nothing

one_open_same : (steps : List Step) (g h : List ℕ → Option (List Step)) → ((f : List ℕ) → g f ≡ h f) → (front : List ℕ) → if_one_open steps g front ≡ if_one_open steps h front
one_open_same steps g h same [] = refl
one_open_same steps g h same (b ∷ front) = ap (option_map (λ ss. steps ++ ss)) (same front)

step_and_same : (g h : List ℕ → Option (List Step)) (o : Option StepRead) → ((r : StepRead) → o ≡ Some r → g r.behind ≡ h r.behind) → step_and g o ≡ step_and h o
step_and_same g h None same = refl
step_and_same g h (Some r) same = ap (option_map (λ ss. r.step ∷ ss)) (same r refl)

either_same : (t : Bool) (a b c d : Option (List Step)) → a ≡ c → b ≡ d → (if t then a else b) ≡ (if t then c else d)
either_same true a b c d e f = e
either_same false a b c d e f = f

pub within_enough : (n m : ℕ) (front text : List ℕ) → length text ≤ n → length text ≤ m → steps_within n front text ≡ steps_within m front text
unfolding steps_within
within_enough zero zero front [] h k = refl
within_enough zero (suc m) front [] h k = refl
within_enough (suc n) zero front [] h k = refl
within_enough (suc n) (suc m) front [] h k = refl
within_enough zero m front (b ∷ text) h k = absurd (omega arith)
within_enough (suc n) zero front (b ∷ text) h k = absurd (omega arith)
within_enough (suc n) (suc m) front (b ∷ text) h k =
    let least : length text ≤ n = omega arith in
    let most : length text ≤ m = omega arith in
    either_same (b == 41) _ _ _ _
    (one_open_same (derefs front) (λ f. steps_within n f text) (λ f. steps_within m f text) (λ f. within_enough n m f text least most) (behind_stars front))
    (step_and_same (steps_within n front) (steps_within m front) (one_step b text)
    (λ r is. let less : length r.behind ≤ length text = shorter b text r is in within_enough n m front r.behind (omega arith) (omega arith)))

pub read_end : (front : List ℕ) → steps_behind front [] ≡ if_none_open (derefs front) (behind_stars front)
unfolding steps_behind steps_within
read_end front = refl

pub read_one : (front : List ℕ) (b : ℕ) (text : List ℕ)
    → steps_behind front (b ∷ text) ≡ (if b == 41 then if_one_open (derefs front) (λ f. steps_behind f text) (behind_stars front) else step_and (steps_behind front) (one_step b text))
unfolding steps_behind steps_within
read_one front b text =
    either_same (b == 41) _ _ _ _ refl
    (step_and_same (steps_within (length text) front) (λ rest. steps_within (length rest) front rest) (one_step b text)
    (λ r is. let less : length r.behind ≤ length text = shorter b text r is in within_enough (length text) (length r.behind) front r.behind less (omega arith)))
