-- One turn of the loop over the steps behind a name, over what it has come to.
use Rattle.std.proofs.Common.{◌≡◌, ℕ, ◌<◌, Bool, false, List, [], ◌∷◌, ◌++◌, length, Option, Some, None, refl, sym, ap, ◌∙◌, append_assoc, arith}
use Rattle.std.specs.Prelude.{◌==◌, option_map, if◌then◌else◌}
use Rattle.std.proofs.lemmas.Bool.Decides.{nat_tests}
use Rattle.var_path.specs.declared.path.Step.{Step}
use Rattle.var_path.specs.declared.path.StepRead.{StepRead}
use Rattle.var_path.specs.Reading.{one_step, derefs, behind_stars, if_none_open, if_one_open, step_and, steps_behind}
use Rattle.var_path.proofs.StepLaws.{read_end, read_one, shorter}

-- what all steps are, where these are read and that is left
abbrev pub Reached : Option (List Step) → List Step → List ℕ → List ℕ → Type 0
Reached all steps front left = all ≡ option_map (λ ss. steps ++ ss) (steps_behind front left)

two_maps : (xs ys : List Step) (o : Option (List Step)) → option_map (λ ss. xs ++ ss) (option_map (λ ss. ys ++ ss) o) ≡ option_map (λ ss. (xs ++ ys) ++ ss) o
two_maps xs ys None = refl
two_maps xs ys (Some ss) = ap (λ (x : List Step). Some x) (sym (append_assoc xs ys ss))

cons_map : (xs : List Step) (s : Step) (o : Option (List Step)) → option_map (λ ss. xs ++ ss) (option_map (λ ss. s ∷ ss) o) ≡ option_map (λ ss. (xs ++ s ∷ []) ++ ss) o
cons_map xs s None = refl
cons_map xs s (Some ss) = ap (λ (x : List Step). Some x) (sym (append_assoc xs (s ∷ []) ss))

at_close : (front : List ℕ) (b : ℕ) (behind : List ℕ) → b ≡ 41 → steps_behind front (b ∷ behind) ≡ if_one_open (derefs front) (λ f. steps_behind f behind) (behind_stars front)
at_close front b behind is = ap (λ (x : ℕ). steps_behind front (x ∷ behind)) is ∙ read_one front 41 behind

at_step : (front : List ℕ) (b : ℕ) (behind : List ℕ) → (b ≡ 41 → ⊥) → steps_behind front (b ∷ behind) ≡ step_and (steps_behind front) (one_step b behind)
at_step front b behind other =
    let test : (b == 41) ≡ false = grind (arith, nat_tests) in
    read_one front b behind ∙ ap (λ (t : Bool). if t then if_one_open (derefs front) (λ f. steps_behind f behind) (behind_stars front) else step_and (steps_behind front) (one_step b behind)) test

pub closes_none : (all : Option (List Step)) (steps : List Step) (front left : List ℕ) (b : ℕ) (behind : List ℕ) → Reached all steps front left → left ≡ b ∷ behind → b ≡ 41
    → behind_stars front ≡ [] → None ≡ all
closes_none all steps front left b behind so_far is close none =
    sym (so_far ∙ ap (λ (x : List ℕ). option_map (λ ss. steps ++ ss) (steps_behind front x)) is
    ∙ ap (option_map (λ ss. steps ++ ss)) (at_close front b behind close ∙ ap (if_one_open (derefs front) (λ f. steps_behind f behind)) none))

pub closes_one : (all : Option (List Step)) (steps more : List Step) (front left : List ℕ) (b x : ℕ) (behind outer : List ℕ) → Reached all steps front left → left ≡ b ∷ behind → b ≡ 41
    → behind_stars front ≡ x ∷ outer → more ≡ steps ++ derefs front → Reached all more outer behind
closes_one all steps more front left b x behind outer so_far is close one pushed =
    so_far ∙ ap (λ (y : List ℕ). option_map (λ ss. steps ++ ss) (steps_behind front y)) is
    ∙ ap (option_map (λ ss. steps ++ ss)) (at_close front b behind close ∙ ap (if_one_open (derefs front) (λ f. steps_behind f behind)) one)
    ∙ two_maps steps (derefs front) (steps_behind outer behind)
    ∙ ap (λ (y : List Step). option_map (λ ss. y ++ ss) (steps_behind outer behind)) (sym pushed)

pub steps_none : (all : Option (List Step)) (steps : List Step) (front left : List ℕ) (b : ℕ) (behind : List ℕ) → Reached all steps front left → left ≡ b ∷ behind → (b ≡ 41 → ⊥)
    → one_step b behind ≡ None → None ≡ all
steps_none all steps front left b behind so_far is other none =
    sym (so_far ∙ ap (λ (x : List ℕ). option_map (λ ss. steps ++ ss) (steps_behind front x)) is
    ∙ ap (option_map (λ ss. steps ++ ss)) (at_step front b behind other ∙ ap (step_and (steps_behind front)) none))

pub steps_one : (all : Option (List Step)) (steps more : List Step) (front left : List ℕ) (b : ℕ) (behind : List ℕ) (r : StepRead) → Reached all steps front left → left ≡ b ∷ behind → (b ≡ 41 → ⊥)
    → one_step b behind ≡ Some r → more ≡ steps ++ r.step ∷ [] → Reached all more front r.behind
steps_one all steps more front left b behind r so_far is other one pushed =
    so_far ∙ ap (λ (x : List ℕ). option_map (λ ss. steps ++ ss) (steps_behind front x)) is
    ∙ ap (option_map (λ ss. steps ++ ss)) (at_step front b behind other ∙ ap (step_and (steps_behind front)) one)
    ∙ cons_map steps r.step (steps_behind front r.behind)
    ∙ ap (λ (y : List Step). option_map (λ ss. y ++ ss) (steps_behind front r.behind)) (sym pushed)

pub ends_some : (all : Option (List Step)) (steps more : List Step) (front left : List ℕ) → Reached all steps front left → left ≡ [] → behind_stars front ≡ []
    → more ≡ steps ++ derefs front → Some more ≡ all
ends_some all steps more front left so_far is none pushed =
    ap (λ (x : List Step). Some x) pushed
    ∙ sym (so_far ∙ ap (λ (x : List ℕ). option_map (λ ss. steps ++ ss) (steps_behind front x)) is
    ∙ ap (option_map (λ ss. steps ++ ss)) (read_end front ∙ ap (if_none_open (derefs front)) none))

some_open : (steps : List Step) (front : List ℕ) → (length front ≡ 0 → ⊥) → if_none_open steps front ≡ None
some_open steps [] h = absurd (h refl)
some_open steps (b ∷ front) h = refl

pub ends_none : (all : Option (List Step)) (steps : List Step) (front left : List ℕ) → Reached all steps front left → left ≡ [] → (length (behind_stars front) ≡ 0 → ⊥) → None ≡ all
ends_none all steps front left so_far is some =
    sym (so_far ∙ ap (λ (x : List ℕ). option_map (λ ss. steps ++ ss) (steps_behind front x)) is
    ∙ ap (option_map (λ ss. steps ++ ss)) (read_end front ∙ some_open (derefs front) (behind_stars front) some))

pub step_shorter : (left : List ℕ) (b : ℕ) (behind : List ℕ) (r : StepRead) → left ≡ b ∷ behind → one_step b behind ≡ Some r → length r.behind < length left
step_shorter left b behind r is one = omega (arith, ap length is, shorter b behind r one)
