-- Reading paths: stars and opening parentheses, a name, then steps and closing parentheses.
use Rattle.std.specs.Prelude.{ℕ, zero, suc, ◌==◌, Bool, false, List, [], ◌∷◌, ◌++◌, map, reverse, length, Option, Some, None, option_map, if◌then◌else◌}
use Rattle.var_path.specs.declared.path.Step.{Step}
use Rattle.var_path.specs.declared.path.Step.TheVariants.{Member, Arrow, Index, Deref}
use Rattle.var_path.specs.declared.path.StepRead.{StepRead}
use Rattle.var_path.specs.declared.path.Path.{Path}
use Rattle.var_path.specs.Words.{is_letter, is_name_byte, is_star, is_front, is_bracketed, index_value, in_front}
use Rattle.var_path.specs.Words as words
use Rattle.var_path.specs.Language.{path}

-- ---- one step

abbrev pub step_read : Step → List ℕ → StepRead
step_read step behind = record { step = step; behind = behind }

abbrev pub begins_name : List ℕ → Bool
begins_name [] = false
begins_name (b ∷ bs) = is_letter b

abbrev pub named_step : (List ℕ → Step) → List ℕ → Option StepRead
named_step step text =
    if begins_name text then Some (step_read (step (in_front is_name_byte text)) (words.behind is_name_byte text)) else None

-- behind `.`
abbrev pub member_step : List ℕ → Option StepRead
member_step text = named_step Member text

-- behind `-`
abbrev pub arrow_step : List ℕ → Option StepRead
arrow_step [] = None
arrow_step (b ∷ text) = if b == 62 then named_step Arrow text else None

-- digits, and what stands behind them from `]` on
abbrev pub index_of : List ℕ → List ℕ → Option StepRead
index_of digits [] = None
index_of digits (b ∷ text) = option_map (λ n. step_read (Index n) text) (index_value digits)

abbrev pub index_step : List ℕ → Option StepRead
index_step text = index_of (in_front is_bracketed text) (words.behind is_bracketed text)

unfoldable pub one_step : ℕ → List ℕ → Option StepRead
one_step b text =
    if b == 46 then member_step text
    else (if b == 45 then arrow_step text
    else (if b == 91 then index_step text
    else None))

-- ---- all steps. What is open are the stars and parentheses in front, the innermost first.

-- the steps of the innermost stars
abbrev pub derefs : List ℕ → List Step
derefs front = map (λ b. Deref) (in_front is_star front)

abbrev pub behind_stars : List ℕ → List ℕ
behind_stars front = words.behind is_star front

-- at the end nothing else is open
abbrev pub if_none_open : List Step → List ℕ → Option (List Step)
if_none_open steps [] = Some steps
if_none_open steps (b ∷ front) = None

-- a closing parenthesis: one is open
abbrev pub if_one_open : List Step → (List ℕ → Option (List Step)) → List ℕ → Option (List Step)
if_one_open steps further [] = None
if_one_open steps further (b ∷ front) = option_map (λ ss. steps ++ ss) (further front)

abbrev pub step_and : (List ℕ → Option (List Step)) → Option StepRead → Option (List Step)
step_and further None = None
step_and further (Some r) = option_map (λ ss. r.step ∷ ss) (further r.behind)

-- at most n bytes are read
unfoldable pub steps_within : ℕ → List ℕ → List ℕ → Option (List Step)
steps_within n front [] = if_none_open (derefs front) (behind_stars front)
steps_within zero front (b ∷ text) = None
steps_within (suc n) front (b ∷ text) =
    if b == 41 then if_one_open (derefs front) (λ f. steps_within n f text) (behind_stars front)
    else step_and (steps_within n front) (one_step b text)

unfoldable pub steps_behind : List ℕ → List ℕ → Option (List Step)
steps_behind front text = steps_within (length text) front text

-- behind the front, what is open of it reversed
abbrev pub path_behind : List ℕ → List ℕ → Option Path
path_behind front text =
    if begins_name text
    then option_map (path (in_front is_name_byte text)) (steps_behind front (words.behind is_name_byte text))
    else None

unfoldable pub read_path : List ℕ → Option Path
read_path text = path_behind (reverse (in_front is_front text)) (words.behind is_front text)
