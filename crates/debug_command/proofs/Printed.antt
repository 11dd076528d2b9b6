-- Commands one after the other.
use Rattle.std.proofs.Common.{◌≡◌, ℕ, ◌+◌, ◌<◌, ◌≤◌, List, [], ◌∷◌, ◌++◌, length, get_or, drop, refl, sym, ap, subst, ◌∙◌, append_assoc, add-one, drop-cons}
use Rattle.std.proofs.lemmas.List.{append-nil, drop_all}
use Rattle.debugger.specs.Commands.{read_command}
use Rattle.debugger.specs.Session.{PrintsAll, chosen_behind}
use Rattle.debugger.specs.calls.Sitting.{Sitting}
use Rattle.debug_command.specs.calls.Steps.{Adds}

-- whatever is printed behind, all of it is this
abbrev pub Leads : (List ℕ → Type 0) → Sitting → List (List ℕ) → List ℕ → Type 0
Leads Total x commands out = (behind : List ℕ) → PrintsAll x.subject x.chosen commands behind → Total (out ++ behind)

-- one more command has printed its text
pub goes_on : (Total : List ℕ → Type 0) (x y : Sitting) (given : List ℕ) (commands more : List (List ℕ)) (out out' : List ℕ) → commands ≡ given ∷ more → Adds x out given y out' → Leads Total x commands out → Leads Total y more out'
goes_on Total x y given commands more out out' is adds so_far behind h =
    let text : List ℕ = adds.0 in
    let there : PrintsAll x.subject (chosen_behind x.subject x.chosen (read_command given)) more behind = subst (λ (z : Sitting). PrintsAll z.subject z.chosen more behind) adds.2 h in
    let all : PrintsAll x.subject x.chosen commands (text ++ behind) = subst (λ (cs : List (List ℕ)). PrintsAll x.subject x.chosen cs (text ++ behind)) (sym is) (text, behind, adds.1, there, refl) in
    subst Total (sym (append_assoc out text behind) ∙ ap (λ (z : List ℕ). z ++ behind) (sym adds.3)) (so_far (text ++ behind) all)

pub step : (Total : List ℕ → Type 0) (x y : Sitting) (given : List ℕ) (xs : List (List ℕ)) (k : ℕ) (other out out' : List ℕ) → k < length xs → given ≡ get_or xs k other → Adds x out given y out'
    → Leads Total x (drop k xs) out → Leads Total y (drop (k + 1) xs) out'
step Total x y given xs k other out out' lt is adds so_far =
    let rest : drop k xs ≡ given ∷ drop (k + 1) xs = rw (drop-cons xs k other, ← is, add-one) refl in
    goes_on Total x y given (drop k xs) (drop (k + 1) xs) out out' rest adds so_far

-- all commands have printed
pub is_done : (Total : List ℕ → Type 0) (x : Sitting) (xs : List (List ℕ)) (k : ℕ) (out : List ℕ) → length xs ≤ k → Leads Total x (drop k xs) out → Total out
is_done Total x xs k out le so_far =
    let none : drop k xs ≡ [] = drop_all k xs le in
    let here : PrintsAll x.subject x.chosen (drop k xs) [] = subst (λ (cs : List (List ℕ)). PrintsAll x.subject x.chosen cs []) (sym none) refl in
    subst Total (append-nil out) (so_far [] here)
