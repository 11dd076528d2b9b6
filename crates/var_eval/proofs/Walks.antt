-- Steps one behind another.
use Rattle.std.proofs.Common.{◌≡◌, ℕ, suc, ◌+◌, ◌<◌, ◌≤◌, List, length, drop, get_or, sym, ap, ◌∙◌, subst, add-one, drop-cons}
use Rattle.std.proofs.lemmas.List.{drop_all}
use Rattle.std.specs.Prelude.{Ok, Err}
use Rattle.dwarf_info.specs.declared.entry.UnitAnswer.{UnitAnswer}
use Rattle.var_path.specs.declared.path.Step.{Step}
use Rattle.var_values.specs.Bytes.{Recorded}
use Rattle.var_eval.specs.declared.dead_end.DeadEnd.{DeadEnd}
use Rattle.var_eval.specs.Steps.{Part, Reached, and_then, step, walk}
use Rattle.var_eval.specs.inner.Told.{Tells}
use Rattle.var_eval.proofs.Stops.{stopped}

walk_on : (units : List UnitAnswer) (memory : Recorded) (all : List Step) (i : ℕ) (s : Step) (part : Part) → i < length all → s ≡ get_or all i s
    → walk units memory (drop i all) part ≡ and_then (step units memory part s) (walk units memory (drop (i + 1) all))
unfolding walk
walk_on units memory all i s part lt is =
    ap (λ (ss : List Step). walk units memory ss part) (drop-cons all i s lt)
    ∙ ap (λ (x : Step). and_then (step units memory part x) (walk units memory (drop (suc i) all))) (sym is)
    ∙ ap (λ (n : ℕ). and_then (step units memory part s) (walk units memory (drop n all))) (sym (add-one i))

pub goes_on : (units : List UnitAnswer) (memory : Recorded) (all : List Step) (i : ℕ) (s : Step) (whole part next : Part) → walk units memory all whole ≡ walk units memory (drop i all) part
    → i < length all → s ≡ get_or all i s → step units memory part s ≡ Ok next → walk units memory all whole ≡ walk units memory (drop (i + 1) all) next
goes_on units memory all i s whole part next so_far lt is there =
    so_far ∙ walk_on units memory all i s part lt is ∙ ap (λ (r : Reached). and_then r (walk units memory (drop (i + 1) all))) there

pub stops : (units : List UnitAnswer) (memory : Recorded) (all : List Step) (i : ℕ) (s : Step) (whole part : Part) (e : DeadEnd) → walk units memory all whole ≡ walk units memory (drop i all) part
    → i < length all → s ≡ get_or all i s → Tells (Err e) (step units memory part s) → Tells (Err e) (walk units memory all whole)
stops units memory all i s whole part e so_far lt is told =
    subst (λ (r : Reached). Tells (Err e) r) (sym (so_far ∙ walk_on units memory all i s part lt is)) (stopped e (step units memory part s) (walk units memory (drop (i + 1) all)) told)

pub ends : (units : List UnitAnswer) (memory : Recorded) (all : List Step) (i : ℕ) (whole part : Part) → walk units memory all whole ≡ walk units memory (drop i all) part → length all ≤ i
    → walk units memory all whole ≡ Ok part
unfolding walk
ends units memory all i whole part so_far le = so_far ∙ ap (λ (ss : List Step). walk units memory ss part) (drop_all i all le)
