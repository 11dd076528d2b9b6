-- Where a run ends.
use Rattle.std.proofs.Common.{◌≡◌, ◌≢◌, ◌⊎◌, ℕ, ◌<◌, ◌≤◌, inl, inr, refl, sym, ap, ◌∙◌, arith}
use Rattle.std.specs.Prelude.{Option, Some, option_map}
use Rattle.std.proofs.lemmas.Bool.{cases_order}
use Rattle.wasm_syntax.specs.Module.{Program}
use Rattle.wasm_syntax.specs.Run.{running, Ran}
use Rattle.machine_hosted.specs.declared.answer.RunEnd.{RunEnd}
use Rattle.machine_hosted.specs.declared.answer.RunEnd.TheVariants.{FuelSpent}
use Rattle.wasm_machine.specs.calls.Instances.{State}
use Rattle.replay.specs.Replays.{Recording, IsOf, IsEnd, ran_within, outcome_at}
use Rattle.replay.specs.inner.Reached.{Reached, Waits}
use Rattle.replay.specs.inner.Tracks.{Ends}
use Rattle.replay.proofs.Answers.{running_spent, spent_running}
use Rattle.replay.proofs.Advances.{program}
use Rattle.replay.proofs.Runs.{Known, known, ran_there, outcome_is}
use Rattle.replay.proofs.Going.{runs_before, runs_up_to, same_within}
use Rattle.pm_text.proofs.Lists.{some_is}

-- the outcome behind fewer steps
outcome_of : (p : Program) (x : Recording) (j : ℕ) (a : Ran) → ran_within p x j ≡ Some a → a.outcome ≡ running → outcome_at p x j ≡ Some running
outcome_of p x j a is e = ap (λ (o : Option Ran). option_map (λ r. r.outcome) o) is ∙ ap Some e

-- all steps that may be made are made, and it goes on
pub spent : (x : Recording) (next : ℕ) (s : State) → Waits x x.fuel next s → Ends x x.fuel FuelSpent
spent x next s r = record {
  last = λ p is. record {
    within = omega arith;
    going = λ j lt.
        let a = ran_there x x.fuel next FuelSpent s r p is j in
        let le : j ≤ x.fuel = omega (arith, lt) in
        outcome_of p x j a.0 a.1 (runs_before p x j x.fuel a.0 le a.1 (on p is));
    ended = λ lt. absurd (omega (arith, lt));
  };
  outcome = λ p is. (running, on p is, refl);
}
  where
    on : (p : Program) → IsOf x p → outcome_at p x x.fuel ≡ Some running
    on p is = let k = known x x.fuel next FuelSpent s r p is in outcome_is p x x.fuel s.steps FuelSpent s k ∙ ap Some (spent_running k.ran.outcome k.outcome)

-- it ended with as many steps as it made
pub ended : (x : Recording) (n next : ℕ) (answer : RunEnd) (s : State) → Reached x n next answer s → answer ≢ FuelSpent → n ≤ x.fuel → Ends x s.steps answer
ended x n next answer s r not_spent few = record {
  last = λ p is. record {
    within = let m = r.made in omega (arith, m, few);
    going = λ j lt.
        let a = ran_there x n next answer s r p is j in
        outcome_of p x j a.0 a.1 (runs_up_to p x j n s.steps answer s a.0 (k p is) lt a.1);
    ended = λ lt on. not_spent (running_spent answer (k p is).ran.outcome (k p is).outcome (some_is (sym (at p is) ∙ on)));
  };
  outcome = λ p is. ((k p is).ran.outcome, at p is, (k p is).outcome);
}
  where
    k : (p : Program) → IsOf x p → Known p x n s.steps answer s
    k p is = known x n next answer s r p is

    at : (p : Program) (is : IsOf x p) → outcome_at p x s.steps ≡ Some (k p is).ran.outcome
    at p is = same_within p x n s.steps answer s (k p is)

-- it made the steps behind which it was going on
pub made_more : (x : Recording) (here n next next' : ℕ) (answer : RunEnd) (s s' : State) → Waits x here next s → Reached x n next' answer s' → answer ≢ FuelSpent → here ≤ s'.steps
made_more x here n next next' answer s s' w r not_spent = by_order (cases_order s'.steps here)
  where
    p : Program
    p = program x r.whole

    is : IsOf x p
    is = record { of_module = refl; writes_out = r.whole.write }

    on : outcome_at p x here ≡ Some running
    on = let k = known x here next FuelSpent s w p is in outcome_is p x here s.steps FuelSpent s k ∙ ap Some (spent_running k.ran.outcome k.outcome)

    by_order : (s'.steps ≡ here) ⊎ ((s'.steps < here) ⊎ (here < s'.steps)) → here ≤ s'.steps
    by_order (inl same) = omega (arith, same)
    by_order (inr (inl lt)) =
        let k = known x n next' answer s' r p is in
        let a = ran_there x n next' answer s' r p is s'.steps in
        let le : s'.steps ≤ here = omega (arith, lt) in
        let e : a.0.outcome ≡ running = runs_before p x s'.steps here a.0 le a.1 on in
        let same : k.ran.outcome ≡ running = some_is (sym (same_within p x n s'.steps answer s' k) ∙ outcome_of p x s'.steps a.0 a.1 e) in
        absurd (not_spent (running_spent answer k.ran.outcome k.outcome same))
    by_order (inr (inr lt)) = omega (arith, lt)

-- the answer behind a step before the end
pub waits : (x : Recording) (n next end : ℕ) (answer : RunEnd) (s : State) → Reached x n next answer s → ((p : Program) → IsOf x p → IsEnd p x end) → n < end → answer ≡ FuelSpent
waits x n next end answer s r ends lt =
    let p = program x r.whole in
    let is : IsOf x p = record { of_module = refl; writes_out = r.whole.write } in
    let k = known x n next answer s r p is in
    running_spent answer k.ran.outcome k.outcome (some_is (sym (outcome_is p x n s.steps answer s k) ∙ (ends p is).going n lt))
