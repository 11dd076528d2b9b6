-- How far a run goes on.
use Rattle.std.proofs.Common.{◌≡◌, ◌≢◌, ◌⊎◌, ℕ, ◌+◌, ◌-◌, ◌<◌, ◌≤◌, List, [], ◌∷◌, slice_get, inl, inr, refl, sym, ap, ◌∙◌, arith}
use Rattle.std.specs.Prelude.{false, Option, Some, option_map, map}
use Rattle.wasm_syntax.specs.Module.{Program}
use Rattle.wasm_syntax.specs.Run.{Outcome, not_started, finished, trapped, lacks_reply, misfits, running, got_stuck, Ran, run}
use Rattle.wasm_laws.specs.calls.Runs.{with_more}
use Rattle.wasm_laws.proofs.Longer.{longer_run}
use Rattle.machine_hosted.proofs.Fewer.{last_of, less_left, fewer_in_run}
use Rattle.machine_hosted.specs.declared.answer.RunEnd.{RunEnd}
use Rattle.wasm_machine.specs.calls.Instances.{State}
use Rattle.replay.specs.Replays.{Recording, invocation_of, ran_within, outcome_at}
use Rattle.replay.proofs.Runs.{Known, ran_is}
use Rattle.pm_text.proofs.Lists.{some_is}

is_running : (o : Outcome) → (o ≡ running) ⊎ (o ≢ running)
is_running running = inl refl
is_running (not_started cause) = inr (λ e. cc)
is_running (finished value) = inr (λ e. cc)
is_running (trapped kind) = inr (λ e. cc)
is_running (lacks_reply call) = inr (λ e. cc)
is_running (misfits call reply) = inr (λ e. cc)
is_running got_stuck = inr (λ e. cc)

-- what it came to, it comes to with more steps
later : (p : Program) (x : Recording) (j n : ℕ) (a : Ran) → j ≤ n → ran_within p x j ≡ Some a → a.outcome ≢ running → ran_within p x n ≡ Some (with_more (n - j) a)
later p x j n a le is h = longer_run p false (invocation_of x ∷ []) x.replies x.depth j n le 0 a is h

-- where it is still going on with more steps, it is with fewer
pub runs_before : (p : Program) (x : Recording) (j n : ℕ) (a : Ran) → j ≤ n → ran_within p x j ≡ Some a → outcome_at p x n ≡ Some running → a.outcome ≡ running
runs_before p x j n a le is on = by_test (is_running a.outcome)
  where
    by_test : (a.outcome ≡ running) ⊎ (a.outcome ≢ running) → a.outcome ≡ running
    by_test (inl e) = e
    by_test (inr h) = some_is (sym (ap (λ (o : Option Ran). option_map (λ r. r.outcome) o) (later p x j n a le is h)) ∙ on)

-- where it made more steps than these, it goes on behind them
pub runs_up_to : (p : Program) (x : Recording) (j n steps : ℕ) (answer : RunEnd) (s : State) (a : Ran) → Known p x n steps answer s → j < steps → ran_within p x j ≡ Some a → a.outcome ≡ running
runs_up_to p x j n steps answer s a k lt is = by_test (is_running a.outcome)
  where
    le : j ≤ n
    le = let w = k.within in omega (arith, w, lt)

    by_test : (a.outcome ≡ running) ⊎ (a.outcome ≢ running) → a.outcome ≡ running
    by_test (inl e) = e
    by_test (inr h) =
        let same : with_more (n - j) a ≡ k.ran = some_is (sym (later p x j n a le is h) ∙ ran_is p x n steps answer s k) in
        let left : a.left + (n - j) ≡ n - steps = ap (λ (r : Ran). r.left) same ∙ k.left in
        let w : steps ≤ n = k.within in
        absurd (omega (arith, left, w, lt))

-- within as many steps as it made it comes to the same
pub same_within : (p : Program) (x : Recording) (n steps : ℕ) (answer : RunEnd) (s : State) → (k : Known p x n steps answer s) → outcome_at p x steps ≡ Some k.ran.outcome
same_within p x n steps answer s k =
    let w : steps ≤ n = k.within in
    let l : k.ran.left ≡ n - steps = k.left in
    let few : n - steps ≤ k.ran.left = omega (arith, l) in
    let back : n - (n - steps) ≡ steps = omega (arith, w) in
    let fewer = fewer_in_run p false (invocation_of x ∷ []) x.replies x.depth n (n - steps) k.ran (ap last_of k.alone) few in
    let there : run p false (invocation_of x ∷ []) x.replies x.depth steps ≡ less_left (n - steps) k.ran ∷ [] =
    ap (λ (i : ℕ). run p false (invocation_of x ∷ []) x.replies x.depth i) (sym back) ∙ fewer ∙ ap (map (less_left (n - steps))) k.alone in
    ap (λ (rs : List Ran). option_map (λ r. r.outcome) (slice_get rs 0)) there
