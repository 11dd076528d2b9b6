-- What is known of a replay, and of what is ahead of a step.
use Rattle.std.proofs.Common.{◌≡◌, ◌⊎◌, ℕ, ◌+◌, ◌<◌, ◌≤◌, inl, inr, refl, sym, ap, subst, ◌∙◌, arith}
use Rattle.std.specs.Prelude.{min, Bool, true, false, Option, Some}
use Rattle.std.proofs.lemmas.Bool.{cases_order}
use Rattle.wasm_syntax.specs.Module.{Program}
use Rattle.wasm_syntax.specs.Machine.{Config}
use Rattle.machine_hosted.specs.declared.answer.RunEnd.{RunEnd}
use Rattle.wasm_machine.specs.calls.Instances.{StandsAt}
use Rattle.replay.specs.declared.point.Point.{Point}
use Rattle.replay.specs.Replays.{Recording, IsOf, IsEnd, is_in, is_in_some, is_there}
use Rattle.replay.specs.Moves.{Replay, OfEach, Shows, Went, Found, IsNext, HasNoNext}
use Rattle.replay.specs.inner.Tracks.{WaitsAt, ReachedAt, NextIn}
use Rattle.replay.proofs.Runs.{known, shows}
use Rattle.replay.proofs.Ending.{waits}
use Rattle.replay.proofs.Advances.{all_made}
use Rattle.replay.proofs.Tracks.{waits_there}

-- a point shows the state behind its steps
pub point_shows : (x : Recording) (n : ℕ) (answer : RunEnd) (q : Point) → ReachedAt x n answer q → OfEach x (λ p. Shows p x n q.instance)
point_shows x n answer q r = λ p is. shows p x n q.instance.steps answer q.instance (known x n q.next answer q.instance r p is)

-- and so whether the innermost frame is there
pub there_is : (x : Recording) (n : ℕ) (answer : RunEnd) (q : Point) (function offset : ℕ) (b : Bool) → ReachedAt x n answer q → ((p : Program) (c : Config) → StandsAt q.instance p c → b ≡ is_in function offset c) → OfEach x (λ p. is_there p x function offset n ≡ b)
there_is x n answer q function offset b r tells = λ p is.
    let s = point_shows x n answer q r p is in
    ap (λ (o : Option Config). is_in_some function offset o) s.1 ∙ sym (tells p s.0 s.2)

-- before the last step it goes on
pub goes_on : (x : Recording) (n end : ℕ) (answer : RunEnd) (q : Point) → ReachedAt x n answer q → OfEach x (λ p. IsEnd p x end) → n < end → WaitsAt x n q
goes_on x n end answer q r ends lt = subst (λ (a : RunEnd). ReachedAt x n a q) (waits x n q.next end answer q.instance r ends lt) r

-- and may go on up to a later one, behind as many as it made
pub goes_up_to : (x : Recording) (n step end : ℕ) (answer : RunEnd) (q : Point) → ReachedAt x n answer q → OfEach x (λ p. IsEnd p x end) → n < step → step ≤ end → WaitsAt x q.instance.steps q × (q.instance.steps ≡ n)
goes_up_to x n step end answer q r ends lt le =
    let w = goes_on x n end answer q r ends (omega (arith, lt, le)) in
    (waits_there x n q w, all_made x n q.next q.instance w)

module _ (x : Recording) (function offset from : ℕ) where
  -- up to a step it is not there
  abbrev pub NoneUpTo : ℕ → Type 0
  NoneUpTo step = OfEach x (λ p. (k : ℕ) → from < k → k ≤ step → is_there p x function offset k ≡ false)

  pub none_at_first : NoneUpTo from
  none_at_first = λ p is k lt le. absurd (omega (arith, lt, le))

  pub none_more : (step : ℕ) → NoneUpTo step → OfEach x (λ p. is_there p x function offset (step + 1) ≡ false) → NoneUpTo (step + 1)
  none_more step none here = λ p is k lt le. by_order p is k lt le (cases_order k (step + 1))
    where
      by_order : (p : Program) (is : IsOf x p) (k : ℕ) → from < k → k ≤ step + 1 → (k ≡ step + 1) ⊎ ((k < step + 1) ⊎ (step + 1 < k)) → is_there p x function offset k ≡ false
      by_order p is k lt le (inl e) = ap (is_there p x function offset) e ∙ here p is
      by_order p is k lt le (inr (inl less)) = none p is k lt (omega (arith, less))
      by_order p is k lt le (inr (inr more)) = absurd (omega (arith, le, more))

  pub found_next : (step end : ℕ) → from ≤ step → step + 1 ≤ end → NoneUpTo step → OfEach x (λ p. is_there p x function offset (step + 1) ≡ true) → OfEach x (λ p. IsNext p x function offset from end (step + 1))
  found_next step end le within none here = λ p is. record {
    above = omega (arith, le);
    within = within;
    there = here p is;
    none_before = λ k lt less. none p is k lt (omega (arith, less));
  }

  -- what a look ahead has come to
  abbrev pub Ahead : (end step : ℕ) → Point → Type 0
  Ahead end step q = record { above : from ≤ step; within : step ≤ end; stands : (answer : RunEnd) × ReachedAt x step answer q; none : NoneUpTo step }

  pub looks_on : (end step : ℕ) (answer : RunEnd) (q : Point) → from ≤ step → step < end → NoneUpTo step → ReachedAt x (step + 1) answer q → ((p : Program) (c : Config) → StandsAt q.instance p c → false ≡ is_in function offset c) → Ahead end (step + 1) q
  looks_on end step answer q le lt none r tells = record {
    above = omega (arith, le);
    within = omega (arith, lt);
    stands = (answer, r);
    none = none_more step none (there_is x (step + 1) answer q function offset false r tells);
  }

  pub none_next : (step end : ℕ) → end ≤ step → NoneUpTo step → OfEach x (λ p. HasNoNext p x function offset from end)
  none_next step end le none = λ p is k lt within. none p is k lt (omega (arith, le, within))

-- it went to the next one
pub went_there : (old new : Replay) (function offset step n : ℕ) → NextIn old.recording function offset old.step old.end (Some step) → step ≤ old.end → n ≡ min step old.end → Went old new n → Found true old function offset new
went_there old new function offset step n next within is went =
    let there : step ≡ new.step = let e = went.step_is in omega (arith, within, is, e) in (
      record { recording = went.recording; every = went.every; end = went.end; outcome = went.outcome; checkpoints = went.checkpoints; step_is = refl },
      λ p of. subst (λ (k : ℕ). IsNext p old.recording function offset old.step old.end k) there (next p of),
    )
