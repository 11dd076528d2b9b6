use Rattle.std.proofs.Common.{◌≡◌, ℕ, ◌++◌, ◌≤◌, List}
use Rattle.var_values.specs.inner.Odometer.{AreSound, rows_left, extent}
use Rattle.var_values.proofs.levels.Rows.next.Given as goal

abbrev pub invariant-steps : goal.invariant-steps
invariant-steps l = record {
  sound : AreSound l.array l.self;
  keeps : (item : ℕ → List ℕ) → l.initial.text ++ rows_left item l.array l.initial.self ≡ l.text ++ rows_left item l.array l.self;
  less : extent l.array l.self ≤ extent l.array l.initial.self;
}

abbrev pub decreases-steps : goal.decreases-steps
decreases-steps l = extent l.array l.self
