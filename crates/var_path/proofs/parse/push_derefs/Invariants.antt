use Rattle.std.proofs.Common.{◌≡◌, ◌++◌, length}
use Rattle.std.specs.Prelude.{reverse}
use Rattle.var_path.specs.Reading.{derefs, behind_stars}
use Rattle.var_path.proofs.parse.push_derefs.Given as goal

abbrev pub invariant-stars : goal.invariant-stars
invariant-stars l = record {
  steps : l.initial.steps ++ derefs (reverse l.front) ≡ l.steps ++ derefs (reverse l.unclosed);
  unclosed : behind_stars (reverse l.front) ≡ behind_stars (reverse l.unclosed);
}

abbrev pub decreases-stars : goal.decreases-stars
decreases-stars l = length l.unclosed
