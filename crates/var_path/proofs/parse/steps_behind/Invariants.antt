use Rattle.std.proofs.Common.{◌≡◌, ◌++◌, length}
use Rattle.std.specs.Prelude.{reverse, option_map}
use Rattle.var_path.specs.Reading.{steps_behind}
use Rattle.var_path.proofs.parse.steps_behind.Given as goal

abbrev pub invariant-steps : goal.invariant-steps
invariant-steps l = steps_behind (reverse l.front) l.text ≡ option_map (λ ss. l.steps ++ ss) (steps_behind (reverse l.unclosed) l.left)

abbrev pub decreases-steps : goal.decreases-steps
decreases-steps l = length l.left
