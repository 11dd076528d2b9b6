use Rattle.std.proofs.Common.{◌≡◌, length}
use Rattle.std.specs.Prelude.{find, reverse}
use Rattle.var_eval.specs.Chosen.{is_named}
use Rattle.var_eval.proofs.choice.last_named.Given as goal

abbrev pub invariant-variables : goal.invariant-variables
invariant-variables l = find (is_named l.units l.name) (reverse l.initial.left) ≡ find (is_named l.units l.name) (reverse l.left)

abbrev pub decreases-variables : goal.decreases-variables
decreases-variables l = length l.left
