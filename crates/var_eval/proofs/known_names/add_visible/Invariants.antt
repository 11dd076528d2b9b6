use Rattle.std.proofs.Common.{length}
use Rattle.std.specs.Prelude.{find, reverse}
use Rattle.var_eval.specs.Chosen.{is_named}
use Rattle.var_eval.specs.inner.Adding.{Still}
use Rattle.var_eval.proofs.known_names.add_visible.Given as goal

abbrev pub invariant-variables : goal.invariant-variables
invariant-variables l = Still l.initial.table l.table (λ q. find (is_named l.units q) (reverse l.initial.left)) (λ q. find (is_named l.units q) (reverse l.left))

abbrev pub decreases-variables : goal.decreases-variables
decreases-variables l = length l.left
