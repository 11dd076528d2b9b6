use Rattle.std.proofs.Common.{length}
use Rattle.std.specs.Prelude.{find}
use Rattle.var_eval.specs.Chosen.{is_global, global_entries}
use Rattle.var_eval.specs.inner.Adding.{Still}
use Rattle.var_eval.proofs.known_names.add_globals.Given as goal

abbrev pub invariant-entries : goal.invariant-entries
invariant-entries l =
    Still l.initial.table l.table (λ q. find (is_global l.units q) (global_entries l.unit 0 l.unit.entries)) (λ q. find (is_global l.units q) (global_entries l.unit l.deepest l.left))

abbrev pub decreases-entries : goal.decreases-entries
decreases-entries l = length l.left
