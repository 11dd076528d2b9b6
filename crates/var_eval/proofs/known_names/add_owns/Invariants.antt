use Rattle.std.proofs.Common.{length}
use Rattle.std.specs.Prelude.{find}
use Rattle.dwarf_entries.specs.Standing.{standing_in}
use Rattle.var_eval.specs.Chosen.{is_unit_variable, unit_variable}
use Rattle.var_eval.specs.inner.Adding.{Still}
use Rattle.var_eval.proofs.known_names.add_owns.Given as goal

abbrev pub invariant-entries : goal.invariant-entries
invariant-entries l = Still l.initial.table l.table (λ q. unit_variable l.units q l.unit) (λ q. find (is_unit_variable l.units q) (standing_in l.unit l.left))

abbrev pub decreases-entries : goal.decreases-entries
decreases-entries l = length l.left
