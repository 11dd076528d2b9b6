use Rattle.std.proofs.Common.{◌≡◌, drop}
use Rattle.std.specs.Prelude.{find}
use Rattle.var_eval.specs.Steps.{has_name}
use Rattle.var_eval.proofs.members.member_named.Given as goal

abbrev pub invariant-loop-item : goal.invariant-loop-item
invariant-loop-item l = find (has_name l.units l.name) l.items ≡ find (has_name l.units l.name) (drop l.item-index l.items)
