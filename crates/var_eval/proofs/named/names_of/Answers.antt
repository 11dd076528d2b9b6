use Rattle.var_eval.proofs.NamedLaws.{named_here}
use Rattle.var_eval.proofs.named.names_of.Goals as goal

pub returns-in-Ok : goal.returns-in-Ok
returns-in-Ok c =
    named_here c.args.units.now c.args.standing.now c.entry.result.now c.inside.result.now (record { first = c.new.result }) c.add_entries.new.names c.entry.ensures c.inside.ensures c.requires
    c.new.ensures.empty c.in-Ok.ensures
