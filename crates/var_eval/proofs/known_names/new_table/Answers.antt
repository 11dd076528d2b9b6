use Rattle.var_eval.proofs.MeantLaws.{table_meant}
use Rattle.var_eval.proofs.known_names.new_table.Goals as goal

pub returns-in-Ok : goal.returns-in-Ok
returns-in-Ok c =
    table_meant c.args.sections.now c.args.units.now c.as_slice.result.now c.args.address c.in-Ok.table c.args.subprogram.now c.in-Some.here c.unit.result.now c.requires c.in-Some.is c.unit.ensures
    c.as_slice.ensures (c.ascend.ensures c.if-not-ascend.false) c.in-Ok.ensures
