use Rattle.rewrite_code.proofs.Loads.{when_ok}
use Rattle.guard_insert.proofs.Guarding.{kind_tested}
use Rattle.guard_insert.proofs.choice.tested.Goals as goal

pub returns : goal.returns
returns c =
    when_ok (kind_tested c.args.context.now c.args.labels c.args.places.now c.args.offset c.args.instruction.now c.in_ok-open_if.ensures.one_arm c.in_ok-kind.ensures.emits c.in_ok-unwind_kind.ensures)
    c.close.result c.close.ensures
