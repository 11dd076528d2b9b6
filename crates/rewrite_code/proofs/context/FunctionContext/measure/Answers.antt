use Rattle.rewrite_code.proofs.Loads.{when_ok}
use Rattle.rewrite_code.proofs.LengthSet.{measures, unmeasured}
use Rattle.rewrite_code.proofs.context.FunctionContext.measure.Goals as goal

pub returns-in_ok-get_global : goal.returns-in_ok-get_global
returns-in_ok-get_global c =
    when_ok (measures c.args.self.now c.is_measured.result c.length_at.result c.is_measured.ensures c.if-is_measured.true c.length_at.ensures c.in_ok-get_global.ensures) c.set.result c.set.ensures

pub returns-else-is_measured : goal.returns-else-is_measured
returns-else-is_measured c = unmeasured c.args.self.now c.is_measured.result c.is_measured.ensures c.if-is_measured.false
