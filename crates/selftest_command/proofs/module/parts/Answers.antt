use Rattle.selftest_command.proofs.Parts.{put_together}
use Rattle.selftest_command.proofs.module.parts.Goals as goal

pub returns : goal.returns
returns c =
    put_together c.args.count c.in_ok-types.field-0 c.new.result c.in_ok-functions.field-0 c.new-2.result c.in_ok-one.field-0 c.new-3.result c.in_ok-exports.field-0 c.new-4.result c.new-5.result c.in_ok-bodies.field-0 c.new-6.result
    c.in_ok-types.ensures c.new.ensures c.in_ok-functions.ensures c.new-2.ensures c.in_ok-one.ensures c.new-3.ensures c.in_ok-exports.ensures c.new-4.ensures c.new-5.ensures c.in_ok-bodies.ensures c.new-6.ensures
