use Rattle.rewrite_code.proofs.Loads.{when_ok}
use Rattle.unwind_rewrite.proofs.NodeLaws.{alternated}
use Rattle.unwind_rewrite.proofs.instructions.write_else.Goals as goal

pub returns : goal.returns
returns c = λ C p. when_ok (λ e. alternated C p c.args.walk.now c.alternate-2.new.self e c.in_ok-alternate.ensures) c.alternate-2.result c.alternate-2.ensures
