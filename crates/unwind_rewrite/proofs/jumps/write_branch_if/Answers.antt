use Rattle.unwind_rewrite.proofs.JumpLaws.{condition_taken}
use Rattle.unwind_rewrite.proofs.jumps.write_branch_if.Goals as goal

pub returns : goal.returns
returns c = λ C p o. condition_taken C p o c.args.label c.args.walk.now c.perform.new.self c.in_ok-perform.ensures c.in_ok-branch_if.ensures
