use Rattle.std.proofs.Common.{sym, ap, arith}
use Rattle.std.specs.Prelude.{Some}
use Rattle.validate_body.proofs.StackLaws.{pushed_heights, pushed_frames}
use Rattle.validate_body.proofs.stack.TypeStack.push.Goals as goal

pub invariant_of-self-2 : goal.invariant_of-self-2
invariant_of-self-2 c =
    pushed_heights c.self.inside.types c.push.new.self c.args.t c.self.inside.controls c.in_ok-push.ensures.pushed (omega (arith, c.if-len-eq0.false, c.len.ensures)) c.self.invariant

pub returns : goal.returns
returns c =
    rw (← c.self.view_is) (ap (λ x. Some x) (sym (pushed_frames c.self.inside.types c.push.new.self c.args.t c.self.inside.controls c.in_ok-push.ensures.pushed c.self.invariant)))
