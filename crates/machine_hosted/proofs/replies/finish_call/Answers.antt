use Rattle.std.proofs.Common.{◌≡◌, ap, subst, ◌∙◌}
use Rattle.machine_steps.specs.declared.layout.CallStack.{CallStack}
use Rattle.machine_hosted.specs.inner.Replies.{Taken}
use Rattle.machine_hosted.proofs.ReplyLaws.{parts, left, finished}
use Rattle.machine_hosted.proofs.replies.finish_call.Goals as goal

pub returns : goal.returns
returns c = λ engine codes k s before h w co args below same sh op n.
    let p = parts engine codes k c.args.call s before h args below op in
    let l = left engine codes k c.args.call s before h args below op c.args.value in
    let u : c.take_arguments.new.values ≡ l.0 = c.take_arguments.ensures p.0 l.0 (subst (λ m. Taken c.args.call.indirect m p.0) n p.2) (ap (λ (k : CallStack). k.values) same ∙ l.1) in
    finished engine codes k c.args.call s before h args below op w co c.args.value c.args.m.now c.take_arguments.new.values c.push_result.new.values same sh u c.in_ok-push_result.ensures
