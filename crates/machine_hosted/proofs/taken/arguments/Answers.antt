use Rattle.std.proofs.Common.{◌≡◌, ◌-◌, ◌∙◌, length, take, drop, sym, ap, ap₂}
use Rattle.std.proofs.lemmas.List.{length-reverse}
use Rattle.std.specs.Prelude.{if◌then◌else◌}
use Rattle.machine_hosted.proofs.ArgumentLaws.{argument_values}
use Rattle.machine_hosted.proofs.taken.arguments.Goals as goal

pub returns : goal.returns
returns c = λ engine codes k s h args below o n.
    let start = c.saturating_sub-start.result in
    let stop = c.saturating_sub-top.result in
    let vs = c.args.m.now.stack.values in
    let p : stop ≡ length vs - (if c.args.call.indirect then 1 else 0) = c.saturating_sub-top.ensures ∙ ap₂ (λ a b. a - b) (ap length c.as_slice-values.ensures ∙ length-reverse vs) c.above.ensures in
    let q : start ≡ stop - length args = c.saturating_sub-start.ensures ∙ ap (λ k. stop - k) (sym n) in
    c.in_ok-taken.ensures ∙ ap (λ l. take (stop - start) (drop start l)) c.as_slice-values.ensures
    ∙ argument_values engine codes k c.args.call s c.args.m.now h args below o start stop p q
