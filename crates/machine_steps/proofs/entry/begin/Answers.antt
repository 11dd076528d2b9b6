use Rattle.std.proofs.Common.{◌++◌, reverse, ap, subst, ◌∙◌}
use Rattle.machine_steps.specs.declared.layout.CallStack.{CallStack}
use Rattle.machine_steps.specs.inner.Moves.{Becomes}
use Rattle.machine_steps.proofs.BeginLaws.{begun, same_stack, no_code}
use Rattle.machine_steps.proofs.entry.begin.Goals as goal

pub returns-in-Ok : goal.returns-in-Ok
returns-in-Ok c = λ p body tree type prep is count.
    let k = c.leave_frames.new.m in
    let v = c.in-Ok.ensures ∙ ap (λ (s : CallStack). reverse c.args.args.now ++ s.values) c.leave_frames.ensures.whole in
    begun p c.args.codes.now prep c.args.function body tree type is c.in-Some.callee.now c.in-Some.ensures c.args.args.now count c.enter.result c.enter.new.m
    (subst (λ (to : CallStack). Becomes c.enter.result c.enter.new.m to)
    (same_stack p c.args.codes.now prep c.args.function body tree type is c.in-Some.callee.now c.in-Some.ensures c.args.args.now count k c.push_values.new.values (ap (λ (s : CallStack). s.controls) c.leave_frames.ensures.whole) (ap (λ (s : CallStack). s.frames) c.leave_frames.ensures.whole) v)
    c.enter.ensures)

pub returns-in-None : goal.returns-in-None
returns-in-None c = λ p body tree type prep is count. absurd (no_code p c.args.codes.now prep c.args.function body tree type is c.in-None.ensures)
