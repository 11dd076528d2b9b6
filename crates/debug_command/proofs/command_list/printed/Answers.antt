use Rattle.std.proofs.Common.{ℕ, List, ◌++◌, sym, subst, ◌∙◌}
use Rattle.debugger.specs.Session.{PrintsAll}
use Rattle.debug_command.proofs.Printed.{step, is_done}
use Rattle.debug_command.proofs.command_list.printed.Goals as goal

pub loop-command-init : goal.loop-command-init
loop-command-init c = λ behind h. subst (λ (out : List ℕ). PrintsAll c.args.session.now.subject c.args.session.now.chosen c.args.commands.now (out ++ behind)) (sym c.new-out.ensures) h

pub loop-command-preserved : goal.loop-command-preserved
loop-command-preserved c =
    step (PrintsAll c.args.session.now.subject c.args.session.now.chosen c.args.commands.now) c.loop-command.session c.push_command.new.session c.as_str.result.now c.args.commands.now c.loop-command.command-index c.command-item.result c.loop-command.out c.push_command.new.out
    c.loop-command-test.true (c.as_str.ensures.value ∙ c.command-item.is) c.in_ok-push_command.ensures c.loop-command.invariant

pub returns : goal.returns
returns c = is_done (PrintsAll c.args.session.now.subject c.args.session.now.chosen c.args.commands.now) c.loop-command.session c.args.commands.now c.loop-command.command-index c.loop-command.out c.loop-command-test.false c.loop-command.invariant
