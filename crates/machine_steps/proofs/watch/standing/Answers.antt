use Rattle.std.proofs.Common.{sym, ap, ◌∙◌}
use Rattle.machine_steps.specs.calls.Watched.{innermost}
use Rattle.machine_steps.proofs.PlaceLaws.{first_stands}
use Rattle.machine_steps.proofs.watch.standing.Goals as goal

pub returns : goal.returns
returns c = λ m e p. first_stands m.stack.frames c.args.frame c.args.index e ∙ ap (λ at. innermost m.stack.frames at) (sym p)
