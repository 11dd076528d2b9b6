use Rattle.std.proofs.Common.{ap, subst, ◌∙◌}
use Rattle.wasm_syntax.specs.declared.module.ModuleParts.{ModuleParts as Module}
use Rattle.dump_match.specs.States.{KeptState}
use Rattle.replay_command.specs.inner.Steps.{Seat}
use Rattle.replay_command.proofs.looking.Viewer.look.Goals as goal

pub shown_dump-requires-clause-module_ : goal.shown_dump-requires-clause-module_
shown_dump-requires-clause-module_ c = ap (λ (v : Seat). v.module_) c.self.view_is ∙ c.requires.module_

pub look_at-rest-requires-clause-kept : goal.look_at-rest-requires-clause-kept
look_at-rest-requires-clause-kept c = subst (λ (m : Module). KeptState m c.in_ok-dump.dump) (ap (λ (v : Seat). v.module_) c.self.view_is) c.in_ok-dump.ensures.kept

pub returns-clause-took : goal.returns-clause-took
returns-clause-took c = c.look_at-rest.ensures.took c.args.replayer.now c.requires.module_ c.in_ok-dump.ensures.shows
