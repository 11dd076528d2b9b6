use Rattle.std.proofs.Common.{subst, ◌∙◌}
use Rattle.wasm_syntax.specs.Module.{IsModule}
use Rattle.replay_command.proofs.States.{answer_kept, answer_shown}
use Rattle.replay_command.proofs.looking.shown_dump.Goals as goal

pub returns-clause-kept : goal.returns-clause-kept
returns-clause-kept c =
    answer_kept c.args.source.now (subst IsModule (c.parts-parts.ensures.value ∙ c.«module».ensures.value) c.parts-parts.ensures.whole) c.«module».ensures.valid c.«module».ensures.limits c.args.replayer.now.recording c.requires.module_ c.requires.depth
    c.args.replayer.now.step c.state.result.now c.state.ensures.shows c.image.result c.image.ensures.image c.image.ensures.contained

pub returns-clause-shows : goal.returns-clause-shows
returns-clause-shows c =
    answer_shown c.args.source.now (subst IsModule (c.parts-parts.ensures.value ∙ c.«module».ensures.value) c.parts-parts.ensures.whole) c.«module».ensures.valid c.«module».ensures.limits c.args.replayer.now.recording c.requires.module_ c.requires.depth
    c.args.replayer.now.step c.state.result.now c.state.ensures.shows c.image.result c.image.ensures.image c.image.ensures.contained
