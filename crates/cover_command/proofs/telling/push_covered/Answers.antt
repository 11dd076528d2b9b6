use Rattle.std.proofs.Common.{ap, ◌∙◌}
use Rattle.debug_frames.specs.calls.Kept.{readable}
use Rattle.cover_command.proofs.telling.push_covered.Goals as goal

pub returns : goal.returns
returns c = c.push_placed.ensures c.args.information.now (c.in_ok-tables.ensures ∙ c.as_slice.ensures ∙ c.in_ok-lines.ensures ∙ ap readable c.programs.ensures)
