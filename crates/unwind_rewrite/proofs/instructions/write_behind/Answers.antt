use Rattle.std.proofs.Common.{subst, sym, OnOk}
use Rattle.unwind_rewrite.specs.calls.Points.{Resumes}
use Rattle.unwind_rewrite.proofs.NodeLaws.{is_end}
use Rattle.unwind_rewrite.proofs.instructions.write_behind.Goals as goal

pub returns-in_default : goal.returns-in_default
returns-in_default c = λ targets.
    subst (λ i. OnOk c.write_end.result (Resumes c.args.context.now c.args.passing i c.args.walk.now c.args.writer.now c.write_end.new.walk c.write_end.new.writer)) (sym (is_end targets c.args.code c.requires.behind c.in_default.not-Else)) c.write_end.ensures
