use Rattle.std.proofs.Common.{◌≡◌, ℕ, List, ◌++◌, Option, sym, subst, ◌∙◌}
use Rattle.std.specs.Prelude.{OnOk}
use Rattle.debug_frames.specs.Programs.{program_there}
use Rattle.debug_frames.specs.Unreadable.{named_line}
use Rattle.debug_frames.proofs.TellLaws.{line_none, line_some}
use Rattle.debug_frames.proofs.unreadable.push_program.Goals as goal

pub returns-then-is_read : goal.returns-then-is_read
returns-then-is_read c =
    let s = c.args.information.now.sections in
    let out = c.args.out.now in
    subst (λ (at : Option ℕ). out ≡ out ++ named_line s at) (sym c.in-Some.is)
    (line_none out c.in-Some.at (program_there s c.in-Some.at) (sym c.is_read.ensures ∙ c.if-is_read.true))

pub returns : goal.returns
returns c =
    let s = c.args.information.now.sections in
    let out = c.args.out.now in
    subst (λ (at : Option ℕ). OnOk c.push_line.result (c.push_line.new.out ≡ out ++ named_line s at)) (sym c.in-Some.is)
    (subst (λ (text : List ℕ). OnOk c.push_line.result (c.push_line.new.out ≡ out ++ text)) (line_some c.in-Some.at c.from.result (program_there s c.in-Some.at) c.from.ensures (sym c.is_read.ensures ∙ c.if-is_read.false)) c.push_line.ensures)
