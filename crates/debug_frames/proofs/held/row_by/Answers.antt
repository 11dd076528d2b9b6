use Rattle.std.proofs.Common.{◌<◌, ◌^◌, ℕ, Option, ap, ◌∙◌, arith}
use Rattle.std.specs.Prelude.{option_and_then, slice_get}
use Rattle.dwarf_line.specs.declared.lines.Sequence.{Sequence}
use Rattle.dwarf_line.specs.Place.{nearest}
use Rattle.debug_frames.proofs.SequenceLaws.{row_is}
use Rattle.debug_frames.proofs.held.row_by.Goals as goal

pub returns-in_err-number : goal.returns-in_err-number
returns-in_err-number c =
    let a = c.args.address in let ss = c.args.sequences.now in
    let small : a < 2 ^ 32 = omega arith in
    c.from_residual.ensures ∙ ap (λ (o : Option ℕ). option_and_then (λ (s : Sequence). nearest a s.rows) (option_and_then (slice_get ss) o)) c.in_err-number.ensures ∙ row_is a ss c.args.steps.now small c.requires

pub returns-in_err-sequence : goal.returns-in_err-sequence
returns-in_err-sequence c =
    let a = c.args.address in let ss = c.args.sequences.now in
    let small : a < 2 ^ 32 = omega arith in
    c.from_residual-in_err-sequence.ensures ∙ ap (option_and_then (λ (s : Sequence). nearest a s.rows)) c.in_err-sequence.ensures
    ∙ ap (λ (o : Option ℕ). option_and_then (λ (s : Sequence). nearest a s.rows) (option_and_then (slice_get ss) o)) c.in_ok-number.ensures ∙ row_is a ss c.args.steps.now small c.requires

pub returns : goal.returns
returns c =
    let a = c.args.address in let ss = c.args.sequences.now in
    let small : a < 2 ^ 32 = omega arith in
    c.nearest.ensures ∙ ap (option_and_then (λ (s : Sequence). nearest a s.rows)) c.in_ok-sequence.ensures
    ∙ ap (λ (o : Option ℕ). option_and_then (λ (s : Sequence). nearest a s.rows) (option_and_then (slice_get ss) o)) c.in_ok-number.ensures ∙ row_is a ss c.args.steps.now small c.requires
