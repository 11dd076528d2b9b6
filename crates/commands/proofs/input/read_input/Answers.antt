use Rattle.std.proofs.Common.{◌≤◌, length, subst}
use Rattle.std.specs.Prelude.{IfSome}
use Rattle.pm_outside.specs.calls.Whole.{Refuses}
use Rattle.commands.proofs.ReadFiles.{input_whole, input_refused}
use Rattle.commands.proofs.input.read_input.Goals as goal

pub returns-in-Ok-clause-told : goal.returns-in-Ok-clause-told
returns-in-Ok-clause-told g c =
    input_whole (g.F.Files.told c.args.files.now) c.args.what c.args.file.now c.in-Ok.bytes (subst (λ n. length c.in-Ok.bytes.items ≤ n) c.limit.ensures c.in-Ok.ensures.limited) c.in-Ok.ensures.whole

pub returns-in_ok-refusal-in-Err-clause-told : goal.returns-in_ok-refusal-in-Err-clause-told
returns-in_ok-refusal-in-Err-clause-told g c =
    input_refused (g.F.Files.told c.args.files.now) c.args.what c.args.file.now c.in_ok-refusal-in-Err.refusal c.in-Err.error c.in_ok-refusal-in-Err.ensures
    (subst (λ n. IfSome (g.F.Files.told c.args.files.now) (λ held. Refuses n (held c.args.file.now) c.in-Err.error)) c.limit.ensures c.in-Err.ensures.refused)
