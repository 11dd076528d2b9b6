use Rattle.std.proofs.Common.{sym, ap, ◌∙◌}
use Rattle.std.specs.Prelude.{slice_get}
use Rattle.machine_steps.proofs.EntryLaws.{undefined, uninitialized}
use Rattle.machine_steps.proofs.indirect.resolve.Goals as goal

pub returns-in-None : goal.returns-in-None
returns-in-None c = λ engine w nb t. undefined engine w c.args.t c.args.index (ap (λ l. slice_get l c.args.index) t ∙ sym c.in-None.ensures)

pub returns-in-Some-None : goal.returns-in-Some-None
returns-in-Some-None c = λ engine w nb t. uninitialized engine w c.args.t c.args.index (ap (λ l. slice_get l c.args.index) t ∙ sym (rw c.in-Some-None.field-0-is at c.in-Some-None.ensures))

pub returns-in-Some-Some : goal.returns-in-Some-Some
returns-in-Some-Some c = λ engine w nb t. c.of_type.ensures engine w c.args.index nb (ap (λ l. slice_get l c.args.index) t ∙ sym (rw c.in-Some-Some.field-0-is at c.in-Some-Some.ensures))
