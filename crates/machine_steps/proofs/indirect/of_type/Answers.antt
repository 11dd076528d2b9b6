use Rattle.std.proofs.Common.{sym}
use Rattle.machine_steps.proofs.EntryLaws.{of_type, other_type, no_type, no_function}
use Rattle.machine_steps.proofs.indirect.of_type.Goals as goal

pub returns-then-number-wanted : goal.returns-then-number-wanted
returns-then-number-wanted c = λ engine w index nb e. of_type engine w c.args.t index c.args.prepared.now.type_numbers c.args.prepared.now.function_numbers nb c.args.function e c.in-Some.wanted c.in-Some-number_at.number (sym c.in-Some.ensures) (sym c.in-Some-number_at.ensures) c.if-number-wanted.true

pub returns-else-number-wanted : goal.returns-else-number-wanted
returns-else-number-wanted c = λ engine w index nb e. other_type engine w c.args.t index c.args.prepared.now.type_numbers c.args.prepared.now.function_numbers nb c.args.function e c.in-Some.wanted c.in-Some-number_at.number (sym c.in-Some.ensures) (sym c.in-Some-number_at.ensures) c.if-number-wanted.false

pub returns-in-None-number_at : goal.returns-in-None-number_at
returns-in-None-number_at c = λ engine w index nb e. no_function engine w c.args.t index c.args.prepared.now.type_numbers c.args.prepared.now.function_numbers nb c.args.function e (sym c.in-None-number_at.ensures)

pub returns-in-None : goal.returns-in-None
returns-in-None c = λ engine w index nb e. no_type engine w c.args.t index c.args.prepared.now.type_numbers c.args.prepared.now.function_numbers nb c.args.function e (sym c.in-None.ensures)
