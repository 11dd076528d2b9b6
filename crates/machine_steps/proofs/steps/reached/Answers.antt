use Rattle.machine_steps.proofs.steps.reached.Goals as goal

pub returns-in-Inside-clause-stays : goal.returns-in-Inside-clause-stays
returns-in-Inside-clause-stays c = λ m m' e. rw c.in-Inside.is at e

pub returns-in-Beyond-clause-stays : goal.returns-in-Beyond-clause-stays
returns-in-Beyond-clause-stays c = λ m m' e. tt
