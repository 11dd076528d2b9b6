use Rattle.machine_steps.proofs.branches.inside.Goals as goal

pub returns-in-Next-clause-stays : goal.returns-in-Next-clause-stays
returns-in-Next-clause-stays c = λ m m' e. e

pub returns-in_default-clause-stays : goal.returns-in_default-clause-stays
returns-in_default-clause-stays c = λ m m' e. tt
