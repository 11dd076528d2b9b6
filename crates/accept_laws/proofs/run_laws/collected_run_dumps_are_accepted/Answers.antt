use Rattle.accept_laws.proofs.CollectedRuns.{collected_accepted}
use Rattle.accept_laws.proofs.run_laws.collected_run_dumps_are_accepted.Goals as goal

pub returns : goal.returns
returns c = λ before after w first later given writes o bytes m written these bounds low short collects fits read valid held none answer.
    collected_accepted before after w first later given writes o bytes m written these bounds low short collects fits read valid held none answer
