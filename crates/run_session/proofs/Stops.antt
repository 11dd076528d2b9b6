-- What is left where there is no answer, from what a part leaves.
use Rattle.std.proofs.Common.{Result, Ok, Err}
use Rattle.causes.specs.declared.NoMemory.{NoMemory as WantOfMemory}
use Rattle.commands.specs.declared.outcome.Outcome.{Outcome}
use Rattle.run_session.specs.Stop.{Stop, no_memory, file_failed, OnStop}

pub map_stop : (P Q : Stop → Type 0) (result : Result Outcome WantOfMemory) → ((stop : Stop) → P stop → Q stop) → OnStop P result → OnStop Q result
map_stop P Q (Err e) go x = go no_memory x
map_stop P Q (Ok o) go x = λ faulted. let k = x faulted in record { file = k.file; named = k.named; failed = go (file_failed k.file) k.failed; memory = go no_memory k.memory }
