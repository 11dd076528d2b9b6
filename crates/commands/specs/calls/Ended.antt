-- How a step of a command ends.
use Rattle.std.specs.Prelude.{◌≡◌, ◌≢◌}
use Rattle.commands.specs.declared.outcome.Outcome.{Outcome}
use Rattle.commands.specs.declared.status.Status.TheVariants as status

-- A file's fault is answered for this cause alone, and want of memory is no answer.
pub record Ended (Cause : Outcome → Type 0) (o : Outcome) : Type 0 where
  pub fault : o.status ≡ status.FileFault → Cause o
  pub memory : o.status ≢ status.NoMemory
