-- A step of the command, with what it gave to devices and wrote.
use Rattle.std.specs.Prelude.{List, Option}
use Rattle.pm_outside.specs.Contents.{Contents}
use Rattle.wasm_syntax.specs.declared.host.Served.{Served}
use Rattle.pm_outside.specs.Written.{OnTold}
use Rattle.host_set.specs.Sets.{DeviceState}
use Rattle.commands.specs.declared.outcome.Outcome.{Outcome}
use Rattle.pm_outside.specs.Held.{Writes, HoldThen}
use Rattle.run_command.specs.RunAnswer.{IfRefusal, IsUntouched}

-- this is answered, where the devices are these before and after, and files tell this before and then
pub record IsAnswered (Answers : List Served → Writes → Outcome → Type 0) (before after : List DeviceState) (old new : Option Contents) (o : Outcome) : Type 0 where
  pub given : List Served
  pub writes : Writes
  pub answer : Answers given writes o
  pub files : OnTold (HoldThen writes) old new
  pub untouched : IfRefusal o.status (IsUntouched before after given writes)
