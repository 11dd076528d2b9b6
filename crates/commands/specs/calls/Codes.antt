-- The exit status of each way to end.
use Rattle.std.specs.Prelude.{ℕ}
use Rattle.commands.specs.declared.status.Status.{Status}
use Rattle.commands.specs.declared.status.Status.TheVariants as status

abbrev pub code_of : Status → ℕ
code_of status.Done = 0
code_of status.Trapped = 1
code_of status.Usage = 2
code_of status.NoFile = 3
code_of status.FileFault = 4
code_of status.Malformed = 5
code_of status.Outside = 6
code_of status.Invalid = 7
code_of status.NotStarted = 8
code_of status.HostStopped = 9
code_of status.FuelSpent = 10
code_of status.BadDump = 11
code_of status.Mismatch = 12
code_of status.Limit = 13
code_of status.Collision = 14
code_of status.NoMemory = 15
code_of status.TornCalls = 16
code_of status.BadReplies = 17
