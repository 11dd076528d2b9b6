-- The end of a list by the answer of its last invocation.
use Rattle.std.specs.Prelude.{ℕ, ◌-◌, List, [], ◌++◌, Option, codes}
use Rattle.std.specs.Option.{option_map}
use Rattle.std.specs.Fmt.{decimal}
use Rattle.pm_text.specs.Names.{quoted}
use Rattle.machine_hosted.specs.declared.answer.RunEnd.{RunEnd}
use Rattle.machine_hosted.specs.declared.answer.RunEnd.TheVariants.{Finished, Trapped, NoReply, BadReply, DeviceFault, FuelSpent, NoMemory}
use Rattle.commands.specs.Texts.{ended}
use Rattle.commands.specs.declared.outcome.Outcome.{Outcome}
use Rattle.commands.specs.declared.status.Status.{Status}
use Rattle.commands.specs.declared.status.Status.TheVariants as status
use Rattle.run_session.specs.RunText.{not_invoked_text}
use Rattle.run_session.specs.Ending.{host_stopped, trapped_or_done}

abbrev pub device_cause : List ℕ → List ℕ
device_cause device = codes "device " ++ quoted device

abbrev pub misfit_cause : ℕ → List ℕ
misfit_cause n = codes "reply " ++ decimal n ++ codes " does not fit"

-- the last line, behind so many replies and with so many invocations that were not begun
abbrev pub answer_line : RunEnd → (given due : ℕ) → List ℕ
answer_line (Finished v) given due = []
answer_line (Trapped kind) given due = not_invoked_text due
answer_line NoReply given due = host_stopped (codes "no reply for call " ++ decimal given)
answer_line (BadReply reply) given due = host_stopped (misfit_cause (given - 1))
answer_line (DeviceFault device) given due = host_stopped (device_cause device)
answer_line FuelSpent given due = codes "fuel spent\n"
answer_line NoMemory given due = []

abbrev pub answer_status : RunEnd → (traps : ℕ) → Status
answer_status (Finished v) traps = trapped_or_done traps
answer_status (Trapped kind) traps = status.Trapped
answer_status NoReply traps = status.HostStopped
answer_status (BadReply reply) traps = status.HostStopped
answer_status (DeviceFault device) traps = status.HostStopped
answer_status FuelSpent traps = status.FuelSpent
answer_status NoMemory traps = status.NoMemory

-- the answer with these lines, where there is a status
abbrev pub ended_as : Option Status → List ℕ → Option Outcome
ended_as s text = option_map (λ s. ended s text) s
