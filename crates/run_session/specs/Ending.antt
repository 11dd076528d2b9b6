-- The status of a list of invocations, and the line of a host that stopped.
use Rattle.std.specs.Prelude.{ℕ, nat_lt, List, ◌++◌, Option, Some, None, if◌then◌else◌, codes}
use Rattle.wasm_syntax.specs.Run.{Outcome, not_started, finished, trapped, lacks_reply, misfits, running, got_stuck}
use Rattle.commands.specs.declared.status.Status.{Status}
use Rattle.commands.specs.declared.status.Status.TheVariants as status

unfoldable pub host_stopped : List ℕ → List ℕ
host_stopped cause = codes "host stopped: " ++ cause ++ codes "\n"

-- where all invocations finished, or so many trapped
abbrev pub trapped_or_done : ℕ → Status
trapped_or_done traps = if nat_lt 0 traps then status.Trapped else status.Done

-- A list that was begun has no invocation that is not started, and none of a valid module gets stuck: there is no status for them.
abbrev pub end_status : ℕ → Outcome → Option Status
end_status traps (lacks_reply call) = Some status.HostStopped
end_status traps (misfits call reply) = Some status.HostStopped
end_status traps running = Some status.FuelSpent
end_status traps (trapped kind) = Some status.Trapped
end_status traps (finished v) = Some (trapped_or_done traps)
end_status traps (not_started cause) = None
end_status traps got_stuck = None

-- torn calls decide before all else
abbrev pub told_status : ℕ → (torn : Option ℕ) → Outcome → Option Status
told_status traps None o = end_status traps o
told_status traps (Some at) o = Some status.TornCalls
