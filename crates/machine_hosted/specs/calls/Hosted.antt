-- Calls of imports in a run, and what of a run's end is told whatever it is (Core 4.4.7).
use Rattle.std.specs.Prelude.{◌≡◌, ℕ, Bool, true, false, List, [], ◌++◌, ◌∷◌, reverse, drop, slice_get, Some}
use Rattle.wasm_syntax.specs.declared.parts.Import.{Import}
use Rattle.wasm_syntax.specs.declared.host.HostCall.{HostCall}
use Rattle.wasm_syntax.specs.declared.host.Reply.{Reply}
use Rattle.wasm_syntax.specs.declared.host.Served.{Served as ServedCall}
use Rattle.wasm_syntax.specs.declared.host.CollectorCall.{CollectorCall}
use Rattle.wasm_syntax.specs.Module.{Program}
use Rattle.wasm_syntax.specs.Host.{World}
use Rattle.wasm_syntax.specs.Machine.{Stepped, next, ends, traps, no_reply, bad_reply, stuck}
use Rattle.wasm_syntax.specs.Run.{Ended}
use Rattle.host_devices.specs.calls.HostSides.{Calls}

-- the world with these replies left
abbrev pub replying : World → List Reply → World
replying w replies = record { globals = w.globals; memory = w.memory; table = w.table; replies = replies; served = w.served }

-- ---- what is told of a run's end, whatever it is

-- the calls that were replied to, the newest first, one whose reply does not fit among them
abbrev pub served_in : Stepped → List ServedCall
served_in (next c) = c.world.served
served_in (ends w vs co) = w.served
served_in (traps k c) = c.world.served
served_in (no_reply call c) = c.world.served
served_in (bad_reply call reply c) = record { call = call; reply = reply } ∷ c.world.served
served_in stuck = []

-- the calls of the collector, the newest first
abbrev pub told_in : Stepped → List CollectorCall
told_in (next c) = c.collected
told_in (ends w vs co) = co
told_in (traps k c) = c.collected
told_in (no_reply call c) = c.collected
told_in (bad_reply call reply c) = c.collected
told_in stuck = []

-- the replies that were not asked for
abbrev pub left_in : Stepped → List Reply
left_in (next c) = c.world.replies
left_in (ends w vs co) = w.replies
left_in (traps k c) = c.world.replies
left_in (no_reply call c) = c.world.replies
left_in (bad_reply call reply c) = drop 1 c.world.replies
left_in stuck = []

-- what the host side was asked for: these calls with their replies, and these calls of the collector
pub record Asked : Type 0 where
  pub given : List ServedCall
  pub told : List CollectorCall

-- the host side's lists grew by them
pub record Grew (asked : Asked) (old new : Calls) : Type 0 where
  pub served : new.served ≡ old.served ++ asked.given
  pub collected : new.collected ≡ old.collected ++ asked.told

-- the run served exactly them since it began in a world, and left the other replies
pub record Served (asked : Asked) (w : World) (co : List CollectorCall) (more : List Reply) (s : Stepped) : Type 0 where
  pub served : served_in s ≡ reverse asked.given ++ w.served
  pub collected : told_in s ≡ reverse asked.told ++ co
  pub left : left_in s ≡ more

-- a run as a function of all replies and the number of steps
abbrev pub Going : Type 0
Going = List Reply → ℕ → Ended

-- The name is that of the module from which the called function is imported, and this import is not used up.
abbrev pub IsFaultOf : Program → (Import → Bool) → HostCall → List ℕ → Type 0
IsFaultOf p used_up call name = (i : Import) × (slice_get p.module_.imports call.import ≡ Some i) × (name ≡ i.«module») × (used_up i ≡ false)

-- no reply is left for the called import
abbrev pub IsUsedUp : Program → (Import → Bool) → HostCall → Type 0
IsUsedUp p used_up call = (i : Import) × (slice_get p.module_.imports call.import ≡ Some i) × (used_up i ≡ true)
