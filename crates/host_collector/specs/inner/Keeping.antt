-- What is kept of a call of the collector.
use Rattle.std.specs.Prelude.{◌≡◌, List, [], ◌∷◌, ◌++◌}
use Rattle.wasm_syntax.specs.declared.host.CollectorCall.{CollectorCall}
use Rattle.host_devices.specs.declared.host.HostAnswer.{HostAnswer}
use Rattle.host_devices.specs.declared.host.HostAnswer.TheVariants.{Replied, NoReply, Failed, NoMemory}
use Rattle.host_devices.specs.calls.Devices.{empty_reply}

-- An empty reply keeps exactly this call, and want of memory keeps nothing.
abbrev pub Keeps : CollectorCall → HostAnswer → List CollectorCall → List CollectorCall → Type 0
Keeps call (Replied reply) old new = (reply ≡ empty_reply) × (new ≡ old ++ call ∷ [])
Keeps call NoMemory old new = new ≡ old
Keeps call NoReply old new = ⊥
Keeps call (Failed name) old new = ⊥
