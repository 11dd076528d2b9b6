-- A call of an import with no frame (Core 4.4.7, host functions; 4.5.5).
use Rattle.std.specs.Prelude.{◌≡◌, List, Option, Some, None, option_map, if◌then◌else◌}
use Rattle.wasm_syntax.specs.declared.value.ValType.{ValType}
use Rattle.wasm_syntax.specs.declared.host.HostCall.{HostCall}
use Rattle.wasm_syntax.specs.declared.host.Reply.{Reply}
use Rattle.wasm_syntax.specs.declared.host.CollectorCall.{CollectorCall}
use Rattle.wasm_syntax.specs.Host.{World, fits_type, after_writes}
use Rattle.wasm_syntax.specs.Machine.{Engine}
use Rattle.wasm_syntax.specs.Run.{run_alone}
use Rattle.linear_memory.specs.Memory.{Memory}
use Rattle.machine_basics.specs.declared.shared.Shared.{Shared}
use Rattle.machine_hosted.specs.calls.Hosted.{Going, replying}
use Rattle.machine_hosted.specs.declared.answer.RunEnd.{RunEnd}
use Rattle.machine_hosted.specs.declared.answer.RunEnd.TheVariants.{Finished, Trapped, NoReply, BadReply, DeviceFault, FuelSpent, NoMemory}

-- the memory after a reply to a call with this result, where it fits
abbrev pub after_reply : Option ValType → Reply → World → Option (Option Memory)
after_reply wanted reply w = if fits_type wanted reply.value then after_writes w.memory reply.writes else None

-- the reply was taken, or what frames share is as it was
abbrev pub Took : RunEnd → Option ValType → Reply → World → (old new : Shared) → Type 0
Took (Finished value) wanted reply w old new =
    (value ≡ reply.value) × (after_reply wanted reply w ≡ Some (option_map (λ m. m.memory) new.memory)) × (new.globals ≡ old.globals)
Took (BadReply r) wanted reply w old new = (r ≡ reply) × (after_reply wanted reply w ≡ None) × (new ≡ old)
Took (Trapped kind) wanted reply w old new = ⊥
Took NoReply wanted reply w old new = ⊥
Took (DeviceFault name) wanted reply w old new = ⊥
Took FuelSpent wanted reply w old new = ⊥
Took NoMemory wanted reply w old new = Unit {0}

-- the call as a function of all replies and the number of steps
abbrev pub alone : Engine → HostCall → World → List CollectorCall → Going
alone M call w co replies n = run_alone M n call (replying w replies) co
