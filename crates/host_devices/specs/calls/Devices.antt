-- What a device does.
use Rattle.std.specs.Prelude.{◌≡◌, ℕ, ◌%◌, ◌^◌, List, [], ◌∷◌, ◌++◌, Option, Some, None}
use Rattle.wasm_syntax.specs.declared.value.ValType.{ValType}
use Rattle.wasm_syntax.specs.declared.value.ValType.TheVariants as types
use Rattle.wasm_syntax.specs.declared.value.Value.{Value}
use Rattle.wasm_syntax.specs.declared.value.Value.TheVariants as values
use Rattle.wasm_syntax.specs.declared.host.Reply.{Reply}
use Rattle.wasm_syntax.specs.declared.host.HostCall.{HostCall}
use Rattle.wasm_syntax.specs.declared.host.Served.{Served}
use Rattle.host_devices.specs.declared.device.DeviceAnswer.{DeviceAnswer}
use Rattle.host_devices.specs.declared.device.DeviceAnswer.TheVariants.{Replied, Failed, NoMemory}
use Rattle.host_devices.specs.calls.Faults.{Plan, one_more}

-- the log behind a call: exactly the call and the reply are added, where there is one
abbrev pub log_after : DeviceAnswer → HostCall → List Served → List Served
log_after (Replied reply) call log = log ++ record { call = call; reply = reply } ∷ []
log_after Failed call log = log
log_after NoMemory call log = log

-- the count of faults behind the call: one more exactly where it failed
abbrev pub count_after : DeviceAnswer → ℕ → ℕ
count_after (Replied reply) count = count
count_after Failed count = one_more count
count_after NoMemory count = count

-- ---- the devices of this crate

-- a console: its log, and the plan of failures
pub record ConsoleState : Type 0 where
  pub log : List Served
  pub plan : Plan

-- a script: its name, its log, the replies that are left, and the plan of failures
pub record ScriptState : Type 0 where
  pub name : List ℕ
  pub log : List Served
  pub left : List Reply
  pub plan : Plan

-- no value, and no writes
abbrev pub empty_reply : Reply
empty_reply = record { value = None; writes = [] }

-- a number as a value of a type, modulo 2^32 or 2^64
abbrev pub counted_value : Option ValType → ℕ → Option Value
counted_value None n = None
counted_value (Some types.I32) n = Some (values.I32 (n % 2 ^ 32))
counted_value (Some types.I64) n = Some (values.I64 (n % 2 ^ 64))

abbrev pub counted_reply : Option ValType → ℕ → Reply
counted_reply type n = record { value = counted_value type n; writes = [] }

-- A script gives its next reply, or uses none.
abbrev pub GivesNext : DeviceAnswer → List Reply → List Reply → Type 0
GivesNext (Replied reply) old new = old ≡ reply ∷ new
GivesNext Failed old new = new ≡ old
GivesNext NoMemory old new = new ≡ old
