-- What a host side answers to a call of an import.
use Rattle.std.specs.Prelude.{◌≡◌, ℕ, List, [], ◌∷◌, ◌++◌, Option, Some, None, Bool, true, false, option_to_list, if◌then◌else◌}
use Rattle.wasm_syntax.specs.declared.parts.Import.{Import}
use Rattle.wasm_syntax.specs.declared.parts.FuncType.{FuncType}
use Rattle.wasm_syntax.specs.declared.host.HostCall.{HostCall}
use Rattle.wasm_syntax.specs.declared.host.Reply.{Reply}
use Rattle.wasm_syntax.specs.declared.host.Served.{Served}
use Rattle.wasm_syntax.specs.declared.host.CollectorCall.{CollectorCall}
use Rattle.wasm_syntax.specs.Host.{collector_call, if_none}
use Rattle.wasm_syntax.specs.Numbers.{types}
use Rattle.causes.specs.Counts.{Rose}
use Rattle.host_devices.specs.declared.host.HostAnswer.{HostAnswer}
use Rattle.host_devices.specs.declared.host.HostAnswer.TheVariants.{Replied, NoReply, Failed, NoMemory}
use Rattle.host_devices.specs.calls.Devices.{empty_reply}

-- What a host side began with: the imports that it serves, by their indices; the names of its devices, and the log that each had; the replies
-- of a script, if there is one.
pub record Origin : Type 0 where
  pub imports : List Import
  pub names : List (List ℕ)
  pub logs : List ℕ → List Served
  pub script : Option (List Reply)

-- The call has arguments and a result of the type.
abbrev pub IsOfType : FuncType → HostCall → Type 0
IsOfType ftype call = (types call.args ≡ ftype.params) × (option_to_list call.result ≡ ftype.results)

-- the call of the collector that this is, where the host side collects
abbrev pub told : Bool → Import → HostCall → Option CollectorCall
told collects import call = if collects then if_none call.result (collector_call import call.args) else None

-- the calls that were served, and those of the collector
pub record Calls : Type 0 where
  pub served : List Served
  pub collected : List CollectorCall

-- A reply to a call of the collector adds it, and carries nothing. Any other reply is served.
abbrev pub Adds : Option CollectorCall → HostCall → Reply → Calls → Calls → Type 0
Adds (Some k) call reply old new = (new.served ≡ old.served) × (new.collected ≡ old.collected ++ k ∷ []) × (reply ≡ empty_reply)
Adds None call reply old new = (new.served ≡ old.served ++ record { call = call; reply = reply } ∷ []) × (new.collected ≡ old.collected)

-- Only a reply adds to the calls. A call of the collector is replied to, unless memory runs out.
abbrev pub Answers : Option CollectorCall → HostCall → HostAnswer → Calls → Calls → Type 0
Answers k call (Replied reply) old new = Adds k call reply old new
Answers k call NoReply old new = (new ≡ old) × (k ≡ None)
Answers k call (Failed name) old new = (new ≡ old) × (k ≡ None)
Answers k call NoMemory old new = new ≡ old

-- The import has no reply left exactly where that is answered, or memory ran out.
abbrev pub IsExhausted : Bool → HostAnswer → Type 0
IsExhausted used_up (Replied reply) = used_up ≡ false
IsExhausted used_up NoReply = used_up ≡ true
IsExhausted used_up (Failed name) = used_up ≡ false
IsExhausted used_up NoMemory = Unit {0}

-- A fault has the name of the import's module, and the count of that name rose.
abbrev pub HasCause : Import → HostAnswer → (List ℕ → ℕ) → (List ℕ → ℕ) → Type 0
HasCause import (Failed name) before now = (name ≡ import.«module») × Rose (before name) (now name)
HasCause import (Replied reply) before now = Unit {0}
HasCause import NoReply before now = (name : List ℕ) → now name ≡ before name
HasCause import NoMemory before now = Unit {0}

-- what is used up stays so, where there is no reply or a fault
abbrev pub KeepsUse : HostAnswer → (Import → Bool) → (Import → Bool) → Type 0
KeepsUse (Replied reply) before now = Unit {0}
KeepsUse NoReply before now = (import : Import) → now import ≡ before import
KeepsUse (Failed name) before now = (import : Import) → now import ≡ before import
KeepsUse NoMemory before now = Unit {0}
