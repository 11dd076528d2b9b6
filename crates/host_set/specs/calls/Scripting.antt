-- A host side that gives recorded replies to the calls of all imports.
use Rattle.std.specs.Prelude.{◌≡◌, ℕ, ◌+◌, List, [], ◌∷◌, ◌++◌, Some, Bool, drop, length, slice_get}
use Rattle.std.specs.Option.{is_none}
use Rattle.wasm_syntax.specs.declared.parts.Import.{Import}
use Rattle.wasm_syntax.specs.declared.host.HostCall.{HostCall}
use Rattle.wasm_syntax.specs.declared.host.Reply.{Reply}
use Rattle.wasm_syntax.specs.declared.host.Served.{Served}
use Rattle.host_devices.specs.declared.host.HostAnswer.{HostAnswer}
use Rattle.host_devices.specs.declared.host.HostAnswer.TheVariants.{Replied, NoReply, Failed, NoMemory}
use Rattle.host_devices.specs.calls.HostSides.{Calls, Origin}

-- the imports of the module; all replies, and the number of the first one that is given; and the calls that were replied to, in order
pub record ScriptState : Type 0 where
  pub imports : List Import
  pub replies : List Reply
  pub first : ℕ
  pub calls : List HostCall

-- each call with its reply
abbrev pub with_replies : List HostCall → List Reply → List Served
with_replies [] replies = []
with_replies (call ∷ calls) [] = []
with_replies (call ∷ calls) (reply ∷ replies) = record { call = call; reply = reply } ∷ with_replies calls replies

-- the number of the next reply
abbrev pub next_of : ScriptState → ℕ
next_of s = s.first + length s.calls

-- the calls are served by the replies from the first one on
abbrev pub calls_of : ScriptState → Calls
calls_of s = record { served = with_replies s.calls (drop s.first s.replies); collected = [] }

-- There are no devices.
abbrev pub origin_of : ScriptState → Origin
origin_of s = record { imports = s.imports; names = []; logs = λ name. []; script = Some (drop s.first s.replies) }

-- the replies are at their end
abbrev pub is_used_up : ScriptState → Bool
is_used_up s = is_none (slice_get s.replies (next_of s))

-- A call is replied to by the next reply, and nothing else changes anything.
abbrev pub GivesNext : HostCall → HostAnswer → ScriptState → ScriptState → Type 0
GivesNext call (Replied reply) old new = (slice_get old.replies (next_of old) ≡ Some reply) × (new ≡ record old { calls = old.calls ++ call ∷ [] })
GivesNext call NoReply old new = new ≡ old
GivesNext call (Failed name) old new = ⊥
GivesNext call NoMemory old new = new ≡ old
