-- What a reply to a call of an import has to come to (Core 4.4.7, host functions).
use Rattle.std.specs.Prelude.{◌≡◌, true, List, ◌∷◌, ◌++◌, reverse, length, Option, None, if◌then◌else◌}
use Rattle.wasm_syntax.specs.declared.value.Value.{Value}
use Rattle.wasm_syntax.specs.declared.host.HostCall.{HostCall}
use Rattle.wasm_syntax.specs.declared.host.Reply.{Reply}
use Rattle.wasm_syntax.specs.declared.host.CollectorCall.{CollectorCall}
use Rattle.wasm_syntax.specs.Numbers.{types}
use Rattle.wasm_syntax.specs.Module.{same_types}
use Rattle.wasm_syntax.specs.Host.{collector_of}
use Rattle.wasm_syntax.specs.Machine as steps
use Rattle.wasm_syntax.specs.Machine.{Engine, Config, host_call}
use Rattle.machine_code.specs.declared.code.Code.{Code}
use Rattle.machine_steps.specs.declared.machine.Machine.{Machine}
use Rattle.machine_steps.specs.declared.machine.ImportCall.{ImportCall}
use Rattle.machine_steps.specs.calls.Meets.{StandsFor, CallsImport}
use Rattle.machine_hosted.specs.declared.reply.Replied.{Replied}
use Rattle.machine_hosted.specs.declared.reply.Replied.TheVariants.{Done, Misfit, NoMemory}

-- of the collector's call that a host call is, where these are collected
abbrev pub collects : Engine → HostCall → Option CollectorCall
collects M call = if M.collects then collector_of M.program.module_ call else None

module _ (M : Engine) (codes : List Code) (c : Config) (call : ImportCall) (s : steps.Stepped) (m : Machine) (h : CallsImport M codes c call s m) where
  -- the call with these arguments
  abbrev pub call_with : List Value → HostCall
  call_with args = host_call call.function h.import h.type args

  -- on no arguments of the parameters' types is the import one of the collector's that are collected
  abbrev pub NotCollected : Type 0
  NotCollected = (args : List Value) → same_types (types args) h.type.params ≡ true → collects M (call_with args) ≡ None

  -- the arguments, in the parameters' order, on top of the operands below
  pub record Takes (args below : List Value) : Type 0 where
    pub operands : h.operands ≡ reverse args ++ below
    pub count : length args ≡ length h.type.params

  -- the machine stands behind the call, and the call was served with this reply
  pub record Behind (reply : Reply) (left : List Reply) (m' : Machine) (c' : Config) : Type 0 where
    pub stands : StandsFor M.program codes m' c'
    pub args : List Value
    pub below : List Value
    pub takes : Takes args below
    pub served : c'.world.served ≡ record { call = call_with args; reply = reply } ∷ c.world.served
    pub replies : c'.world.replies ≡ left
    pub collected : c'.collected ≡ c.collected

  -- What was done is what the step gives. A stuck configuration binds nothing, and want of memory may come always.
  abbrev pub MeetsReply : Reply → List Reply → Replied → steps.Stepped → Machine → Type 0
  MeetsReply reply left NoMemory t m' = Unit {0}
  MeetsReply reply left Done (steps.next c') m' = Behind reply left m' c'
  MeetsReply reply left Done (steps.ends w vs co) m' = ⊥
  MeetsReply reply left Done (steps.traps k c') m' = ⊥
  MeetsReply reply left Done (steps.no_reply call' c') m' = ⊥
  MeetsReply reply left Done (steps.bad_reply call' r c') m' = ⊥
  MeetsReply reply left Done steps.stuck m' = Unit {0}
  MeetsReply reply left Misfit (steps.next c') m' = ⊥
  MeetsReply reply left Misfit (steps.ends w vs co) m' = ⊥
  MeetsReply reply left Misfit (steps.traps k c') m' = ⊥
  MeetsReply reply left Misfit (steps.no_reply call' c') m' = ⊥
  MeetsReply reply left Misfit (steps.bad_reply call' r c') m' = (r ≡ reply) × (m' ≡ m) × StandsFor M.program codes m' c'
  MeetsReply reply left Misfit steps.stuck m' = Unit {0}
