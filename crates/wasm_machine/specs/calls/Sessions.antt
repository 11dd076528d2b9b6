-- A list of invocations, one after the other (Core 4.5.5).
use Rattle.std.specs.Prelude.{◌≡◌, ℕ, ◌-◌, Bool, List, [], ◌∷◌, ◌++◌, if◌then◌else◌, Option, Some, None}
use Rattle.wasm_syntax.specs.declared.parts.Import.{Import}
use Rattle.wasm_syntax.specs.declared.host.Reply.{Reply}
use Rattle.wasm_syntax.specs.Module.{function_export}
use Rattle.wasm_syntax.specs.Machine.{Engine}
use Rattle.wasm_syntax.specs.Run.{Invocation, session}
use Rattle.machine_code.specs.declared.code.Code.{Code}
use Rattle.machine_steps.specs.declared.machine.Machine.{Machine}
use Rattle.machine_hosted.specs.calls.Hosted.{Asked}
use Rattle.host_devices.specs.Given.{replies_of}
use Rattle.machine_hosted.specs.declared.answer.RunEnd.{RunEnd}
use Rattle.machine_hosted.specs.declared.answer.RunEnd.TheVariants.{Finished, Trapped, NoReply, BadReply, DeviceFault, FuelSpent, NoMemory}
use Rattle.machine_hosted.specs.calls.Settings.{world_of}
use Rattle.machine_hosted.specs.calls.Invocations.{InvocationCame, invoking}

-- memory sufficed
abbrev pub HadMemory : RunEnd → Type 0
HadMemory NoMemory = ⊥
HadMemory (Finished value) = Unit {0}
HadMemory (Trapped kind) = Unit {0}
HadMemory NoReply = Unit {0}
HadMemory (BadReply reply) = Unit {0}
HadMemory (DeviceFault name) = Unit {0}
HadMemory FuelSpent = Unit {0}

-- Where the first invocation of a list came to something, that is the first run of the list's. Where another one may follow, the list goes on
-- with what the machine holds then, with the replies that are left and the steps that are left.
abbrev pub GoesOn : Type 0
GoesOn =
    (M : Engine) (codes : List Code) (used_up : Import → Bool) (i : Invocation) (rest : List Invocation) (f : ℕ) (due : Option ℕ) (m m' : Machine) (left : ℕ) (asked : Asked) (answer : RunEnd) (steps : ℕ) (ready entered : Bool) (more : List Reply) →
    function_export M.program.module_ i.name ≡ Some f → HadMemory answer →
    (came : InvocationCame M.program codes used_up (invoking M due f i.args (world_of m [])) left asked answer steps ready entered m' more) →
    session M (i ∷ rest) due (world_of m (replies_of asked.given ++ more)) left ≡ came.ran ∷ (if ready then session M rest None (world_of m' more) (left - steps) else [])
