-- What a reply to a call of an import does (Core 4.4.7).
use Rattle.std.specs.Prelude.{◌≡◌, ℕ, suc, Bool, true, false, List, ◌∷◌, ◌++◌, length, Option, option_to_list}
use Rattle.wasm_syntax.specs.declared.value.Value.{Value}
use Rattle.wasm_syntax.specs.declared.host.CollectorCall.{CollectorCall}
use Rattle.wasm_syntax.specs.Host.{World}
use Rattle.wasm_syntax.specs.Machine.{Engine, Config, config, Stepped, label}
use Rattle.machine_code.specs.declared.code.Code.{Code}
use Rattle.machine_steps.specs.calls.FramesMeet.{with_labels}
use Rattle.machine_steps.specs.declared.machine.Machine.{Machine}
use Rattle.machine_steps.specs.declared.machine.ImportCall.{ImportCall}
use Rattle.machine_steps.specs.calls.Meets.{StandsFor, CallsImport}

-- what a call takes from the operands
abbrev pub Taken : Bool → ℕ → List Value → Type 0
Taken false count taken = length taken ≡ count
Taken true count taken = length taken ≡ suc count

-- the machine stands behind the call, with the value of the reply over the operands below the arguments
abbrev pub Finished : (M : Engine) (codes : List Code) (c : Config) (call : ImportCall) (s : Stepped) (m : Machine) (h : CallsImport M codes c call s m) (w : World) (co : List CollectorCall) (value : Option Value) (below : List Value) → Machine → Type 0
Finished M codes c call s m h w co value below m' =
    StandsFor M.program codes m' (config (with_labels h.frame (label (option_to_list value ++ below) h.rest h.label.end h.label.kind ∷ h.outer) ∷ h.callers) w co)
