-- Modules that were validated.
use Rattle.std.proofs.Common.{◌≡◌, Result, Ok, sym, ap, ◌∙◌}
use Rattle.wasm_syntax.specs.declared.module.ModuleParts.{ModuleParts as Module}
use Rattle.wasm_syntax.specs.Valid.{Valid}
use Rattle.wasm_validate.specs.calls.Answers.{Answered}
use Rattle.wasm_validate.specs.Heights.{AllLow}
use Rattle.wasm_decode.specs.declared.fault.DecodeFault.{DecodeFault}

-- the validated module is the one that was decoded
pub validated : (v m : Module) (decoded : Result Module DecodeFault) → Ok m ≡ decoded → Answered (Ok v) m → (decoded ≡ Ok v) × Valid v × AllLow v
validated v m decoded same (e, valid, low) = (sym same ∙ ap Ok (sym e), rw e valid, rw e low)
