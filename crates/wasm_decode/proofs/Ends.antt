-- A result that says only whether what was filled stands, with what was filled.
use Rattle.std.specs.Prelude.{IfErr, OnOk}
use Rattle.std.proofs.Common.{◌≡◌, Result, Ok, Err, sym}
use Rattle.std.specs.Result.{result_and}
use Rattle.wasm_syntax.specs.declared.module.ModuleParts.{ModuleParts}
use Rattle.wasm_decode.specs.declared.fault.DecodeFault.{DecodeFault}
use Rattle.wasm_decode.specs.Decode.{Answers}

pub and_answers : {X : Type 0} (r : Result X DecodeFault) (m : ModuleParts) (answer : Result ModuleParts DecodeFault)
    → OnOk r (answer ≡ Ok m) → IfErr r (λ fault. Answers (Err fault) answer) → Answers (result_and r (Ok m)) answer
and_answers (Ok x) m answer ok err = sym ok
and_answers (Err e) m answer ok err = err
