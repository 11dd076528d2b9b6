use Rattle.std.proofs.Common.{subst}
use Rattle.wasm_decode.specs.Decode.{module_from}
use Rattle.commands.specs.calls.Loaded.{IsLoaded}
use Rattle.selftest_command.specs.inner.Steps.{IsCollected}
use Rattle.selftest_command.proofs.Steps.{ok_is, not_turned, run_told}
use Rattle.selftest_command.proofs.running.run_bytes.Goals as goal

pub run_module-outcome-requires : goal.run_module-outcome-requires
run_module-outcome-requires g c =
    let known = subst (λ l. IsLoaded l (module_from c.args.bytes.now)) c.in-Value.is c.in_ok-loaded.ensures.told in
    subst IsCollected (ok_is (module_from c.args.bytes.now) c.requires.decoded c.in-Value.source c.requires.is known.0) c.requires.collected

pub returns-in-Value : goal.returns-in-Value
returns-in-Value g c =
    let known = subst (λ l. IsLoaded l (module_from c.args.bytes.now)) c.in-Value.is c.in_ok-loaded.ensures.told in
    run_told c.args.count c.args.own.now c.args.bytes.now c.in-Value.source c.run_module-outcome.result known.0 c.run_module-outcome.ensures

pub returns-in-Refused : goal.returns-in-Refused
returns-in-Refused g c =
    let known = subst (λ l. IsLoaded l (module_from c.args.bytes.now)) c.in-Refused.is c.in_ok-loaded.ensures.told in
    absurd (not_turned c.args.bytes.now c.in-Refused.refusal c.requires known)
