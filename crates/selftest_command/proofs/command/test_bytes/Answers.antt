use Rattle.std.proofs.Common.{refl, inl, subst, arith}
use Rattle.wasm_bytes.specs.Laws.{IsBytes}
use Rattle.wasm_decode.specs.Decode.{module_from}
use Rattle.wasm_format_laws.proofs.Whole.{decoded}
use Rattle.commands.specs.calls.Loaded.{IsLoaded}
use Rattle.selftest_command.proofs.Steps.{selftest_is, never_turned}
use Rattle.selftest_command.proofs.command.test_bytes.Goals as goal

pub returns-in_err-loaded-clause-names : goal.returns-in_err-loaded-clause-names
returns-in_err-loaded-clause-names g c = (g.F.Files.created c.args.files.now, inl refl, inl refl)

pub test_module-outcome-requires-clause-sized : goal.test_module-outcome-requires-clause-sized
test_module-outcome-requires-clause-sized g c =
    let known = subst (λ l. IsLoaded l (module_from c.args.bytes.now)) c.in-Value.is c.in_ok-loaded.ensures.told in
    let are : IsBytes c.args.bytes.now = λ i. omega (arith, c.type_inv.bytes i) in
    decoded c.args.bytes.now c.in-Value.source are known.0

pub test_module-outcome-requires-clause-selftest : goal.test_module-outcome-requires-clause-selftest
test_module-outcome-requires-clause-selftest g c =
    let known = subst (λ l. IsLoaded l (module_from c.args.bytes.now)) c.in-Value.is c.in_ok-loaded.ensures.told in
    let are : IsBytes c.args.bytes.now = λ i. omega (arith, c.type_inv.bytes i) in
    selftest_is c.args.count c.args.bytes.now c.in-Value.source c.requires.least c.requires.most are c.requires.bytes c.requires.same known.0 known.1 known.2

pub returns-in-Refused-clause-told : goal.returns-in-Refused-clause-told
returns-in-Refused-clause-told g c =
    let known = subst (λ l. IsLoaded l (module_from c.args.bytes.now)) c.in-Refused.is c.in_ok-loaded.ensures.told in
    let are : IsBytes c.args.bytes.now = λ i. omega (arith, c.type_inv.bytes i) in
    absurd (never_turned c.args.count c.args.bytes.now c.in-Refused.refusal c.requires.least c.requires.most are c.requires.bytes c.requires.same known)

pub returns-in-Refused-clause-names : goal.returns-in-Refused-clause-names
returns-in-Refused-clause-names g c = (g.F.Files.created c.args.files.now, inl refl, inl refl)
