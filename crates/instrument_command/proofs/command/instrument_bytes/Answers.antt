use Rattle.std.proofs.Common.{subst, arith}
use Rattle.wasm_bytes.specs.Laws.{IsBytes}
use Rattle.wasm_decode.specs.Decode.{module_from}
use Rattle.wasm_format_laws.proofs.Whole.{decoded}
use Rattle.commands.specs.calls.Loaded.{IsLoaded}
use Rattle.instrument_command.specs.InstrumentAnswer.{ModuleAnswer}
use Rattle.instrument_command.proofs.Answering.{with_module, without_module}
use Rattle.instrument_command.proofs.Stopping.{bytes_stop}
use Rattle.instrument_command.proofs.command.instrument_bytes.Goals as goal

pub instrument_valid-outcome-requires-clause-sized : goal.instrument_valid-outcome-requires-clause-sized
instrument_valid-outcome-requires-clause-sized g c =
    let known = subst (λ l. IsLoaded l (module_from c.args.bytes.now)) c.in-Value.is c.in_ok-loaded.ensures.told in
    let are : IsBytes c.args.bytes.now = λ i. omega (arith, c.type_inv.bytes i) in
    decoded c.args.bytes.now c.in-Value.source are known.0

pub returns-in-Value-clause-told : goal.returns-in-Value-clause-told
returns-in-Value-clause-told g c =
    let known = subst (λ l. IsLoaded l (module_from c.args.bytes.now)) c.in-Value.is c.in_ok-loaded.ensures.told in
    with_module (λ writes. ModuleAnswer c.args.out.now writes) (g.F.Files.told c.args.files.now) (g.F.Files.told c.instrument_valid-outcome.new.files) c.instrument_valid-outcome.result c.in-Value.source (module_from c.args.bytes.now) known.0 known.1 known.2 c.instrument_valid-outcome.ensures.told

pub returns-in-Value-clause-stops : goal.returns-in-Value-clause-stops
returns-in-Value-clause-stops g c =
    let known = subst (λ l. IsLoaded l (module_from c.args.bytes.now)) c.in-Value.is c.in_ok-loaded.ensures.told in
    bytes_stop c.args.out.now c.args.bytes.now c.in-Value.source (g.F.Files.told c.args.files.now) (g.F.Files.told c.instrument_valid-outcome.new.files) c.instrument_valid-outcome.result known.0 known.1 known.2 c.instrument_valid-outcome.ensures.stops

pub returns-in-Refused-clause-told : goal.returns-in-Refused-clause-told
returns-in-Refused-clause-told g c =
    let known = subst (λ l. IsLoaded l (module_from c.args.bytes.now)) c.in-Refused.is c.in_ok-loaded.ensures.told in
    without_module (λ writes. ModuleAnswer c.args.out.now writes) (g.F.Files.told c.args.files.now) (module_from c.args.bytes.now) c.in-Refused.refusal known
