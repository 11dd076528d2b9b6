use Rattle.std.proofs.Common.{◌≡◌, ℕ, ◌≤◌, false, List, Ok, arith}
use Rattle.wasm_syntax.specs.declared.host.Reply.{Reply}
use Rattle.wasm_syntax.specs.declared.module.ModuleParts.{ModuleParts as Module}
use Rattle.wasm_syntax.specs.Module.{Program, IsProgram, IsModule}
use Rattle.wasm_syntax.specs.Sizes.{WithinLimits}
use Rattle.wasm_syntax.specs.Valid.{Valid}
use Rattle.wasm_syntax.specs.Run.{Invocation, run}
use Rattle.wasm_bytes.specs.Laws.{IsBytes}
use Rattle.wasm_decode.specs.Decode.{module_from}
use Rattle.rewrite_modules.specs.Instrumentable.{program_of}
use Rattle.rewrite_modules.specs.Multiple.{multiple}
use Rattle.rewrite_modules.specs.Simulates.{Simulates, NoneDeep}
use Rattle.rewrite_promise.specs.Admitted.{Admits}
use Rattle.rewrite_promise.proofs.Decoded.{limits}
use Rattle.accept_laws.specs.calls.Ranges.{InRanges}
use Rattle.accept_laws.proofs.Spelled.{decoded}
use Rattle.accept_laws.proofs.Traps.{traps_accepted}
use Rattle.accept_laws.proofs.Collecting.{HandsOverIn, handed_over}
use Rattle.accept_laws.proofs.laws.collected_dumps_are_accepted.Goals as goal

simulating : (factor : ℕ) (p other : Program) → Simulates factor p other → IsProgram p → IsModule p.module_ → Valid p.module_ → WithinLimits p.module_ → InRanges p.module_ → (is : List Invocation) (replies : List Reply) (d n : ℕ) → 1 ≤ d → d ≤ 10000 → NoneDeep (run p false is replies d n) → HandsOverIn p other is replies d n
simulating factor p other sim writes whole valid within ranges is replies d n low high none =
    handed_over factor p other sim is replies d n low high none (traps_accepted p false is replies d n writes whole valid within ranges (omega (arith, high)))

written : (bytes written : List ℕ) (m : Module) → IsBytes bytes → module_from bytes ≡ Ok m → Valid m → (these : Admits m written) → (is : List Invocation) (replies : List Reply) (d n : ℕ) → 1 ≤ d → d ≤ 10000 → NoneDeep (run (program_of m these.whole) false is replies d n)
    → HandsOverIn (program_of m these.whole) (program_of these.decoded these.decoded_whole) is replies d n
written bytes out m fits e valid these is replies d n low high none =
    simulating (multiple m these.heights) (program_of m these.whole) (program_of these.decoded these.decoded_whole) these.simulates these.whole.write these.whole valid (limits bytes m fits e) (decoded bytes m fits e) is replies d n low high none

pub returns : goal.returns
returns c = record {
  simulating = simulating;
  written = written;
}
