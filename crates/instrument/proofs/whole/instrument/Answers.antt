use Rattle.std.proofs.Common.{◌≡◌, sym, subst}
use Rattle.std.specs.Prelude.{None, Err}
use Rattle.wasm_syntax.specs.declared.module.ModuleParts.{ModuleParts as Module}
use Rattle.instrument.specs.Refusal.{Decided, OwnHeights, refusal}
use Rattle.instrument.proofs.Own.{own}
use Rattle.instrument.proofs.RefusedModules.{refused, answered}
use Rattle.instrument.proofs.whole.instrument.Goals as goal

pub admitted-requires-clause-heights : goal.admitted-requires-clause-heights
admitted-requires-clause-heights c =
    let m = c.args.source.now in
    let heights = c.heights.result.now in
    subst (λ (x : Module). OwnHeights x heights) (sym c.module.ensures.value) (own m heights c.module.ensures.valid c.heights.ensures c.module.ensures.heights)

pub returns-in-Err : goal.returns-in-Err
returns-in-Err c =
    let m = c.args.source.now in
    let heights = c.heights.result.now in
    let is : Decided (Err c.in-Err.fault) m heights = subst (λ (x : Module). Decided (Err c.in-Err.fault) x heights) c.module.ensures.value c.in-Err.ensures in
    refused m heights (own m heights c.module.ensures.valid c.heights.ensures c.module.ensures.heights) c.in-Err.fault is

pub returns-in-Ok : goal.returns-in-Ok
returns-in-Ok c =
    let m = c.args.source.now in
    let heights = c.heights.result.now in
    let decided = c.in-Ok.ensures in
    let none : refusal m heights ≡ None = subst (λ (x : Module). refusal x heights ≡ None) c.module.ensures.value decided.1 in
    answered m heights (own m heights c.module.ensures.valid c.heights.ensures c.module.ensures.heights) none c.rewritten.result c.rewritten.ensures
