use Rattle.std.proofs.Common.{◌∙◌, ◌≡◌, ◌+◌, ◌-◌, ◌<◌, true, length, sym, add-one, arith}
use Rattle.machine_steps.specs.calls.FramesMeet.{call_at}
use Rattle.machine_steps.proofs.StepLaws.{lifts}
use Rattle.machine_steps.proofs.ImportLaws.{import_meets}
use Rattle.machine_steps.proofs.steps.under_index.Goals as goal

pub returns-then-function-prepared : goal.returns-then-function-prepared
returns-then-function-prepared c = λ x code place h ce ip de.
    let lt : c.args.function < length x.engine.program.module_.imports = omega (arith, ip.imports) in
    import_meets x c.args.m.now code h (record { function = c.args.function; indirect = true; next = c.args.next }) place.operands place.at place.j place.rest place.node (place.index, place.operands_are) (c.requires ∙ add-one c.args.m.now.stack.position) lt

pub returns-else-function-prepared : goal.returns-else-function-prepared
returns-else-function-prepared c = λ x code place h ce ip de.
    let g : length x.engine.program.module_.imports + (c.args.function - c.args.prepared.now.imports) ≡ c.args.function = omega (arith, ip.imports) in
    lifts x c.args.m.now code h c.call_under_index.result c.of_frames.result (call_at x c.args.function place.operands place.at place.rest) c.call_under_index.new.m c.of_frames.ensures
    (rw g at (c.call_under_index.ensures x code place h.inner (ce ∙ sym c.deref.ensures.value) de))
