use Rattle.std.proofs.Common.{◌∙◌, ◌≡◌, ◌+◌, ◌-◌, ◌<◌, false, length, refl, sym, subst, add-one, arith}
use Rattle.wasm_syntax.specs.Tree.{Call}
use Rattle.machine_steps.specs.calls.FramesMeet.{step_at}
use Rattle.machine_steps.proofs.JumpLaws.{jump_at}
use Rattle.machine_steps.proofs.CallLaws.{step_calls}
use Rattle.machine_steps.specs.declared.machine.Outcome.TheVariants.{Import}
use Rattle.machine_steps.specs.calls.Meets.{MeetsAt}
use Rattle.machine_steps.proofs.StepLaws.{lifts}
use Rattle.machine_steps.proofs.ImportLaws.{import_meets}
use Rattle.machine_steps.proofs.steps.direct.Goals as goal

pub returns-then-function-prepared : goal.returns-then-function-prepared
returns-then-function-prepared c = λ x code h ce ip de r.
    let i = jump_at x c.args.m.now.stack code h.inner (Call c.args.function) r in
    let lt : c.args.function < length x.engine.program.module_.imports = omega (arith, ip.imports) in
    subst (λ s. MeetsAt x (Import (record { function = c.args.function; indirect = false; next = c.args.next })) s c.args.m.now) (sym (step_calls x c.args.m.now.stack code h.inner c.args.function r))
    (import_meets x c.args.m.now code h (record { function = c.args.function; indirect = false; next = c.args.next }) x.label.operands i.at (Call c.args.function) i.rest i.is refl (c.requires ∙ add-one c.args.m.now.stack.position) lt)

pub returns-else-function-prepared : goal.returns-else-function-prepared
returns-else-function-prepared c = λ x code h ce ip de r.
    let g : c.args.function ≡ length x.engine.program.module_.imports + (c.args.function - c.args.prepared.now.imports) = omega (arith, ip.imports) in
    lifts x c.args.m.now code h c.call.result c.of_frames.result (step_at x) c.call.new.m c.of_frames.ensures (c.call.ensures x code c.args.function h.inner (ce ∙ sym c.deref.ensures.value) de g r)
