use Rattle.std.proofs.Common.{◌≡◌, ◌∙◌, ◌<◌, ◌≤◌, length, refl, sym, ap, subst, add-one}
use Rattle.std.specs.Prelude.{slice_get, Some}
use Rattle.machine_steps.specs.calls.FramesMeet.{Meets, call_at, step_at}
use Rattle.machine_steps.specs.declared.layout.Stepped.TheVariants.{Trap, Stuck}
use Rattle.machine_basics.specs.declared.answer.TrapKind.TheVariants.{StackExhausted}
use Rattle.machine_steps.proofs.Points.{stuck_meets}
use Rattle.wasm_syntax.specs.Tree.{Call}
use Rattle.machine_steps.proofs.JumpLaws.{jump_at}
use Rattle.machine_steps.proofs.CallLaws.{step_calls, site_of, call_meets, call_full, no_code}
use Rattle.machine_steps.proofs.calls.call.Goals as goal

pub returns-then-is_full : goal.returns-then-is_full
returns-then-is_full c = λ x code g h ce de ge r.
    let i = jump_at x c.args.m.now code h (Call g) r in
    let le : x.engine.depth ≤ length c.args.m.now.frames = subst (λ d. d ≤ length c.args.m.now.frames) (sym de) (c.if-is_full.ensures.full refl) in
    let callee_is : slice_get x.codes c.args.function ≡ Some c.in-Some.callee.now = ap (λ l. slice_get l c.args.function) ce ∙ c.in-Some.ensures in
    subst (λ s. Meets x (Trap StackExhausted) s c.args.m.now) (sym (step_calls x c.args.m.now code h g r ∙ ap (λ n. call_at x n x.label.operands i.at i.rest) ge))
    (call_full x x.label.operands i.at i.rest c.args.function c.in-Some.callee.now h.prepares callee_is c.args.m.now code h le)

pub returns-else-is_full : goal.returns-else-is_full
returns-else-is_full c = λ x code g h ce de ge r.
    let i = jump_at x c.args.m.now code h (Call g) r in
    let lt : length c.args.m.now.frames < x.engine.depth = subst (λ d. length c.args.m.now.frames < d) (sym de) (c.if-is_full.ensures.room refl) in
    let callee_is : slice_get x.codes c.args.function ≡ Some c.in-Some.callee.now = ap (λ l. slice_get l c.args.function) ce ∙ c.in-Some.ensures in
    subst (λ s. Meets x c.enter.result s c.enter.new.m) (sym (step_calls x c.args.m.now code h g r ∙ ap (λ n. call_at x n x.label.operands i.at i.rest) ge))
    (call_meets x x.label.operands i.at i.rest c.args.function c.in-Some.callee.now h.prepares callee_is c.args.m.now code (site_of x c.args.m.now code h (Call g) i) c.args.next (c.requires ∙ add-one c.args.m.now.position) c.enter.result c.enter.new.m lt c.enter.ensures)

pub returns-in-None : goal.returns-in-None
returns-in-None c = λ x code g h ce de ge r.
    let i = jump_at x c.args.m.now code h (Call g) r in
    stuck_meets x Stuck (step_at x) c.args.m.now (step_calls x c.args.m.now code h g r ∙ ap (λ n. call_at x n x.label.operands i.at i.rest) ge ∙ no_code x x.label.operands i.at i.rest c.args.function h.prepares (ap (λ l. slice_get l c.args.function) ce ∙ c.in-None.ensures))
