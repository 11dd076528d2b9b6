use Rattle.std.proofs.Common.{◌≡◌, ◌∙◌, ◌<◌, ◌≤◌, length, drop, refl, sym, ap, subst, add-one}
use Rattle.std.specs.Prelude.{slice_get, Some}
use Rattle.machine_steps.specs.declared.layout.Stepped.TheVariants.{Stuck}
use Rattle.machine_steps.proofs.Points.{stuck_meets}
use Rattle.machine_steps.proofs.CallLaws.{popped_site, call_meets, call_full, no_code}
use Rattle.machine_steps.proofs.calls.call_under_index.Goals as goal

pub returns-then-is_full : goal.returns-then-is_full
returns-then-is_full c = λ x code place h ce de.
    let le : x.engine.depth ≤ length c.args.m.now.frames = subst (λ d. d ≤ length c.args.m.now.frames) (sym de) (c.if-is_full.ensures.full refl) in
    let callee_is : slice_get x.codes c.args.function ≡ Some c.in-Some.callee.now = ap (λ l. slice_get l c.args.function) ce ∙ c.in-Some.ensures in
    call_full x place.operands place.at place.rest c.args.function c.in-Some.callee.now h.prepares callee_is c.args.m.now code h le

pub returns-else-is_full : goal.returns-else-is_full
returns-else-is_full c = λ x code place h ce de.
    let lt : length c.args.m.now.frames < x.engine.depth = subst (λ d. length c.args.m.now.frames < d) (sym de) (c.if-is_full.ensures.room refl) in
    let callee_is : slice_get x.codes c.args.function ≡ Some c.in-Some.callee.now = ap (λ l. slice_get l c.args.function) ce ∙ c.in-Some.ensures in
    let site = popped_site x c.args.m.now code h place in
    call_meets x place.operands place.at place.rest c.args.function c.in-Some.callee.now h.prepares callee_is (record c.args.m.now { values = drop 1 c.args.m.now.values }) code site c.args.next (c.requires ∙ add-one c.args.m.now.position) c.enter.result c.enter.new.m lt
    (rw c.discard.ensures at c.enter.ensures)

pub returns-in-None : goal.returns-in-None
returns-in-None c = λ x code place h ce de. stuck_meets x Stuck _ c.args.m.now (no_code x place.operands place.at place.rest c.args.function h.prepares (ap (λ l. slice_get l c.args.function) ce ∙ c.in-None.ensures))
