use Rattle.std.proofs.Common.{◌-◌, ◌++◌, ◌∷◌, ◌∙◌, [], ap, subst, sym, refl, arith}
use Rattle.std.specs.Prelude.{slice_get}
use Rattle.machine_steps.specs.calls.Watches.{place_at}
use Rattle.machine_steps.specs.inner.Turns.{Made, Went}
use Rattle.machine_steps.proofs.StraightLaws.{made_more, went_call, went_one}
use Rattle.machine_steps.proofs.runs.steps_in.Goals as goal

pub loop-left-init : goal.loop-left-init
loop-left-init g c = record {
  few = omega arith;
  frame = c.requires.frame;
  so_far = λ first before b. subst (λ n. Made g.W.Watch.Saw c.args.prepared.now c.args.depth first before n c.args.m.now c.args.watch.now) (omega (arith, c.requires.fuel)) b;
}

pub overflow_sub-result : goal.overflow_sub-result
overflow_sub-result g c = omega (arith, c.straight.ensures.few, c.loop-left.invariant.few)

pub step_in-requires-clause-room : goal.step_in-requires-clause-room
step_in-requires-clause-room g c = c.in-Some.ensures.room

pub loop-left-preserved : goal.loop-left-preserved
loop-left-preserved g c =
    let few = c.loop-left.invariant.few in
    let less = c.requires.fuel in
    let fewer = c.straight.ensures.few in
    let some = c.in-Some.ensures.some_left in
    let frame = ap (λ l. slice_get l 0) c.in-Some.ensures.stays ∙ c.loop-left.invariant.frame in
    record {
      few = omega (arith, fewer, few);
      frame = ap (λ l. slice_get l 0) c.in-Straight.ensures.stays ∙ frame;
      so_far = λ first before b.
          subst (λ n. Made g.W.Watch.Saw c.args.prepared.now c.args.depth first before n c.step_in.new.m c.see.new.self) (omega (arith, some, fewer, few))
          (made_more g.W.Watch.Saw c.args.prepared.now c.args.depth first before (c.args.steps.fuel - c.straight.new.left) c.straight.new.m c.straight.new.watch (c.in-Some.ensures.went c.args.prepared.now c.args.depth c.args.steps.made c.args.steps.fuel first before c.requires.code (omega (arith, few)) (omega (arith, few, less)) (c.loop-left.invariant.so_far first before b)) c.step_in.new.m c.see.new.self
          (λ x seen h. subst (λ p. g.W.Watch.Saw x c.see.new.self (seen ++ place_at x p ∷ [])) (c.standing.ensures c.straight.new.m frame refl) (c.see.ensures.saw x seen h))
          c.in-Straight.ensures.meets);
    }

pub returns-in-Import : goal.returns-in-Import
returns-in-Import g c = λ first before b.
    let few = c.loop-left.invariant.few in
    let less = c.requires.fuel in
    let fewer = c.straight.ensures.few in
    let some = c.in-Some.ensures.some_left in
    let frame = ap (λ l. slice_get l 0) c.in-Some.ensures.stays ∙ c.loop-left.invariant.frame in
    subst (λ o. Went g.W.Watch.Saw c.args.prepared.now c.args.depth first before c.args.steps.made c.args.steps.fuel o (c.args.steps.fuel - c.straight.new.left) c.step_in.new.m c.see.new.self) (sym c.in-Import.is)
    (went_call g.W.Watch.Saw c.args.prepared.now c.args.depth first before (c.args.steps.fuel - c.straight.new.left) c.straight.new.m c.straight.new.watch (c.in-Some.ensures.went c.args.prepared.now c.args.depth c.args.steps.made c.args.steps.fuel first before c.requires.code (omega (arith, few)) (omega (arith, few, less)) (c.loop-left.invariant.so_far first before b)) c.step_in.new.m c.see.new.self
    (λ x seen h. subst (λ p. g.W.Watch.Saw x c.see.new.self (seen ++ place_at x p ∷ [])) (c.standing.ensures c.straight.new.m frame refl) (c.see.ensures.saw x seen h))
    c.args.steps.made c.args.steps.fuel (omega (arith, fewer, few, less)) (omega (arith, some, fewer, few)) c.in-Import.field-0 (rw c.in-Import.is at c.in-Came.ensures.meets))

pub returns-in_default-told : goal.returns-in_default-told
returns-in_default-told g c = λ first before b.
    let few = c.loop-left.invariant.few in
    let less = c.requires.fuel in
    let fewer = c.straight.ensures.few in
    let some = c.in-Some.ensures.some_left in
    let frame = ap (λ l. slice_get l 0) c.in-Some.ensures.stays ∙ c.loop-left.invariant.frame in
    subst (λ n. Went g.W.Watch.Saw c.args.prepared.now c.args.depth first before c.args.steps.made c.args.steps.fuel c.step_in.new.told n c.step_in.new.m c.see.new.self) (omega arith)
    (went_one g.W.Watch.Saw c.args.prepared.now c.args.depth first before (c.args.steps.fuel - c.straight.new.left) c.straight.new.m c.straight.new.watch (c.in-Some.ensures.went c.args.prepared.now c.args.depth c.args.steps.made c.args.steps.fuel first before c.requires.code (omega (arith, few)) (omega (arith, few, less)) (c.loop-left.invariant.so_far first before b)) c.step_in.new.m c.see.new.self
    (λ x seen h. subst (λ p. g.W.Watch.Saw x c.see.new.self (seen ++ place_at x p ∷ [])) (c.standing.ensures c.straight.new.m frame refl) (c.see.ensures.saw x seen h))
    c.args.steps.made c.args.steps.fuel (omega (arith, fewer, few, less)) (omega (arith, some, fewer, few)) c.step_in.new.told (λ call e. c.in_default-told.not-Import call e) c.in-Came.ensures.meets)
