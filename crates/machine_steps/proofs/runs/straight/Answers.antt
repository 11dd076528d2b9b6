use Rattle.std.proofs.Common.{◌≡◌, ◌+◌, ◌-◌, ◌<◌, ◌++◌, ◌∷◌, [], ◌∙◌, suc, length, ap, subst, sym, refl, arith}
use Rattle.std.specs.Prelude.{slice_get, take, drop}
use Rattle.machine_steps.specs.calls.Watches.{place_at, places_from}
use Rattle.machine_steps.specs.inner.Turns.{Ran, Made, Went, placed}
use Rattle.machine_steps.specs.declared.machine.Outcome.TheVariants.{Next, Stuck}
use Rattle.machine_steps.proofs.StepLaws.{from_config, has_op, reads}
use Rattle.machine_steps.proofs.PlaceLaws.{first_stands}
use Rattle.machine_steps.proofs.PartLaws.{first_of_part, behind_first, one_fewer, empty_part, none_behind}
use Rattle.machine_steps.proofs.StraightLaws.{ran_more, made_run, went_one, went_run}
use Rattle.machine_steps.proofs.runs.straight.Goals as goal

pub loop-op-preserved : goal.loop-op-preserved
loop-op-preserved g c =
    let v = c.loop-op.invariant in
    let f = first_of_part c.args.ops.now (c.args.m.now.stack.position + (length c.part-rest.result.now - length c.loop-op.rest.now)) (c.args.left.now - (length c.part-rest.result.now - length c.loop-op.rest.now)) c.loop-op.rest.now c.in-Some.op.now v.part c.in-Some.ensures.value in
    let some = f.some in
    let one = f.one in
    let below = f.below in
    let shorter = v.shorter in
    let few = v.few in
    let room = c.part-rest.ensures.room in
    let len = one_fewer c.loop-op.rest.now in
    let more : length c.part-rest.result.now - length (take (length c.loop-op.rest.now - 1) (drop 1 c.loop-op.rest.now)) ≡ suc (length c.part-rest.result.now - length c.loop-op.rest.now) = omega (arith, one, shorter, len) in
    let fewer : c.args.left.now - (length c.part-rest.result.now - length (take (length c.loop-op.rest.now - 1) (drop 1 c.loop-op.rest.now))) ≡ (c.args.left.now - (length c.part-rest.result.now - length c.loop-op.rest.now)) - 1 = omega (arith, more) in
    let further : c.args.m.now.stack.position + (length c.part-rest.result.now - length (take (length c.loop-op.rest.now - 1) (drop 1 c.loop-op.rest.now))) ≡ suc (c.args.m.now.stack.position + (length c.part-rest.result.now - length c.loop-op.rest.now)) = omega (arith, more) in
    let further_too : (c.args.m.now.stack.position + (length c.part-rest.result.now - length c.loop-op.rest.now)) + 1 ≡ c.args.m.now.stack.position + (length c.part-rest.result.now - length (take (length c.loop-op.rest.now - 1) (drop 1 c.loop-op.rest.now))) = omega (arith, more) in
    let frame = ap (λ l. slice_get l 0) v.frames ∙ c.requires.frame in
    record {
      part = ap (λ k. take k (drop (c.args.m.now.stack.position + (length c.part-rest.result.now - length (take (length c.loop-op.rest.now - 1) (drop 1 c.loop-op.rest.now)))) c.args.ops.now)) fewer ∙ ap (λ k. take ((c.args.left.now - (length c.part-rest.result.now - length c.loop-op.rest.now)) - 1) (drop k c.args.ops.now)) further ∙ f.rest ∙ sym (behind_first c.loop-op.rest.now);
      shorter = omega (arith, len, shorter);
      within = omega (arith, more, below, room);
      few = omega (arith, more, some);
      kept = v.kept;
      frames = c.in-Straight.ensures.stays ∙ v.frames;
      watched = v.watched;
      so_far = λ prepared depth n first ci reached.
          subst (λ k. Ran prepared depth first n c.args.innermost.now.frame.function c.args.m.now.stack.position (length c.part-rest.result.now - length (take (length c.loop-op.rest.now - 1) (drop 1 c.loop-op.rest.now))) (placed k c.basic.new.m)) further_too
          (subst (λ k. Ran prepared depth first n c.args.innermost.now.frame.function c.args.m.now.stack.position k (placed ((c.args.m.now.stack.position + (length c.part-rest.result.now - length c.loop-op.rest.now)) + 1) c.basic.new.m)) (sym more)
          (ran_more prepared depth first n c.args.innermost.now.frame.function c.args.m.now.stack.position (length c.part-rest.result.now - length c.loop-op.rest.now) (placed (c.args.m.now.stack.position + (length c.part-rest.result.now - length c.loop-op.rest.now)) c.loop-op.m) (placed ((c.args.m.now.stack.position + (length c.part-rest.result.now - length c.loop-op.rest.now)) + 1) c.basic.new.m) (v.so_far prepared depth n first ci reached)
          (first_stands c.loop-op.m.stack.frames c.args.innermost.now.frame (c.args.m.now.stack.position + (length c.part-rest.result.now - length c.loop-op.rest.now)) frame)
          (λ M k ip de st. from_config M prepared.codes.items ip.codes (placed (c.args.m.now.stack.position + (length c.part-rest.result.now - length c.loop-op.rest.now)) c.loop-op.m) Next (placed ((c.args.m.now.stack.position + (length c.part-rest.result.now - length c.loop-op.rest.now)) + 1) c.basic.new.m) k c.args.innermost.now.frame c.args.innermost.now.code.now st frame ci (λ x h ee ce. c.in-Straight.ensures.meets x c.args.innermost.now.code.now (c.args.m.now.stack.position + (length c.part-rest.result.now - length c.loop-op.rest.now)) h (rw c.in-Basic.is at (reads (placed (c.args.m.now.stack.position + (length c.part-rest.result.now - length c.loop-op.rest.now)) c.loop-op.m).stack c.args.innermost.now.code.now c.in-Some.op.now (ap (λ l. slice_get l (c.args.m.now.stack.position + (length c.part-rest.result.now - length c.loop-op.rest.now))) (sym c.requires.ops) ∙ f.at)))))));
    }

pub see_run-requires : goal.see_run-requires
see_run-requires g c =
    let v = c.loop-op.invariant in
    let f = first_of_part c.args.ops.now (c.args.m.now.stack.position + (length c.part-rest.result.now - length c.loop-op.rest.now)) (c.args.left.now - (length c.part-rest.result.now - length c.loop-op.rest.now)) c.loop-op.rest.now c.in-Some.op.now v.part c.in-Some.ensures.value in
    let below = f.below in
    let room = c.part-rest.ensures.room in
    record { room = omega (arith, below, room) }

pub returns-in-Came-clause-went : goal.returns-in-Came-clause-went
returns-in-Came-clause-went g c = λ prepared depth start fuel first before ci le sl b.
    let v = c.loop-op.invariant in
    let f = first_of_part c.args.ops.now (c.args.m.now.stack.position + (length c.part-rest.result.now - length c.loop-op.rest.now)) (c.args.left.now - (length c.part-rest.result.now - length c.loop-op.rest.now)) c.loop-op.rest.now c.in-Some.op.now v.part c.in-Some.ensures.value in
    let some = f.some in
    let kept = v.kept in
    let frame = ap (λ l. slice_get l 0) v.frames ∙ c.requires.frame in
    let one : (length c.part-rest.result.now - length c.loop-op.rest.now) + 1 ≡ suc (length c.part-rest.result.now - length c.loop-op.rest.now) = omega arith in
    subst (λ n. Went g.W.Watch.Saw prepared depth first before start fuel c.basic.new.told n (placed (c.args.m.now.stack.position + (length c.part-rest.result.now - length c.loop-op.rest.now)) c.basic.new.m) c.see_run.new.self) (omega (arith, some, le, kept))
    (went_run g.W.Watch.Saw prepared depth first before (fuel - c.args.left.now) (length c.part-rest.result.now - length c.loop-op.rest.now) c.args.innermost.now.frame.function c.args.m.now.stack.position c.args.m.now (placed (c.args.m.now.stack.position + (length c.part-rest.result.now - length c.loop-op.rest.now)) c.loop-op.m) (placed (c.args.m.now.stack.position + (length c.part-rest.result.now - length c.loop-op.rest.now)) c.basic.new.m) c.args.watch.now c.see_run.new.self b
    (v.so_far prepared depth (fuel - c.args.left.now) first ci b.reached)
    (first_stands c.loop-op.m.stack.frames c.args.innermost.now.frame (c.args.m.now.stack.position + (length c.part-rest.result.now - length c.loop-op.rest.now)) frame)
    (λ x seen h. subst (λ k. g.W.Watch.Saw x c.see_run.new.self (seen ++ places_from x c.args.innermost.now.frame.function c.args.m.now.stack.position k)) one (c.see_run.ensures.saw x seen (subst (λ w. g.W.Watch.Saw x w seen) (sym v.watched) h)))
    start fuel (omega (arith, sl)) (omega (arith, some, le)) c.basic.new.told c.in-Came.ensures.no_call
    (λ M k ip de st. from_config M prepared.codes.items ip.codes (placed (c.args.m.now.stack.position + (length c.part-rest.result.now - length c.loop-op.rest.now)) c.loop-op.m) c.basic.new.told (placed (c.args.m.now.stack.position + (length c.part-rest.result.now - length c.loop-op.rest.now)) c.basic.new.m) k c.args.innermost.now.frame c.args.innermost.now.code.now st frame ci (λ x h ee ce. c.in-Came.ensures.meets x c.args.innermost.now.code.now (c.args.m.now.stack.position + (length c.part-rest.result.now - length c.loop-op.rest.now)) h (rw c.in-Basic.is at (reads (placed (c.args.m.now.stack.position + (length c.part-rest.result.now - length c.loop-op.rest.now)) c.loop-op.m).stack c.args.innermost.now.code.now c.in-Some.op.now (ap (λ l. slice_get l (c.args.m.now.stack.position + (length c.part-rest.result.now - length c.loop-op.rest.now))) (sym c.requires.ops) ∙ f.at))))))

pub returns-in_default-code-clause-went : goal.returns-in_default-code-clause-went
returns-in_default-code-clause-went g c = λ prepared depth start fuel first before ci le sl b.
    let v = c.loop-op.invariant in
    let few = v.few in
    let kept = v.kept in
    subst (λ n. Made g.W.Watch.Saw prepared depth first before n (placed (c.args.m.now.stack.position + (length c.part-rest.result.now - length c.loop-op.rest.now)) c.loop-op.m) c.see_run-in_default-code.new.self) (omega (arith, few, le, kept)) (made_run g.W.Watch.Saw prepared depth first before (fuel - c.args.left.now) (length c.part-rest.result.now - length c.loop-op.rest.now) c.args.innermost.now.frame.function c.args.m.now.stack.position c.args.m.now (placed (c.args.m.now.stack.position + (length c.part-rest.result.now - length c.loop-op.rest.now)) c.loop-op.m) c.args.watch.now c.see_run-in_default-code.new.self b (v.so_far prepared depth (fuel - c.args.left.now) first ci b.reached) (λ x seen h. c.see_run-in_default-code.ensures.saw x seen (subst (λ w. g.W.Watch.Saw x w seen) (sym v.watched) h)))

pub returns-in_default-code-clause-at : goal.returns-in_default-code-clause-at
returns-in_default-code-clause-at g c =
    let v = c.loop-op.invariant in
    let f = first_of_part c.args.ops.now (c.args.m.now.stack.position + (length c.part-rest.result.now - length c.loop-op.rest.now)) (c.args.left.now - (length c.part-rest.result.now - length c.loop-op.rest.now)) c.loop-op.rest.now c.in-Some.op.now v.part c.in-Some.ensures.value in
    f.at

pub returns-in_default-code-clause-other : goal.returns-in_default-code-clause-other
returns-in_default-code-clause-other g c = λ i e. c.in_default-code.not-Basic i e

pub returns-in_default-code-clause-stays : goal.returns-in_default-code-clause-stays
returns-in_default-code-clause-stays g c = c.loop-op.invariant.frames

pub returns-in_default-code-clause-room : goal.returns-in_default-code-clause-room
returns-in_default-code-clause-room g c =
    let v = c.loop-op.invariant in
    let f = first_of_part c.args.ops.now (c.args.m.now.stack.position + (length c.part-rest.result.now - length c.loop-op.rest.now)) (c.args.left.now - (length c.part-rest.result.now - length c.loop-op.rest.now)) c.loop-op.rest.now c.in-Some.op.now v.part c.in-Some.ensures.value in
    let below = f.below in
    let room = c.part-rest.ensures.room in
    omega (arith, below, room)

pub returns-in_default-code-clause-some_left : goal.returns-in_default-code-clause-some_left
returns-in_default-code-clause-some_left g c =
    let v = c.loop-op.invariant in
    let f = first_of_part c.args.ops.now (c.args.m.now.stack.position + (length c.part-rest.result.now - length c.loop-op.rest.now)) (c.args.left.now - (length c.part-rest.result.now - length c.loop-op.rest.now)) c.loop-op.rest.now c.in-Some.op.now v.part c.in-Some.ensures.value in
    let some = f.some in
    let kept = v.kept in
    omega (arith, some, kept)

pub returns-then-left-eq0-clause-went : goal.returns-then-left-eq0-clause-went
returns-then-left-eq0-clause-went g c = λ prepared depth start fuel first before ci le sl b.
    let v = c.loop-op.invariant in
    let kept = v.kept in
    let few = v.few in
    let over = empty_part c.loop-op.rest.now c.in_default.ensures.value in
    let all : (length c.part-rest.result.now - length c.loop-op.rest.now) ≡ length c.part-rest.result.now = omega (arith, over) in
    let none = c.if-left-eq0.true in
    let some = c.requires.some in (
      omega (arith, sl, some, none, kept, le),
      omega arith,
      subst (λ n. Made g.W.Watch.Saw prepared depth first before n (placed (c.args.m.now.stack.position + length c.part-rest.result.now) c.loop-op.m) c.see_run-2.new.self) (omega (arith, few, all, le, kept))
          (made_run g.W.Watch.Saw prepared depth first before (fuel - c.args.left.now) (length c.part-rest.result.now) c.args.innermost.now.frame.function c.args.m.now.stack.position c.args.m.now (placed (c.args.m.now.stack.position + (length c.part-rest.result.now)) c.loop-op.m) c.args.watch.now c.see_run-2.new.self b (subst (λ k. Ran prepared depth first (fuel - c.args.left.now) c.args.innermost.now.frame.function c.args.m.now.stack.position k (placed (c.args.m.now.stack.position + k) c.loop-op.m)) all (v.so_far prepared depth (fuel - c.args.left.now) first ci b.reached)) (λ x seen h. c.see_run-2.ensures.saw x seen (subst (λ w. g.W.Watch.Saw x w seen) (sym v.watched) h))),
    )

pub returns-clause-went : goal.returns-clause-went
returns-clause-went g c = λ prepared depth start fuel first before ci le sl b.
    let v = c.loop-op.invariant in
    let kept = v.kept in
    let over = empty_part c.loop-op.rest.now c.in_default.ensures.value in
    let all : (length c.part-rest.result.now - length c.loop-op.rest.now) ≡ length c.part-rest.result.now = omega (arith, over) in
    let more = c.if-left-eq0.false in
    let some : 0 < c.args.left.now - length c.part-rest.result.now = omega (arith, kept, more) in
    let some_too : 0 < (c.args.left.now - (length c.part-rest.result.now - length c.loop-op.rest.now)) = omega (arith, some, all) in
    let frame = ap (λ l. slice_get l 0) v.frames ∙ c.requires.frame in
    subst (λ n. Went g.W.Watch.Saw prepared depth first before start fuel Stuck n (placed (c.args.m.now.stack.position + length c.part-rest.result.now) c.loop-op.m) c.see.new.self) (omega (arith, some, le, kept))
    (went_one g.W.Watch.Saw prepared depth first before (fuel - c.args.left.now + length c.part-rest.result.now) (placed (c.args.m.now.stack.position + length c.part-rest.result.now) c.loop-op.m) c.see_run-2.new.self (made_run g.W.Watch.Saw prepared depth first before (fuel - c.args.left.now) (length c.part-rest.result.now) c.args.innermost.now.frame.function c.args.m.now.stack.position c.args.m.now (placed (c.args.m.now.stack.position + (length c.part-rest.result.now)) c.loop-op.m) c.args.watch.now c.see_run-2.new.self b (subst (λ k. Ran prepared depth first (fuel - c.args.left.now) c.args.innermost.now.frame.function c.args.m.now.stack.position k (placed (c.args.m.now.stack.position + k) c.loop-op.m)) all (v.so_far prepared depth (fuel - c.args.left.now) first ci b.reached)) (λ x seen h. c.see_run-2.ensures.saw x seen (subst (λ w. g.W.Watch.Saw x w seen) (sym v.watched) h))) (placed (c.args.m.now.stack.position + length c.part-rest.result.now) c.loop-op.m) c.see.new.self
    (λ x seen h. subst (λ p. g.W.Watch.Saw x c.see.new.self (seen ++ place_at x p ∷ [])) (c.standing.ensures (placed (c.args.m.now.stack.position + length c.part-rest.result.now) c.loop-op.m) frame refl) (c.see.ensures.saw x seen h))
    start fuel (omega (arith, sl)) (omega (arith, some, le)) Stuck (λ call e. cc)
    (λ M k ip de st. from_config M prepared.codes.items ip.codes (placed (c.args.m.now.stack.position + length c.part-rest.result.now) c.loop-op.m) Stuck (placed (c.args.m.now.stack.position + length c.part-rest.result.now) c.loop-op.m) k c.args.innermost.now.frame c.args.innermost.now.code.now st frame ci (λ x h ee ce. absurd (has_op x (placed (c.args.m.now.stack.position + length c.part-rest.result.now) c.loop-op.m).stack c.args.innermost.now.code.now h.inner (ap (λ l. slice_get l (c.args.m.now.stack.position + length c.part-rest.result.now)) (sym c.requires.ops) ∙ ap (λ k. slice_get c.args.ops.now (c.args.m.now.stack.position + k)) (sym all) ∙ none_behind c.args.ops.now (c.args.m.now.stack.position + (length c.part-rest.result.now - length c.loop-op.rest.now)) (c.args.left.now - (length c.part-rest.result.now - length c.loop-op.rest.now)) some_too (ap length v.part ∙ over))))))
