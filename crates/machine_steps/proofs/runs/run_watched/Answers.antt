use Rattle.std.proofs.Common.{◌≡◌, subst, refl, arith}
use Rattle.machine_steps.specs.declared.machine.Outcome.TheVariants.{Next}
use Rattle.machine_steps.specs.calls.Runs.{Reached}
use Rattle.machine_steps.specs.calls.Watched.{Saw}
use Rattle.machine_steps.specs.inner.Turns.{Went}
use Rattle.machine_steps.proofs.StraightLaws.{made_none, is_over}
use Rattle.machine_steps.proofs.WatchLaws.{watched_all}
use Rattle.machine_steps.proofs.runs.run_watched.Goals as goal

pub loop-made-init : goal.loop-made-init
loop-made-init g c = record { few = omega arith; so_far = made_none g.W.Watch.Saw c.args.prepared.now c.args.depth c.args.m.now c.args.watch.now }

pub loop-made-preserved : goal.loop-made-preserved
loop-made-preserved g c =
    let w : Went g.W.Watch.Saw c.args.prepared.now c.args.depth c.args.m.now c.args.watch.now c.loop-made.made c.args.fuel Next c.go_on-steps.result c.go_on-steps.new.m c.go_on-steps.new.watch =
    rw c.in-Next.is at (c.go_on-steps.ensures c.args.m.now c.args.watch.now c.loop-made.invariant.so_far) in record { few = w.1; so_far = w.2 }

pub loop-made-smaller : goal.loop-made-smaller
loop-made-smaller g c =
    let w : Went g.W.Watch.Saw c.args.prepared.now c.args.depth c.args.m.now c.args.watch.now c.loop-made.made c.args.fuel Next c.go_on-steps.result c.go_on-steps.new.m c.go_on-steps.new.watch =
    rw c.in-Next.is at (c.go_on-steps.ensures c.args.m.now c.args.watch.now c.loop-made.invariant.so_far) in omega (arith, w.0, w.1)

pub returns-in_default-clause-came : goal.returns-in_default-clause-came
returns-in_default-clause-came g c = λ engine k b.
    (is_over g.W.Watch.Saw c.args.prepared.now c.args.depth c.args.m.now c.args.watch.now c.loop-made.made c.args.fuel c.go_on-steps.new.told c.go_on-steps.result c.go_on-steps.new.m c.go_on-steps.new.watch (λ e. c.in_default.not-Next e)
    (c.go_on-steps.ensures c.args.m.now c.args.watch.now c.loop-made.invariant.so_far)).came engine k b

pub returns-in_default-clause-watched : goal.returns-in_default-clause-watched
returns-in_default-clause-watched g c =
    (is_over g.W.Watch.Saw c.args.prepared.now c.args.depth c.args.m.now c.args.watch.now c.loop-made.made c.args.fuel c.go_on-steps.new.told c.go_on-steps.result c.go_on-steps.new.m c.go_on-steps.new.watch (λ e. c.in_default.not-Next e)
    (c.go_on-steps.ensures c.args.m.now c.args.watch.now c.loop-made.invariant.so_far)).watched

pub returns-clause-came : goal.returns-clause-came
returns-clause-came g c = λ engine k b.
    let at_end : c.loop-made.made ≡ c.args.fuel = omega (arith, c.loop-made.invariant.few) in
    (refl, subst (λ n. Reached engine c.args.prepared.now.codes.items k n c.loop-made.m) at_end (c.loop-made.invariant.so_far.reached engine k b))

pub returns-clause-watched : goal.returns-clause-watched
returns-clause-watched g c =
    let at_end : c.loop-made.made ≡ c.args.fuel = omega (arith, c.loop-made.invariant.few) in
    watched_all g.W.Watch.Saw c.args.prepared.now c.args.depth c.args.m.now c.args.watch.now c.args.fuel c.loop-made.watch
    (subst (λ n. Saw g.W.Watch.Saw c.args.prepared.now c.args.depth c.args.m.now n c.args.watch.now c.loop-made.watch) at_end c.loop-made.invariant.so_far.seen)
