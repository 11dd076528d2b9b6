use Rattle.std.proofs.Common.{◌≡◌, ℕ, ◌+◌, ◌-◌, ap, subst, arith}
use Rattle.machine_hosted.specs.declared.answer.RunEnd.TheVariants.{FuelSpent}
use Rattle.replay.specs.declared.point.Point.{Point}
use Rattle.replay.specs.inner.Tracks.{ReachedAt}
use Rattle.replay.proofs.Tracks.{copy_stands}
use Rattle.replay.proofs.point.Point.copy_at.Goals as goal

pub advance-requires : goal.advance-requires
advance-requires c =
    let q = c.args.self.now in
    let made = c.steps.ensures in
    let before = c.requires.before in
    let fits = c.ranges.step.fits in
    record {
      waits = (
        q.instance.steps,
        copy_stands c.args.recorded.now q.instance.steps FuelSpent q c.in_ok-copy.copy c.requires.waits c.in_ok-copy.ensures.same,
        omega (arith, made, before, fits),
      );
    }

pub returns-in-Ok-clause-reached : goal.returns-in-Ok-clause-reached
returns-in-Ok-clause-reached c =
    let x = c.args.recorded.now in
    let q = c.args.self.now in
    let made = c.steps.ensures in
    let before = c.requires.before in
    let w = copy_stands x q.instance.steps FuelSpent q c.in_ok-copy.copy c.requires.waits c.in_ok-copy.ensures.same in
    let all : q.instance.steps + (c.args.step - c.steps.result) ≡ c.args.step = omega (arith, made, before) in
    (c.in-Ok.answer, subst (λ (n : ℕ). ReachedAt x n c.in-Ok.answer c.advance.new.self) all (c.in-Ok.ensures.came q.instance.steps w))

pub returns-in-Ok-clause-since : goal.returns-in-Ok-clause-since
returns-in-Ok-clause-since c =
    let made = c.steps.ensures in
    let before = c.requires.before in
    let since = c.advance.ensures.since in
    let none = ap (λ (q : Point). q.instance.since_copy) c.in_ok-copy.ensures.same in
    omega (arith, made, before, since, none)
