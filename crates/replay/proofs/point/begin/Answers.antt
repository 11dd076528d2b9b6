use Rattle.std.proofs.Common.{refl}
use Rattle.machine_hosted.specs.declared.answer.RunEnd.TheVariants.{FuelSpent}
use Rattle.replay.proofs.Begins.{begun_waits}
use Rattle.replay.proofs.point.begin.Goals as goal

pub returns-then-going : goal.returns-then-going
returns-then-going c =
    let x = c.args.recorded.now in
    let r = c.invoke-answer in
    begun_waits x c.given-next.result c.depth.result c.entry.result.now c.args-2.result.now c.hosts-hosts.result r.new.hosts c.args.instance.now r.new.self r.result FuelSpent (c.is_going-going.ensures c.if-going.true) refl
    c.entry.ensures c.args-2.ensures c.depth.ensures c.hosts-hosts.ensures.whole c.requires
    (record { begun = c.hosts-hosts.ensures.value; origin = r.ensures.host.origin_is; counted = c.given-next.ensures.count; given = c.given-next.ensures.given; left = c.given-next.ensures.left })
    r.ensures.came r.ensures.module_ r.ensures.prepared
