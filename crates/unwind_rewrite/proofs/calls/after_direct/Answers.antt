use Rattle.rewrite_bodies.specs.calls.Slots.{less}
use Rattle.std.proofs.Common.{◌∙◌, sym}
use Rattle.rewrite_code.proofs.Loads.{when_ok}
use Rattle.unwind_rewrite.proofs.Calling.{came_back, came_import, came_defined}
use Rattle.unwind_rewrite.proofs.calls.after_direct.Goals as goal

pub returns-then-is_imported : goal.returns-then-is_imported
returns-then-is_imported c =
    when_ok (came_import c.args.context.now c.args.site.now.passing c.args.site.now.labels c.args.site.now.places.now c.args.site.now.offset c.args.function c.args.ftype.now c.len-count.result c.result_type-gives.result c.len-count.ensures c.result_type-gives.ensures (sym c.is_imported.ensures ∙ c.if-is_imported.true) c.in_ok-keep_left.ensures) c.renew.result c.renew.ensures

pub returns : goal.returns
returns c =
    let C = c.args.context.now in
    let site = c.args.site.now in
    let back = came_back C site.passing site.labels c.result_type-gives.result (less c.len-count.result site.places.now) site.offset c.in_ok-keep_left.ensures c.in_ok-test_flag.ensures in
    when_ok (λ m. came_defined C site.passing site.labels site.places.now site.offset c.args.function c.args.ftype.now c.len-count.result c.result_type-gives.result c.len-count.ensures c.result_type-gives.ensures (sym c.is_imported.ensures ∙ c.if-is_imported.false) (back m)) c.measure.result c.measure.ensures
