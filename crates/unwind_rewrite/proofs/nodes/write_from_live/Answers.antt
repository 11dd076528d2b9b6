use Rattle.std.proofs.Common.{length, ap, arith}
use Rattle.operand_spill.proofs.Steps.{point_room}
use Rattle.unwind_rewrite.specs.calls.Points.{code_in}
use Rattle.unwind_rewrite.proofs.PointLaws.{stands_inside, is_helped, goes_next, goes_out, shallow}
use Rattle.unwind_rewrite.proofs.nodes.write_from_live.Goals as goal

pub bounds-ops-index : goal.bounds-ops-index
bounds-ops-index c =
    let s = c.requires.stood in omega (arith, stands_inside c.args.context.now c.args.body.now s.0 s.1 c.args.index c.args.walk.now c.args.writer.now s.2, ap length c.as_slice-ops.ensures)

pub offset_bounds-ops-index : goal.offset_bounds-ops-index
offset_bounds-ops-index c =
    let s = c.requires.stood in omega (arith, stands_inside c.args.context.now c.args.body.now s.0 s.1 c.args.index c.args.walk.now c.args.writer.now s.2, c.requires.few)

pub overflow_add-result : goal.overflow_add-result
overflow_add-result c =
    let s = c.requires.stood in omega (arith, stands_inside c.args.context.now c.args.body.now s.0 s.1 c.args.index c.args.walk.now c.args.writer.now s.2, c.requires.few)

pub overflow_add-index : goal.overflow_add-index
overflow_add-index c =
    let s = c.requires.stood in omega (arith, stands_inside c.args.context.now c.args.body.now s.0 s.1 c.args.index c.args.walk.now c.args.writer.now s.2, c.requires.few)

pub write_live-requires-clause-helped : goal.write_live-requires-clause-helped
write_live-requires-clause-helped c =
    let s = c.requires.stood in
    is_helped c.args.context.now c.args.body.now.ops c.as_slice-ops.result.now c.args.index _ c.as_slice-ops.ensures (stands_inside c.args.context.now c.args.body.now s.0 s.1 c.args.index c.args.walk.now c.args.writer.now s.2) c.requires.helped

pub write_live-requires-clause-shallow : goal.write_live-requires-clause-shallow
write_live-requires-clause-shallow c = let s = c.requires.stood in shallow c.args.context.now c.args.body.now s.0 s.1 c.args.index c.args.walk.now c.args.writer.now c.requires.few s.2

pub write_live-requires-clause-room : goal.write_live-requires-clause-room
write_live-requires-clause-room c = let s = c.requires.stood in point_room c.args.context.now (code_in c.args.body.now) s.0 s.1 c.args.index c.args.walk.now c.args.writer.now s.2

pub returns-in-Next-clause-goes_on : goal.returns-in-Next-clause-goes_on
returns-in-Next-clause-goes_on c = λ start whole r.
    goes_next c.args.context.now c.passes-passing.result c.args.body.now c.as_slice-targets.result.now c.as_slice-ops.result.now start whole c.args.index _ c.args.walk.now c.write_live.new.walk c.in_ok-write_live.field-0 c.as_slice-targets.ensures c.as_slice-ops.ensures c.in-Next.is
    c.in_ok-write_live.ensures c.passes-passing.ensures r

pub returns-in-Next-clause-less : goal.returns-in-Next-clause-less
returns-in-Next-clause-less c =
    let s = c.requires.stood in omega (arith, stands_inside c.args.context.now c.args.body.now s.0 s.1 c.args.index c.args.walk.now c.args.writer.now s.2)

pub returns-in-Ends-clause-goes_on : goal.returns-in-Ends-clause-goes_on
returns-in-Ends-clause-goes_on c = λ start whole r.
    goes_out c.args.context.now c.passes-passing.result c.args.body.now c.as_slice-targets.result.now c.as_slice-ops.result.now start whole c.args.index c.end_of_list.result _ c.args.walk.now c.write_live.new.walk c.in_ok-write_live.field-0 c.as_slice-targets.ensures c.as_slice-ops.ensures c.in-Ends.is
    c.in_ok-write_live.ensures c.passes-passing.ensures c.end_of_list.ensures.forward c.end_of_list.ensures.end r
