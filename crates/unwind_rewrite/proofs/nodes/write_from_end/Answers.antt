use Rattle.std.proofs.Common.{◌<◌, suc, length, arith}
use Rattle.unwind_rewrite.specs.calls.Points.{code_in}
use Rattle.unwind_rewrite.proofs.PointLaws.{block_open, saved_room, stands_behind, resumes_next}
use Rattle.unwind_rewrite.proofs.nodes.write_from_end.Goals as goal
use Rattle.rewrite_modules.proofs.Multiple.{code_length}

pub write_behind-requires-clause-behind : goal.write_behind-requires-clause-behind
write_behind-requires-clause-behind c =
    let s = c.requires.stood in stands_behind c.args.context.now c.args.body.now c.as_slice-ops.result.now s.0 s.1 c.args.index _ c.args.walk.now c.args.writer.now c.as_slice-ops.ensures s.2

pub write_behind-requires-clause-open : goal.write_behind-requires-clause-open
write_behind-requires-clause-open c =
    let s = c.requires.stood in
    let lt : suc c.args.index < length (code_in c.args.body.now) = omega (arith, c.requires.before_last, code_length c.args.body.now.targets c.args.body.now.ops) in
    block_open c.args.context.now (code_in c.args.body.now) s.0 s.1 c.args.index c.args.walk.now c.args.writer.now lt s.2

pub write_behind-requires-clause-room : goal.write_behind-requires-clause-room
write_behind-requires-clause-room c = let s = c.requires.stood in saved_room c.args.context.now (code_in c.args.body.now) s.0 s.1 c.args.index c.args.walk.now c.args.writer.now s.2

pub returns-clause-goes_on : goal.returns-clause-goes_on
returns-clause-goes_on c = λ start whole r.
    resumes_next c.args.context.now c.passes-passing.result c.args.body.now c.as_slice-ops.result.now start whole c.args.index _ c.args.walk.now c.write_behind.new.walk c.as_slice-ops.ensures c.requires.before_last c.in_ok-write_behind.ensures c.passes-passing.ensures r
