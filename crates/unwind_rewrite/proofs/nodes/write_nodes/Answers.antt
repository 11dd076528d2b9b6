use Rattle.std.proofs.Common.{rules, ◌≡◌, ◌-◌, true, [], sym, ap, ◌∙◌, arith}
use Rattle.operand_spill.specs.calls.Walking.{at_start}
use Rattle.rewrite_bodies.specs.calls.Rewrite.{rewrite}
use Rattle.unwind_rewrite.proofs.PointLaws.{stands_inside, begun, all_written}
use Rattle.unwind_rewrite.proofs.nodes.write_nodes.Goals as goal

pub overflow_sub-last : goal.overflow_sub-last
overflow_sub-last c =
    let t = c.requires.tree in
    let C = c.args.context.now in
    let r = begun C c.args.body.now t.tree c.new-walk.result c.args.writer.now t.writes t.fine (c.new-walk.ensures ∙ ap at_start c.gives.ensures) in
    omega (arith, stands_inside C c.args.body.now c.args.writer.now _ 0 c.new-walk.result c.args.writer.now r, c.len-last.ensures)

pub points-init : goal.points-init
points-init c = λ tree writes fine. begun c.args.context.now c.args.body.now tree c.new-walk.result c.args.writer.now writes fine (c.new-walk.ensures ∙ ap at_start c.gives.ensures)

pub write_from-requires-clause-stood : goal.write_from-requires-clause-stood
write_from-requires-clause-stood c =
    let t = c.requires.tree in
    (c.args.writer.now, rewrite c.args.context.now 1 [] t.tree.nodes, c.points.invariant t.tree t.writes t.fine)

pub points-preserved : goal.points-preserved
points-preserved c = λ tree writes fine.
    c.in_ok-point.ensures.goes_on c.args.writer.now (rewrite c.args.context.now 1 [] tree.nodes) (c.points.invariant tree writes fine)

pub returns : goal.returns
returns c = λ tree writes fine.
    let done : c.is_last.result ≡ true = search rules in
    all_written c.args.context.now c.args.body.now c.args.writer.now (rewrite c.args.context.now 1 [] tree.nodes) c.points.walk c.points.writer (c.len-last.result - 1) c.points.point (ap (λ n. n - 1) c.len-last.ensures)
    (sym c.is_last.ensures ∙ done) (c.points.invariant tree writes fine)
