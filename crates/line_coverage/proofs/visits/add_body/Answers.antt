use Rattle.std.proofs.Common.{◌+◌, subst, ap, drop}
use Rattle.std.proofs.lemmas.List.{drop_all}
use Rattle.line_coverage.specs.inner.Sums.{Adds}
use Rattle.line_coverage.specs.inner.Visits.{ops_sum}
use Rattle.line_coverage.proofs.VisitLaws.{adds_nothing, adds_then, op_at}
use Rattle.line_coverage.proofs.visits.add_body.Goals as goal

pub ops-preserved : goal.ops-preserved
ops-preserved c visits behind =
    let start = c.args.body.now.start in
    let ops = c.as_slice-ops.result.now in
    let cells = c.args.cells.now in
    let i = c.ops.index in
    c.ops.invariant visits (adds_then c.ops.visits.entries c.add_op.new.visits.entries visits _ (ops_sum start (drop (i + 1) ops) (drop (i + 1) cells)) (ops_sum start (drop i ops) (drop i cells)) c.in_ok-add_op.ensures behind
    (λ q. op_at start ops cells i c.cell-steps.result _ q c.ops-test.true c.cell-steps.ensures))

pub returns : goal.returns
returns c =
    let start = c.args.body.now.start in
    let ops = c.as_slice-ops.result.now in
    let cells = c.args.cells.now in
    let i = c.ops.index in
    subst (λ xs. Adds c.args.visits.now.entries c.ops.visits.entries (ops_sum start xs cells)) c.as_slice-ops.ensures
    (c.ops.invariant c.ops.visits.entries (adds_nothing c.ops.visits.entries (ops_sum start (drop i ops) (drop i cells)) (λ q. ap (λ xs. ops_sum start xs (drop i cells) q) (drop_all i ops c.ops-test.false))))
