use Rattle.std.proofs.Common.{◌+◌, sym, ap, ◌∙◌, drop}
use Rattle.line_coverage.specs.inner.Visits.{ops_sum, bodies_sum}
use Rattle.line_coverage.proofs.VisitLaws.{adds_then, body_here}
use Rattle.line_coverage.proofs.visits.visits_of.Goals as goal

pub bodies-preserved : goal.bodies-preserved
bodies-preserved c visits behind =
    let bodies = c.as_slice-bodies.result.now in
    let cells = c.args.tally.now.cells in
    let i = c.bodies.function in
    let body = c.index-bodies-function.result in
    c.bodies.invariant visits (adds_then c.bodies.visits.entries c.add_body.new.visits.entries visits (ops_sum body.start body.ops c.of_function.result.now) (bodies_sum (drop (i + 1) bodies) (drop (i + 1) cells)) (bodies_sum (drop i bodies) (drop i cells))
    c.in_ok-add_body.ensures behind
    (λ q. body_here bodies cells i body q c.bodies-test.true c.index-bodies-function.is ∙ ap (λ ns. ops_sum body.start body.ops ns q + bodies_sum (drop (i + 1) bodies) (drop (i + 1) cells) q) (sym c.of_function.ensures)))
