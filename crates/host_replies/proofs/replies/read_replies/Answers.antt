use Rattle.std.proofs.Common.{arith}
use Rattle.std.proofs.lemmas.Result.{err_from_is_err_and}
use Rattle.std.specs.Prelude.{◌==◌}
use Rattle.host_replies.proofs.Lines.{some_parts, last_done, last_fails, line_added, line_fails}
use Rattle.host_replies.proofs.replies.read_replies.Goals as goal

pub returns-in_err-add_line : goal.returns-in_err-add_line
returns-in_err-add_line c =
    let p = err_from_is_err_and c.from_residual.result c.from_residual.ensures.1 in
    rw (p.1, p.2) (last_fails _ _ c.loop-behind.replies _ c.first_part.result.0.now _ c.in_err-add_line.field-0.0 c.loop-behind.invariant.read (rw c.in_default.is at c.first_part.ensures.parts) c.in_err-add_line.ensures)

pub returns-in_default : goal.returns-in_default
returns-in_default c =
    last_done _ _ c.loop-behind.replies _ c.first_part.result.0.now _ c.loop-behind.invariant.read (rw c.in_default.is at c.first_part.ensures.parts) c.in_ok-add_line.ensures

pub returns-in_err-add_line-2 : goal.returns-in_err-add_line-2
returns-in_err-add_line-2 c =
    let p = err_from_is_err_and c.from_residual-in_err-add_line-2.result c.from_residual-in_err-add_line-2.ensures.1 in
    rw (p.1, p.2) (line_fails _ _ c.loop-behind.replies _ c.without_return.result.now c.first_part.result.0.now _ _ c.in_err-add_line-2.field-0.0 c.loop-behind.invariant.read (rw c.in-Some.is at c.first_part.ensures.parts)
    (some_parts (λ b. b == 10) c.in-Some.behind.now) c.without_return.ensures.line c.in_err-add_line-2.ensures)

pub loop-behind-preserved : goal.loop-behind-preserved
loop-behind-preserved c = record {
  read =
      line_added _ _ c.loop-behind.replies _ c.without_return.result.now c.first_part.result.0.now _ _ c.loop-behind.invariant.read (rw c.in-Some.is at c.first_part.ensures.parts) (some_parts (λ b. b == 10) c.in-Some.behind.now)
      c.without_return.ensures.line c.in_ok-add_line-2.ensures;
  counted = omega (arith, c.loop-behind.invariant.counted, rw c.in-Some.is at c.first_part.ensures.shorter);
}
