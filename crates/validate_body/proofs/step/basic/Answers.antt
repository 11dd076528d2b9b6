use Rattle.std.proofs.Common.{sym, subst}
use Rattle.validate_body.specs.inner.Stacked.{Did}
use Rattle.validate_body.specs.inner.Steps.{context_of}
use Rattle.validate_body.proofs.Through.{basic_is}
use Rattle.validate_body.proofs.step.basic.Goals as goal

pub returns-in_default : goal.returns-in_default
returns-in_default c = λ results.
    subst (λ o. Did c.with_shape.result o c.with_shape.new.stack) (sym (basic_is (context_of c.args.m.now c.args.locals.now results) c.args.stack.now c.args.i (c.in_default.not-Drop, c.in_default.not-Select))) (c.with_shape.ensures results)
