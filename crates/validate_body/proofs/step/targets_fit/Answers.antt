use Rattle.std.proofs.Common.{sym, ap, ◌∙◌, ◌-◌, ◌+◌, take, drop, arith}
use Rattle.std.specs.Prelude.{◌&&◌}
use Rattle.validate_body.specs.calls.Algorithm.{targets_fit}
use Rattle.validate_body.proofs.Through.{target_next}
use Rattle.validate_body.proofs.step.targets_fit.Goals as goal

pub returns-else-target_fits : goal.returns-else-target_fits
returns-else-target_fits c =
    sym (c.loop-n.invariant.same ∙ target_next c.args.stack.now c.args.t c.args.targets.now c.loop-n.k c.loop-n.n c.if-k-targets.false c.loop-n-test.true
    ∙ ap (λ b. b && targets_fit c.args.stack.now c.args.t (take (c.loop-n.n - 1) (drop (c.loop-n.k + 1) c.args.targets.now))) (sym c.target_fits.ensures ∙ c.if-target_fits.false))

pub loop-n-preserved : goal.loop-n-preserved
loop-n-preserved c = record {
  within = omega (arith, c.loop-n.invariant.within, c.loop-n-test.true);
  same = c.loop-n.invariant.same ∙ target_next c.args.stack.now c.args.t c.args.targets.now c.loop-n.k c.loop-n.n c.if-k-targets.false c.loop-n-test.true
      ∙ ap (λ b. b && targets_fit c.args.stack.now c.args.t (take (c.loop-n.n - 1) (drop (c.loop-n.k + 1) c.args.targets.now))) (sym c.target_fits.ensures ∙ c.if-target_fits.true);
}
