use Rattle.std.proofs.Common.{refl, sym, ap, ◌∙◌, ◌∷◌, [], ◌++◌, length, arith}
use Rattle.selftest_command.specs.Selftest.{number, function_code, body_of, bodies}
use Rattle.selftest_command.proofs.Ranges.{map_more}
use Rattle.selftest_command.proofs.Sizes.{length_code}
use Rattle.selftest_command.proofs.module.bodies.Goals as goal

pub loop-i-init : goal.loop-i-init
unfolding number
loop-i-init c = record { made = c.new-all.ensures; number_is = refl }

pub body_of-requires : goal.body_of-requires
body_of-requires c =
    let k = c.in_ok-code.ensures c.loop-i.invariant.number_is in
    omega (arith, ap length (c.as_slice.ensures ∙ k.0), length_code c.args.count c.loop-i.i)

pub loop-i-preserved : goal.loop-i-preserved
loop-i-preserved c =
    let k = c.in_ok-code.ensures c.loop-i.invariant.number_is in
    let n = c.args.count in
    let i = c.loop-i.i in
    record {
      made = c.in_ok-push.ensures.ok ∙ ap (λ l. l ++ c.in_ok-body_of.field-0 ∷ []) c.loop-i.invariant.made
          ∙ ap (λ b. bodies n i ++ b ∷ []) (c.in_ok-body_of.ensures ∙ ap body_of (c.as_slice.ensures ∙ k.0))
          ∙ sym (map_more (λ j. body_of (function_code n j)) i);
      number_is = k.1;
    }
