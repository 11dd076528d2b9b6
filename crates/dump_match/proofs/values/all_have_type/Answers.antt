use Rattle.std.proofs.Common.{◌+◌, ◌-◌, ◌&&◌, length, drop, replicate, sym, ap, ◌∙◌}
use Rattle.dump_match.specs.Values.{have_types}
use Rattle.dump_match.proofs.ValueLaws.{all_one}
use Rattle.dump_match.proofs.values.all_have_type.Goals as goal

pub returns-then-not-has_type : goal.returns-then-not-has_type
returns-then-not-has_type c =
    let rest = have_types (replicate (length c.args.values.now - (c.loop-i.i + 1)) c.args.t) (drop (c.loop-i.i + 1) c.args.values.now) in
    sym (all_one c.args.t c.args.values.now c.loop-i.i _ c.loop-i-test.true ∙ ap (λ b. b && rest) (sym c.has_type.ensures ∙ c.if-not-has_type.true)) ∙ c.loop-i.invariant

pub loop-i-preserved : goal.loop-i-preserved
loop-i-preserved c =
    let rest = have_types (replicate (length c.args.values.now - (c.loop-i.i + 1)) c.args.t) (drop (c.loop-i.i + 1) c.args.values.now) in
    sym (all_one c.args.t c.args.values.now c.loop-i.i _ c.loop-i-test.true ∙ ap (λ b. b && rest) (sym c.has_type.ensures ∙ c.if-not-has_type.false)) ∙ c.loop-i.invariant
