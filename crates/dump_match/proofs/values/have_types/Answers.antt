use Rattle.std.proofs.Common.{◌<◌, length, sym, subst, ◌∙◌}
use Rattle.dump_match.proofs.ValueLaws.{other_length, fails_at}
use Rattle.dump_match.proofs.values.have_types.Goals as goal

pub returns-then-types-values : goal.returns-then-types-values
returns-then-types-values c = sym (other_length c.args.types.now c.args.values.now c.if-types-values.true)

pub returns-then-not-has_type : goal.returns-then-not-has_type
returns-then-not-has_type c =
    let lt : c.loop-i.i < length c.args.values.now = subst (λ n. c.loop-i.i < n) c.if-types-values.false c.loop-i-test.true in
    sym (fails_at c.args.types.now c.args.values.now c.loop-i.i _ _ c.loop-i-test.true lt (sym c.has_type.ensures ∙ c.if-not-has_type.true)) ∙ c.loop-i.invariant
