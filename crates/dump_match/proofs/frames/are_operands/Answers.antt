use Rattle.std.proofs.Common.{◌≡◌, ◌+◌, ◌<◌, ◌++◌, ◌&&◌, false, length, take, drop, reverse, sym, ap, subst, ◌∙◌}
use Rattle.dump_match.specs.Values.{have_types, can_be}
use Rattle.dump_match.proofs.ValueLaws.{other_length, filled, take_step}
use Rattle.dump_match.proofs.Spots.{count_of}
use Rattle.dump_match.proofs.frames.are_operands.Goals as goal

pub returns-then-values-count : goal.returns-then-values-count
returns-then-values-count c = λ st.
    let ts = take c.args.count (reverse (st.spot.here ++ st.spot.outside)) in
    let vs = c.as_slice-values.result.now in
    let n : length ts ≡ c.args.count = count_of c.args.m.now c.args.frame.now c.args.stand st c.args.count c.requires.below in
    let e : false ≡ can_be ts vs = sym (filled vs ts (sym c.is_empty.ensures ∙ c.if-is_empty.false) ∙ other_length ts vs (λ q. c.if-values-count.true (sym q ∙ n))) in
    subst (λ v. false ≡ can_be ts v) c.as_slice-values.ensures e

pub returns-then-not-has_type : goal.returns-then-not-has_type
returns-then-not-has_type c = λ st.
    let all = reverse (st.spot.here ++ st.spot.outside) in
    let ts = take c.args.count all in
    let vs = c.as_slice-values.result.now in
    let i = c.loop-i.i in
    let lt : i < length vs = subst (λ n. i < n) (sym c.if-values-count.false) c.loop-i-test.true in
    let step = take_step all c.args.count i c.operand-t.result vs _ (c.operand-t.ensures.typed all st.types) c.loop-i-test.true lt in
    let e : false ≡ can_be ts vs =
    sym (filled vs ts (sym c.is_empty.ensures ∙ c.if-is_empty.false) ∙ sym (c.loop-i.invariant st) ∙ step ∙ ap (λ b. b && have_types (drop (i + 1) ts) (drop (i + 1) vs)) (sym c.has_type.ensures ∙ c.if-not-has_type.true)) in
    subst (λ v. false ≡ can_be ts v) c.as_slice-values.ensures e

pub loop-i-preserved : goal.loop-i-preserved
loop-i-preserved c = λ st.
    let all = reverse (st.spot.here ++ st.spot.outside) in
    let ts = take c.args.count all in
    let vs = c.as_slice-values.result.now in
    let i = c.loop-i.i in
    let lt : i < length vs = subst (λ n. i < n) (sym c.if-values-count.false) c.loop-i-test.true in
    let step = take_step all c.args.count i c.operand-t.result vs _ (c.operand-t.ensures.typed all st.types) c.loop-i-test.true lt in
    sym (step ∙ ap (λ b. b && have_types (drop (i + 1) ts) (drop (i + 1) vs)) (sym c.has_type.ensures ∙ c.if-not-has_type.false)) ∙ c.loop-i.invariant st
