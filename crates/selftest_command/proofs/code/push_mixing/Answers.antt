use Rattle.std.proofs.Common.{◌+◌, ◌≡◌, ◌++◌, ℕ, sym, ap, ◌∙◌, arith}
use Rattle.std.specs.List.{flat_map, range_with_len}
use Rattle.std.proofs.lemmas.List.{append-nil}
use Rattle.selftest_command.specs.Selftest.{number, mixed}
use Rattle.selftest_command.proofs.Ranges.{mixed_more}
use Rattle.selftest_command.proofs.code.push_mixing.Goals as goal

pub loop-made-init : goal.loop-made-init
loop-made-init c = record {
  within = omega arith;
  mixes = λ n k e. let z : k ≡ k + 0 = omega arith in (sym (append-nil c.args.code.now), e ∙ ap (number n) z);
}

pub loop-made-preserved : goal.loop-made-preserved
loop-made-preserved c = record {
  within = omega (arith, c.loop-made-test.true);
  mixes = λ n k e.
      let h = c.loop-made.invariant.mixes n k e in
      mixed_more n k c.loop-made.made c.loop-made.r c.next-r.result c.loop-made.code c.args.code.now c.push_mixed.new.code h.1 c.next-r.ensures h.0 c.in_ok-push_mixed.ensures;
}

pub returns : goal.returns
returns c = λ n k e.
    let h = c.loop-made.invariant.mixes n k e in
    let all : c.loop-made.made ≡ 16 = omega (arith, c.loop-made-test.false, c.loop-made.invariant.within) in
    (h.0 ∙ ap (λ (m : ℕ). c.args.code.now ++ flat_map (λ j. mixed (number n j)) (range_with_len (k + 1) m)) all, h.1 ∙ ap (λ (m : ℕ). number n (k + m)) all)
