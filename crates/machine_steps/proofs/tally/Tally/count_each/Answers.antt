use Rattle.std.proofs.Common.{◌≡◌, ◌+◌, ◌-◌, ◌++◌, suc, sym, subst, arith}
use Rattle.std.proofs.lemmas.List.{append-nil}
use Rattle.machine_steps.specs.calls.Tallies.{Counted}
use Rattle.machine_steps.specs.calls.Watches.{places_from}
use Rattle.machine_steps.proofs.TallyLaws.{counted_next}
use Rattle.machine_steps.proofs.tally.Tally.count_each.Goals as goal

pub loop-index-init : goal.loop-index-init
loop-index-init c =
    let none : 0 ≡ c.args.start - c.args.start = omega arith in
    record {
      from = omega arith;
      few = omega arith;
      so_far = λ m seen h. subst (λ n. Counted m c.args.self.now (seen ++ places_from m c.args.function c.args.start n)) none (subst (Counted m c.args.self.now) (sym (append-nil seen)) h);
    }

pub loop-index-preserved : goal.loop-index-preserved
loop-index-preserved c =
    let v = c.loop-index.invariant in
    let from = v.from in
    let lt = c.loop-index-test.true in
    let here : c.loop-index.index ≡ c.args.start + (c.loop-index.index - c.args.start) = omega (arith, from) in
    let one : suc (c.loop-index.index - c.args.start) ≡ (c.loop-index.index + 1) - c.args.start = omega (arith, from) in
    record {
      from = omega (arith, from);
      few = omega (arith, from, lt);
      so_far = λ m seen h.
          subst (λ n. Counted m c.count.new.self (seen ++ places_from m c.args.function c.args.start n)) one
          (counted_next m c.loop-index.self c.count.new.self seen c.args.function c.args.start (c.loop-index.index - c.args.start) c.loop-index.index here (c.count.ensures m (seen ++ places_from m c.args.function c.args.start (c.loop-index.index - c.args.start))) (v.so_far m seen h));
    }

pub returns : goal.returns
returns c = λ m seen h.
    let v = c.loop-index.invariant in
    let few = v.few in
    let past = c.loop-index-test.false in
    let all : c.loop-index.index - c.args.start ≡ c.args.end - c.args.start = omega (arith, few, past) in
    subst (λ n. Counted m c.loop-index.self (seen ++ places_from m c.args.function c.args.start n)) all (v.so_far m seen h)
