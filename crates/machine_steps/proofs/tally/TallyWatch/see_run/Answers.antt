use Rattle.std.proofs.Common.{◌≡◌, ◌≤◌, ◌+◌, ◌-◌, ◌++◌, sym, subst, length, arith}
use Rattle.std.specs.Prelude.{slice_index_or, []}
use Rattle.machine_steps.specs.calls.Tallies.{Counts, Counted}
use Rattle.machine_steps.specs.calls.Watches.{places_from}
use Rattle.machine_steps.specs.inner.Cells.{counts_run}
use Rattle.machine_steps.proofs.TallyLaws.{counted_run}
use Rattle.machine_steps.proofs.tally.TallyWatch.see_run.Goals as goal

pub returns-then-reaches : goal.returns-then-reaches
returns-then-reaches c = record {
  saw = λ m seen h.
      let t = c.args.self.now in
      let e : (c.args.start + c.args.count) - c.args.start ≡ c.args.count = omega arith in
      let few : c.args.start + c.args.count ≤ length (slice_index_or t.cells c.args.function []) = c.reaches.ensures c.if-reaches.true in
      subst (λ (x : Counts). Counted m x (seen ++ places_from m c.args.function c.args.start c.args.count)) (sym c.count_cells.ensures)
      (subst (λ n. Counted m (record { cells = counts_run t.cells c.args.function c.args.start n; elsewhere = t.elsewhere }) (seen ++ places_from m c.args.function c.args.start c.args.count)) (sym e) (counted_run m t seen h c.args.function c.args.start c.args.count few));
}

pub returns-else-reaches : goal.returns-else-reaches
returns-else-reaches c = record {
  saw = λ m seen h.
      let e : (c.args.start + c.args.count) - c.args.start ≡ c.args.count = omega arith in
      subst (λ n. Counted m c.count_each.new.self (seen ++ places_from m c.args.function c.args.start n)) e (c.count_each.ensures m seen h);
}
