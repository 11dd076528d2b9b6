use Rattle.std.proofs.Common.{◌≡◌, ◌≤◌, ◌-◌, true, false, drop, length, map, sym, ap, ◌∙◌, inl, inr, arith}
use Rattle.std.proofs.lemmas.Bool.{cases_lt}
use Rattle.std.proofs.lemmas.List.{take_at}
use Rattle.std.specs.Vec.{with_items}
use Rattle.machine_steps.specs.calls.Tallies.{Counts}
use Rattle.machine_steps.specs.inner.Cells.{cells_run, counts_run}
use Rattle.machine_steps.proofs.TallyLaws.{run_length, counts_run_past, counts_run_set}
use Rattle.machine_steps.proofs.tally.Tally.count_cells.Goals.{in-Some, in-None}
use Rattle.machine_steps.proofs.tally.Tally.count_cells.Goals as goal

pub returns : goal.returns
returns c = elim c.match-get_mut.branch [
  | in-Some w ↦
      let n = c.args.end - c.args.start in
      let e : w.count_from.new.cells ≡ cells_run w.in-Some.cells.now.items c.args.start (c.args.end - c.args.start) = w.count_from.ensures ∙ ap (λ l. cells_run l c.args.start (c.args.end - c.args.start)) w.as_mut_slice.ensures.value in
      let l : length w.count_from.new.cells ≡ length (cells_run w.in-Some.cells.now.items c.args.start (c.args.end - c.args.start)) = ap length e in
      let size : length w.count_from.new.cells ≡ w.in-Some.cells.now.len = omega (arith, l, run_length w.in-Some.cells.now.items c.args.start (c.args.end - c.args.start), w.in-Some.cells.now.ok.0) in
      (λ j. record { cells = map (λ v. v.items) (w.self-inside-is j).cells.items; elsewhere = (w.self-inside-is j).elsewhere })
      ∙ ap (λ cs. record { cells = cs; elsewhere = c.self.inside.elsewhere })
      (counts_run_set (λ v. v.items) c.self.inside.cells.items c.args.function c.args.start n w.in-Some.cells.now (with_items w.in-Some.cells.now w.count_from.new.cells) w.in-Some.ensures.value (take_at w.count_from.new.cells (drop (length w.count_from.new.cells) w.in-Some.cells.now.items) w.in-Some.cells.now.len size ∙ e))
      ∙ ap (λ (t : Counts). record { cells = counts_run t.cells c.args.function c.args.start n; elsewhere = t.elsewhere }) c.self.view_is
  | in-None w ↦
      let n = c.args.end - c.args.start in
      let past : length c.self.inside.cells.items ≤ c.args.function = elim (cases_lt c.args.function (length c.self.inside.cells.items)) [
        | inl lt ↦ (let no : false ≡ true = w.in-None.ensures.variant.1 (omega (arith, lt, c.self.inside.cells.ok.0)) in absurd (cc))
        | inr le ↦ le
      ] in
      (λ j. record { cells = map (λ v. v.items) (w.self-inside-is j).cells.items; elsewhere = (w.self-inside-is j).elsewhere })
      ∙ ap (λ cs. record { cells = cs; elsewhere = c.self.inside.elsewhere }) (sym (counts_run_past (λ v. v.items) c.self.inside.cells.items c.args.function c.args.start n past))
      ∙ ap (λ (t : Counts). record { cells = counts_run t.cells c.args.function c.args.start n; elsewhere = t.elsewhere }) c.self.view_is
]
