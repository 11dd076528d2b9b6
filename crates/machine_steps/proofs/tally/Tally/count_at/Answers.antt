use Rattle.std.proofs.Common.{◌≡◌, ◌≤◌, true, false, drop, length, map, sym, ap, ◌∙◌, inl, inr, arith}
use Rattle.std.proofs.lemmas.Bool.{cases_lt}
use Rattle.std.proofs.lemmas.List.{take_at}
use Rattle.std.specs.Vec.{with_items}
use Rattle.machine_steps.specs.calls.Tallies.{Counts}
use Rattle.machine_steps.specs.inner.Cells.{cells_more, counts_more}
use Rattle.machine_steps.proofs.TallyLaws.{cells_length, counts_past, counts_set}
use Rattle.machine_steps.proofs.tally.Tally.count_at.Goals.{in-Some, in-None}
use Rattle.machine_steps.proofs.tally.Tally.count_at.Goals as goal

pub returns : goal.returns
returns c = elim c.match-get_mut.branch [
  | in-Some w ↦
      let e : w.count_in.new.cells ≡ cells_more w.in-Some.cells.now.items c.args.at.index = w.count_in.ensures ∙ ap (λ l. cells_more l c.args.at.index) w.as_mut_slice.ensures.value in
      let l : length w.count_in.new.cells ≡ length (cells_more w.in-Some.cells.now.items c.args.at.index) = ap length e in
      let size : length w.count_in.new.cells ≡ w.in-Some.cells.now.len = omega (arith, l, cells_length w.in-Some.cells.now.items c.args.at.index, w.in-Some.cells.now.ok.0) in
      (λ j. record { cells = map (λ v. v.items) (w.self-inside-is j).cells.items; elsewhere = (w.self-inside-is j).elsewhere })
      ∙ ap (λ cs. record { cells = cs; elsewhere = c.self.inside.elsewhere })
      (counts_set (λ v. v.items) c.self.inside.cells.items c.args.at.function c.args.at.index w.in-Some.cells.now (with_items w.in-Some.cells.now w.count_in.new.cells) w.in-Some.ensures.value (take_at w.count_in.new.cells (drop (length w.count_in.new.cells) w.in-Some.cells.now.items) w.in-Some.cells.now.len size ∙ e))
      ∙ ap (λ (t : Counts). record { cells = counts_more t.cells c.args.at.function c.args.at.index; elsewhere = t.elsewhere }) c.self.view_is
  | in-None w ↦
      let past : length c.self.inside.cells.items ≤ c.args.at.function = elim (cases_lt c.args.at.function (length c.self.inside.cells.items)) [
        | inl lt ↦ (let no : false ≡ true = w.in-None.ensures.variant.1 (omega (arith, lt, c.self.inside.cells.ok.0)) in absurd (cc))
        | inr le ↦ le
      ] in
      (λ j. record { cells = map (λ v. v.items) (w.self-inside-is j).cells.items; elsewhere = (w.self-inside-is j).elsewhere })
      ∙ ap (λ cs. record { cells = cs; elsewhere = c.self.inside.elsewhere }) (sym (counts_past (λ v. v.items) c.self.inside.cells.items c.args.at.function c.args.at.index past))
      ∙ ap (λ (t : Counts). record { cells = counts_more t.cells c.args.at.function c.args.at.index; elsewhere = t.elsewhere }) c.self.view_is
]
