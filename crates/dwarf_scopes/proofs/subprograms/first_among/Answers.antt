use Rattle.std.proofs.Common.{refl, ◌∙◌, sym, arith}
use Rattle.dwarf_entries.specs.Standing.{of_unit}
use Rattle.dwarf_scopes.specs.Scopes.{is_subprogram_at}
use Rattle.dwarf_scopes.proofs.Filters.{part_holds, part_lacks}
use Rattle.dwarf_scopes.proofs.subprograms.first_among.Goals as goal

pub loop-answer-preserved : goal.loop-answer-preserved
loop-answer-preserved c = record {
  right = c.first_in.ensures.right;
  so_far = c.loop-answer.invariant.so_far
      ∙ part_lacks (is_subprogram_at c.args.sections.now c.args.address) of_unit c.args.units.now c.loop-answer.answer-index c.answer-item.result (omega arith) c.answer-item.is (sym c.in-Ok-None.ensures.is ∙ c.in-Ok-None.field-0-is);
}

pub returns-in-Ok-Some : goal.returns-in-Ok-Some
returns-in-Ok-Some c = sym (c.loop-answer.invariant.so_far
    ∙ part_holds (is_subprogram_at c.args.sections.now c.args.address) of_unit c.args.units.now c.loop-answer.answer-index c.answer-item.result c.in-Ok-Some.subprogram (omega arith) c.answer-item.is (sym c.in-Ok-Some.ensures.is ∙ c.in-Ok-Some.field-0-is))

pub loop-answer-init : goal.loop-answer-init
loop-answer-init c = record { right = c.requires; so_far = refl }
