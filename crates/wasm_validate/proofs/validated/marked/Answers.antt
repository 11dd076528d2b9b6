use Rattle.std.proofs.Common.{refl, sym, subst}
use Rattle.std.specs.Prelude.{Some, None}
use Rattle.wasm_validate.specs.calls.MarkedHeights.{FirstHighMarks}
use Rattle.wasm_validate.specs.calls.Operands.{FewMarks}
use Rattle.wasm_validate.proofs.HeightLaws.{all_low, first_high}
use Rattle.wasm_validate.proofs.OperandLaws.{few_marks}
use Rattle.wasm_validate.proofs.validated.marked.Goals as goal

pub returns-in-Some-clause-refused : goal.returns-in-Some-clause-refused
returns-in-Some-clause-refused c =
    (c.requires.valid, refl, first_high c.args.marks c.args._m.now c.in-Some.count c.requires.marked (subst (λ x. FirstHighMarks x (Some c.in-Some.count)) c.as_slice.ensures c.in-Some.ensures))

pub rows_of_all-requires : goal.rows_of_all-requires
rows_of_all-requires c = subst FewMarks (sym c.as_slice-in-None-2.ensures) (few_marks c.args.marks c.args._m.now c.requires.limits c.requires.marked)

pub returns-in_ok-rows-in-None-clause-low : goal.returns-in_ok-rows-in-None-clause-low
returns-in_ok-rows-in-None-clause-low c = all_low c.args.marks c.args._m.now c.requires.marked (subst (λ x. FirstHighMarks x None) c.as_slice.ensures c.in-None.ensures)
