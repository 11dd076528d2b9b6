use Rattle.std.proofs.Common.{sym, subst, arith, ◌+◌}
use Rattle.wasm_validate.specs.calls.Operands.{RowsUpTo}
use Rattle.wasm_validate.proofs.RowLaws.{all_rows_next}
use Rattle.wasm_validate.proofs.rows.rows_of_all.Goals as goal

pub loop-i-preserved : goal.loop-i-preserved
loop-i-preserved c = record {
  within = omega (arith, c.loop-i-test.true);
  so_far = subst (λ x. RowsUpTo x c.args.all.now (c.loop-i.i + 1)) (sym c.in_ok-push.ensures.ok)
      (all_rows_next c.loop-i.every c.args.all.now c.loop-i.i c.in_ok-rows_of.field-0 c.marks_in.result.now c.loop-i.invariant.so_far c.marks_in.ensures c.in_ok-rows_of.ensures);
}
