use Rattle.std.proofs.Common.{[], ◌∷◌, ◌++◌, sym, ap, subst, ◌∙◌}
use Rattle.wasm_validate.specs.calls.Operands.{AreRows}
use Rattle.wasm_validate.proofs.RowLaws.{more_rows}
use Rattle.wasm_validate.proofs.rows.reach.Goals as goal

pub loop-alloc-preserved : goal.loop-alloc-preserved
loop-alloc-preserved c = λ marks n h. subst (λ r. AreRows r marks n) (sym (c.in_ok-push.ensures.items ∙ ap (λ r. c.loop-alloc.rows.items ++ r ∷ []) c.new.ensures)) (more_rows c.loop-alloc.rows.items marks n (c.loop-alloc.invariant marks n h))
