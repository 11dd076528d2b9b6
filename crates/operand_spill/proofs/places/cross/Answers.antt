use Rattle.std.proofs.Common.{suc, sym, subst, ◌∙◌}
use Rattle.wasm_syntax.specs.Tree.{item_of}
use Rattle.rewrite_code.proofs.Loads.{when_ok}
use Rattle.operand_spill.specs.inner.Knowing.{Proceeds}
use Rattle.operand_spill.proofs.Knowing.{crosses_else, crosses_end}
use Rattle.operand_spill.proofs.places.cross.Goals as goal

pub returns-then-is_else : goal.returns-then-is_else
returns-then-is_else c = λ C targets items whole pc at r b.
    when_ok (λ e. subst (λ w. Proceeds C items whole (suc pc) w) (sym e) (crosses_else C items whole pc c.args.walk.now at (item_of targets c.args.code) (sym (c.is_else.ensures targets) ∙ c.if-is_else.true) b r))
    c.alternate.result c.alternate.ensures

pub returns-else-is_else : goal.returns-else-is_else
returns-else-is_else c = λ C targets items whole pc at r b.
    when_ok (λ e. subst (λ w. Proceeds C items whole (suc pc) w) (sym e) (crosses_end C items whole pc c.args.walk.now at (item_of targets c.args.code) (sym (c.is_else.ensures targets) ∙ c.if-is_else.false) b r))
    c.close.result c.close.ensures
