use Rattle.std.proofs.Common.{length, Ok, Err}
use Rattle.dwarf_expr.proofs.Continued.{meaning_is, is_some}
use Rattle.dwarf_expr.proofs.evaluate.eval.Goals as goal

pub returns-in-Ok : goal.returns-in-Ok
returns-in-Ok c = record { is = meaning_is c.args.expr.now c.args.view.now c.args.base (Ok c.in-Ok.answer) (is_some (length c.args.expr.now) (c.if-is_empty.ensures {u = tt})) (c.in-Ok.ensures {u = tt}) }

pub returns-in-Err : goal.returns-in-Err
returns-in-Err c = record { is = meaning_is c.args.expr.now c.args.view.now c.args.base (Err c.in-Err.answer) (is_some (length c.args.expr.now) (c.if-is_empty.ensures {u = tt})) (c.in-Err.ensures {u = tt}) }
