use Rattle.std.proofs.Common.{arith}
use Rattle.var_eval.specs.Chosen.{first_global}
use Rattle.var_eval.proofs.NameLaws.{unit_added}
use Rattle.var_eval.proofs.known_names.add_all.Goals as goal

pub loop-answer-preserved : goal.loop-answer-preserved
loop-answer-preserved c =
    unit_added c.args.units.now c.args.answers.now c.args.table.now c.loop-answer.table c.add_globals_of.new.table (λ q. first_global c.args.units.now q c.args.answers.now) c.loop-answer.answer-index c.answer-item.result (omega arith) c.answer-item.is c.in_ok-add_globals_of.ensures c.loop-answer.invariant
