use Rattle.var_values.proofs.WordLaws.{word_is, no_word_is}
use Rattle.var_values.proofs.word.word_in.Goals as goal

pub returns-in-Ok-clause-is : goal.returns-in-Ok-clause-is
returns-in-Ok-clause-is c = word_is c.args.view.now.memory c.args.place.now c.args.bits c.in-Ok.wide c.low_bits.result c.shifted.result c.in-Ok.ensures c.shifted.ensures c.low_bits.ensures c.requires.few

pub returns-in-Err-clause-is : goal.returns-in-Err-clause-is
returns-in-Err-clause-is c = no_word_is c.args.view.now.memory c.args.place.now c.args.bits c.in-Err.mark c.in-Err.ensures
