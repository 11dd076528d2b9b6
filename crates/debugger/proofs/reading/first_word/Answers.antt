use Rattle.debugger.proofs.WordLaws.{words_split, one_alone}
use Rattle.debugger.proofs.reading.first_word.Goals as goal

pub returns-in-Some : goal.returns-in-Some
returns-in-Some c = words_split c.args.text.now c.in-Some.parts c.in-Some.ensures.cases

pub returns-in-None : goal.returns-in-None
returns-in-None c = one_alone c.args.text.now c.in-None.ensures.cases
