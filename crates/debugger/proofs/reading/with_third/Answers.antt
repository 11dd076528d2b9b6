use Rattle.std.proofs.Common.{◌∷◌, sym, ap, ◌∙◌}
use Rattle.debugger.specs.calls.Words.{words_behind}
use Rattle.debugger.proofs.WordLaws.{four_words}
use Rattle.debugger.proofs.reading.with_third.Goals as goal

pub returns-in-Some : goal.returns-in-Some
returns-in-Some c =
    let third = c.first_word.result.0.now in
    sym (four_words c.args.word.now c.args.second.now third c.args.behind.now c.in-Some.field-0.now (c.first_word.ensures ∙ ap (λ o. third ∷ words_behind o) c.in-Some.is))
