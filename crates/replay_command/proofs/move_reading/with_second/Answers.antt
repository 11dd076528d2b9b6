use Rattle.std.proofs.Common.{◌∷◌, sym, ap, ◌∙◌}
use Rattle.debugger.specs.calls.Words.{words_behind}
use Rattle.replay_command.proofs.WordLaws.{three_words}
use Rattle.replay_command.proofs.move_reading.with_second.Goals as goal

pub returns-in-Some : goal.returns-in-Some
returns-in-Some c =
    let second = c.first_word.result.0.now in
    sym (three_words c.args.word.now second c.args.behind.now c.in-Some.field-0.now (c.first_word.ensures ∙ ap (λ o. second ∷ words_behind o) c.in-Some.is))
