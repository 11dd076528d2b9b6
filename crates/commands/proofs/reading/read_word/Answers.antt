use Rattle.std.proofs.Common.{◌≤◌, ◌∷◌, map, length, arith}
use Rattle.std.proofs.lemmas.Result.{IfOk-weaker}
use Rattle.std.specs.String.{string_bytes}
use Rattle.commands.specs.Reading.{name_of, value_of}
use Rattle.commands.proofs.ReadingLaws.{end_step, plain_step, refused_step, option_step, option_shorter, flag_reads, joined_reads, valued_reads, valued_dashed, valued_last}
use Rattle.commands.proofs.reading.read_word.Goals as goal

pub returns-in_ok-push_plain_words-in-End-clause-answer : goal.returns-in_ok-push_plain_words-in-End-clause-answer
returns-in_ok-push_plain_words-in-End-clause-answer c = end_step c.args.options.now c.args.reading.now _ _ _ (cc) c.in_ok-push_plain_words-in-End.ensures c.requires

pub returns-in_ok-push_plain-in-Plain-clause-answer : goal.returns-in_ok-push_plain-in-Plain-clause-answer
returns-in_ok-push_plain-in-Plain-clause-answer c = plain_step c.args.options.now c.args.reading.now _ _ _ (cc) c.in_ok-push_plain-in-Plain.ensures c.requires

pub returns-in-Flag-clause-answer : goal.returns-in-Flag-clause-answer
returns-in-Flag-clause-answer c =
    let words = map string_bytes c.args.behind.now in
    IfOk-weaker c.give_option.result _ _
    (λ left is. option_step c.args.options.now c.args.reading.now c.give_option.new.reading c.args.word.now _ (c.args.word.now ∷ words) (map string_bytes) c.args.behind.now (λ l. l.now) left (flag_reads c.args.options.now c.args.reading.now c.args.word.now words (cc)) is)
    c.give_option.ensures.answer

pub returns-in-Flag-clause-shorter : goal.returns-in-Flag-clause-shorter
returns-in-Flag-clause-shorter c =
    IfOk-weaker c.give_option.result _ _ (λ left is. option_shorter c.args.reading.now c.give_option.new.reading c.args.word.now _ c.args.behind.now c.args.behind.now (λ l. l.now) left (omega arith) is) c.give_option.ensures.answer

pub returns-in-Refused-clause-answer : goal.returns-in-Refused-clause-answer
returns-in-Refused-clause-answer c = refused_step _ _ _ _ (cc)

pub returns-in-Joined-clause-answer : goal.returns-in-Joined-clause-answer
returns-in-Joined-clause-answer c =
    let words = map string_bytes c.args.behind.now in
    let name = name_of c.args.word.now in
    let value = value_of c.args.word.now in
    IfOk-weaker c.give_option-in-Joined.result _ _
    (λ left is. option_step c.args.options.now c.args.reading.now c.give_option-in-Joined.new.reading name value (c.args.word.now ∷ words) (map string_bytes) c.args.behind.now (λ l. l.now) left (joined_reads c.args.options.now c.args.reading.now c.args.word.now words (cc)) is)
    (rw (c.parts.ensures.name, c.parts.ensures.value) at c.give_option-in-Joined.ensures.answer)

pub returns-in-Joined-clause-shorter : goal.returns-in-Joined-clause-shorter
returns-in-Joined-clause-shorter c =
    IfOk-weaker c.give_option-in-Joined.result _ _ (λ left is. option_shorter c.args.reading.now c.give_option-in-Joined.new.reading _ _ c.args.behind.now c.args.behind.now (λ l. l.now) left (omega arith) is) c.give_option-in-Joined.ensures.answer

pub returns-in-None-clause-answer : goal.returns-in-None-clause-answer
returns-in-None-clause-answer c = valued_last _ _ _ _ (cc) c.in-None.ensures.words

pub returns-then-is_dashed-clause-answer : goal.returns-then-is_dashed-clause-answer
returns-then-is_dashed-clause-answer c = valued_dashed _ _ _ c.in-Some.value.now _ (map string_bytes c.in-Some.rest.now) (cc) c.in-Some.ensures.words (cc)

pub returns-else-is_dashed-clause-answer : goal.returns-else-is_dashed-clause-answer
returns-else-is_dashed-clause-answer c =
    let words = map string_bytes c.args.behind.now in
    let value = c.in-Some.value.now in
    IfOk-weaker c.give_option-in-Some.result _ _
    (λ left is.
    option_step c.args.options.now c.args.reading.now c.give_option-in-Some.new.reading c.args.word.now value (c.args.word.now ∷ words) (map string_bytes) c.in-Some.rest.now (λ l. l.now) left
    (valued_reads c.args.options.now c.args.reading.now c.args.word.now value words (map string_bytes c.in-Some.rest.now) (cc) c.in-Some.ensures.words (cc)) is)
    c.give_option-in-Some.ensures.answer

pub returns-else-is_dashed-clause-shorter : goal.returns-else-is_dashed-clause-shorter
returns-else-is_dashed-clause-shorter c =
    let few : length c.in-Some.rest.now ≤ length c.args.behind.now = omega (arith, c.in-Some.ensures.shorter) in
    IfOk-weaker c.give_option-in-Some.result _ _ (λ left is. option_shorter c.args.reading.now c.give_option-in-Some.new.reading c.args.word.now _ c.in-Some.rest.now c.args.behind.now (λ l. l.now) left few is) c.give_option-in-Some.ensures.answer
