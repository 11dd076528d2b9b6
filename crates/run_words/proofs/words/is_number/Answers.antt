use Rattle.std.proofs.Common.{◌<◌, length, rules}
use Rattle.run_words.proofs.DumpNames.{is_digits}
use Rattle.run_words.proofs.words.is_number.Goals as goal

pub returns-then-not-is_empty : goal.returns-then-not-is_empty
returns-then-not-is_empty c =
    let some : 0 < length c.args.word.now = search rules in
    is_digits c.args.word.now c.are_digits.result (search rules) some
