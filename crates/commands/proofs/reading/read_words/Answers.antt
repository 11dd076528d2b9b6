use Rattle.std.proofs.Common.{map, ap}
use Rattle.std.specs.String.{string_bytes}
use Rattle.commands.specs.Reading.{is_distinct, names}
use Rattle.commands.proofs.ReadingLaws.{at_start, at_last}
use Rattle.commands.proofs.reading.read_words.Goals as goal

pub loop-word-init : goal.loop-word-init
loop-word-init c = record {
  so_far = at_start c.args.options.now c.new-reading.result (map string_bytes c.args.words.now) c.new-reading.ensures;
  different = ap (λ r. is_distinct (names r)) c.new-reading.ensures;
}

pub returns : goal.returns
returns c = at_last c.args.options.now c.loop-word.reading (map string_bytes c.loop-word.left.now) _ c.in_default.ensures.words c.loop-word.invariant.different c.loop-word.invariant.so_far
