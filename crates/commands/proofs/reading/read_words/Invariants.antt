use Rattle.std.proofs.Common.{◌≡◌, map, length, true}
use Rattle.std.specs.String.{string_bytes}
use Rattle.commands.specs.Reading.{is_distinct, names, read_words}
use Rattle.commands.specs.inner.Progress.{outcome}
use Rattle.commands.proofs.reading.read_words.Given as goal

abbrev pub invariant-loop-word : goal.invariant-loop-word
invariant-loop-word l = record {
  so_far : outcome l.options l.reading (map string_bytes l.left) ≡ read_words l.options (map string_bytes l.words);
  different : is_distinct (names l.reading) ≡ true;
}

abbrev pub decreases-loop-word : goal.decreases-loop-word
decreases-loop-word l = length l.left
