-- What the words behind `selftest` ask for: `N`, a number of functions from 1 to 900.
use Rattle.std.specs.Prelude.{ℕ, List, [], ◌∷◌, Option, None, option_and_then}
use Rattle.pm_text.specs.Numbers.{decimal_value}
use Rattle.commands.specs.Reading.{Word, no_options, read_words}
use Rattle.run_words.specs.RunWords.{within}

abbrev pub count : Word → Option ℕ
count digits = option_and_then (within 1 900) (decimal_value digits)

-- the one plain word
abbrev pub only_count : List Word → Option ℕ
only_count (word ∷ []) = count word
only_count _ = None

unfoldable pub selftest_words : List Word → Option ℕ
selftest_words words = option_and_then (λ r. only_count r.plain) (read_words no_options words)
