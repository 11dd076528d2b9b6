-- What the words behind `replay` ask for: `M LOG ENTRY [ARG ...]`, and options.
use Rattle.std.specs.Prelude.{ℕ, List, ◌∷◌, Option, None, codes, option_and_then, unwrap_or, []}
use Rattle.std.specs.Option.{option_map}
use Rattle.commands.specs.Reading.{Word, Allowed, Read, given_value, read_words}
use Rattle.run_words.specs.Invocations.{argument, each}
use Rattle.run_words.specs.RunWords.{number_or, fuel, depth}
use Rattle.replay_command.specs.declared.asking.ReplayWords.{ReplayWords}

-- each option takes a value
abbrev pub replay_options : Allowed
replay_options = record { valued = codes "--fuel" ∷ codes "--depth" ∷ codes "--every" ∷ codes "--do" ∷ []; flags = [] }

-- how many steps stand between two checkpoints at first
unfoldable pub every : Read → Option ℕ
every r = number_or 1 1000000 1000 (given_value (codes "--every") r)

-- the commands, between semicolons
abbrev pub commands : Read → Word
commands r = unwrap_or (given_value (codes "--do") r) (codes "goto 0")

-- options, for these files of a module and of replies, this entry and these words behind it
unfoldable pub asked : (source log entry : Word) → List Word → Read → Option ReplayWords
asked source log entry behind r =
    option_and_then (λ args.
    option_and_then (λ steps.
    option_and_then (λ frames.
    option_map (λ spacing. record { source = source; log = log; entry = entry; args = args; fuel = steps; depth = frames; every = spacing; commands = commands r })
    (every r)) (depth r)) (fuel r)) (each argument behind)

-- the first plain words are the two files and the entry; the word `+` is an argument like every other
abbrev pub from_plain : List Word → Read → Option ReplayWords
from_plain (source ∷ log ∷ entry ∷ behind) r = asked source log entry behind r
from_plain _ r = None

unfoldable pub replay_words : List Word → Option ReplayWords
replay_words words = option_and_then (λ r. from_plain r.plain r) (read_words replay_options words)
