-- What a list of words asks for.
use Rattle.std.specs.Prelude.{◌<◌, ◌≤◌, List, length, [], ◌∷◌, Option, Some, None, if◌then◌else◌, codes, option_and_then}
use Rattle.std.specs.Option.{option_map}
use Rattle.std.specs.Str.{bytes_eq}
use Rattle.commands.specs.Reading.{Word, no_options, read_words}
use Rattle.pm_cli.specs.declared.words.Command.{Command}
use Rattle.run_words.specs.RunWords.{run_words}
use Rattle.debug_command.specs.Words.{debug_words}
use Rattle.selftest_command.specs.Words.{selftest_words}
use Rattle.replay_command.specs.Words.{replay_words}
use Rattle.run_words.specs.CoverWords.{cover_words}
use Rattle.pm_cli.specs.declared.words.Command.TheVariants.{Check, Run, Instrument, Show, Debug, Selftest, Replay, Cover}

abbrev pub only : List Word → Option Word
only (word ∷ []) = Some word
only _ = None

-- the one plain word behind a command without options
unfoldable pub one_word : List Word → Option Word
one_word words = option_and_then (λ r. only r.plain) (read_words no_options words)

-- the file that is read and the one that is written
abbrev pub both : List Word → Option Command
both (source ∷ out ∷ []) = Some (Instrument source out)
both _ = None

-- the two plain words behind `instrument`, which has no options
unfoldable pub instrument_words : List Word → Option Command
instrument_words words = option_and_then (λ r. both r.plain) (read_words no_options words)

-- The first word is the command: `check M`, `run M ENTRY ..`, `instrument M OUT`, `show DUMP`, `debug M DUMP COMMAND ..`, `selftest N`,
-- `replay M LOG ENTRY ..`, `cover M ENTRY ..`.
unfoldable pub command : List Word → Option Command
command [] = None
command (name ∷ words) =
    if bytes_eq name (codes "check") then option_map Check (one_word words)
    else (if bytes_eq name (codes "run") then option_map Run (run_words words)
    else (if bytes_eq name (codes "instrument") then instrument_words words
    else (if bytes_eq name (codes "show") then option_map Show (one_word words)
    else (if bytes_eq name (codes "debug") then option_map Debug (debug_words words)
    else (if bytes_eq name (codes "selftest") then option_map Selftest (selftest_words words)
    else (if bytes_eq name (codes "replay") then option_map Replay (replay_words words)
    else (if bytes_eq name (codes "cover") then option_map Cover (cover_words words)
    else None)))))))

-- A run has at least one invocation, and its depth an end; a self-test has so many functions.
abbrev pub HasBounds : Command → Type 0
HasBounds (Run w) = (0 < length w.invocations) × (w.depth ≤ 10000)
HasBounds (Selftest n) = (1 ≤ n) × (n ≤ 900)
HasBounds _ = Unit {0}
