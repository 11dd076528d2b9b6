-- What the words behind `cover` ask for: `M ENTRY [ARG ...]`, and options.
use Rattle.std.specs.Prelude.{List, [], ◌∷◌, Option, None, codes, option_and_then}
use Rattle.std.specs.Option.{option_map}
use Rattle.commands.specs.Reading.{Word, Allowed, Read, read_words}
use Rattle.run_words.specs.Invocations.{invocation}
use Rattle.run_words.specs.RunWords.{fuel, depth, replies}
use Rattle.run_words.specs.declared.cover.CoverWords.{CoverWords}

-- each takes a value
abbrev pub cover_options : Allowed
cover_options = record { valued = codes "--replies" ∷ codes "--fuel" ∷ codes "--depth" ∷ []; flags = [] }

-- options, for this file of a module and these words behind it
unfoldable pub cover_asked : Word → List Word → Read → Option CoverWords
cover_asked source behind r =
    option_and_then (λ called.
    option_and_then (λ steps.
    option_map (λ frames. record { source = source; called = called; replies = replies r; fuel = steps; depth = frames })
    (depth r)) (fuel r)) (invocation behind)

-- the first plain word is the module's file
abbrev pub from_plain : List Word → Read → Option CoverWords
from_plain [] r = None
from_plain (source ∷ behind) r = cover_asked source behind r

unfoldable pub cover_words : List Word → Option CoverWords
cover_words words = option_and_then (λ r. from_plain r.plain r) (read_words cover_options words)
