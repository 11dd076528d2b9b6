-- The words behind `debug`: a module, a dump, and commands.
use Rattle.std.specs.Prelude.{List, ◌∷◌, Option, Some, None, option_and_then}
use Rattle.commands.specs.Reading.{Word, no_options, read_words}
use Rattle.debug_command.specs.declared.words.DebugWords.{DebugWords}

abbrev pub words_of : List Word → Option DebugWords
words_of (m ∷ dump ∷ commands) = Some (record { source = m; dump = dump; commands = commands })
words_of _ = None

-- without options
unfoldable pub debug_words : List Word → Option DebugWords
debug_words words = option_and_then (λ r. words_of r.plain) (read_words no_options words)
