-- What the words behind `run` ask for: `M ENTRY [ARG ...]`, then any number of `+ ENTRY [ARG ...]`, and options.
use Rattle.std.specs.Prelude.{ℕ, ◌+◌, Bool, is_some, List, [], ◌∷◌, ◌++◌, ◌&&◌, ◌||◌, length, drop, nat_eq, nat_lt, nat_le, Option, Some, None, if◌then◌else◌, codes, option_and_then, unwrap_or}
use Rattle.std.specs.List.{starts_with}
use Rattle.std.specs.Option.{option_map}
use Rattle.std.specs.Str.{all_ascii_digits, bytes_eq}
use Rattle.pm_text.specs.Numbers.{decimal_value}
use Rattle.commands.specs.Reading.{Word, Allowed, Read, given_value, read_words}
use Rattle.run_words.specs.Invocations.{invocations}
use Rattle.run_words.specs.declared.words.RunWords.{RunWords}

-- each option but `--collect` takes a value
abbrev pub run_options : Allowed
run_options = record { valued = codes "--replies" ∷ codes "--fuel" ∷ codes "--depth" ∷ codes "--dump" ∷ codes "--name" ∷ codes "--record" ∷ []; flags = codes "--collect" ∷ [] }

abbrev pub within : ℕ → ℕ → ℕ → Option ℕ
within least greatest n = if nat_le least n && nat_le n greatest then Some n else None

-- the number that an option gives, in its bounds, or the default
abbrev pub number_or : ℕ → ℕ → ℕ → Option Word → Option ℕ
number_or least greatest default None = Some default
number_or least greatest default (Some digits) = option_and_then (within least greatest) (decimal_value digits)

-- how many steps may be made
unfoldable pub fuel : Read → Option ℕ
fuel r = number_or 0 1000000000000 100000000 (given_value (codes "--fuel") r)

-- how many frames may stand
unfoldable pub depth : Read → Option ℕ
depth r = number_or 1 10000 1000 (given_value (codes "--depth") r)

abbrev pub at_most : ℕ → Word → Option Word
at_most greatest word = if nat_le (length word) greatest then Some word else None

-- the name that a dump has inside
unfoldable pub name : Read → Option Word
name r = at_most 4096 (unwrap_or (given_value (codes "--name") r) (codes "module"))

-- the name of the file for dumps
abbrev pub dump : Read → Word
dump r = unwrap_or (given_value (codes "--dump") r) (codes "core.wasm")

-- the name of the file of replies
abbrev pub replies : Read → Option Word
replies r = given_value (codes "--replies") r

-- digits, at least one
abbrev pub is_number : Word → Bool
is_number word = nat_lt 0 (length word) && all_ascii_digits word

-- a name of a file for dumps: that of the first one, or the same with `.` and digits behind it
abbrev pub is_for_dumps : (first : Word) → Word → Bool
is_for_dumps first file = bytes_eq file first || (starts_with nat_eq file (first ++ codes ".") && is_number (drop (length first + 1) file))

abbrev pub unless_for_dumps : (first : Word) → Option Word → Option (Option Word)
unless_for_dumps first None = Some None
unless_for_dumps first (Some file) = if is_for_dumps first file then None else Some (Some file)

-- the name of the file for the record, where one is asked for; it is none of those for dumps
unfoldable pub log_to : Read → Option (Option Word)
log_to r = unless_for_dumps (dump r) (given_value (codes "--record") r)

-- whether the collector is asked for
abbrev pub collect : Read → Bool
collect r = is_some (given_value (codes "--collect") r)

-- options, for this file of a module and these words behind it
unfoldable pub asked : Word → List Word → Read → Option RunWords
asked source behind r =
    option_and_then (λ called.
    option_and_then (λ steps.
    option_and_then (λ frames.
    option_and_then (λ inside.
    option_map (λ to. record { source = source; invocations = called; replies = replies r; fuel = steps; depth = frames; dump = dump r; name = inside; log_to = to; collect = collect r })
    (log_to r)) (name r)) (depth r)) (fuel r)) (invocations behind)

-- the first plain word is the module's file
abbrev pub from_plain : List Word → Read → Option RunWords
from_plain [] r = None
from_plain (source ∷ behind) r = asked source behind r

unfoldable pub run_words : List Word → Option RunWords
run_words words = option_and_then (λ r. from_plain r.plain r) (read_words run_options words)
