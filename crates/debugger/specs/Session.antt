-- What the commands of a session print: one after the other, where the chosen frame is all that changes.
use Rattle.std.specs.Prelude.{◌≡◌, ℕ, List, [], ◌∷◌, ◌++◌, slice_get, Option, Some, None, codes}
use Rattle.dump_format.specs.declared.dump.Frame.{Frame}
use Rattle.dump_match.specs.States.{StateOperandCount}
use Rattle.var_path.specs.declared.path.Path.{Path}
use Rattle.var_path.specs.Reading.{read_path}
use Rattle.debugger.specs.declared.command.Command.{Command}
use Rattle.debugger.specs.declared.command.Command.TheVariants as commands
use Rattle.debugger.specs.Commands.{read_command, second_word}
use Rattle.debug_frames.specs.Unreadable.{unreadable_text}
use Rattle.debugger.specs.Subject.{Subject}
use Rattle.debugger.specs.Texts.{no_frame, backtrace_text, frame_text_at, locals_text, operands_text, globals_text, memory_text}
use Rattle.debugger.specs.Variables.{left_in, variables_text, path_text}

-- the text of the chosen frame; without frames there is none to choose
abbrev pub of_frame : (Frame → List ℕ) → Option Frame → List ℕ
of_frame text (Some f) = text f
of_frame text None = no_frame 0

abbrev pub of_chosen : Subject → ℕ → (Frame → List ℕ) → List ℕ
of_chosen s i text = of_frame text (slice_get s.frames i)

-- the frame of an index shows so many operands: of the module, or, at an `else` or `end`, of what is recorded
abbrev pub Shows : Subject → ℕ → Option Frame → ℕ → Type 0
Shows s i (Some f) n = StateOperandCount s.module_ i f n
Shows s i None n = n ≡ 0

-- behind the lines on what could not be read
unfoldable pub chosen_variables : Subject → (i n : ℕ) → List ℕ
chosen_variables s i n = unreadable_text s.information ++ of_chosen s i (variables_text s (left_in i n))

unfoldable pub bad_text : List ℕ
bad_text = codes "bad command\n"

-- A word that is no path is told before a frame is looked for.
abbrev pub chosen_path : Subject → (i n : ℕ) → List ℕ → Option Path → List ℕ
chosen_path s i n word (Some path) = of_chosen s i (path_text s (left_in i n) word path)
chosen_path s i n word None = bad_text

abbrev pub word_text : Subject → (i n : ℕ) → List ℕ → List ℕ
word_text s i n word = chosen_path s i n word (read_path word)

-- what a command prints where frame i is chosen, which shows n operands
abbrev pub printed : Subject → (i n : ℕ) → List ℕ → Command → List ℕ
printed s i n given commands.Backtrace = backtrace_text s
printed s i n given (commands.Frame k) = frame_text_at s k
printed s i n given commands.Locals = of_chosen s i (locals_text s)
printed s i n given commands.Operands = of_chosen s i (operands_text n)
printed s i n given commands.Globals = globals_text s
printed s i n given commands.Variables = chosen_variables s i n
printed s i n given commands.Print = word_text s i n (second_word given)
printed s i n given (commands.Examine at count) = memory_text s at count
printed s i n given commands.Bad = bad_text

abbrev pub Prints : Subject → ℕ → List ℕ → Command → List ℕ → Type 0
Prints s i given c text = (n : ℕ) × Shows s i (slice_get s.frames i) n × (text ≡ printed s i n given c)

-- a frame that is there is chosen
abbrev pub chosen_of : ℕ → ℕ → Option Frame → ℕ
chosen_of i n (Some f) = n
chosen_of i n None = i

-- the frame that is chosen behind a command
abbrev pub chosen_behind : Subject → ℕ → Command → ℕ
chosen_behind s i (commands.Frame n) = chosen_of i n (slice_get s.frames n)
chosen_behind s i command = i

-- these commands print this text, where frame i is chosen at first
abbrev pub PrintsAll : Subject → ℕ → List (List ℕ) → List ℕ → Type 0
PrintsAll s i [] text = text ≡ []
PrintsAll s i (given ∷ more) text =
    (first : List ℕ) × (behind : List ℕ) × Prints s i given (read_command given) first
    × PrintsAll s (chosen_behind s i (read_command given)) more behind × (text ≡ first ++ behind)
