-- Commands: words with exactly one space between them.
use Rattle.std.specs.Prelude.{ℕ, ◌==◌, ◌&&◌, nat_le, List, [], ◌∷◌, Option, Some, None, if◌then◌else◌, codes, bytes_eq}
use Rattle.std.specs.List.{slice_split}
use Rattle.pm_text.specs.Numbers.{decimal_value}
use Rattle.debugger.specs.declared.command.Command.{Command}
use Rattle.debugger.specs.declared.command.Command.TheVariants.{Backtrace, Frame, Locals, Operands, Globals, Variables, Print, Examine, Bad}

-- what a word stands for, or something else
abbrev pub is_word : {A : Type 0} → List ℕ → List ℕ → A → A → A
is_word given word this other = if bytes_eq given word then this else other

abbrev pub one_word : List ℕ → Command
one_word w =
    is_word w (codes "bt") Backtrace
    (is_word w (codes "locals") Locals
    (is_word w (codes "operands") Operands
    (is_word w (codes "globals") Globals
    (is_word w (codes "vars") Variables Bad))))

abbrev pub chosen : Option ℕ → Command
chosen None = Bad
chosen (Some n) = Frame n

abbrev pub frame : List ℕ → Command
frame x = chosen (decimal_value x)

abbrev pub two_words : List ℕ → List ℕ → Command
two_words w x = is_word w (codes "frame") (frame x) (is_word w (codes "print") Print Bad)

abbrev pub most_bytes : ℕ
most_bytes = 4096

abbrev pub examined : Option ℕ → Option ℕ → Command
examined (Some at) (Some n) = if nat_le 1 n && nat_le n most_bytes then Examine at n else Bad
examined _ _ = Bad

abbrev pub examine : List ℕ → List ℕ → Command
examine x y = examined (decimal_value x) (decimal_value y)

abbrev pub three_words : List ℕ → List ℕ → List ℕ → Command
three_words w x y = is_word w (codes "x") (examine x y) Bad

abbrev pub command_of : List (List ℕ) → Command
command_of (w ∷ []) = one_word w
command_of (w ∷ x ∷ []) = two_words w x
command_of (w ∷ x ∷ y ∷ []) = three_words w x y
command_of _ = Bad

unfoldable pub read_command : List ℕ → Command
read_command text = command_of (slice_split (λ b. b == 32) text)

-- the second one of the words of a text
abbrev pub second_of : List (List ℕ) → List ℕ
second_of (w ∷ x ∷ more) = x
second_of words = []

unfoldable pub second_word : List ℕ → List ℕ
second_word text = second_of (slice_split (λ b. b == 32) text)
