-- Moves between the steps of a run: words with exactly one space between them.
use Rattle.std.specs.Prelude.{ℕ, ◌+◌, ◌==◌, List, [], ◌∷◌, take, drop, position, Option, Some, None, option_and_then, codes, option_map}
use Rattle.std.specs.List.{slice_split}
use Rattle.pm_text.specs.Numbers.{decimal_value, positive_bits}
use Rattle.debugger.specs.Commands.{is_word}
use Rattle.replay_command.specs.declared.moves.Move.{Move}
use Rattle.replay_command.specs.declared.moves.Move.TheVariants.{Goto, Back, Until, Look}

-- a decimal number below 2 ^ 32
abbrev pub number_32 : List ℕ → Option ℕ
number_32 digits = option_and_then (positive_bits 32) (decimal_value digits)

-- the numbers on the two sides of the first colon, as in `0:5`: a function and a code offset
abbrev pub with_offset : ℕ → Option ℕ → Option (ℕ × ℕ)
with_offset function o = option_map (λ offset. (function, offset)) o

abbrev pub sides : List ℕ → Option ℕ → Option (ℕ × ℕ)
sides word None = None
sides word (Some middle) = option_and_then (λ function. with_offset function (number_32 (drop (middle + 1) word))) (number_32 (take middle word))

unfoldable pub place : List ℕ → Option (ℕ × ℕ)
place word = sides word (position (λ b. b == 58) word)

abbrev pub one_word : List ℕ → Move
one_word w = is_word w (codes "back") Back Look

abbrev pub to_step : Option ℕ → Move
to_step None = Look
to_step (Some n) = Goto n

abbrev pub goto_step : List ℕ → Move
goto_step x = to_step (decimal_value x)

abbrev pub to_place : Option (ℕ × ℕ) → Move
to_place None = Look
to_place (Some p) = Until p.0 p.1

abbrev pub until_place : List ℕ → Move
until_place x = to_place (place x)

abbrev pub two_words : List ℕ → List ℕ → Move
two_words w x = is_word w (codes "goto") (goto_step x) (is_word w (codes "until") (until_place x) Look)

abbrev pub move_of : List (List ℕ) → Move
move_of (w ∷ []) = one_word w
move_of (w ∷ x ∷ []) = two_words w x
move_of _ = Look

-- a text that spells no move looks at the state that is shown
unfoldable pub read_move : List ℕ → Move
read_move text = move_of (slice_split (λ b. b == 32) text)
