-- What the code comes to between two steps of the command.
use Rattle.std.specs.Prelude.{◌≡◌, ℕ, List, ◌++◌}
use Rattle.debugger.specs.Commands.{read_command}
use Rattle.debugger.specs.Session.{Prints, chosen_behind}
use Rattle.debugger.specs.calls.Sitting.{Sitting, sitting}

-- a command of a session adds its text
abbrev pub Adds : Sitting → List ℕ → List ℕ → Sitting → List ℕ → Type 0
Adds before out given after more =
    (text : List ℕ) × Prints before.subject before.chosen given (read_command given) text
    × (after ≡ sitting before.subject (chosen_behind before.subject before.chosen (read_command given))) × (more ≡ out ++ text)
