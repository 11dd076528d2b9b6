-- A session under way, and what a command does to it.
use Rattle.std.specs.Prelude.{◌≡◌, ℕ, List, Result, Ok, Err}
use Rattle.causes.specs.declared.NoMemory.{NoMemory}
use Rattle.debugger.specs.Commands.{read_command}
use Rattle.debugger.specs.Subject.{Subject}
use Rattle.debugger.specs.Session.{Prints, chosen_behind}

-- what the session looks at, and the chosen frame
pub record Sitting : Type 0 where
  pub subject : Subject
  pub chosen : ℕ

abbrev pub sitting : Subject → ℕ → Sitting
sitting s i = record { subject = s; chosen = i }

-- A command prints its text and chooses a frame, or memory ran out and nothing is changed.
abbrev pub Answers : Sitting → List ℕ → Result (List ℕ) NoMemory → Sitting → Type 0
Answers old given (Ok text) new =
    Prints old.subject old.chosen given (read_command given) text × (new ≡ sitting old.subject (chosen_behind old.subject old.chosen (read_command given)))
Answers old given (Err e) new = new ≡ old
