-- The text of a replay: moves between the steps of a run, and commands of the debugger on the state that is shown.
use Rattle.std.specs.Prelude.{◌≡◌, ◌⊎◌, ℕ, ◌-◌, ◌==◌, min, List, [], ◌∷◌, ◌++◌, Some, if◌then◌else◌, codes}
use Rattle.std.specs.Fmt.{decimal}
use Rattle.std.specs.List.{slice_split}
use Rattle.wasm_syntax.specs.Module.{Program}
use Rattle.wasm_syntax.specs.Machine.{Config}
use Rattle.wasm_syntax.specs.Run.{Outcome, finished, trapped, lacks_reply, misfits, running}
use Rattle.dump_format.specs.declared.dump.Dump.{Dump}
use Rattle.dump_write.specs.Image.{image}
use Rattle.dump_write.specs.Canonical.{instance_of}
use Rattle.dump_write.specs.Pictured.{Pictures}
use Rattle.commands.specs.Lines.{kind_text, result_text}
use Rattle.debugger.specs.Commands.{read_command}
use Rattle.debugger.specs.Subject.{Subject, subject_of}
use Rattle.debugger.specs.Session.{Prints, chosen_behind}
use Rattle.replay.specs.Replays.{Recording, IsOf, IsEnd, state_at, outcome_at}
use Rattle.replay.specs.Moves.{IsNext, HasNoNext}
use Rattle.replay_command.specs.declared.moves.Move.{Move}
use Rattle.replay_command.specs.declared.moves.Move.TheVariants.{Goto, Back, Until, Look}
use Rattle.replay_command.specs.Moves.{read_move}

-- ---- the line of a step

-- how the run ended, behind its last step
abbrev pub ending_text : Outcome → List ℕ
ending_text (finished v) = codes " finished" ++ result_text v
ending_text (trapped kind) = codes " trap " ++ decimal kind ++ codes " " ++ kind_text kind
ending_text (lacks_reply call) = codes " no reply"
ending_text (misfits call reply) = codes " bad reply"
ending_text running = codes " fuel spent"
ending_text _ = []

abbrev pub ending_at : ℕ → ℕ → Outcome → List ℕ
ending_at step end o = if step == end then ending_text o else []

unfoldable pub step_text : (step end : ℕ) → Outcome → List ℕ
step_text step end o = codes "step " ++ decimal step ++ codes " of " ++ decimal end ++ ending_at step end o ++ codes "\n"

-- ---- commands

-- the step that is shown, and the chosen frame
pub record At : Type 0 where
  pub step : ℕ
  pub chosen : ℕ

abbrev pub at_frame : (step chosen : ℕ) → At
at_frame n i = record { step = n; chosen = i }

-- a step is shown, with frame 0 chosen
abbrev pub at_step : ℕ → At
at_step n = at_frame n 0

-- the commands of a text, between semicolons
abbrev pub commands_in : List ℕ → List (List ℕ)
commands_in text = slice_split (λ b. b == 59) text

-- A dump shows the state behind so many steps: it is the image of that state, with one instance that lists all of it.
pub record ShowsStep (p : Program) (x : Recording) (n : ℕ) (dump : Dump) : Type 0 where
  pub state : Config
  pub is_state : state_at p x n ≡ Some state
  pub pictures : Pictures (image state (codes "module")) dump
  pub whole : dump.instances ≡ instance_of dump ∷ []

-- what the debugger looks at where it looks at a dump
abbrev pub subject_at : Recording → (bytes : List ℕ) → Dump → Subject
subject_at x bytes dump = subject_of bytes (record { module_ = x.module_; dump = dump })

-- a command of the debugger on the state that is shown
pub record Looked (p : Program) (x : Recording) (bytes : List ℕ) (old : At) (given text : List ℕ) (new : At) : Type 0 where
  pub dump : Dump
  pub shows : ShowsStep p x old.step dump
  pub prints : Prints (subject_at x bytes dump) old.chosen given (read_command given) text
  pub chooses : new ≡ at_frame old.step (chosen_behind (subject_at x bytes dump) old.chosen (read_command given))

module _ (p : Program) (x : Recording) (bytes : List ℕ) (end : ℕ) (o : Outcome) where
  -- it went to this step
  abbrev pub Moved : ℕ → List ℕ → At → Type 0
  Moved n text new = (text ≡ step_text n end o) × (new ≡ at_step n)

  -- what a move, or else a command on the state, prints and shows
  abbrev pub DoesMove : At → List ℕ → Move → List ℕ → At → Type 0
  DoesMove old given (Goto n) text new = Moved (min n end) text new
  DoesMove old given Back text new = Moved (old.step - 1) text new
  DoesMove old given (Until f at) text new =
      ((n : ℕ) × IsNext p x f at old.step end n × Moved n text new)
      ⊎ (HasNoNext p x f at old.step end × (text ≡ codes "not reached\n") × (new ≡ old))
  DoesMove old given Look text new = Looked p x bytes old given text new

  -- one after the other
  abbrev pub DoAll : At → List (List ℕ) → List ℕ → Type 0
  DoAll old [] text = text ≡ []
  DoAll old (given ∷ more) text =
      (first : List ℕ) × (behind : List ℕ) × (new : At) × DoesMove old given (read_move given) first new × DoAll new more behind × (text ≡ first ++ behind)

  -- the commands between semicolons, from the first state on
  abbrev pub IsText : (commands : List ℕ) → List ℕ → Type 0
  IsText commands text = DoAll (at_step 0) (commands_in commands) text

-- The text of a replay of the module that these bytes spell, up to the end of its run.
pub record ReplayText (x : Recording) (bytes commands text : List ℕ) : Type 0 where
  pub program : Program
  pub of_program : IsOf x program
  pub end : ℕ
  pub is_end : IsEnd program x end
  pub outcome : Outcome
  pub outcome_is : outcome_at program x end ≡ Some outcome
  pub is_text : IsText program x bytes end outcome commands text
