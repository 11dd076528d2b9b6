-- What the code comes to between two commands of a replay.
use Rattle.std.specs.Prelude.{◌≡◌, ℕ, ◌<◌, length, List, [], ◌∷◌, ◌++◌, Option, Some, None}
use Rattle.std.proofs.Common.{Bor}
use Rattle.wasm_syntax.specs.declared.module.ModuleParts.{ModuleParts as Module}
use Rattle.wasm_syntax.specs.Module.{Program}
use Rattle.wasm_syntax.specs.Run.{Outcome}
use Rattle.machine_hosted.specs.declared.answer.RunEnd.{RunEnd}
use Rattle.debugger.specs.Commands.{read_command}
use Rattle.debugger.specs.Subject.{Subject}
use Rattle.debugger.specs.Session.{Prints, chosen_behind}
use Rattle.replay.specs.Replays.{Recording, IsOf, IsEnd, IsOutcome, EndsWith, outcome_at}
use Rattle.replay.specs.Moves.{Replay}
use Rattle.replay_command.specs.declared.moves.Move.{Move}
use Rattle.replay_command.specs.declared.moves.Move.TheVariants.{Look}
use Rattle.replay_command.specs.Moves.{read_move}
use Rattle.replay_command.specs.ReplayText.{At, at_frame, DoesMove, DoAll, commands_in}

-- ---- what looks

-- a module, the bytes that spell it, and the chosen frame
pub record Seat : Type 0 where
  pub module_ : Module
  pub bytes : List ℕ
  pub chosen : ℕ

-- the same with another frame
abbrev pub choosing : Seat → ℕ → Seat
choosing v i = record { module_ = v.module_; bytes = v.bytes; chosen = i }

-- ---- the commands that are left

-- those of the text that is left, where there is one
abbrev pub left_in : Option (Bor (List ℕ)) → List (List ℕ)
left_in None = []
left_in (Some rest) = commands_in rest.now

-- the text that is left, where there is one, is shorter
abbrev pub IsShorter : Option (Bor (List ℕ)) → List ℕ → Type 0
IsShorter None text = Unit {0}
IsShorter (Some rest) text = length rest.now < length text

-- the first command of the text looks at the state
abbrev pub BeginsWithLook : List ℕ → Type 0
BeginsWithLook text = (given : List ℕ) (more : List (List ℕ)) → commands_in text ≡ given ∷ more → read_move given ≡ Look

-- ---- commands of a session

-- these commands look one after the other, where a frame is chosen at first, and add their texts, and then another frame is chosen
abbrev pub Looks : Subject → ℕ → List ℕ → List (List ℕ) → ℕ → List ℕ → Type 0
Looks s i out [] j more = (j ≡ i) × (more ≡ out)
Looks s i out (given ∷ rest) j more =
    (first : List ℕ) × (read_move given ≡ Look) × Prints s i given (read_command given) first × Looks s (chosen_behind s i (read_command given)) (out ++ first) rest j more

-- the first commands look, and those behind them are left
pub record LookedThrough (s : Subject) (i : ℕ) (out : List ℕ) (commands left : List (List ℕ)) (j : ℕ) (more : List ℕ) : Type 0 where
  pub taken : List (List ℕ)
  pub are : commands ≡ taken ++ left
  pub looks : Looks s i out taken j more

-- ---- commands of a replay

-- the trees of a run, and how it ended
pub record RunOf (x : Recording) (end : ℕ) (answer : RunEnd) (p : Program) (o : Outcome) : Type 0 where
  pub of_program : IsOf x p
  pub outcome_is : outcome_at p x end ≡ Some o
  pub answers : IsOutcome answer o

-- the run and its end are the same
pub record SameRun (old new : Replay) : Type 0 where
  pub recording : new.recording ≡ old.recording
  pub end : new.end ≡ old.end
  pub outcome : new.outcome ≡ old.outcome

-- the step that is shown, with the chosen frame
abbrev pub place : Replay → Seat → At
place r v = at_frame r.step v.chosen

-- a move leads from one place to another, and adds its text
abbrev pub MovesFor : Recording → (bytes : List ℕ) (end : ℕ) → RunEnd → (old : At) (out : List ℕ) → Move → (new : At) (more : List ℕ) → Type 0
MovesFor x bytes end answer old out move new more =
    (p : Program) (o : Outcome) → RunOf x end answer p o → (given : List ℕ) → (text : List ℕ) × (more ≡ out ++ text) × DoesMove p x bytes end o old given move text new

-- The first commands lead from one place to another and add their texts, and the others are left: whatever those print, all of them print it
-- behind these texts.
abbrev pub TakesFor : Recording → (bytes : List ℕ) (end : ℕ) → RunEnd → (old : At) (out : List ℕ) → (commands left : List (List ℕ)) → (new : At) (more : List ℕ) → Type 0
TakesFor x bytes end answer old out commands left new more =
    (p : Program) (o : Outcome) → RunOf x end answer p o → (behind : List ℕ) → DoAll p x bytes end o new left behind
    → (text : List ℕ) × (more ≡ out ++ text) × DoAll p x bytes end o old commands (text ++ behind)

-- a move was made
pub record Moves (old : Replay) (before : Seat) (out : List ℕ) (move : Move) (new : Replay) (after : Seat) (more : List ℕ) : Type 0 where
  pub run : SameRun old new
  pub seat : after ≡ choosing before after.chosen
  pub does : MovesFor old.recording before.bytes old.end old.outcome (place old before) out move (place new after) more

-- the first commands were taken
pub record Took (old : Replay) (before : Seat) (out : List ℕ) (commands left : List (List ℕ)) (new : Replay) (after : Seat) (more : List ℕ) : Type 0 where
  pub run : SameRun old new
  pub seat : after ≡ choosing before after.chosen
  pub does : TakesFor old.recording before.bytes old.end old.outcome (place old before) out commands left (place new after) more

-- how the run ended, of its trees
abbrev pub EndsSo : Program → Replay → Type 0
EndsSo p r = IsEnd p r.recording r.end × EndsWith p r.recording r.end r.outcome
