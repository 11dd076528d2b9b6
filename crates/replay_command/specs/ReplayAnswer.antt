-- What `replay` answers.
use Rattle.std.specs.Prelude.{◌≡◌, ℕ, ◌⊎◌, List, Result, Ok, Err}
use Rattle.pm_outside.specs.Contents.{Contents}
use Rattle.wasm_syntax.specs.declared.quantity.Quantity.TheVariants.{ModuleBytes, RepliesBytes}
use Rattle.wasm_syntax.specs.declared.host.Reply.{Reply}
use Rattle.wasm_syntax.specs.declared.module.ModuleParts.{ModuleParts as Module}
use Rattle.wasm_decode.specs.Decode.{module_from}
use Rattle.host_replies.specs.Replies.{file_replies}
use Rattle.commands.specs.Inputs.{input_of, Then}
use Rattle.commands.specs.Loading.{IfLoaded}
use Rattle.commands.specs.declared.outcome.Outcome.{Outcome}
use Rattle.commands.specs.declared.status.Status.TheVariants as status
use Rattle.run_command.specs.Starting.{cause_text}
use Rattle.run_command.specs.RunAnswer.{StartsOr, bad_replies}
use Rattle.replay.specs.Replays.{Recording, cause_in}
use Rattle.replay_command.specs.declared.asking.ReplayWords.{ReplayWords}
use Rattle.replay_command.specs.ReplayText.{ReplayText}

abbrev pub recording : ReplayWords → Module → List Reply → Recording
recording w m replies = record { module_ = m; entry = w.entry; args = w.args; replies = replies; depth = w.depth; fuel = w.fuel }

-- the run is replayed
pub record IsTold (x : Recording) (bytes commands : List ℕ) (o : Outcome) : Type 0 where
  pub done : o.status ≡ status.Done
  pub prints : ReplayText x bytes commands o.text

-- the cause for which the run does not start is told, or it is replayed
abbrev pub ModuleAnswer : ReplayWords → List ℕ → Module → List Reply → Outcome → Type 0
ModuleAnswer w bytes m replies o = let x = recording w m replies in StartsOr (cause_text w.entry (cause_in x)) (IsTold x bytes w.commands o) o

-- the first line of the file that is no reply is told
abbrev pub IfReplies : (List Reply → Outcome → Type 0) → Result (List Reply) ℕ → Outcome → Type 0
IfReplies Answers (Ok replies) o = Answers replies o
IfReplies Answers (Err line) o = o ≡ bad_replies line

abbrev pub BytesAnswer : ReplayWords → (bytes log : List ℕ) → Outcome → Type 0
BytesAnswer w bytes log o = IfLoaded (λ m. IfReplies (ModuleAnswer w bytes m) (file_replies log)) (module_from bytes) o

-- Both files are read, the module's first, before what they hold is judged.
abbrev pub ReplayAnswer : ReplayWords → (first later : Contents) → Outcome → Type 0
ReplayAnswer w first later o =
    Then (input_of ModuleBytes w.source (first w.source)) (λ bytes.
    Then (input_of RepliesBytes w.log (later w.log)) (λ log. BytesAnswer w bytes log)) o

-- a file that the command reads
abbrev pub IsReadBy : ReplayWords → List ℕ → Type 0
IsReadBy w file = (file ≡ w.source) ⊎ (file ≡ w.log)
