-- What `run` answers, and what it writes.
use Rattle.std.specs.Prelude.{◌≡◌, ℕ, ◌⊎◌, Bool, true, false, List, [], ◌++◌, map, length, Option, Some, None, Result, Ok, Err, codes, unwrap_or}
use Rattle.std.specs.Fmt.{decimal}
use Rattle.causes.specs.Counts.{Rose}
use Rattle.pm_outside.specs.Contents.{Contents}
use Rattle.wasm_syntax.specs.declared.quantity.Quantity.TheVariants.{ModuleBytes, RepliesBytes}
use Rattle.wasm_syntax.specs.declared.host.Reply.{Reply}
use Rattle.wasm_syntax.specs.declared.host.Served.{Served}
use Rattle.wasm_syntax.specs.declared.host.CollectorCall.{CollectorCall}
use Rattle.wasm_syntax.specs.declared.module.ModuleParts.{ModuleParts as Module}
use Rattle.wasm_syntax.specs.Module.{Program, IsProgram}
use Rattle.wasm_syntax.specs.Run.{Outcome as RunOutcome, lacks_reply, Ran, run}
use Rattle.wasm_decode.specs.Decode.{module_from}
use Rattle.pm_outside.specs.Written.{OnTold}
use Rattle.host_replies.specs.Replies.{file_replies}
use Rattle.commands.specs.Texts.{ended}
use Rattle.commands.specs.Inputs.{input_of, Then}
use Rattle.commands.specs.Loading.{IfLoaded}
use Rattle.commands.specs.Told.{MayHold}
use Rattle.commands.specs.declared.outcome.Outcome.{Outcome}
use Rattle.commands.specs.declared.status.Status.{Status}
use Rattle.commands.specs.declared.status.Status.TheVariants as status
use Rattle.run_words.specs.declared.words.RunWords.{RunWords}
use Rattle.run_session.specs.Delivery.{Delivery, IsDelivery}
use Rattle.run_session.specs.Telling.{tells}
use Rattle.run_session.specs.RunText.{up_to_torn, dumps_from, last_of}
use Rattle.host_devices.specs.Given.{replies_of}
use Rattle.host_set.specs.Sets.{DeviceState, names, count_of, log_of, is_named}
use Rattle.run_session.specs.Given.{given_in, module_of, from_module}
use Rattle.pm_outside.specs.Held.{Writes, HoldThen}
use Rattle.run_session.specs.Invocations.{invocation_of, depth_of}
use Rattle.run_command.specs.Starting.{not_started_with}
use Rattle.run_command.specs.Hosting.{Hosting, scripted, start_text}
use Rattle.run_command.specs.AllRan.{all_ran}
use Rattle.run_command.specs.Recorded.{recorded, served_in, IsReadBack}

-- no reply of the script is left where a call that no device serves has none
abbrev pub UsesUp : Hosting → Module → List Reply → RunOutcome → Type 0
UsesUp h m left (lacks_reply call) = is_named h.names (module_of m.imports call.import) ≡ false → left ≡ []
UsesUp h m left _ = Unit {0}

abbrev pub EndUsesUp : Hosting → Module → List Reply → Option Ran → Type 0
EndUsesUp h m left None = Unit {0}
EndUsesUp h m left (Some r) = UsesUp h m left r.outcome

-- the count of a device rose, where a call that it serves has no reply
abbrev pub HasFailed : (before after : List DeviceState) → Module → RunOutcome → Type 0
HasFailed before after m (lacks_reply call) =
    is_named (names before) (module_of m.imports call.import) ≡ true → Rose (count_of before (module_of m.imports call.import)) (count_of after (module_of m.imports call.import))
HasFailed before after m _ = Unit {0}

abbrev pub EndHasFailed : (before after : List DeviceState) → Module → Option Ran → Type 0
EndHasFailed before after m None = Unit {0}
EndHasFailed before after m (Some r) = HasFailed before after m r.outcome

-- ---- the answer

-- each device has logged what was given to its imports
pub record Logs (m : Module) (given : List Served) (before after : List DeviceState) : Type 0 where
  pub devices : names after ≡ names before
  pub logs : (name : List ℕ) → is_named (names before) name ≡ true → log_of after name ≡ log_of before name ++ from_module m.imports name given

abbrev pub hosting : List DeviceState → Option (List Reply) → (collects : Bool) → Hosting
hosting devices script collects = record { names = names devices; script = script; collects = collects }

-- what the invocations come to on the replies that were given, those of the script being its first ones; a device that gives none has failed
pub record RunsTo (before after : List DeviceState) (script : Option (List Reply)) (w : RunWords) (m : Module) (given : List Served) (o : Outcome) (writes : Writes) : Type 0 where
  pub program : Program
  pub of_module : program.module_ ≡ m
  pub writes_out : IsProgram program
  -- what calls of the collector hand over, which are looked at where one is asked for
  pub deliver : List CollectorCall → Delivery
  pub delivers : IsDelivery deliver
  -- the run, up to an invocation whose calls are torn
  pub rans : List Ran
  pub runs : rans ≡ up_to_torn (tells w.collect deliver) (run program w.collect (map invocation_of w.invocations) (replies_of given) (depth_of w) w.fuel)
  pub all_given : given ≡ given_in rans
  pub left : List Reply
  pub by_script : unwrap_or script [] ≡ replies_of (scripted (names before) m.imports given) ++ left
  pub used_up : EndUsesUp (hosting before script w.collect) m left (last_of rans)
  pub failed : EndHasFailed before after m (last_of rans)
  pub answer : all_ran (tells w.collect deliver) (names before) m.imports (length w.invocations) rans ≡ Some o
  -- the dumps, and the record behind them
  pub wrote : writes ≡ dumps_from (tells w.collect deliver) w.dump w.name 0 rans ++ recorded w.log_to rans
  pub read_back : IsReadBack w.log_to (replies_of (served_in rans))

abbrev pub StartsOr : Option (List ℕ) → Type 0 → Outcome → Type 0
StartsOr (Some cause) P o = o ≡ not_started_with cause
StartsOr None P o = P

abbrev pub ModuleAnswer : (before after : List DeviceState) → RunWords → List Served → Writes → Option (List Reply) → Module → Outcome → Type 0
ModuleAnswer before after w given writes script m o =
    StartsOr (start_text (hosting before script w.collect) m (map invocation_of w.invocations)) (RunsTo before after script w m given o writes × Logs m given before after) o

-- the bytes of the file of replies, where one is asked for
abbrev pub replies_input : Option (List ℕ) → Contents → Result (Option (List ℕ)) Outcome
replies_input None files = Ok None
replies_input (Some file) files = elim (input_of RepliesBytes file (files file)) [ Ok bytes ↦ Ok (Some bytes) | Err o ↦ Err o ]

abbrev pub bad_replies : ℕ → Outcome
bad_replies line = ended status.BadReplies (codes "bad replies at line " ++ decimal line ++ codes "\n")

abbrev pub script_of_bytes : Result (List Reply) ℕ → Result (Option (List Reply)) Outcome
script_of_bytes (Ok replies) = Ok (Some replies)
script_of_bytes (Err line) = Err (bad_replies line)

abbrev pub script_of : Option (List ℕ) → Result (Option (List Reply)) Outcome
script_of None = Ok None
script_of (Some bytes) = script_of_bytes (file_replies bytes)

-- a refusal writes nothing and calls nobody
pub record IsUntouched (before after : List DeviceState) (given : List Served) (writes : Writes) : Type 0 where
  pub devices : after ≡ before
  pub given_none : given ≡ []
  pub writes_none : writes ≡ []

-- a fact on each status of a refusal
abbrev pub IfRefusal : Status → Type 0 → Type 0
IfRefusal status.Done P = Unit {0}
IfRefusal status.Trapped P = Unit {0}
IfRefusal status.HostStopped P = Unit {0}
IfRefusal status.FuelSpent P = Unit {0}
IfRefusal status.TornCalls P = Unit {0}
IfRefusal status.FileFault P = Unit {0}
IfRefusal _ P = P

-- The answer to `run`, where the devices are these before and then, files hold this when the module is read and that when the replies are,
-- these replies were given in this call, and these files were written.
pub record RunAnswer (before after : List DeviceState) (w : RunWords) (first later : Contents) (given : List Served) (writes : Writes) (o : Outcome) : Type 0 where
  pub answer : Then (input_of ModuleBytes w.source (first w.source)) (λ bytes.
      Then (replies_input w.replies later) (λ script_bytes.
      IfLoaded (λ m. Then (script_of script_bytes) (λ script. ModuleAnswer before after w given writes script m)) (module_from bytes))) o
  pub untouched : IfRefusal o.status (IsUntouched before after given writes)

-- ---- files

-- a file that is read: the module's, or that of the replies
abbrev pub IsReadBy : RunWords → List ℕ → Type 0
IsReadBy w file = (file ≡ w.source) ⊎ (w.replies ≡ Some file)

-- Something is answered by what files hold when the first of them is read, and when the second one is. Both are what files tell, where they
-- tell it. The files then hold what is written.
pub record AnsweredOn (Answers : (first later : Contents) → List Served → Writes → Outcome → Type 0) (old new : Option Contents) (o : Outcome) : Type 0 where
  pub first : Contents
  pub may_first : MayHold old first
  pub later : Contents
  pub may_later : MayHold old later
  pub given : List Served
  pub writes : Writes
  pub answer : Answers first later given writes o
  pub files : OnTold (HoldThen writes) old new
