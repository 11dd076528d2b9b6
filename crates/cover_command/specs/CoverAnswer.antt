-- What `cover` answers. Refusals, and who serves imports, are as with `run`.
use Rattle.std.specs.Prelude.{◌≡◌, ◌⊎◌, ℕ, ◌-◌, false, List, [], ◌∷◌, ◌++◌, map, length, Option, Some, codes, unwrap_or}
use Rattle.pm_outside.specs.Contents.{Contents}
use Rattle.wasm_syntax.specs.declared.value.Value.{Value}
use Rattle.wasm_syntax.specs.declared.parts.Import.{Import}
use Rattle.wasm_syntax.specs.declared.quantity.Quantity.TheVariants.{ModuleBytes}
use Rattle.wasm_syntax.specs.declared.host.Reply.{Reply}
use Rattle.wasm_syntax.specs.declared.host.Served.{Served}
use Rattle.wasm_syntax.specs.declared.module.ModuleParts.{ModuleParts as Module}
use Rattle.wasm_syntax.specs.Module.{Program, IsProgram, function_export}
use Rattle.wasm_syntax.specs.Run.{Outcome as RunOutcome, finished, trapped, lacks_reply, misfits, running, Ran, Invocation, engine, invoked, start_world}
use Rattle.wasm_decode.specs.Decode.{module_from}
use Rattle.machine_steps.specs.Places.{Place, invocation_places}
use Rattle.host_devices.specs.Given.{replies_of}
use Rattle.host_set.specs.Sets.{DeviceState, names}
use Rattle.commands.specs.Texts.{ended}
use Rattle.commands.specs.Inputs.{input_of, Then}
use Rattle.commands.specs.Loading.{IfLoaded}
use Rattle.commands.specs.declared.outcome.Outcome.{Outcome}
use Rattle.commands.specs.declared.status.Status.TheVariants as status
use Rattle.run_words.specs.declared.cover.CoverWords.{CoverWords}
use Rattle.commands.specs.Lines.{kind_line, result_text}
use Rattle.run_session.specs.Given.{given_to}
use Rattle.run_session.specs.Invocations.{invocation_of}
use Rattle.pm_outside.specs.Held.{Writes}
use Rattle.run_command.specs.Hosting.{scripted, start_text}
use Rattle.run_command.specs.AllRan.{end_text}
use Rattle.run_command.specs.RunAnswer.{hosting, script_of, replies_input, UsesUp, HasFailed, Logs, StartsOr, IfRefusal, IsUntouched}
use Rattle.debug_frames.specs.Information.{SourceInformation, information}
use Rattle.cover_command.specs.SourceLines.{SourceLine, source_line}
use Rattle.cover_command.specs.CoverText.{CoverText}

-- ---- the invocation

module _ (p : Program) (w : CoverWords) (function : ℕ) (replies : List Reply) where
  -- what the function of this index comes to on a new instance, with these replies, within so many steps
  abbrev pub covered_run : (fuel : ℕ) → Ran
  covered_run fuel = invoked (engine p false w.depth) p.module_.start fuel function w.called.args (start_world p.module_ replies)

  -- where its first so many steps are made
  abbrev pub covered_places : (steps : ℕ) → List (Option Place)
  covered_places steps = invocation_places (engine p false w.depth) p.module_.start steps function w.called.args (start_world p.module_ replies)

-- ---- the answer

unfoldable pub finished_line : Option Value → List ℕ
finished_line v = codes "finished" ++ result_text v ++ codes "\n"

abbrev pub Tells : (ending : List ℕ) → List (Option SourceLine) → Outcome → Type 0
Tells ending fell o = (o.status ≡ status.Done) × CoverText ending fell o.text

-- A run that finished, that trapped or that spent its fuel is told with its steps, which fell so. One that wants a reply, behind so many that
-- fitted, is answered as by `run`.
abbrev pub EndsAs : List (List ℕ) → List Import → (fitted : ℕ) → List (Option SourceLine) → RunOutcome → Outcome → Type 0
EndsAs names imports fitted fell (finished v) o = Tells (finished_line v) fell o
EndsAs names imports fitted fell (trapped kind) o = Tells (kind_line kind) fell o
EndsAs names imports fitted fell running o = Tells (codes "fuel spent\n") fell o
EndsAs names imports fitted fell (lacks_reply call) o = o ≡ ended status.HostStopped (end_text names imports fitted 0 (lacks_reply call))
EndsAs names imports fitted fell (misfits call reply) o = o ≡ ended status.HostStopped (end_text names imports fitted 0 (misfits call reply))
EndsAs names imports fitted fell _ o = ⊥

-- what the invocation comes to on the replies that were given, those of the script being its first ones; a device that gives none has failed
pub record CoversTo (before after : List DeviceState) (script : Option (List Reply)) (w : CoverWords) (lines : SourceInformation) (m : Module) (given : List Served) (o : Outcome) : Type 0 where
  pub program : Program
  pub of_module : program.module_ ≡ m
  pub writes_out : IsProgram program
  pub function : ℕ
  pub exported : function_export m w.called.entry ≡ Some function
  pub ran : Ran
  pub runs : ran ≡ covered_run program w function (replies_of given) w.fuel
  pub all_given : given ≡ given_to ran
  pub left : List Reply
  pub by_script : unwrap_or script [] ≡ replies_of (scripted (names before) m.imports given) ++ left
  pub used_up : UsesUp (hosting before script false) m left ran.outcome
  pub failed : HasFailed before after m ran.outcome
  -- each step that was made has its place
  pub places : List (Option Place)
  pub placed : places ≡ covered_places program w function (replies_of given) (w.fuel - ran.left)
  pub all_placed : length places ≡ w.fuel - ran.left
  pub answer : EndsAs (names before) m.imports (length ran.served) (map (source_line lines m) places) ran.outcome o

-- the one invocation that the words ask for
abbrev pub called : CoverWords → List Invocation
called w = invocation_of w.called ∷ []

-- on a valid module that these bytes spell
abbrev pub ModuleAnswer : (before after : List DeviceState) → CoverWords → List Served → Option (List Reply) → List ℕ → Module → Outcome → Type 0
ModuleAnswer before after w given script bytes m o =
    StartsOr (start_text (hosting before script false) m (called w))
    (CoversTo before after script w (information bytes m.customs) m given o × Logs m given before after) o

-- The answer to `cover`, where the devices are these before and then, files hold this when the module is read and that when the replies are,
-- and these replies were given in this call. No file is written.
pub record CoverAnswer (before after : List DeviceState) (w : CoverWords) (first later : Contents) (given : List Served) (writes : Writes) (o : Outcome) : Type 0 where
  pub answer : Then (input_of ModuleBytes w.source (first w.source)) (λ bytes.
      Then (replies_input w.replies later) (λ script_bytes.
      IfLoaded (λ m. Then (script_of script_bytes) (λ script. ModuleAnswer before after w given script bytes m)) (module_from bytes))) o
  pub untouched : IfRefusal o.status (IsUntouched before after given writes)
  pub none_written : writes ≡ []

-- a file that is read: the module's, or that of the replies
abbrev pub IsReadBy : CoverWords → List ℕ → Type 0
IsReadBy w file = (file ≡ w.source) ⊎ (w.replies ≡ Some file)
