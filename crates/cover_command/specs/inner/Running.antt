-- The invocation and its end, as the code comes to them.
use Rattle.debug_frames.specs.Information.{SourceInformation}
use Rattle.std.specs.Prelude.{◌≡◌, ◌<◌, ◌^◌, ℕ, Bool, List, map, length, Option, Some, codes}
use Rattle.wasm_syntax.specs.declared.parts.Import.{Import}
use Rattle.wasm_syntax.specs.declared.module.ModuleParts.{ModuleParts as Module}
use Rattle.wasm_syntax.specs.Module.{Program, function_export}
use Rattle.machine_basics.specs.calls.Traps.{trap_code}
use Rattle.machine_steps.specs.Places.{Place}
use Rattle.machine_steps.specs.calls.Tallies.{Counts, Counted}
use Rattle.host_devices.specs.calls.HostSides.{Calls}
use Rattle.machine_hosted.specs.declared.answer.RunEnd.{RunEnd}
use Rattle.machine_hosted.specs.declared.answer.RunEnd.TheVariants.{Finished, Trapped, NoReply, BadReply, DeviceFault, FuelSpent, NoMemory}
use Rattle.wasm_machine.specs.calls.Instances.{State, IsOf, Invoked}
use Rattle.wasm_machine.specs.calls.Watching.{Seen}
use Rattle.commands.specs.Texts.{ended}
use Rattle.commands.specs.declared.outcome.Outcome.{Outcome}
use Rattle.commands.specs.declared.status.Status.TheVariants as status
use Rattle.run_words.specs.declared.cover.CoverWords.{CoverWords}
use Rattle.commands.specs.Lines.{kind_line}
use Rattle.run_session.specs.calls.Answers.{answer_line}
use Rattle.cover_command.specs.SourceLines.{source_line}
use Rattle.cover_command.specs.CoverText.{CoverText}
use Rattle.cover_command.specs.CoverAnswer.{finished_line}

-- The invocation came to the answer, and all steps that were made were counted.
abbrev pub Came : CoverWords → (collecting : Bool) → (Import → Bool) → (before now : State) → RunEnd → (uncounted counted : Counts) → (old new : Calls) → Type 0
Came w collecting used_up before now answer uncounted counted old new =
    (f : ℕ) × (function_export before.module_ w.called.entry ≡ Some f)
    × ((p : Program) → IsOf before p
    → Invoked p collecting w.depth used_up f w.called.args w.fuel before now answer old new
    × Seen Counted p collecting w.depth f w.called.args w.fuel before now answer uncounted counted old new)

-- a text tells these counts behind an ending, wherever the steps were made
abbrev pub AddsCounts : SourceInformation → Module → Counts → (ending text : List ℕ) → Type 0
AddsCounts lines m t ending text = (seen : List (Option Place)) → Counted m t seen → length seen < 2 ^ 64 → CoverText ending (map (source_line lines m) seen) text

-- they are told behind it
abbrev pub TellsCounts : SourceInformation → Module → Counts → (ending : List ℕ) → Outcome → Type 0
TellsCounts lines m t ending o = (o.status ≡ status.Done) × AddsCounts lines m t ending o.text

-- what is answered where the invocation came to this, behind so many calls that were replied to
abbrev pub AnswersEnd : SourceInformation → Module → Counts → (given : ℕ) → RunEnd → Outcome → Type 0
AnswersEnd lines m t given (Finished v) o = TellsCounts lines m t (finished_line v) o
AnswersEnd lines m t given (Trapped kind) o = TellsCounts lines m t (kind_line (trap_code kind)) o
AnswersEnd lines m t given FuelSpent o = TellsCounts lines m t (codes "fuel spent\n") o
AnswersEnd lines m t given NoReply o = o ≡ ended status.HostStopped (answer_line NoReply given 0)
AnswersEnd lines m t given (BadReply reply) o = o ≡ ended status.HostStopped (answer_line (BadReply reply) given 0)
AnswersEnd lines m t given (DeviceFault device) o = o ≡ ended status.HostStopped (answer_line (DeviceFault device) given 0)
AnswersEnd lines m t given NoMemory o = ⊥
