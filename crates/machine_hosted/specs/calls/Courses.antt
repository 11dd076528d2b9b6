-- Invocations that go on with more steps where their steps were used up (Core 4.5.5).
use Rattle.std.specs.Prelude.{◌≡◌, ℕ, ◌+◌, Bool, List, [], ◌++◌, Option, Some}
use Rattle.wasm_syntax.specs.declared.value.Value.{Value}
use Rattle.wasm_syntax.specs.declared.parts.Import.{Import}
use Rattle.wasm_syntax.specs.declared.module.ModuleParts.{ModuleParts as Module}
use Rattle.wasm_syntax.specs.declared.host.Reply.{Reply}
use Rattle.wasm_syntax.specs.Module.{Program}
use Rattle.wasm_syntax.specs.Run.{engine}
use Rattle.machine_code.specs.declared.code.Code.{Code}
use Rattle.machine_steps.specs.declared.machine.Machine.{Machine}
use Rattle.host_devices.specs.calls.HostSides.{Calls}
use Rattle.machine_hosted.specs.declared.answer.RunEnd.{RunEnd}
use Rattle.machine_hosted.specs.declared.answer.EntryRun.{EntryRun}
use Rattle.machine_hosted.specs.calls.Settings.{world_of, MachineFits, Takes}
use Rattle.machine_hosted.specs.calls.Hosted.{Asked, Grew}
use Rattle.machine_hosted.specs.calls.Answers.{AdmitsReplies}
use Rattle.machine_hosted.specs.calls.Invocations.{invoking, InvocationCame}

-- How an invocation was begun, and how far it came: the start function where it was due, the machine before, the steps that it was given in
-- all and those that it made, and what the host side was asked for.
pub record Course : Type 0 where
  pub start : Option ℕ
  pub before : Machine
  pub fuel : ℕ
  pub steps : ℕ
  pub asked : Asked

-- what was asked for at first, and then
abbrev pub both : Asked → Asked → Asked
both a b = record { given = a.given ++ b.given; told = a.told ++ b.told }

-- the same invocation, given more steps, of which it made some
abbrev pub longer : Course → (fuel steps : ℕ) → Asked → Course
longer course fuel steps asked = record { start = course.start; before = course.before; fuel = course.fuel + fuel; steps = course.steps + steps; asked = both course.asked asked }

module _ (p : Program) (codes : List Code) (collecting : Bool) (depth entry : ℕ) (args : List Value) where
  -- on this course the invocation came to this, whatever replies are left
  abbrev pub CameBy : (Import → Bool) → Course → RunEnd → (ready entered : Bool) → Machine → Type 0
  CameBy used_up course answer ready entered m =
      (more : List Reply) → AdmitsReplies answer more → InvocationCame p codes used_up (invoking (engine p collecting depth) course.start entry args (world_of course.before [])) course.fuel course.asked answer course.steps ready entered m more

  -- the same of a module, whose start function alone may have been due, from a machine that fitted it
  pub record Followed (source : Module) (course : Course) (answer : RunEnd) (ready entered : Bool) (m : Machine) : Type 0 where
    pub due : (f : ℕ) → course.start ≡ Some f → source.start ≡ Some f
    pub fits : MachineFits source course.before
    pub takes : Takes source entry args
    pub used_up : Import → Bool
    pub came : CameBy used_up course answer ready entered m

  -- So many steps more were made. The host side was asked for something, and with that the whole invocation came to this.
  pub record WentOn (used_up : Import → Bool) (course : Course) (fuel : ℕ) (run : EntryRun) (m : Machine) (old new : Calls) : Type 0 where
    pub asked : Asked
    pub grew : Grew asked old new
    pub came : CameBy used_up (longer course fuel run.steps asked) run.answer run.ready run.entered m
