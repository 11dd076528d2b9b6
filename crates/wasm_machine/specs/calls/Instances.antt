-- Instances (Core 4.2.5) and what they are known to be.
use Rattle.std.specs.Prelude.{◌≡◌, ℕ, ◌+◌, ◌≤◌, Bool, true, false, List, [], Option, Some, None, option_map, Result, Ok, Err}
use Rattle.wasm_syntax.specs.declared.value.Value.{Value}
use Rattle.wasm_syntax.specs.declared.parts.Import.{Import}
use Rattle.wasm_syntax.specs.declared.module.ModuleParts.{ModuleParts as Module}
use Rattle.wasm_syntax.specs.declared.host.Reply.{Reply}
use Rattle.wasm_syntax.specs.Module.{Program, IsProgram}
use Rattle.wasm_syntax.specs.Machine.{Config}
use Rattle.wasm_syntax.specs.Run.{element_out, data_out, start_world, cause_of_segments, engine}
use Rattle.machine_steps.specs.declared.machine.Machine.{Machine}
use Rattle.machine_code.specs.declared.prepared.Prepared.{Prepared}
use Rattle.host_devices.specs.calls.HostSides.{Calls}
use Rattle.wasm_machine.specs.declared.started.StartFault.{StartFault}
use Rattle.wasm_machine.specs.declared.started.StartFault.TheVariants.{ElementOut, DataOut, NoMemory}
use Rattle.machine_hosted.specs.declared.answer.RunEnd.{RunEnd}
use Rattle.machine_hosted.specs.declared.answer.RunEnd.TheVariants as answers
use Rattle.machine_hosted.specs.calls.Settings.{Sound, world_of, MachineFits}
use Rattle.machine_hosted.specs.calls.Hosted.{Asked, Grew}
use Rattle.machine_hosted.specs.calls.Answers.{Keeps}
use Rattle.machine_hosted.specs.calls.Invocations.{InvocationCameWith, invoking}
use Rattle.machine_hosted.specs.calls.Courses.{Course, longer, CameBy, Followed}
use Rattle.wasm_machine.specs.declared.invocation.End.{End}
use Rattle.wasm_machine.specs.declared.invocation.End.TheVariants as ends
use Rattle.wasm_machine.specs.declared.invocation.LastInvocation.{LastInvocation}

-- ---- the last invocation

-- how it ended, where memory sufficed
abbrev pub kept_end : RunEnd → Option End
kept_end (answers.Finished value) = Some (ends.Finished value)
kept_end (answers.Trapped kind) = Some (ends.Trapped kind)
kept_end answers.NoReply = Some ends.NoReply
kept_end (answers.BadReply reply) = Some ends.BadReply
kept_end (answers.DeviceFault name) = Some ends.DeviceFault
kept_end answers.FuelSpent = Some ends.FuelSpent
kept_end answers.NoMemory = None

-- what is kept of it: the function and its arguments, how many frames there may be, whether the calls of the collector were collected, and how
-- it ended; behind want of memory nothing
abbrev pub last_of : (entry : ℕ) (args : List Value) (depth : ℕ) (collecting : Bool) → RunEnd → Option LastInvocation
last_of entry args depth collecting answer =
    option_map (λ end. record { entry = entry; args = args; depth = depth; collecting = collecting; end = end }) (kept_end answer)

-- ---- instances

-- an instance: its module, and that prepared; its globals, memory, table and frames; the start function where it is due; whether it may be
-- invoked; whether the function of its last invocation was begun, behind the start function; how many steps it has made, with those of the
-- instance that it is a copy of, and without them; and what it keeps of its last invocation
pub record State : Type 0 where
  pub module_ : Module
  pub prepared : Prepared
  pub machine : Machine
  pub due : Option ℕ
  pub ready : Bool
  pub entered : Bool
  pub steps : ℕ
  pub since_copy : ℕ
  pub last : Option LastInvocation

abbrev pub state : Module → Prepared → Machine → Option ℕ → (ready entered : Bool) → (steps since_copy : ℕ) → Option LastInvocation → State
state m prepared machine due ready entered steps since_copy last =
    record { module_ = m; prepared = prepared; machine = machine; due = due; ready = ready; entered = entered; steps = steps; since_copy = since_copy; last = last }

-- a copy, which has made no step itself
abbrev pub copied : State → State
copied s = record s { since_copy = 0 }

-- the program is that of the instance's module
pub record IsOf (s : State) (p : Program) : Type 0 where
  pub of_module : p.module_ ≡ s.module_
  pub writes_out : IsProgram p

-- On this course the last invocation came to where the instance stands, whatever replies are left, if memory sufficed: the start function
-- where it was due, and the function that is kept, from what the instance held before.
abbrev pub StoppedBy : State → LastInvocation → Program → Course → Type 0
StoppedBy s l p course =
    (answer : RunEnd) × (kept_end answer ≡ Some l.end) × Followed p s.prepared.codes.items l.collecting l.depth l.entry l.args s.module_ course answer s.ready s.entered s.machine

abbrev pub Stopped : State → LastInvocation → Program → Type 0
Stopped s l p = (course : Course) × StoppedBy s l p course

-- the steps of its last invocation were used up, with so many frames at most and a host side that collects or does not
pub record IsSpent (s : State) (depth : ℕ) (collecting : Bool) : Type 0 where
  pub entry : ℕ
  pub args : List Value
  pub last_is : s.last ≡ last_of entry args depth collecting answers.FuelSpent

-- Only the module's start function is ever due, what is outside the frames fits the module while the instance is ready, a copy has made no
-- more steps than all that there were, and where an invocation is kept, the instance stands where that stopped.
pub record SoundState (s : State) : Type 0 where
  pub sound : Sound s.module_ s.prepared
  pub start : (f : ℕ) → s.due ≡ Some f → s.module_.start ≡ Some f
  pub fits : s.ready ≡ true → MachineFits s.module_ s.machine
  pub since_copy : s.since_copy ≤ s.steps
  pub stopped : (l : LastInvocation) → s.last ≡ Some l → (p : Program) → IsOf s p → Stopped s l p

-- an instance of a module that was not invoked
pub record IsNew (m : Module) (s : State) : Type 0 where
  pub module_is : s.module_ ≡ m
  pub world : (replies : List Reply) → world_of s.machine replies ≡ start_world m replies
  pub frames : s.machine.stack.frames ≡ []
  pub due : s.due ≡ m.start
  pub ready : s.ready ≡ true
  pub entered : s.entered ≡ false
  pub steps : s.steps ≡ 0
  pub since_copy : s.since_copy ≡ 0
  pub last : s.last ≡ None

-- the instance stands at a configuration of the program of its module
pub record StandsAt (s : State) (p : Program) (c : Config) : Type 0 where
  pub is_of : IsOf s p
  pub keeps : Keeps p s.prepared.codes.items s.machine c

-- A new instance, where all segments lie inside; or the first one that does not.
abbrev pub Begins : Result State StartFault → Module → Type 0
Begins (Ok s) m = (cause_of_segments m ≡ None) × IsNew m s
Begins (Err (ElementOut index)) m = cause_of_segments m ≡ Some (element_out index)
Begins (Err (DataOut index)) m = cause_of_segments m ≡ Some (data_out index)
Begins (Err NoMemory) m = Unit {0}

-- how the first steps of an invocation go from what the instance holds
abbrev pub course_from : State → (fuel made : ℕ) → Asked → Course
course_from s fuel made asked = record { start = s.due; before = s.machine; fuel = fuel; steps = made; asked = asked }

-- So many steps were made, and the invocation came to the answer (Core 4.5.5).
pub record Invoked (p : Program) (collecting : Bool) (depth : ℕ) (used_up : Import → Bool) (entry : ℕ) (args : List Value) (fuel : ℕ) (before now : State) (answer : RunEnd) (old new : Calls) : Type 0 where
  pub made : ℕ
  pub steps : now.steps ≡ before.steps + made
  pub since_copy : now.since_copy ≡ before.since_copy + made
  pub came : InvocationCameWith p before.prepared.codes.items used_up (invoking (engine p collecting depth) before.due entry args (world_of before.machine [])) fuel answer made now.ready now.entered now.machine old new
  pub stopped : (l : LastInvocation) → now.last ≡ Some l → StoppedBy now l p (course_from before fuel made came.asked)

-- So many steps more were made, and with them the invocation on this course came to the answer: on the replies that were given since it
-- began, in order.
pub record Resumed (p : Program) (used_up : Import → Bool) (l : LastInvocation) (course : Course) (fuel : ℕ) (before now : State) (answer : RunEnd) (old new : Calls) : Type 0 where
  pub made : ℕ
  pub steps : now.steps ≡ before.steps + made
  pub since_copy : now.since_copy ≡ before.since_copy + made
  pub asked : Asked
  pub grew : Grew asked old new
  pub came : CameBy p before.prepared.codes.items l.collecting l.depth l.entry l.args used_up (longer course fuel made asked) answer now.ready now.entered now.machine
  pub stopped : (k : LastInvocation) → now.last ≡ Some k → StoppedBy now k p (longer course fuel made asked)
