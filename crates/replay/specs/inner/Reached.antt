-- How far an instance came in a run, on the first so many of its replies.
use Rattle.std.specs.Prelude.{◌≡◌, ℕ, ◌≤◌, Bool, false, List, take, drop, length, Some, None}
use Rattle.wasm_syntax.specs.declared.parts.Import.{Import}
use Rattle.wasm_syntax.specs.declared.host.Reply.{Reply}
use Rattle.wasm_syntax.specs.Module.{Program, IsModule, function_export}
use Rattle.wasm_syntax.specs.Run.{start_world}
use Rattle.host_devices.specs.Given.{replies_of}
use Rattle.machine_hosted.specs.calls.Settings.{world_of}
use Rattle.machine_hosted.specs.calls.Answers.{AdmitsReplies}
use Rattle.machine_hosted.specs.calls.Courses.{Course, CameBy}
use Rattle.machine_hosted.specs.declared.answer.RunEnd.{RunEnd}
use Rattle.machine_hosted.specs.declared.answer.RunEnd.TheVariants.{Finished, Trapped, NoReply, BadReply, DeviceFault, FuelSpent, NoMemory}
use Rattle.wasm_machine.specs.declared.invocation.End.{End}
use Rattle.wasm_machine.specs.declared.invocation.LastInvocation.{LastInvocation}
use Rattle.wasm_machine.specs.calls.Instances.{State, kept_end, StoppedBy}
use Rattle.replay.specs.Replays.{Recording, IsOf, cause_in}

-- this, where memory sufficed
abbrev pub IfHad : RunEnd → Type 0 → Type 0
IfHad NoMemory P = Unit {0}
IfHad (Finished value) P = P
IfHad (Trapped kind) P = P
IfHad NoReply P = P
IfHad (BadReply reply) P = P
IfHad (DeviceFault name) P = P
IfHad FuelSpent P = P

-- memory sufficed, and there is no device that could fail
abbrev pub HasEnded : RunEnd → Type 0
HasEnded NoMemory = ⊥
HasEnded (Finished value) = Unit {0}
HasEnded (Trapped kind) = Unit {0}
HasEnded NoReply = Unit {0}
HasEnded (BadReply reply) = Unit {0}
HasEnded (DeviceFault name) = ⊥
HasEnded FuelSpent = Unit {0}

-- the one invocation, as an instance keeps it
abbrev pub kept : Recording → (entry : ℕ) → End → LastInvocation
kept x entry end = record { entry = entry; args = x.args; depth = x.depth; collecting = false; end = end }

-- From the first world on, the invocation was given so many steps and the first so many replies, and came to where the instance stands.
pub record CameTo (x : Recording) (entry n next : ℕ) (answer : RunEnd) (end : End) (s : State) (p : Program) : Type 0 where
  pub course : Course
  pub start : course.start ≡ x.module_.start
  pub before : (replies : List Reply) → world_of course.before replies ≡ start_world x.module_ replies
  pub fuel : course.fuel ≡ n
  pub steps : course.steps ≡ s.steps
  pub given : replies_of course.asked.given ≡ take next x.replies
  pub stopped : StoppedBy s (kept x entry end) p course
  pub used_up : Import → Bool
  pub came : CameBy p s.prepared.codes.items false x.depth entry x.args used_up course answer s.ready s.entered s.machine

pub record Reached (x : Recording) (n next : ℕ) (answer : RunEnd) (s : State) : Type 0 where
  pub whole : IsModule x.module_
  pub starts : cause_in x ≡ None
  pub of_module : s.module_ ≡ x.module_
  pub within : next ≤ length x.replies
  pub ended : HasEnded answer
  pub admits : AdmitsReplies answer (drop next x.replies)
  pub made : s.steps ≤ n
  pub entry : ℕ
  pub exported : function_export x.module_ x.entry ≡ Some entry
  pub end : End
  pub end_is : kept_end answer ≡ Some end
  pub last : s.last ≡ Some (kept x entry end)
  pub came : (p : Program) → IsOf x p → CameTo x entry n next answer end s p

-- it goes on where it is given more steps
abbrev pub Waits : Recording → (n next : ℕ) → State → Type 0
Waits x n next s = Reached x n next FuelSpent s
