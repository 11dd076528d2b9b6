-- One invocation of a list, and the whole list, as the code makes them.
use Rattle.std.specs.Prelude.{◌≡◌, ℕ, ◌-◌, ◌<◌, ◌≤◌, ◌⊎◌, Bool, true, false, List, [], ◌∷◌, ◌++◌, length, take, Option, Some, None, Result, Ok, Err, codes}
use Rattle.std.specs.Fmt.{decimal}
use Rattle.causes.specs.Counts.{Rose}
use Rattle.causes.specs.declared.NoMemory.{NoMemory as WantOfMemory}
use Rattle.pm_outside.specs.Contents.{Contents}
use Rattle.wasm_syntax.specs.declared.parts.Import.{Import}
use Rattle.wasm_syntax.specs.declared.host.Reply.{Reply}
use Rattle.wasm_syntax.specs.declared.host.Served.{Served}
use Rattle.wasm_syntax.specs.Machine.{Engine}
use Rattle.wasm_syntax.specs.Module.{Program}
use Rattle.wasm_syntax.specs.Run.{Invocation, Outcome as RunOutcome, not_started, finished, trapped, lacks_reply, misfits, running, got_stuck, Ran}
use Rattle.pm_outside.specs.Written.{OnTold}
use Rattle.machine_hosted.specs.calls.Hosted.{IsFaultOf, IsUsedUp}
use Rattle.host_devices.specs.Given.{replies_of}
use Rattle.machine_hosted.specs.declared.answer.RunEnd.{RunEnd}
use Rattle.machine_hosted.specs.calls.Answers.{AdmitsReplies}
use Rattle.machine_hosted.specs.calls.Invocations.{HasOutcome}
use Rattle.wasm_machine.specs.calls.Instances.{State}
use Rattle.wasm_machine.specs.declared.invocation.End.{End}
use Rattle.wasm_machine.specs.declared.invocation.End.TheVariants as ends
use Rattle.wasm_machine.specs.declared.invocation.LastInvocation.{LastInvocation}
use Rattle.commands.specs.Texts.{file_fault}
use Rattle.commands.specs.declared.outcome.Outcome.{Outcome}
use Rattle.run_session.specs.Given.{given_to, given_in}
use Rattle.run_session.specs.Telling.{Tells, told, torn_in}
use Rattle.run_session.specs.RunText.{dump_name, dumps_from, up_to_torn, torn_text, not_invoked_text}
use Rattle.pm_outside.specs.Held.{Writes, HoldThen, HoldPart}
use Rattle.run_session.specs.calls.Progress.{Point, Made, session_from, HasCome, HasEnded}
use Rattle.run_session.specs.inner.Turns.{TurnsTo}
use Rattle.run_session.specs.calls.Answers.{device_cause, misfit_cause, ended_as}
use Rattle.run_session.specs.Ending.{host_stopped, told_status}
use Rattle.run_session.specs.Stop.{Stop, no_memory, file_failed, IsFileFault, EndsAtDump}
use Rattle.run_session.specs.declared.turns.Lines.{Lines}
use Rattle.run_session.specs.declared.turns.Turn.{Turn}
use Rattle.run_session.specs.declared.turns.Turn.TheVariants.{GoesOn, Ends, Torn, Refused}

-- where an instance stands with these invocations still to be made and so many steps in all
abbrev pub point_of : State → List Invocation → (steps : ℕ) → Point
point_of s is steps = record { due = is; start = s.due; machine = s.machine; left = steps - s.steps }

-- ---- whether the last reply fits

abbrev pub is_misfit : RunOutcome → Bool
is_misfit (misfits call reply) = true
is_misfit (not_started cause) = false
is_misfit (finished v) = false
is_misfit (trapped kind) = false
is_misfit (lacks_reply call) = false
is_misfit running = false
is_misfit got_stuck = false

abbrev pub is_bad_end : End → Bool
is_bad_end ends.BadReply = true
is_bad_end (ends.Finished v) = false
is_bad_end (ends.Trapped kind) = false
is_bad_end ends.NoReply = false
is_bad_end ends.DeviceFault = false
is_bad_end ends.FuelSpent = false

-- by what an instance keeps of its last invocation
abbrev pub ends_badly : Option LastInvocation → Bool
ends_badly None = false
ends_badly (Some l) = is_bad_end l.end

-- ---- one invocation

-- the replies that were not asked for, where the list goes on or ends
abbrev pub AdmitsTurn : Turn → List Reply → Type 0
AdmitsTurn GoesOn more = Unit {0}
AdmitsTurn (Ends answer) more = AdmitsReplies answer more
AdmitsTurn (Torn at) more = more ≡ []
AdmitsTurn (Refused o) more = Unit {0}

-- the session's next invocation, behind which it goes on from the new point, or which is its last
abbrev pub SessionTurns : Engine → (there next : Point) → (given : List Served) → (more : List Reply) → Ran → Turn → Type 0
SessionTurns M there next given more r GoesOn = session_from M there (replies_of given ++ more) ≡ r ∷ session_from M next more
SessionTurns M there next given more r (Ends answer) = session_from M there (replies_of given ++ more) ≡ r ∷ []
SessionTurns M there next given more r (Torn at) = (later : List Ran) × (session_from M there (replies_of given ++ more) ≡ r ∷ later)
SessionTurns M there next given more r (Refused o) = Unit {0}

abbrev pub HasTurnOutcome : Program → (Import → Bool) → Ran → Turn → Type 0
HasTurnOutcome p used_up r GoesOn = Unit {0}
HasTurnOutcome p used_up r (Ends answer) = HasOutcome p used_up answer r.outcome
HasTurnOutcome p used_up r (Torn at) = Unit {0}
HasTurnOutcome p used_up r (Refused o) = Unit {0}

pub record OneRan (tell : Tells) (p : Program) (M : Engine) (base name : List ℕ) (used_up : Import → Bool) (there next : Point) (bad : Bool) (given : List Served) (writes : Writes) (answer : RunEnd) (old new : Lines) (turn : Turn) (more : List Reply) : Type 0 where
  pub ran : Ran
  pub given_is : given ≡ given_to ran
  pub turns : TurnsTo tell base name answer ran old new writes turn
  pub session_turns : SessionTurns M there next given more ran turn
  pub outcome : HasTurnOutcome p used_up ran turn
  pub misfit : is_misfit ran.outcome ≡ bad

-- One invocation was made. Whatever is to be made behind it, and for each number of steps from those that were made up to the fuel, it is the
-- session's next one.
pub record MadeOne (tell : Tells) (p : Program) (M : Engine) (base name : List ℕ) (used_up : Import → Bool) (s next : State) (i : Invocation) (fuel : ℕ) (old new : Lines) (before after : List Served) (told_before told_after : Option Contents) (turn : Turn) : Type 0 where
  pub answer : RunEnd
  pub given : List Served
  pub grew : after ≡ before ++ given
  pub writes : Writes
  pub files : OnTold (HoldThen writes) told_before told_after
  pub onward : s.steps ≤ next.steps
  pub within : s.steps ≤ fuel → next.steps ≤ fuel
  pub ran : (rest : List Invocation) (total : ℕ) → next.steps ≤ total → total ≤ fuel → (more : List Reply) → AdmitsTurn turn more
      → OneRan tell p M base name used_up (point_of s (i ∷ rest) total) (point_of next rest total) (ends_badly next.last) given writes answer old new turn more

-- ---- the list

-- what came of the invocations that were made, the lines being these
abbrev pub made_with : Lines → List Served → Writes → Made
made_with lines given writes = record { text = lines.text; writes = writes; traps = lines.traps; given = given }

-- These invocations were made, and the list goes on from here, whatever is still to be made, and for each number of steps from those that were
-- made up to the fuel.
pub record SoFar (tell : Tells) (M : Engine) (base name : List ℕ) (first s : State) (done : List Invocation) (fuel : ℕ) (lines : Lines) (before after : List Served) (told_before told_after : Option Contents) : Type 0 where
  pub given : List Served
  pub grew : after ≡ before ++ given
  pub writes : Writes
  pub files : OnTold (HoldThen writes) told_before told_after
  pub within : s.steps ≤ fuel
  pub fits : 0 < length done → ends_badly s.last ≡ false
  pub come : (rest : List Invocation) (total : ℕ) → s.steps ≤ total → total ≤ fuel → (more : List Reply)
      → HasCome tell M base name (point_of first (done ++ rest) total) (point_of s rest total) (made_with lines given writes) more

-- the last line: it names the device that failed, whose count of faults rose, or the number of the call
abbrev pub EndsIn : Program → (used_up : Import → Bool) → (counts now : List ℕ → ℕ) → (given due : ℕ) → RunOutcome → List ℕ → Type 0
EndsIn p used_up counts now given due (lacks_reply call) line =
    (IsUsedUp p used_up call × (line ≡ host_stopped (codes "no reply for call " ++ decimal given)))
    ⊎ ((device : List ℕ) × IsFaultOf p used_up call device × Rose (counts device) (now device) × (line ≡ host_stopped (device_cause device)))
EndsIn p used_up counts now given due (misfits call reply) line = line ≡ host_stopped (misfit_cause (given - 1))
EndsIn p used_up counts now given due running line = line ≡ codes "fuel spent\n"
EndsIn p used_up counts now given due (trapped kind) line = line ≡ not_invoked_text due
EndsIn p used_up counts now given due (finished v) line = line ≡ []
EndsIn p used_up counts now given due (not_started cause) line = ⊥
EndsIn p used_up counts now given due got_stuck line = ⊥

-- torn calls are told before all else
abbrev pub ToldEndsIn : Program → (used_up : Import → Bool) → (counts now : List ℕ → ℕ) → (given due : ℕ) → (torn : Option ℕ) → RunOutcome → List ℕ → Type 0
ToldEndsIn p used_up counts now given due None o line = EndsIn p used_up counts now given due o line
ToldEndsIn p used_up counts now given due (Some at) o line = line ≡ torn_text at

-- the list was made up to its end, and this is the answer
pub record RanAll (tell : Tells) (p : Program) (M : Engine) (base name : List ℕ) (used_up : Import → Bool) (counts now : List ℕ → ℕ) (bad : Bool) (first : Point) (before after : List Served) (told_before told_after : Option Contents) (o : Outcome) : Type 0 where
  pub given : List Served
  pub grew : after ≡ before ++ given
  pub writes : Writes
  pub files : OnTold (HoldThen writes) told_before told_after
  pub lines : Lines
  pub due : ℕ
  pub last : Ran
  pub has_ended : HasEnded tell M base name first (made_with lines given writes) due last
  pub line : List ℕ
  pub ends : ToldEndsIn p used_up counts now (length given) due (torn_in (told tell last)) last.outcome line
  pub answer : ended_as (told_status lines.traps (torn_in (told tell last)) last.outcome) (lines.text ++ line) ≡ Some o
  -- whether the last one ended because its last reply does not fit
  pub misfit : is_misfit last.outcome ≡ bad

-- the file of a dump failed
abbrev pub IsDumpFault : (base : List ℕ) → Outcome → Type 0
IsDumpFault base o = (j : ℕ) × (o ≡ file_fault (dump_name base j))

-- ---- where there is no answer

-- A session has come to these invocations, on the replies that were given. The first of their dumps has this number; the last one may be there
-- in part.
pub record WasStopped (tell : Tells) (M : Engine) (base name : List ℕ) (number : ℕ) (there : Point) (rans : List Ran) (before after : List Served) (told_before told_after : Option Contents) : Type 0 where
  pub given : List Served
  pub grew : after ≡ before ++ given
  pub is : up_to_torn tell (session_from M there (replies_of given)) ≡ rans
  pub all_given : given ≡ given_in rans
  pub files : OnTold (HoldPart (dumps_from tell base name number rans)) told_before told_after

-- within some number of steps; or behind the invocation that trapped, whose dump failed
abbrev pub StopsIn : Tells → Stop → Engine → (base name : List ℕ) → (number : ℕ) → State → List Invocation → (fuel : ℕ) → (before after : List Served) → (told_before told_after : Option Contents) → Type 0
StopsIn tell no_memory M base name number s is fuel before after told_before told_after =
    (total : ℕ) × (s.steps ≤ total) × (total ≤ fuel) × (rans : List Ran) × WasStopped tell M base name number (point_of s is total) rans before after told_before told_after
StopsIn tell (file_failed file) M base name number s is fuel before after told_before told_after =
    (made : ℕ) × (rans : List Ran) × EndsAtDump tell base number rans file × WasStopped tell M base name number (point_of s (take made is) fuel) rans before after told_before told_after

-- a fact on each way in which an invocation has no answer
abbrev pub OnTurnStop : (Stop → Type 0) → Result Turn WantOfMemory → Type 0
OnTurnStop P (Err e) = P no_memory
OnTurnStop P (Ok GoesOn) = Unit {0}
OnTurnStop P (Ok (Ends answer)) = Unit {0}
OnTurnStop P (Ok (Torn at)) = Unit {0}
OnTurnStop P (Ok (Refused o)) = IsFileFault P o
