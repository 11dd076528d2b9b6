-- Why there is no answer, and which list of invocations a failed file ends.
use Rattle.std.specs.Prelude.{◌≡◌, ℕ, suc, ◌+◌, List, Some, Result, Ok, Err}
use Rattle.causes.specs.declared.NoMemory.{NoMemory}
use Rattle.wasm_syntax.specs.Run.{trapped, Ran}
use Rattle.commands.specs.Texts.{file_fault}
use Rattle.commands.specs.declared.outcome.Outcome.{Outcome}
use Rattle.commands.specs.declared.status.Status.TheVariants as status
use Rattle.run_session.specs.Telling.{Tells, told, HasDump}
use Rattle.run_session.specs.RunText.{dump_name, last_of, traps_in}

-- why there is no answer: memory was wanting, or the file of this name failed
pub data Stop : Type 0 where
  no_memory : Stop
  file_failed : List ℕ → Stop

-- A file failed, and the answer names it. What is known of want of memory is known then too.
pub record IsFileFault (P : Stop → Type 0) (o : Outcome) : Type 0 where
  pub file : List ℕ
  pub named : o ≡ file_fault file
  pub failed : P (file_failed file)
  pub memory : P no_memory

-- A fact on each way in which there is no answer.
abbrev pub OnStop : (Stop → Type 0) → Result Outcome NoMemory → Type 0
OnStop P (Err e) = P no_memory
OnStop P (Ok o) = o.status ≡ status.FileFault → IsFileFault P o

-- The last of these invocations trapped, and the file is that of its dump, where the first of their traps has this number.
pub record EndsAtDump (tell : Tells) (base : List ℕ) (number : ℕ) (rans : List Ran) (file : List ℕ) : Type 0 where
  pub ran : Ran
  pub kind : ℕ
  pub last : last_of rans ≡ Some ran
  pub has_trapped : ran.outcome ≡ trapped kind
  pub has_dump : HasDump (told tell ran)
  pub trap : ℕ
  pub counted : number + traps_in tell rans ≡ suc trap
  pub file_is : file ≡ dump_name base trap
