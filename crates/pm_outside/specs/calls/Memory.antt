-- What files and an output in memory are seen as, and which of their calls fail.
use Rattle.std.specs.Prelude.{◌≡◌, ◌≢◌, ℕ, ◌+◌, ◌-◌, ◌^◌, List, ◌==◌, min, take, find, option_map, unwrap_or, Contains}
use Rattle.pm_outside.specs.calls.Answers.{HasMore}
use Rattle.pm_outside.specs.Contents.{Contents, held}
use Rattle.pm_outside.specs.declared.answers.ReadAnswer.{ReadAnswer}
use Rattle.pm_outside.specs.declared.answers.ReadAnswer.TheVariants as read
use Rattle.pm_outside.specs.declared.answers.WriteAnswer.{WriteAnswer}
use Rattle.pm_outside.specs.declared.answers.WriteAnswer.TheVariants as write
use Rattle.pm_outside.specs.declared.answers.PutAnswer.{PutAnswer}
use Rattle.pm_outside.specs.declared.answers.PutAnswer.TheVariants as put
use Rattle.pm_outside.specs.declared.plan.Part.{Part}

-- the numbers of the calls that fail, how many bytes these take first, the number of the next call, and how often a call has failed
pub record Plan : Type 0 where
  pub failing : List ℕ
  pub parts : List Part
  pub next : ℕ
  pub faults : ℕ

-- names and bytes, the names created, the greatest count of a read, and the plan of failures
pub record MemoryFiles : Type 0 where
  pub files : List (List ℕ × List ℕ)
  pub created : List (List ℕ)
  pub most : ℕ
  pub plan : Plan

-- the bytes of each name
abbrev pub contents : MemoryFiles → Contents
contents m = held m.files

-- the bytes taken, the plan of failures, and how often memory was wanting
pub record MemorySink : Type 0 where
  pub bytes : List ℕ
  pub plan : Plan
  pub wants : ℕ

-- ---- which calls fail

-- the next call fails
abbrev pub IsToFail : Plan → Type 0
IsToFail plan = Contains plan.failing plan.next

-- how many bytes of its piece a call takes where it fails: what the first part for it says, or none
abbrev pub part_of : List Part → ℕ → ℕ
part_of parts call = unwrap_or (option_map (λ p. p.bytes) (find (λ p. p.call == call) parts)) 0

-- how many bytes the next call takes where it fails
abbrev pub next_part : Plan → ℕ
next_part plan = part_of plan.parts plan.next

-- one more, up to the greatest number of 64 bits
abbrev pub one_more : ℕ → ℕ
one_more n = min (n + 1) (2 ^ 64 - 1)

-- one call more was made
abbrev pub with_call : Plan → Plan
with_call plan = record plan { next = one_more plan.next }

-- one fault more was counted
abbrev pub with_fault : Plan → Plan
with_fault plan = record plan { faults = one_more plan.faults }

-- ---- the plan behind a call: a fault is counted exactly where the call failed

abbrev pub plan_after_read : ReadAnswer → Plan → Plan
plan_after_read (read.Got n) plan = with_call plan
plan_after_read read.End plan = with_call plan
plan_after_read read.Missing plan = with_call plan
plan_after_read read.Failed plan = with_fault (with_call plan)
plan_after_read read.NoMemory plan = with_call plan

abbrev pub plan_after_write : WriteAnswer → Plan → Plan
plan_after_write write.Done plan = with_call plan
plan_after_write write.Failed plan = with_fault (with_call plan)
plan_after_write write.NoMemory plan = with_call plan

abbrev pub plan_after_put : PutAnswer → Plan → Plan
plan_after_put put.Done plan = with_call plan
plan_after_put (put.Failed n) plan = with_fault (with_call plan)
plan_after_put (put.NoMemory n) plan = with_call plan

-- ---- what is taken of a piece

-- Want of memory is answered to a call that is planned to fail only where it is to take something first.
abbrev pub MayWantMemory : Plan → Type 0
MayWantMemory plan = IsToFail plan → next_part plan ≢ 0

-- So many bytes of a piece are added. Where that is none the file is as before.
abbrev pub IsPartAdded : ℕ → List ℕ → List ℕ → Contents → Contents → Type 0
IsPartAdded n name piece old new = (n ≡ 0 → new name ≡ old name) × (n ≢ 0 → HasMore name (take n piece) old new)

-- An append fails exactly where that is planned, and adds its part. It adds nothing where memory is wanting.
abbrev pub AppendsAsPlanned : Plan → List ℕ → List ℕ → WriteAnswer → Contents → Contents → Type 0
AppendsAsPlanned plan name piece write.Done old new = ¬ IsToFail plan
AppendsAsPlanned plan name piece write.Failed old new = IsToFail plan × IsPartAdded (next_part plan) name piece old new
AppendsAsPlanned plan name piece write.NoMemory old new = MayWantMemory plan × (new name ≡ old name)

-- A put fails exactly where that is planned, and takes its part. It takes nothing where memory is wanting.
abbrev pub PutsAsPlanned : Plan → ℕ → PutAnswer → Type 0
PutsAsPlanned plan size put.Done = ¬ IsToFail plan
PutsAsPlanned plan size (put.Failed n) = IsToFail plan × (n ≡ min (next_part plan) size)
PutsAsPlanned plan size (put.NoMemory n) = MayWantMemory plan × (n ≡ 0)
