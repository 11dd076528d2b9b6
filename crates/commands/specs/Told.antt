-- What an answer means where files or output may fault, or memory may run out.
use Rattle.std.specs.Prelude.{◌≡◌, ℕ, List, ◌++◌, take, Option, Some, None, IfSome}
use Rattle.pm_outside.specs.Contents.{Contents}
use Rattle.commands.specs.declared.outcome.Outcome.{Outcome}
use Rattle.commands.specs.declared.status.Status.{Status}
use Rattle.commands.specs.declared.status.Status.TheVariants as status

-- A fact on each status that is no fault of a file or of the output, nor want of memory.
abbrev pub UnlessFault : Status → Type 0 → Type 0
UnlessFault status.FileFault P = Unit {0}
UnlessFault status.NoMemory P = Unit {0}
UnlessFault _ P = P

-- ---- files

-- What files may hold: what they tell, or anything where they tell nothing.
abbrev pub MayHold : Option Contents → Contents → Type 0
MayHold None files = Unit {0}
MayHold (Some told) files = files ≡ told

-- there are contents that the files may hold, of which this is true
pub record OnContents (told : Option Contents) (P : Contents → Type 0) : Type 0 where
  pub files : Contents
  pub may : MayHold told files
  pub holds : P files

-- ---- the output

-- the status is the answer's, and the output has taken the answer's text, where it tells what it took
abbrev pub Takes : Status → (before after : Option (List ℕ)) → Outcome → Type 0
Takes s before after answer = (s ≡ answer.status) × IfSome before (λ old. after ≡ Some (old ++ answer.text))

-- the output has taken a front of the text
abbrev pub HasTakenFront : List ℕ → Option (List ℕ) → List ℕ → Type 0
HasTakenFront before after text = (n : ℕ) × (after ≡ Some (before ++ take n text))
