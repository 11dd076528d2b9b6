-- What a growth does.
use Rattle.std.specs.Prelude.{◌≡◌, ℕ, ◌++◌, false, replicate, Some}
use Rattle.linear_memory.specs.Memory.{pages, grow}
use Rattle.linear_memory.specs.calls.Paged.{Paged}
use Rattle.linear_memory.specs.declared.GrowAnswer.{GrowAnswer}
use Rattle.linear_memory.specs.declared.GrowAnswer.TheVariants.{Grown, TooMany, NoMemory}

-- the pages of zeros stand behind the others, and none of them is made
pub record HasGrown (before : ℕ) (old new : Paged) (n : ℕ) : Type 0 where
  pub size : before ≡ pages old.memory
  pub memory : grow old.memory n ≡ Some new.memory
  pub made : new.made ≡ old.made ++ replicate n false

abbrev pub Grows : GrowAnswer → Paged → Paged → ℕ → Type 0
Grows (Grown before) old new n = HasGrown before old new n
Grows TooMany old new n = new ≡ old
Grows NoMemory old new n = new ≡ old
