-- What a reader of a section answers, against what stands in it.
use Rattle.std.specs.Prelude.{◌≡◌, ℕ, Option, Some, None, Result, Ok, Err}
use Rattle.dwarf_bytes.specs.declared.faults.ReadFault.{ReadFault}
use Rattle.dwarf_bytes.specs.declared.faults.ReadFault.TheVariants.{Unreadable, NoMemory}

-- what is read at an offset, where there is a reading
abbrev pub found_at : {A : Type 0} → ℕ → Option A → Result A ReadFault
found_at at (Some x) = Ok x
found_at at None = Err (Unreadable at)

-- A call answered that, or memory ran out.
abbrev pub Answers : {A : Type 0} → Result A ReadFault → Result A ReadFault → Type 0
Answers (Err NoMemory) answer = Unit {0}
Answers result answer = result ≡ answer

-- It has no reading there, unless memory ran out.
abbrev pub FailsAt : {A : Type 0} → ℕ → ReadFault → Option A → Type 0
FailsAt at (Unreadable o) there = (o ≡ at) × (there ≡ None)
FailsAt at NoMemory there = Unit {0}

-- The answer is what there is at an offset, unless memory ran out.
abbrev pub ReadsThere : {A : Type 0} → ℕ → Result A ReadFault → Option A → Type 0
ReadsThere at (Ok x) there = there ≡ Some x
ReadsThere at (Err e) there = FailsAt at e there
