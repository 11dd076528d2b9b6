-- What is answered of an offset of a section, against the bytes that stand there.
use Rattle.std.specs.Prelude.{◌≡◌, ℕ, List, Result, Ok, Err}
use Rattle.wasm_bytes.specs.calls.Spelling.{Spellings}
use Rattle.dwarf_bytes.specs.calls.Spelled.{StandsAt}
use Rattle.dwarf_bytes.specs.declared.faults.ReadFault.{ReadFault}
use Rattle.dwarf_bytes.specs.declared.faults.ReadFault.TheVariants.{Unreadable, NoMemory}

-- It is spelled there, and nothing else is.
abbrev pub StandsAlone : {A : Type 0} → (A → Spellings) → List ℕ → ℕ → A → Type 0
StandsAlone {A} S section at x = StandsAt S x section at × ((y : A) → StandsAt S y section at → y ≡ x)

-- Nothing is spelled there.
abbrev pub NothingStands : {A : Type 0} → (A → Spellings) → List ℕ → ℕ → Type 0
NothingStands {A} S section at = (y : A) → StandsAt S y section at → ⊥

-- What is answered is what is spelled there. Where it is unreadable, nothing is.
abbrev pub IsWhatStands : {A : Type 0} → (A → Spellings) → List ℕ → ℕ → Result A ReadFault → Type 0
IsWhatStands S section at (Ok x) = StandsAlone S section at x
IsWhatStands S section at (Err (Unreadable o)) = NothingStands S section at
IsWhatStands S section at (Err NoMemory) = Unit {0}
