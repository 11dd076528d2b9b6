-- Tests, and tests in a row.
use Rattle.std.specs.Prelude.{◌≡◌, ℕ, ◌<◌, ◌≤◌, Option, Some, None, Result, Ok, Err, suc}
use Rattle.wasm_syntax.specs.declared.module.ModuleParts.{ModuleParts as Module}
use Rattle.dump_format.specs.declared.dump.Dump.{Dump}
use Rattle.dump_format.specs.declared.dump.Instance.{Instance}
use Rattle.dump_match.specs.declared.mismatch.Mismatch.{Mismatch}
use Rattle.dump_match.specs.Matching.{OneInstance, GlobalFits, Passes, FirstMismatch, Before, group, place}
use Rattle.dump_match.specs.States.{PassesInState}

-- the only instance, or none passes
abbrev pub InstanceFound : Option Instance → Dump → Type 0
InstanceFound None dump = (one : Instance) → OneInstance dump one → ⊥
InstanceFound (Some one) dump = OneInstance dump one

-- the first global that does not fit, or all fit
abbrev pub GlobalsFound : Option ℕ → Module → Dump → Instance → Type 0
GlobalsFound None m dump one = (i : ℕ) → GlobalFits m dump i one
GlobalsFound (Some i) m dump one = (GlobalFits m dump i one → ⊥) × ((j : ℕ) → j < i → GlobalFits m dump j one)

-- the tests of the whole dump
abbrev pub WholeJudged : Result (Unit {0}) Mismatch → Module → Dump → Type 0
WholeJudged (Ok x) m dump = (row : Mismatch) → group row ≡ 0 → Passes m dump row
WholeJudged (Err row) m dump = (group row ≡ 0) × FirstMismatch m dump row

-- the tests of the frame of an index, where P says what a row passes
abbrev pub FrameJudgedBy : (Mismatch → Type 0) → Result (Unit {0}) Mismatch → ℕ → Type 0
FrameJudgedBy P (Ok x) i = (row : Mismatch) → group row ≡ suc i → P row
FrameJudgedBy P (Err row) i = (group row ≡ suc i) × (P row → ⊥) × ((other : Mismatch) → group other ≡ suc i → place other < place row → P other)

abbrev pub FrameJudged : Result (Unit {0}) Mismatch → Module → Dump → ℕ → Type 0
FrameJudged result m dump i = FrameJudgedBy (Passes m dump) result i

abbrev pub StateFrameJudged : Result (Unit {0}) Mismatch → Module → Dump → ℕ → Type 0
StateFrameJudged result m dump i = FrameJudgedBy (PassesInState m dump) result i

-- the tests of the frames below an index
abbrev pub UpToBy : (Mismatch → Type 0) → ℕ → Type 0
UpToBy P i = (row : Mismatch) → 0 < group row → group row ≤ i → P row

abbrev pub UpTo : Module → Dump → ℕ → Type 0
UpTo m dump i = UpToBy (Passes m dump) i

abbrev pub StateUpTo : Module → Dump → ℕ → Type 0
StateUpTo m dump i = UpToBy (PassesInState m dump) i

-- the tests of all frames
abbrev pub FramesJudgedBy : (Mismatch → Type 0) → Result (Unit {0}) Mismatch → Type 0
FramesJudgedBy P (Ok x) = (row : Mismatch) → 0 < group row → P row
FramesJudgedBy P (Err row) = (0 < group row) × (P row → ⊥) × ((other : Mismatch) → 0 < group other → Before other row → P other)

abbrev pub FramesJudged : Result (Unit {0}) Mismatch → Module → Dump → Type 0
FramesJudged result m dump = FramesJudgedBy (Passes m dump) result

abbrev pub StateFramesJudged : Result (Unit {0}) Mismatch → Module → Dump → Type 0
StateFramesJudged result m dump = FramesJudgedBy (PassesInState m dump) result
