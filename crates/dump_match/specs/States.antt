-- What it means that a dump can show a state of a module, at a trap or elsewhere: the nine tests, but that the innermost frame may stand at
-- an `else` or `end`, where nothing is asked of its operands.
use Rattle.std.specs.Prelude.{◌≡◌, ℕ, zero, ◌<◌, ◌^◌, false, ◌⊎◌, List, length, slice_get, Some, Result, Ok, Err}
use Rattle.wasm_syntax.specs.declared.instruction.Op.{Op}
use Rattle.wasm_syntax.specs.declared.module.ModuleParts.{ModuleParts as Module}
use Rattle.wasm_syntax.specs.Valid.{There}
use Rattle.wasm_validate.specs.calls.Instructions.{is_node}
use Rattle.dump_format.specs.declared.dump.Dump.{Dump}
use Rattle.dump_format.specs.declared.dump.Frame.{Frame}
use Rattle.dump_format.specs.calls.Contained.{IsContained}
use Rattle.dump_match.specs.declared.mismatch.Mismatch.{Mismatch}
use Rattle.dump_match.specs.declared.mismatch.Mismatch.TheVariants as rows
use Rattle.dump_match.specs.Frames.{OfFunction, OffsetFits, OperandsFit, OperandCount}
use Rattle.dump_match.specs.Matching.{Passes, Before}
use Rattle.dump_match.specs.Judged.{Match}

-- the instruction of this number is an `else` or `end`, and begins at this offset
abbrev pub ClosesAt : List Op → ℕ → ℕ → Type 0
ClosesAt ops n at = (o : Op) × (slice_get ops n ≡ Some o) × (o.at ≡ at) × (is_node o.code ≡ false)

abbrev pub SomeClosesAt : List Op → ℕ → Type 0
SomeClosesAt ops at = (n : ℕ) × ClosesAt ops n at

-- an `else` or `end` of the frame's function begins at the frame's offset
abbrev pub AtClose : Module → Frame → Type 0
AtClose m f = OfFunction m f (λ type body. SomeClosesAt body.ops f.offset)

-- How many operands the frame of an index shows by the module. Where no live instruction begins at its offset, as at an `else` or `end`, the
-- module tells none, and it shows those that it records.
abbrev pub StateOperandCount : Module → ℕ → Frame → ℕ → Type 0
StateOperandCount m i f n = OperandCount m i f n ⊎ ((OffsetFits m f → ⊥) × (n ≡ 0))

-- the test of a row
abbrev pub PassesInState : Module → Dump → Mismatch → Type 0
PassesInState m dump (rows.Offset zero) = There dump.frames 0 (λ f. OffsetFits m f ⊎ AtClose m f)
PassesInState m dump (rows.Operands zero) = There dump.frames 0 (λ f. OperandsFit m 0 f ⊎ AtClose m f)
PassesInState m dump row = Passes m dump row

-- the dump can show a state of the module
abbrev pub MatchesState : Module → Dump → Type 0
MatchesState m dump = (row : Mismatch) → PassesInState m dump row

-- a test fails, and those before it pass
pub record FirstInState (m : Module) (dump : Dump) (row : Mismatch) : Type 0 where
  pub fails : PassesInState m dump row → ⊥
  pub earlier : (other : Mismatch) → Before other row → PassesInState m dump other

-- The dump matches, and both are lent; or the first test that fails.
abbrev pub StateJudged : Result Match Mismatch → Module → Dump → Type 0
StateJudged (Ok x) m dump = MatchesState m dump × (x.module_ ≡ m) × (x.dump ≡ dump)
StateJudged (Err row) m dump = FirstInState m dump row

-- what is kept of the two
pub record KeptState (m : Module) (dump : Dump) : Type 0 where
  pub matches : MatchesState m dump
  pub frames : length dump.frames < 2 ^ 32
  pub globals : length dump.globals < 2 ^ 32
  pub contained : IsContained dump
