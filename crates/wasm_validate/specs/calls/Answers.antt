-- What validation answers, and what a validated module keeps.
use Rattle.std.specs.Prelude.{◌≡◌, ℕ, length, List, Result, Ok, Err, Option, None}
use Rattle.wasm_syntax.specs.declared.quantity.Quantity.TheVariants as quantities
use Rattle.wasm_syntax.specs.declared.module.ModuleParts.{ModuleParts as Module}
use Rattle.wasm_syntax.specs.Valid.{Valid, FirstInvalid}
use Rattle.validate_body.specs.declared.marks.Mark.{Mark}
use Rattle.wasm_validate.specs.Heights.{AllLow, FirstHigh}
use Rattle.wasm_validate.specs.calls.MarkedHeights.{FirstHighMarks, heights_of}
use Rattle.wasm_syntax.specs.Sizes.{WithinLimits}
use Rattle.wasm_validate.specs.calls.Operands.{RowsUpTo}
use Rattle.wasm_validate.specs.calls.Whole.{MarkedUpTo}
use Rattle.wasm_validate.specs.declared.validated.ValidateFault.{ValidateFault}
use Rattle.wasm_validate.specs.declared.validated.ValidateFault.TheVariants as faults

-- the module itself, which is valid with low heights; or its first place that is not valid; or, where it is valid, the greatest height of
-- its first function that passes the number
abbrev pub Answered : Result Module ValidateFault → Module → Type 0
Answered (Ok v) m = (v ≡ m) × Valid m × AllLow m
Answered (Err (faults.Invalid place)) m = FirstInvalid m place
Answered (Err (faults.Limit what count)) m = Valid m × (what ≡ quantities.Height) × FirstHigh m count
Answered (Err faults.NoMemory) m = Unit {0}

-- what is kept beside a valid module: the marks before the instructions, their heights, and the instructions by their heights
pub record Checked (m : Module) (marks : List (List (Option Mark))) (heights : List (List ℕ)) (rows : List (List (List ℕ))) : Type 0 where
  pub limits : WithinLimits m
  pub valid : Valid m
  pub marked : MarkedUpTo marks m (length m.bodies)
  pub low : FirstHighMarks marks None
  pub heights_are : heights ≡ heights_of marks
  pub rows_are : RowsUpTo rows marks (length marks)
