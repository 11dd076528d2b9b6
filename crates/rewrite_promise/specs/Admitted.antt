-- Which bytes are admitted as what a module is rewritten to.
use Rattle.std.specs.Prelude.{◌≡◌, ℕ, ◌≤◌, Ok, List, length}
use Rattle.wasm_syntax.specs.declared.module.ModuleParts.{ModuleParts as Module}
use Rattle.wasm_syntax.specs.Module.{IsModule}
use Rattle.wasm_syntax.specs.Sizes.{WithinLimits}
use Rattle.wasm_syntax.specs.Valid.{Valid}
use Rattle.wasm_bytes.specs.Laws.{IsBytes}
use Rattle.wasm_decode.specs.Decode.{module_from}
use Rattle.wasm_validate.specs.Heights.{AllLow}
use Rattle.rewrite_modules.specs.Instrumentable.{program_of}
use Rattle.rewrite_modules.specs.Multiple.{multiple}
use Rattle.rewrite_modules.specs.Simulates.{Simulates}
use Rattle.rewrite_modules.specs.Starts.{StartsAlike}
use Rattle.rewrite_modules.specs.Entries.{SimulatesEntries, EntriesLowerFlag}
use Rattle.rewrite_modules.specs.Flag.{LowersFlag}
use Rattle.rewrite_modules.specs.Weight.{AreHeights, weight}
use Rattle.rewrite_promise.specs.Outside.{KeepsOutside, KeepsFunctions}

-- The bytes are decoded as a module that does what the module does and hands over the dump of each trap, in at most the multiple of the
-- steps, also where its start function alone runs, and where a host calls entries of a table that is doubled. Behind each trap its flag is
-- down. It is valid and within the limits of the decoder and of validation, shows the same outside, and the bytes are at most as many as the
-- module weighs, by the heights of its operands.
pub record Admits (m : Module) (bytes : List ℕ) : Type 0 where
  pub whole : IsModule m
  pub heights : List (List ℕ)
  pub heights_are : AreHeights m heights
  pub are_bytes : IsBytes bytes
  pub decoded : Module
  pub is : module_from bytes ≡ Ok decoded
  pub decoded_whole : IsModule decoded
  pub simulates : Simulates (multiple m heights) (program_of m whole) (program_of decoded decoded_whole)
  pub starts : StartsAlike (multiple m heights) (program_of m whole) (program_of decoded decoded_whole)
  pub entries : SimulatesEntries (multiple m heights) (program_of m whole) (program_of decoded decoded_whole)
  pub lowers : LowersFlag (program_of m whole) (program_of decoded decoded_whole)
  pub entries_lower : EntriesLowerFlag (program_of m whole) (program_of decoded decoded_whole)
  pub valid : Valid decoded
  pub within : WithinLimits decoded
  pub low : AllLow decoded
  pub outside : KeepsOutside m decoded
  pub functions : KeepsFunctions m decoded
  pub weighs : length bytes ≤ weight m heights
