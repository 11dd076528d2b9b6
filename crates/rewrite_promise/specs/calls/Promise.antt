-- What the rewriting of a module promises.
use Rattle.std.specs.Prelude.{◌≡◌, ℕ, ◌≤◌, false, Some, Ok, List, length, slice_get, bytes_eq, codes}
use Rattle.std.specs.List.{AllByRecursion}
use Rattle.wasm_syntax.specs.declared.quantity.Quantity.TheVariants.{ModuleBytes}
use Rattle.wasm_syntax.specs.declared.parts.Import.{Import}
use Rattle.wasm_syntax.specs.declared.module.ModuleParts.{ModuleParts as Module}
use Rattle.wasm_syntax.specs.Quantity.{greatest}
use Rattle.wasm_syntax.specs.Module.{IsModule}
use Rattle.wasm_syntax.specs.Sizes.{Short, WithinLimits}
use Rattle.wasm_syntax.specs.Valid.{Valid}
use Rattle.wasm_bytes.specs.Laws.{IsBytes}
use Rattle.wasm_decode.specs.Decode.{module_from}
use Rattle.wasm_validate.specs.Heights.{AllLow}
use Rattle.wasm_encode.specs.Encoding.{encoding}
use Rattle.wasm_format_laws.specs.calls.Sized.{Sized}
use Rattle.wasm_syntax.specs.SameCode.{code_alone}
use Rattle.rewrite_modules.specs.calls.Instrument.{new_module}
use Rattle.rewrite_modules.specs.Instrumentable.{program_of, LightEnough, Instrumentable}
use Rattle.rewrite_modules.specs.Multiple.{multiple}
use Rattle.rewrite_modules.specs.Simulates.{Simulates}
use Rattle.rewrite_modules.specs.Flag.{LowersFlag}
use Rattle.rewrite_modules.specs.Starts.{StartsAlike}
use Rattle.rewrite_modules.specs.Entries.{SimulatesEntries, EntriesLowerFlag}
use Rattle.rewrite_modules.specs.Weight.{AreHeights, weight}
use Rattle.rewrite_promise.specs.Outside.{KeepsOutside, KeepsFunctions}

-- ---- what is asked

-- The module is valid (Core 3.4) and within the limits of the decoder and of the rewriting, its offsets are numbers of 32 bits, it imports
-- nothing from the collector's module, exports nothing under the name of the rewritten module's memory, and its lengths are those of a
-- spelling.
pub record Accepted (m : Module) : Type 0 where
  pub premises : Instrumentable m
  pub sized : Sized m

-- The bytes are decoded as this module, which is valid, within the limits of the rewriting, and without those names.
pub record AcceptedBytes (bytes : List ℕ) (m : Module) : Type 0 where
  pub are_bytes : IsBytes bytes
  pub decoded : module_from bytes ≡ Ok m
  pub valid : Valid m
  pub no_collision : (f : ℕ) (i : Import) → slice_get m.imports f ≡ Some i → bytes_eq i.«module» (codes "coredump") ≡ false
  pub no_export_collision : AllByRecursion (λ e. bytes_eq e.name (codes "coredump.memory") ≡ false) m.exports
  pub light : LightEnough m

-- The other module is the rewritten one but for offsets, lengths and custom sections. It may have custom sections, as many as 32 bits count.
pub record IsRewriting (m other : Module) : Type 0 where
  pub whole : IsModule m
  pub other_whole : IsModule other
  pub same : code_alone (new_module (program_of m whole)) ≡ code_alone other
  pub few_customs : Short other.customs
  pub short_names : AllByRecursion (λ c. Short c.name) other.customs

-- ---- what is promised

-- The other module does what the module does and hands over the dump of each trap, in at most the stated multiple of the steps, also
-- where nothing of it is called and its start function alone runs, and where a host calls entries of a table that is doubled. Behind each trap
-- its flag is down. It is valid and within the limits of
-- the decoder and of validation, and shows the same outside. Its encoding takes at most the weight of the module,
-- and so at most as many bytes as the decoder takes. Multiple and weight are the same, whichever list of operand heights is taken.
pub record Promised (m other : Module) : Type 0 where
  pub whole : IsModule m
  pub other_whole : IsModule other
  pub simulates : (heights : List (List ℕ)) → AreHeights m heights → Simulates (multiple m heights) (program_of m whole) (program_of other other_whole)
  pub starts : (heights : List (List ℕ)) → AreHeights m heights → StartsAlike (multiple m heights) (program_of m whole) (program_of other other_whole)
  pub entries : (heights : List (List ℕ)) → AreHeights m heights → SimulatesEntries (multiple m heights) (program_of m whole) (program_of other other_whole)
  pub lowers : LowersFlag (program_of m whole) (program_of other other_whole)
  pub entries_lower : EntriesLowerFlag (program_of m whole) (program_of other other_whole)
  pub valid : Valid other
  pub within : WithinLimits other
  pub low : AllLow other
  pub outside : KeepsOutside m other
  pub functions : KeepsFunctions m other
  pub weighs : (heights : List (List ℕ)) → AreHeights m heights → length (encoding other) ≤ weight m heights
  pub few_bytes : length (encoding other) ≤ greatest ModuleBytes

-- The bytes are decoded as a rewriting, which keeps the promises, and are at most as many as the module weighs.
pub record DecodesAsRewriting (m : Module) (bytes : List ℕ) : Type 0 where
  pub decoded : Module
  pub is : module_from bytes ≡ Ok decoded
  pub rewriting : IsRewriting m decoded
  pub promised : Promised m decoded
  pub weighs : (heights : List (List ℕ)) → AreHeights m heights → length bytes ≤ weight m heights
