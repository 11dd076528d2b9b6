-- Why a module is not rewritten, the first cause.
use Rattle.std.specs.Prelude.{◌≡◌, ℕ, ◌≤◌, List, length, Option, Some, None, Result, Ok, Err, codes}
use Rattle.std.specs.List.{position_from}
use Rattle.std.specs.Str.{bytes_eq}
use Rattle.wasm_syntax.specs.declared.quantity.Quantity.TheVariants.{Height}
use Rattle.wasm_syntax.specs.declared.module.ModuleParts.{ModuleParts as Module}
use Rattle.wasm_syntax.specs.Quantity.{greatest}
use Rattle.rewrite_modules.specs.Weight.{height_at, AreHeights}
use Rattle.index_map.specs.declared.limits.Excess.{Excess}
use Rattle.index_map.specs.Limits.{first_excess}
use Rattle.rewrite_promise.specs.calls.Promise.{Accepted}
use Rattle.instrument.specs.declared.refusal.InstrFault.{InstrFault}
use Rattle.instrument.specs.declared.refusal.InstrFault.TheVariants.{ImportCollision, ExportCollision, Limit, NoMemory}

-- the heights of the operands of a module that validation admits
pub record OwnHeights (m : Module) (heights : List (List ℕ)) : Type 0 where
  pub are : AreHeights m heights
  pub as_many : length heights ≡ length m.bodies
  pub low : (i op : ℕ) → height_at heights i op ≤ greatest Height

-- the first import from the collector's module
abbrev pub import_taken : Module → Option ℕ
import_taken m = position_from (λ i. bytes_eq i.«module» (codes "coredump")) 0 m.imports

-- the first export with the name under which the memory is exported
abbrev pub export_taken : Module → Option ℕ
export_taken m = position_from (λ e. bytes_eq e.name (codes "coredump.memory")) 0 m.exports

abbrev pub at_import : Option ℕ → Option InstrFault → Option InstrFault
at_import None other = other
at_import (Some index) other = Some (ImportCollision index)

abbrev pub at_export : Option ℕ → Option InstrFault → Option InstrFault
at_export None other = other
at_export (Some index) other = Some (ExportCollision index)

abbrev pub at_limit : Option Excess → Option InstrFault
at_limit None = None
at_limit (Some excess) = Some (Limit excess.what excess.count)

-- collisions before limits, imports before exports
abbrev pub refusal : Module → List (List ℕ) → Option InstrFault
refusal m heights = at_import (import_taken m) (at_export (export_taken m) (at_limit (first_excess m heights)))

-- The module is accepted, and there is no cause to refuse it; or this is the first one; or memory was wanting.
abbrev pub Decided : Result Module InstrFault → Module → List (List ℕ) → Type 0
Decided (Ok numbered) m heights = (numbered ≡ m) × (refusal m heights ≡ None) × Accepted m
Decided (Err NoMemory) m heights = Unit {0}
Decided (Err fault) m heights = refusal m heights ≡ Some fault
