-- A module that is not refused is accepted.
use Rattle.std.proofs.Common.{◌≡◌, ℕ, List, Some, None, slice_get, false, arith}
use Rattle.std.specs.Prelude.{bytes_eq, codes}
use Rattle.std.specs.List.{AllByRecursion}
use Rattle.wasm_syntax.specs.declared.parts.Import.{Import}
use Rattle.wasm_syntax.specs.declared.module.ModuleParts.{ModuleParts as Module}
use Rattle.wasm_syntax.specs.Module.{IsModule}
use Rattle.wasm_syntax.specs.Sizes.{WithinLimits}
use Rattle.wasm_syntax.specs.Valid.{Valid}
use Rattle.wasm_format_laws.specs.calls.Sized.{Sized}
use Rattle.rewrite_promise.specs.calls.Light.{SmallOffsets}
use Rattle.index_map.specs.Limits.{first_excess}
use Rattle.index_map.proofs.WithinLimits.{kept}
use Rattle.rewrite_promise.specs.calls.Promise.{Accepted}
use Rattle.instrument.specs.Refusal.{OwnHeights}

pub accepted : (m : Module) (heights : List (List ℕ)) → IsModule m → Valid m → WithinLimits m → Sized m → SmallOffsets m → OwnHeights m heights
    → ((f : ℕ) (i : Import) → slice_get m.imports f ≡ Some i → bytes_eq i.«module» (codes "coredump") ≡ false)
    → AllByRecursion (λ e. bytes_eq e.name (codes "coredump.memory") ≡ false) m.exports
    → first_excess m heights ≡ None → Accepted m
accepted m heights whole valid within sized small own imports exports none = record {
  premises = record {
    whole = whole;
    valid = valid;
    limits_ = within;
    small = small;
    no_collision = imports;
    no_export_collision = exports;
    lightness = kept m heights valid own.are (omega (arith, own.as_many)) none;
  };
  sized = sized;
}
