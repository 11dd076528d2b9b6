-- What the rewriting of a module answers.
use Rattle.std.specs.Prelude.{◌≡◌, ℕ, List, [], Some, None, Result, Ok, Err}
use Rattle.wasm_syntax.specs.declared.module.ModuleParts.{ModuleParts as Module}
use Rattle.rewrite_promise.specs.calls.Promise.{Promised}
use Rattle.rewrite_promise.specs.calls.Layers.{Layered}
use Rattle.instrument.specs.Refusal.{OwnHeights, refusal}
use Rattle.instrument.specs.declared.refusal.InstrFault.{InstrFault}
use Rattle.instrument.specs.declared.refusal.InstrFault.TheVariants.{NoMemory}

-- All is promised of the rewriting of a module, which has no custom sections; or memory was wanting.
abbrev pub Rewrites : Result Module InstrFault → Module → Type 0
Rewrites (Ok other) m = Promised m other × (other.customs ≡ []) × Layered m other
Rewrites (Err NoMemory) m = Unit {0}
Rewrites (Err fault) m = ⊥

-- The module is not refused, and all is promised of its rewriting, which has no custom sections, also what its layers promise; or memory was
-- wanting; or this is the first cause to refuse the module, by the heights of its operands.
abbrev pub Instrumented : Result Module InstrFault → Module → Type 0
Instrumented (Ok other) m = (heights : List (List ℕ)) × OwnHeights m heights × (refusal m heights ≡ None) × Promised m other × (other.customs ≡ []) × Layered m other
Instrumented (Err NoMemory) m = Unit {0}
Instrumented (Err fault) m = (heights : List (List ℕ)) × OwnHeights m heights × (refusal m heights ≡ Some fault)
