-- What refuses a module refuses it by its operand heights, and what is not refused is answered by its rewriting.
use Rattle.std.proofs.Common.{◌≡◌, ℕ, List, None}
use Rattle.std.specs.Prelude.{Result, Ok, Err}
use Rattle.wasm_syntax.specs.declared.module.ModuleParts.{ModuleParts as Module}
use Rattle.instrument.specs.Refusal.{Decided, OwnHeights, refusal}
use Rattle.instrument.specs.declared.refusal.InstrFault.{InstrFault}
use Rattle.instrument.specs.declared.refusal.InstrFault.TheVariants.{ImportCollision, ExportCollision, Limit, NoMemory}
use Rattle.instrument.specs.calls.Answers.{Instrumented, Rewrites}

pub refused : (m : Module) (heights : List (List ℕ)) → OwnHeights m heights → (fault : InstrFault) → Decided (Err fault) m heights → Instrumented (Err fault) m
refused m heights own (ImportCollision index) is = (heights, own, is)
refused m heights own (ExportCollision index) is = (heights, own, is)
refused m heights own (Limit what count) is = (heights, own, is)
refused m heights own NoMemory is = tt

pub answered : (m : Module) (heights : List (List ℕ)) → OwnHeights m heights → refusal m heights ≡ None → (r : Result Module InstrFault) → Rewrites r m → Instrumented r m
answered m heights own none (Ok other) is = (heights, own, none, is.0, is.1, is.2)
answered m heights own none (Err (ImportCollision index)) is = absurd is
answered m heights own none (Err (ExportCollision index)) is = absurd is
answered m heights own none (Err (Limit what count)) is = absurd is
answered m heights own none (Err NoMemory) is = tt
