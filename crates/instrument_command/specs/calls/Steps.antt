-- The steps of the command, from the last to the first.
use Rattle.std.specs.Prelude.{◌≡◌, ◌≢◌, ◌⊎◌, ℕ, List, [], Option, Some, None, Ok}
use Rattle.pm_outside.specs.Contents.{Contents}
use Rattle.wasm_syntax.specs.declared.module.ModuleParts.{ModuleParts as Module}
use Rattle.wasm_syntax.specs.Valid.{Valid}
use Rattle.wasm_decode.specs.Decode.{module_from}
use Rattle.wasm_validate.specs.Heights.{AllLow}
use Rattle.pm_outside.specs.Written.{OnTold}
use Rattle.rewrite_modules.specs.Instrumentable.{LightEnough}
use Rattle.rewrite_modules.specs.Weight.{AreHeights, weight}
use Rattle.rewrite_promise.specs.calls.Promise.{Promised}
use Rattle.instrument.specs.Refusal.{refusal}
use Rattle.instrument.specs.declared.refusal.InstrFault.{InstrFault}
use Rattle.commands.specs.declared.outcome.Outcome.{Outcome}
use Rattle.commands.specs.declared.status.Status.TheVariants as status
use Rattle.run_session.specs.Stop.{Stop, no_memory, file_failed}
use Rattle.pm_outside.specs.Held.{Writes, HoldThen}
use Rattle.instrument_command.specs.InstrumentAnswer.{refused}
use Rattle.instrument_command.specs.Stops.{IsFailed, LeftInPart}
use Rattle.commands.specs.declared.given.Given.{Given}
use Rattle.commands.specs.declared.given.Given.TheVariants.{Value, Refused}

-- the module is valid, there is no cause to refuse it, and the other one keeps all promises
pub record Rewrites (m other : Module) : Type 0 where
  pub valid : Valid m
  pub heights : List (List ℕ)
  pub heights_are : AreHeights m heights
  pub no_cause : refusal m heights ≡ None
  pub light : LightEnough m
  pub promised : Promised m other

-- the first cause to refuse the module is told
pub record Refuses (m : Module) (o : Outcome) : Type 0 where
  pub heights : List (List ℕ)
  pub heights_are : AreHeights m heights
  pub fault : InstrFault
  pub first : refusal m heights ≡ Some fault
  pub told : o ≡ refused fault

abbrev pub IsRewritten : Module → Given Module → Type 0
IsRewritten m (Value other) = Rewrites m other
IsRewritten m (Refused o) = Refuses m o

-- the weight of the module, by the heights of its operands
pub record Weighs (m : Module) (w : ℕ) : Type 0 where
  pub heights : List (List ℕ)
  pub heights_are : AreHeights m heights
  pub is : w ≡ weight m heights

-- this is answered, where these files are written
pub record IsAnswered (Answers : Writes → Outcome → Type 0) (old new : Option Contents) (o : Outcome) : Type 0 where
  pub writes : Writes
  pub answer : Answers writes o
  pub files : OnTold (HoldThen writes) old new
  pub unwritten : o.status ≢ status.Done → writes ≡ []

-- no file has failed
abbrev pub IsWant : Stop → Type 0
IsWant no_memory = Unit {0}
IsWant (file_failed file) = ⊥

-- memory was wanting and nothing was written, or the file was written in part
abbrev pub ModuleStops : Stop → List ℕ → Module → (old new : Option Contents) → Type 0
ModuleStops stop out m old new = ((new ≡ old) × IsWant stop) ⊎ (IsFailed stop out × LeftInPart out m old new)

-- the same of the module that the bytes spell, which is taken
abbrev pub BytesStops : Stop → List ℕ → List ℕ → (old new : Option Contents) → Type 0
BytesStops stop out bytes old new =
    ((new ≡ old) × IsWant stop)
    ⊎ ((m : Module) × (module_from bytes ≡ Ok m) × Valid m × AllLow m × IsFailed stop out × LeftInPart out m old new)
