-- What is left where memory is wanting, or where a file fails.
use Rattle.std.specs.Prelude.{◌≡◌, ◌⊎◌, ℕ, List, Option, None, Ok}
use Rattle.pm_outside.specs.Contents.{Contents}
use Rattle.wasm_syntax.specs.declared.quantity.Quantity.TheVariants.{ModuleBytes}
use Rattle.wasm_syntax.specs.declared.module.ModuleParts.{ModuleParts as Module}
use Rattle.wasm_syntax.specs.Valid.{Valid}
use Rattle.wasm_decode.specs.Decode.{module_from}
use Rattle.wasm_validate.specs.Heights.{AllLow}
use Rattle.pm_outside.specs.Written.{OnTold, HasFront}
use Rattle.rewrite_modules.specs.Weight.{AreHeights}
use Rattle.rewrite_promise.specs.Admitted.{Admits}
use Rattle.instrument.specs.Refusal.{refusal}
use Rattle.commands.specs.Inputs.{input_of}
use Rattle.commands.specs.Told.{MayHold}
use Rattle.run_session.specs.Stop.{Stop, no_memory, file_failed}

-- the file that failed, where one did, is this one
abbrev pub IsFailed : Stop → List ℕ → Type 0
IsFailed no_memory file = Unit {0}
IsFailed (file_failed failed) file = failed ≡ file

-- Nothing was written. A file that failed is the module's.
abbrev pub NothingWritten : Stop → List ℕ → (old new : Option Contents) → Type 0
NothingWritten stop source old new = (new ≡ old) × IsFailed stop source

-- There is no cause to refuse the module. The file is as before, or holds a front of bytes that are admitted, which may be empty; no other
-- file is changed.
pub record LeftInPart (out : List ℕ) (m : Module) (old new : Option Contents) : Type 0 where
  pub heights : List (List ℕ)
  pub heights_are : AreHeights m heights
  pub no_cause : refusal m heights ≡ None
  pub bytes : List ℕ
  pub admitted : Admits m bytes
  pub files : OnTold (HasFront out bytes) old new

-- The module in the file is taken, and what it is rewritten to was written in part. A file that failed is the one that was written.
pub record WrittenInPart (stop : Stop) (source out : List ℕ) (old new : Option Contents) : Type 0 where
  pub file : IsFailed stop out
  pub held : Contents
  pub may : MayHold old held
  pub bytes : List ℕ
  pub read : input_of ModuleBytes source (held source) ≡ Ok bytes
  pub taken : Module
  pub decoded : module_from bytes ≡ Ok taken
  pub valid : Valid taken
  pub low : AllLow taken
  pub left : LeftInPart out taken old new

-- What `instrument` leaves where it has no answer.
abbrev pub InstrumentStops : Stop → (source out : List ℕ) → (old new : Option Contents) → Type 0
InstrumentStops stop source out old new = NothingWritten stop source old new ⊎ WrittenInPart stop source out old new
