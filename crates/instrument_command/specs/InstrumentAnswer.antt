-- What `instrument` answers, and what it writes.
use Rattle.std.specs.Prelude.{◌≡◌, ◌≢◌, ℕ, List, [], ◌∷◌, ◌++◌, Option, Some, None, codes}
use Rattle.std.specs.Fmt.{decimal}
use Rattle.pm_outside.specs.Contents.{Contents}
use Rattle.wasm_syntax.specs.declared.quantity.Quantity.TheVariants.{ModuleBytes}
use Rattle.wasm_syntax.specs.declared.module.ModuleParts.{ModuleParts as Module}
use Rattle.wasm_decode.specs.Decode.{module_from}
use Rattle.pm_outside.specs.Written.{OnTold}
use Rattle.rewrite_modules.specs.Weight.{AreHeights, weight}
use Rattle.rewrite_promise.specs.Admitted.{Admits}
use Rattle.instrument.specs.Refusal.{refusal}
use Rattle.instrument.specs.declared.refusal.InstrFault.{InstrFault}
use Rattle.instrument.specs.declared.refusal.InstrFault.TheVariants.{ImportCollision, ExportCollision, Limit, NoMemory}
use Rattle.commands.specs.Inputs.{input_of, Then}
use Rattle.commands.specs.Loading.{IfLoaded}
use Rattle.commands.specs.Texts.{ended, over_limit}
use Rattle.commands.specs.Told.{MayHold}
use Rattle.commands.specs.declared.outcome.Outcome.{Outcome}
use Rattle.commands.specs.declared.status.Status.TheVariants as status
use Rattle.pm_outside.specs.Held.{Writes, HoldThen}

-- ---- the texts

-- a module that was rewritten, with its weight
abbrev pub instrumented : ℕ → Outcome
instrumented w = ended status.Done (codes "instrumented weight " ++ decimal w ++ codes "\n")

-- why a module is not rewritten
abbrev pub refused : InstrFault → Outcome
refused (ImportCollision i) = ended status.Collision (codes "collision: import " ++ decimal i ++ codes "\n")
refused (ExportCollision i) = ended status.Collision (codes "collision: export " ++ decimal i ++ codes "\n")
refused (Limit what count) = over_limit what count
refused NoMemory = ended status.NoMemory []

-- ---- the answer

-- one file is written, with bytes that are admitted as what the module is rewritten to
abbrev pub WritesAdmitted : List ℕ → Module → Writes → Type 0
WritesAdmitted out m writes = (bytes : List ℕ) × Admits m bytes × (writes ≡ (out, bytes) ∷ [])

-- the first cause to refuse the module is told and nothing is written; or the weight is told, and the file is written
abbrev pub Decides : Option InstrFault → List ℕ → Module → ℕ → Writes → Outcome → Type 0
Decides (Some fault) out m w writes o = (o ≡ refused fault) × (writes ≡ [])
Decides None out m w writes o = (o ≡ instrumented w) × WritesAdmitted out m writes

-- The answer on a valid module, by the heights of its operands.
pub record ModuleAnswer (out : List ℕ) (writes : Writes) (m : Module) (o : Outcome) : Type 0 where
  pub heights : List (List ℕ)
  pub heights_are : AreHeights m heights
  pub decides : Decides (refusal m heights) out m (weight m heights) writes o

-- The answer to `instrument`, where files hold this when the module is read, and these files are written.
pub record InstrumentAnswer (source out : List ℕ) (held : Contents) (writes : Writes) (o : Outcome) : Type 0 where
  pub answer : Then (input_of ModuleBytes source (held source)) (λ bytes. IfLoaded (ModuleAnswer out writes) (module_from bytes)) o
  pub unwritten : o.status ≢ status.Done → writes ≡ []

-- It is answered by what files hold when the module is read, which is what they tell where they tell it. The files then hold what is written.
pub record AnsweredOn (source out : List ℕ) (old new : Option Contents) (o : Outcome) : Type 0 where
  pub held : Contents
  pub may : MayHold old held
  pub writes : Writes
  pub answer : InstrumentAnswer source out held writes o
  pub files : OnTold (HoldThen writes) old new
