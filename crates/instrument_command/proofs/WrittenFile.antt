-- What a file that is written means for the answer.
use Rattle.std.proofs.Common.{◌≡◌, ℕ, List, [], ◌∷◌, refl, sym, subst, ap, ◌∙◌, inr, Option, Result, Ok, Err}
use Rattle.std.specs.Prelude.{IfOk}
use Rattle.causes.specs.declared.NoMemory.{NoMemory}
use Rattle.pm_outside.specs.Contents.{Contents}
use Rattle.pm_outside.specs.declared.answers.WriteAnswer.{WriteAnswer}
use Rattle.wasm_syntax.specs.declared.module.ModuleParts.{ModuleParts as Module}
use Rattle.pm_outside.specs.Written.{OnTold, HasFile, Leaves}
use Rattle.rewrite_modules.specs.Weight.{weight}
use Rattle.rewrite_promise.specs.Admitted.{Admits}
use Rattle.rewrite_promise.proofs.Heights.{one_weight}
use Rattle.commands.specs.Texts.{file_fault}
use Rattle.commands.specs.Told.{UnlessFault}
use Rattle.commands.specs.declared.outcome.Outcome.{Outcome}
use Rattle.commands.specs.declared.status.Status.TheVariants as status
use Rattle.commands.proofs.Unless.{OnAnswer, on_all}
use Rattle.run_session.specs.Stop.{OnStop}
use Rattle.instrument_command.proofs.HeldFiles.{front_left}
use Rattle.instrument_command.specs.InstrumentAnswer.{instrumented, Decides, ModuleAnswer}
use Rattle.instrument_command.specs.Stops.{LeftInPart}
use Rattle.instrument_command.specs.calls.Steps.{Rewrites, Weighs, IsAnswered, ModuleStops}
use Rattle.pm_outside.proofs.Held.{one_held}

-- ---- the answer

module _ (out : List ℕ) (m other : Module) (bytes : List ℕ) (old new : Option Contents) (r : Rewrites m other) (admits : Admits m bytes) where
  -- the file was written
  pub written : (o : Outcome) (w : ℕ) → Weighs m w → o ≡ instrumented w → OnTold (HasFile out bytes) old new → UnlessFault o.status (IsAnswered (λ writes. ModuleAnswer out writes m) old new o)
  written o w weighs is files = on_all o.status (IsAnswered (λ writes. ModuleAnswer out writes m) old new o) record {
    writes = (out, bytes) ∷ [];
    answer = record {
      heights = r.heights;
      heights_are = r.heights_are;
      decides = subst (λ f. Decides f out m (weight m r.heights) ((out, bytes) ∷ []) o) (sym r.no_cause)
          (is ∙ ap instrumented (weighs.is ∙ one_weight m r.valid weighs.heights r.heights weighs.heights_are r.heights_are), (bytes, admits, refl));
    };
    files = one_held out bytes old new files;
    unwritten = λ ne. absurd (ne (ap (λ (x : Outcome). x.status) is));
  }

  -- whatever writing the file answered
  pub left : (answer : WriteAnswer) → OnTold (Leaves out bytes answer) old new → LeftInPart out m old new
  left answer files = record {
    heights = r.heights;
    heights_are = r.heights_are;
    no_cause = r.no_cause;
    bytes = bytes;
    admitted = admits;
    files = front_left out bytes answer old new files;
  }

-- a fault that the answer names
pub fault_stops : (out : List ℕ) (m : Module) (old new : Option Contents) (result : Result Outcome NoMemory) → LeftInPart out m old new → IfOk result (λ o. o ≡ file_fault out) → OnStop (λ stop. ModuleStops stop out m old new) result
fault_stops out m old new (Err e) part is = inr (tt, part)
fault_stops out m old new (Ok o) part is = λ faulted. record { file = out; named = is; failed = inr (refl, part); memory = inr (tt, part) }

pub fault_answers : (P : Outcome → Type 0) (out : List ℕ) (result : Result Outcome NoMemory) → IfOk result (λ o. o ≡ file_fault out) → OnAnswer P result
fault_answers P out (Err e) is = tt
fault_answers P out (Ok o) is = subst (λ (x : Outcome). UnlessFault x.status (P o)) (sym is) tt
