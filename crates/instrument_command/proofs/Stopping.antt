-- What each step of the command leaves where it has no answer, from what the next one leaves.
use Rattle.std.proofs.Common.{◌≡◌, ℕ, List, refl, sym, subst, ap, ◌∙◌, inl, inr, Option, Result, Ok}
use Rattle.std.specs.declared.vec.Vec.{Vec}
use Rattle.std.specs.Global.{Global}
use Rattle.causes.specs.declared.NoMemory.{NoMemory as WantOfMemory}
use Rattle.pm_outside.specs.Contents.{Contents}
use Rattle.wasm_syntax.specs.declared.module.ModuleParts.{ModuleParts as Module}
use Rattle.wasm_syntax.specs.declared.quantity.Quantity.TheVariants.{ModuleBytes}
use Rattle.wasm_syntax.specs.Valid.{Valid}
use Rattle.wasm_decode.specs.Decode.{module_from}
use Rattle.wasm_validate.specs.Heights.{AllLow}
use Rattle.commands.specs.calls.Ended.{Ended}
use Rattle.commands.specs.calls.Given.{IfRefused}
use Rattle.commands.specs.calls.Input.{IsInput}
use Rattle.commands.specs.Inputs.{input_of}
use Rattle.commands.specs.Texts.{file_fault}
use Rattle.commands.specs.Told.{OnContents}
use Rattle.commands.specs.declared.given.Given.{Given}
use Rattle.commands.specs.declared.given.Given.TheVariants.{Value, Refused}
use Rattle.commands.specs.declared.outcome.Outcome.{Outcome}
use Rattle.run_session.specs.Stop.{Stop, no_memory, file_failed, OnStop}
use Rattle.instrument_command.specs.Stops.{IsFailed, LeftInPart, InstrumentStops}
use Rattle.instrument_command.specs.calls.Steps.{IsWant, ModuleStops, BytesStops}
use Rattle.commands.proofs.Givens.{of_refusal}
use Rattle.run_session.proofs.Stops.{map_stop}

-- ---- bytes

pub bytes_stop : (out bytes : List ℕ) (m : Module) (old new : Option Contents) (result : Result Outcome WantOfMemory) → module_from bytes ≡ Ok m → Valid m → AllLow m
    → OnStop (λ stop. ModuleStops stop out m old new) result → OnStop (λ stop. BytesStops stop out bytes old new) result
bytes_stop out bytes m old new result decoded valid low x = map_stop (λ stop. ModuleStops stop out m old new) (λ stop. BytesStops stop out bytes old new) result go x
  where
    go : (stop : Stop) → ModuleStops stop out m old new → BytesStops stop out bytes old new
    go stop (inl k) = inl k
    go stop (inr (file, part)) = inr (m, decoded, valid, low, file, part)

-- ---- the file

want_of : (stop : Stop) (file : List ℕ) → IsWant stop → IsFailed stop file
want_of no_memory file w = tt
want_of (file_failed failed) file w = absurd w

pub file_stop : (source out : List ℕ) (old mid new : Option Contents) (input : Given (Vec ℕ Global)) (bytes : Vec ℕ Global) (spelled : List ℕ) (result : Result Outcome WantOfMemory) → mid ≡ old
    → OnContents old (λ held. IsInput input (input_of ModuleBytes source (held source))) → input ≡ Value bytes → spelled ≡ bytes.items
    → OnStop (λ stop. BytesStops stop out spelled mid new) result → OnStop (λ stop. InstrumentStops stop source out old new) result
file_stop source out old mid new input bytes spelled result same told is spells x = map_stop (λ stop. BytesStops stop out spelled mid new) (λ stop. InstrumentStops stop source out old new) result go x
  where
    k : OnContents old (λ held. IsInput (Value bytes) (input_of ModuleBytes source (held source)))
    k = subst (λ i. OnContents old (λ held. IsInput i (input_of ModuleBytes source (held source)))) is told

    go : (stop : Stop) → BytesStops stop out spelled mid new → InstrumentStops stop source out old new
    go stop (inl (kept, want)) = inl (kept ∙ same, want_of stop source want)
    go stop (inr (m, decoded, valid, low, file, part)) = inr record {
      file = file;
      held = k.files;
      may = k.may;
      bytes = spelled;
      read = k.holds ∙ ap Ok (sym spells);
      taken = m;
      decoded = decoded;
      valid = valid;
      low = low;
      left = subst (λ t. LeftInPart out m t new) same part;
    }

-- the file was not read
pub unread_stop : (source out : List ℕ) (old mid : Option Contents) (input : Given (Vec ℕ Global)) (o : Outcome) (R : Type 0) → mid ≡ old → input ≡ Refused o
    → IfRefused (Ended (λ o. (o ≡ file_fault source) × R)) input → OnStop (λ stop. InstrumentStops stop source out old mid) (Ok o)
unread_stop source out old mid input o R same is ended = λ faulted. record {
  file = source;
  named = ((of_refusal input o (Ended (λ o. (o ≡ file_fault source) × R)) is ended).fault faulted).0;
  failed = inl (same, refl);
  memory = inl (same, tt);
}
