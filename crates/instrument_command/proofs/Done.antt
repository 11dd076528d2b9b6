-- Where the command is done, what it read and wrote.
use Rattle.std.proofs.Common.{◌≡◌, ℕ, ◌+◌, Bool, true, false, List, [], ◌∷◌, length, Option, Some, None, Result, Ok, Err, refl, sym, ap, ◌∙◌, subst, inl, inr}
use Rattle.std.specs.Prelude.{nat_lt, bytes_eq, if◌then◌else◌}
use Rattle.pm_outside.specs.Contents.{Contents}
use Rattle.wasm_syntax.specs.declared.module.ModuleParts.{ModuleParts as Module}
use Rattle.wasm_syntax.specs.declared.quantity.Quantity.TheVariants.{ModuleBytes}
use Rattle.wasm_syntax.specs.Quantity.{greatest}
use Rattle.wasm_syntax.specs.Valid.{Valid}
use Rattle.wasm_decode.specs.Decode.{module_from}
use Rattle.wasm_decode.specs.declared.fault.DecodeFault.{DecodeFault}
use Rattle.wasm_decode.specs.declared.fault.DecodeFault.TheVariants as decode
use Rattle.rewrite_modules.specs.Weight.{weight}
use Rattle.rewrite_promise.specs.Admitted.{Admits}
use Rattle.instrument.specs.Refusal.{refusal}
use Rattle.instrument.specs.declared.refusal.InstrFault.{InstrFault}
use Rattle.instrument.specs.declared.refusal.InstrFault.TheVariants.{ImportCollision, ExportCollision, Limit, NoMemory}
use Rattle.commands.specs.Inputs.{input_of, Then}
use Rattle.commands.specs.Loading.{IfLoaded, undecoded}
use Rattle.commands.specs.Refusal.{IsRefusal}
use Rattle.commands.specs.Texts.{over_limit}
use Rattle.commands.specs.declared.outcome.Outcome.{Outcome}
use Rattle.commands.specs.declared.status.Status.TheVariants as status
use Rattle.pm_outside.specs.Held.{Writes, HoldThen, held_then}
use Rattle.instrument_command.specs.InstrumentAnswer.{refused, Decides, ModuleAnswer, InstrumentAnswer}
use Rattle.instrument_command.specs.Headline.{HoldsRewriting}
use Rattle.host_set.proofs.Names.{itself}

-- ---- refusals

abbrev pub NotDone : Outcome → Type 0
NotDone o = o.status ≡ status.Done → ⊥

as_refused : (o other : Outcome) → o ≡ other → NotDone other → NotDone o
as_refused o other e never = subst NotDone (sym e) never

refused_not_done : (fault : InstrFault) → NotDone (refused fault)
refused_not_done (ImportCollision i) = λ e. absurd cc
refused_not_done (ExportCollision i) = λ e. absurd cc
refused_not_done (Limit what count) = λ e. absurd cc
refused_not_done NoMemory = λ e. absurd cc

undecoded_not_done : (fault : DecodeFault) → NotDone (undecoded fault)
undecoded_not_done (decode.Malformed at) = λ e. absurd cc
undecoded_not_done (decode.Float at) = λ e. absurd cc
undecoded_not_done (decode.ImportKind i) = λ e. absurd cc
undecoded_not_done (decode.Limit what count) = λ e. absurd cc
undecoded_not_done decode.NoMemory = λ e. absurd cc

invalid_not_done : status.Invalid ≡ status.Done → ⊥
invalid_not_done e = absurd cc

no_file_not_done : status.NoFile ≡ status.Done → ⊥
no_file_not_done e = absurd cc

limit_not_done : status.Limit ≡ status.Done → ⊥
limit_not_done e = absurd cc

refusal_not_done : (m : Module) (o : Outcome) → IsRefusal m o → NotDone o
refusal_not_done m o (inl (place, first, e)) done = invalid_not_done (sym (ap (λ (x : Outcome). x.status) e) ∙ done)
refusal_not_done m o (inr (valid, (count, high, e))) done = limit_not_done (sym (ap (λ (x : Outcome). x.status) e) ∙ done)

-- ---- what was read and written

-- the bytes are a module, and other bytes that are admitted for it were written
pub record Found (out : List ℕ) (writes : Writes) (bytes : List ℕ) : Type 0 where
  pub taken : Module
  pub decoded : module_from bytes ≡ Ok taken
  pub valid : Valid taken
  pub written : List ℕ
  pub admitted : Admits taken written
  pub one : writes ≡ (out, written) ∷ []

-- the file is there and holds such bytes
pub record FoundIn (out : List ℕ) (writes : Writes) (content : Option (List ℕ)) : Type 0 where
  pub bytes : List ℕ
  pub is : content ≡ Some bytes
  pub found : Found out writes bytes

module _ (out : List ℕ) (x : Writes) (o : Outcome) (done : o.status ≡ status.Done) where
  decided_found : (f : Option InstrFault) (m : Module) (w : ℕ) (bytes : List ℕ) → module_from bytes ≡ Ok m → Valid m → Decides f out m w x o → Found out x bytes
  decided_found (Some fault) m w bytes is valid (e, none) = absurd (as_refused o (refused fault) e (refused_not_done fault) done)
  decided_found None m w bytes is valid (e, writes) = record { taken = m; decoded = is; valid = valid; written = writes.0; admitted = writes.1; one = writes.2 }

  loaded_found : (bytes : List ℕ) (decoded : Result Module DecodeFault) → module_from bytes ≡ decoded → IfLoaded (ModuleAnswer out x) decoded o → Found out x bytes
  loaded_found bytes (Err fault) is e = absurd (as_refused o (undecoded fault) e (undecoded_not_done fault) done)
  loaded_found bytes (Ok m) is (inl r) = absurd (refusal_not_done m o r done)
  loaded_found bytes (Ok m) is (inr (valid, low, a)) = decided_found (refusal m a.heights) m (weight m a.heights) bytes is valid a.decides

  by_size : (b : Bool) (bytes : List ℕ) → Then (if b then Err (over_limit ModuleBytes (greatest ModuleBytes + 1)) else Ok bytes) (λ bytes. IfLoaded (ModuleAnswer out x) (module_from bytes)) o → Found out x bytes
  by_size true bytes e = absurd (limit_not_done (sym (ap (λ (x : Outcome). x.status) e) ∙ done))
  by_size false bytes a = loaded_found bytes (module_from bytes) refl a

  content_found : (file : List ℕ) (content : Option (List ℕ)) → Then (input_of ModuleBytes file content) (λ bytes. IfLoaded (ModuleAnswer out x) (module_from bytes)) o → FoundIn out x content
  content_found file None e = absurd (no_file_not_done (sym (ap (λ (x : Outcome). x.status) e) ∙ done))
  content_found file (Some bytes) a = record { bytes = bytes; is = refl; found = by_size (nat_lt (greatest ModuleBytes) (length bytes)) bytes a }

pub what_was_found : (source out : List ℕ) (held : Contents) (x : Writes) (o : Outcome) → o.status ≡ status.Done → InstrumentAnswer source out held x o → FoundIn out x (held source)
what_was_found source out held x o done a = content_found out x o done source (held source) a.answer

-- ---- what files hold then

one_then : (out written : List ℕ) (old : Contents) (b : Bool) → bytes_eq out out ≡ b → b ≡ true → (if b then Some written else old out) ≡ Some written
one_then out written old true is e = refl
one_then out written old false is e = absurd cc

pub holds_rewriting : (source out : List ℕ) (old new : Contents) (x : Writes) (o : Outcome) → o.status ≡ status.Done → InstrumentAnswer source out old x o → HoldThen x old new → HoldsRewriting source out old new
holds_rewriting source out old new x o done a kept =
    let k = what_was_found source out old x o done a in
    record {
      bytes = k.bytes;
      was_read = k.is;
      taken = k.found.taken;
      decoded = k.found.decoded;
      valid = k.found.valid;
      written = k.found.written;
      holds = subst (λ (ws : Writes). new out ≡ held_then ws old out) k.found.one (kept out) ∙ one_then out k.found.written old (bytes_eq out out) refl (itself out);
      admitted = k.found.admitted;
    }
