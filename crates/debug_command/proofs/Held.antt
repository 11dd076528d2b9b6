-- What files hold where the command is done, and where it answers a mismatch.
use Rattle.std.proofs.Common.{◌≡◌, ℕ, ◌+◌, Bool, true, false, List, length, Option, Some, None, Result, Ok, Err, refl, sym, ap, ◌∙◌, inl, inr}
use Rattle.std.specs.Prelude.{nat_lt, if◌then◌else◌}
use Rattle.pm_outside.specs.Contents.{Contents}
use Rattle.wasm_syntax.specs.declared.module.ModuleParts.{ModuleParts as Module}
use Rattle.wasm_syntax.specs.declared.quantity.Quantity.TheVariants.{ModuleBytes, DumpBytes}
use Rattle.wasm_syntax.specs.Quantity.{greatest}
use Rattle.wasm_syntax.specs.Valid.{Valid}
use Rattle.wasm_decode.specs.Decode.{module_from}
use Rattle.wasm_decode.specs.declared.fault.DecodeFault.{DecodeFault}
use Rattle.wasm_decode.specs.declared.fault.DecodeFault.TheVariants as decode
use Rattle.dump_format.specs.declared.dump.Dump.{Dump}
use Rattle.dump_format.specs.declared.fault.DumpFault.{DumpFault}
use Rattle.dump_format.specs.declared.fault.DumpFault.TheVariants as dump_fault
use Rattle.dump_format.specs.Decode.{dump_from}
use Rattle.commands.specs.Inputs.{input_of, Then}
use Rattle.commands.specs.Loading.{IfLoaded, undecoded}
use Rattle.commands.specs.Refusal.{IsRefusal}
use Rattle.commands.specs.Texts.{over_limit}
use Rattle.commands.specs.declared.outcome.Outcome.{Outcome}
use Rattle.commands.specs.declared.status.Status.{Status}
use Rattle.commands.specs.declared.status.Status.TheVariants as status
use Rattle.commands.specs.Refused.{refused}
use Rattle.debug_command.specs.declared.words.DebugWords.{DebugWords}
use Rattle.debug_command.specs.Answer.{DumpAnswer, IfDump, BytesAnswer, DebugAnswer}
use Rattle.debug_command.specs.Headline.{IsDebugged}

-- ---- statuses that tell nothing of a dump

abbrev pub IsNeither : Status → Type 0
IsNeither s = (s ≡ status.Done → ⊥) × (s ≡ status.Mismatch → ⊥)

no_file_is_neither : IsNeither status.NoFile
no_file_is_neither = ((λ e. absurd cc), (λ e. absurd cc))

limit_is_neither : IsNeither status.Limit
limit_is_neither = ((λ e. absurd cc), (λ e. absurd cc))

invalid_is_neither : IsNeither status.Invalid
invalid_is_neither = ((λ e. absurd cc), (λ e. absurd cc))

bad_dump_is_neither : IsNeither status.BadDump
bad_dump_is_neither = ((λ e. absurd cc), (λ e. absurd cc))

no_memory_is_neither : IsNeither status.NoMemory
no_memory_is_neither = ((λ e. absurd cc), (λ e. absurd cc))

undecoded_is_neither : (fault : DecodeFault) → IsNeither (undecoded fault).status
undecoded_is_neither (decode.Malformed at) = ((λ e. absurd cc), (λ e. absurd cc))
undecoded_is_neither (decode.Float at) = ((λ e. absurd cc), (λ e. absurd cc))
undecoded_is_neither (decode.ImportKind i) = ((λ e. absurd cc), (λ e. absurd cc))
undecoded_is_neither (decode.Limit what count) = limit_is_neither
undecoded_is_neither decode.NoMemory = no_memory_is_neither

refused_is_neither : (fault : DumpFault) → IsNeither (refused fault).status
refused_is_neither (dump_fault.Malformed at) = bad_dump_is_neither
refused_is_neither (dump_fault.FloatValue at) = bad_dump_is_neither
refused_is_neither (dump_fault.Several part) = bad_dump_is_neither
refused_is_neither (dump_fault.Limit what count) = limit_is_neither
refused_is_neither dump_fault.NoMemory = no_memory_is_neither

done_is_no_mismatch : (s : Status) → s ≡ status.Done → s ≡ status.Mismatch → ⊥
done_is_no_mismatch s done is = absurd cc

-- ---- the answer

module _ (w : DebugWords) (held : Contents) (o : Outcome) where
  neither : (other : Outcome) → IsNeither other.status → o ≡ other → IsDebugged w held o.status o.text
  neither other never e =
      let same : o.status ≡ other.status = ap (λ (x : Outcome). x.status) e in
      ((λ done. absurd (never.0 (sym same ∙ done))), (λ is. absurd (never.1 (sym same ∙ is))))

  refusal_is_neither : (m : Module) → IsRefusal m o → IsDebugged w held o.status o.text
  refusal_is_neither m (inl (place, first, e)) = neither _ invalid_is_neither e
  refusal_is_neither m (inr (valid, (count, high, e))) = neither _ limit_is_neither e

  module _ (bytes : List ℕ) (was_read : held w.source ≡ Some bytes) where
    module _ (spelled : List ℕ) (was_read_then : held w.dump ≡ Some spelled) where
      dump_held : (m : Module) (dump : Dump) → module_from bytes ≡ Ok m → Valid m → dump_from spelled ≡ Ok dump → DumpAnswer w.commands bytes m dump o → IsDebugged w held o.status o.text
      dump_held m dump decoded valid read (inl (row, first, e)) =
          let is : o.status ≡ status.Mismatch = ap (λ (x : Outcome). x.status) e in (
            (λ done. absurd (done_is_no_mismatch o.status done is)),
            (λ mismatch. record {
              bytes = bytes;
              was_read = was_read;
              taken = m;
              decoded = decoded;
              valid = valid;
              dump_bytes = spelled;
              dump_was_read = was_read_then;
              dump = dump;
              dump_decoded = read;
              holds = λ fits. first.fails (fits row);
            }),
          )
      dump_held m dump decoded valid read (inr (fits, told)) = (
        (λ done. record {
          bytes = bytes;
          was_read = was_read;
          taken = m;
          decoded = decoded;
          valid = valid;
          dump_bytes = spelled;
          dump_was_read = was_read_then;
          dump = dump;
          dump_decoded = read;
          holds = (fits, told.prints);
        }),
        (λ mismatch. absurd (done_is_no_mismatch o.status told.done mismatch)),
      )

      by_dump : (m : Module) (r : Result Dump DumpFault) → dump_from spelled ≡ r → module_from bytes ≡ Ok m → Valid m → IfDump (DumpAnswer w.commands bytes m) r o → IsDebugged w held o.status o.text
      by_dump m (Err fault) is decoded valid e = neither (refused fault) (refused_is_neither fault) e
      by_dump m (Ok dump) is decoded valid a = dump_held m dump decoded valid is a

      by_module : (r : Result Module DecodeFault) → module_from bytes ≡ r → IfLoaded (λ m. IfDump (DumpAnswer w.commands bytes m) (dump_from spelled)) r o → IsDebugged w held o.status o.text
      by_module (Err fault) is e = neither (undecoded fault) (undecoded_is_neither fault) e
      by_module (Ok m) is (inl r) = refusal_is_neither m r
      by_module (Ok m) is (inr (valid, low, a)) = by_dump m (dump_from spelled) refl is valid a

      by_dump_size : (b : Bool) → Then (if b then Err (over_limit DumpBytes (greatest DumpBytes + 1)) else Ok spelled) (λ dump_bytes. BytesAnswer w.commands bytes dump_bytes) o → IsDebugged w held o.status o.text
      by_dump_size true e = neither _ limit_is_neither e
      by_dump_size false a = by_module (module_from bytes) refl a

    by_dump_content : (content : Option (List ℕ)) → held w.dump ≡ content → Then (input_of DumpBytes w.dump content) (λ dump_bytes. BytesAnswer w.commands bytes dump_bytes) o → IsDebugged w held o.status o.text
    by_dump_content None is e = neither _ no_file_is_neither e
    by_dump_content (Some spelled) is a = by_dump_size spelled is (nat_lt (greatest DumpBytes) (length spelled)) a

    by_size : (b : Bool) → Then (if b then Err (over_limit ModuleBytes (greatest ModuleBytes + 1)) else Ok bytes)
        (λ bytes. Then (input_of DumpBytes w.dump (held w.dump)) (λ dump_bytes. BytesAnswer w.commands bytes dump_bytes)) o → IsDebugged w held o.status o.text
    by_size true e = neither _ limit_is_neither e
    by_size false a = by_dump_content (held w.dump) refl a

  by_content : (content : Option (List ℕ)) → held w.source ≡ content → Then (input_of ModuleBytes w.source content)
      (λ bytes. Then (input_of DumpBytes w.dump (held w.dump)) (λ dump_bytes. BytesAnswer w.commands bytes dump_bytes)) o → IsDebugged w held o.status o.text
  by_content None is e = neither _ no_file_is_neither e
  by_content (Some bytes) is a = by_size bytes is (nat_lt (greatest ModuleBytes) (length bytes)) a

pub debugged : (w : DebugWords) (held : Contents) (o : Outcome) → DebugAnswer w held held o → IsDebugged w held o.status o.text
debugged w held o a = by_content w held o (held w.source) refl a
