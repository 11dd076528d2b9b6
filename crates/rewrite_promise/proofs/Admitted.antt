-- What is written of a promised module is admitted.
use Rattle.std.proofs.Common.{◌≡◌, map, length, take, sym, subst}
use Rattle.wasm_syntax.specs.declared.module.ModuleParts.{ModuleParts as Module}
use Rattle.wasm_bytes.specs.Laws.{IsBytes}
use Rattle.wasm_encode.specs.Encoding.{encoding}
use Rattle.wasm_encode.specs.calls.Fits.{FitsModule}
use Rattle.wasm_encode.specs.calls.SameModule.{SpellsSame}
use Rattle.wasm_format_laws.specs.calls.Laws.{DecodesSame}
use Rattle.wasm_format_laws.proofs.Decoding.{encoding_decodes, spelled_decodes}
use Rattle.rewrite_modules.specs.calls.Bare.{bare}
use Rattle.wasm_syntax.specs.SameCode.{code_alone, global_code}
use Rattle.rewrite_modules.specs.Instrumentable.{program_of, LightEnough}
use Rattle.rewrite_modules.specs.Interface.{KeepsInterface}
use Rattle.rewrite_modules.specs.Multiple.{multiple}
use Rattle.rewrite_modules.proofs.BareHeights.{same_heights}
use Rattle.rewrite_modules.proofs.BareRuns.{simulates_bare, starts_bare, lowers_bare}
use Rattle.rewrite_modules.proofs.BareCalls.{entries_bare, entries_lower_bare}
use Rattle.rewrite_promise.proofs.Outside.{table_same}
use Rattle.rewrite_modules.proofs.BareValid.{same_valid}
use Rattle.rewrite_modules.proofs.WrittenOut.{program_bare, same_bare}
use Rattle.rewrite_promise.specs.calls.Promise.{Promised}
use Rattle.rewrite_promise.specs.Outside.{KeepsOutside, ExportsFunction, KeepsFunctions}
use Rattle.rewrite_promise.specs.Admitted.{Admits}
use Rattle.rewrite_promise.proofs.Decoded.{whole, limits}
use Rattle.rewrite_promise.proofs.Low.{all_low, low_heights}

module _ (m other decoded : Module) (same : code_alone other ≡ code_alone decoded) where
  outside_kept : KeepsOutside m other → KeepsOutside m decoded
  outside_kept h = record {
    interface = subst (KeepsInterface (code_alone m)) same h.interface;
    table = table_same other decoded same h.table;
    globals = subst (λ (k : Module). take (length m.globals) k.globals ≡ map global_code m.globals) same h.globals;
  }

  functions_kept : KeepsFunctions m other → KeepsFunctions m decoded
  functions_kept h name type e = subst (λ (k : Module). ExportsFunction k name type) same (h name type e)

admits : (m other : Module) → LightEnough m → Promised m other → DecodesSame other (encoding other) → IsBytes (encoding other) → Admits m (encoding other)
admits m other light p d are =
    let bytes = encoding other in
    let decoded = d.decoded in
    let same : code_alone other ≡ code_alone decoded = sym d.code in
    let too = whole bytes decoded are d.is in
    let q = program_of other p.other_whole in
    let r = program_of decoded too in
    let bares : bare r ≡ bare q = same_bare r q (program_bare r too.write) (program_bare q p.other_whole.write) d.code in
    let valid = same_valid other decoded same too p.valid in
    record {
      whole = p.whole;
      heights = light.heights;
      heights_are = light.heights_are;
      are_bytes = are;
      decoded = decoded;
      is = d.is;
      decoded_whole = too;
      simulates = simulates_bare (multiple m light.heights) (program_of m p.whole) q r bares (p.simulates light.heights light.heights_are);
      starts = starts_bare (multiple m light.heights) (program_of m p.whole) q r bares (p.starts light.heights light.heights_are);
      entries = entries_bare (multiple m light.heights) (program_of m p.whole) q r bares (p.entries light.heights light.heights_are);
      lowers = lowers_bare (program_of m p.whole) q r bares p.lowers;
      entries_lower = entries_lower_bare (program_of m p.whole) q r bares p.entries_lower;
      valid = valid;
      within = limits bytes decoded are d.is;
      low = all_low decoded (same_heights other decoded same (low_heights other p.low));
      outside = outside_kept m other decoded same p.outside;
      functions = functions_kept m other decoded same p.functions;
      weighs = p.weighs light.heights light.heights_are;
    }

pub written : (m other : Module) → LightEnough m → Promised m other → FitsModule other → IsBytes (encoding other) → Admits m (encoding other)
written m other light p fits are = admits m other light p (encoding_decodes other p.other_whole fits p.within p.few_bytes) are

pub spelled : (m other : Module) → LightEnough m → Promised m other → SpellsSame other (encoding other) → IsBytes (encoding other) → Admits m (encoding other)
spelled m other light p same are = admits m other light p (spelled_decodes other (encoding other) p.within p.few_bytes same) are
