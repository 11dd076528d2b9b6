-- What is written of a rewriting is decoded as one.
use Rattle.std.proofs.Common.{◌≡◌, ℕ, List, Ok, sym, ◌∙◌}
use Rattle.wasm_syntax.specs.declared.module.ModuleParts.{ModuleParts as Module}
use Rattle.wasm_syntax.specs.SameCode.{code_alone}
use Rattle.wasm_bytes.specs.Laws.{IsBytes}
use Rattle.wasm_decode.specs.Decode.{module_from}
use Rattle.wasm_encode.specs.Encoding.{encoding}
use Rattle.wasm_encode.specs.calls.Fits.{FitsModule}
use Rattle.wasm_encode.specs.calls.SameModule.{SpellsSame}
use Rattle.wasm_format_laws.specs.calls.Laws.{DecodesSame}
use Rattle.wasm_format_laws.proofs.Decoding.{encoding_decodes, spelled_decodes}
use Rattle.rewrite_promise.specs.calls.Promise.{Accepted, IsRewriting, DecodesAsRewriting}
use Rattle.rewrite_promise.proofs.Decoded.{whole, limits}
use Rattle.rewrite_promise.proofs.Kept.{promised}

rewriting_again : (m other decoded : Module) (written : List ℕ) → IsRewriting m other → IsBytes written → module_from written ≡ Ok decoded → code_alone decoded ≡ code_alone other → IsRewriting m decoded
rewriting_again m other decoded written r fits is code =
    let within = limits written decoded fits is in
    record {
      whole = r.whole;
      other_whole = whole written decoded fits is;
      same = r.same ∙ sym code;
      few_customs = within.short.customs;
      short_names = within.short.custom_names;
    }

decodes : (m other : Module) → Accepted m → IsRewriting m other → DecodesSame other (encoding other) → IsBytes (encoding other) → DecodesAsRewriting m (encoding other)
decodes m other a r d are =
    let again = rewriting_again m other d.decoded (encoding other) r are d.is d.code in
    record {
      decoded = d.decoded;
      is = d.is;
      rewriting = again;
      promised = promised m d.decoded a again;
      weighs = (promised m other a r).weighs;
    }

pub written : (m other : Module) → Accepted m → IsRewriting m other → FitsModule other → IsBytes (encoding other) → DecodesAsRewriting m (encoding other)
written m other a r fits are =
    let p = promised m other a r in
    decodes m other a r (encoding_decodes other r.other_whole fits p.within p.few_bytes) are

pub spelled : (m other : Module) → Accepted m → IsRewriting m other → SpellsSame other (encoding other) → IsBytes (encoding other) → DecodesAsRewriting m (encoding other)
spelled m other a r same are =
    let p = promised m other a r in
    decodes m other a r (spelled_decodes other (encoding other) p.within p.few_bytes same) are
