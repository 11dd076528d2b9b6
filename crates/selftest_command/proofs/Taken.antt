-- What the encoding of a self-test is decoded as is valid, with few operands, and rewritten.
use Rattle.std.proofs.Common.{◌≡◌, ℕ, ◌≤◌, List, length, None, Ok, sym, ap, ◌∙◌, arith}
use Rattle.std.proofs.lemmas.List.{length-map}
use Rattle.wasm_syntax.specs.declared.module.ModuleParts.{ModuleParts as Module}
use Rattle.wasm_syntax.specs.SameCode.{body_code, code_alone}
use Rattle.wasm_syntax.specs.Valid.{Valid}
use Rattle.wasm_bytes.specs.Laws.{IsBytes}
use Rattle.wasm_decode.specs.Decode.{module_from}
use Rattle.wasm_validate.specs.Heights.{AllLow}
use Rattle.wasm_laws.proofs.Lists.{at_of}
use Rattle.wasm_format_laws.proofs.Whole.{decoded}
use Rattle.rewrite_modules.specs.Weight.{AreHeights}
use Rattle.rewrite_modules.proofs.BareValid.{same_valid}
use Rattle.rewrite_promise.proofs.Decoded.{whole}
use Rattle.rewrite_promise.proofs.Low.{all_low}
use Rattle.instrument.specs.Refusal.{refusal}
use Rattle.wasm_encode.specs.Encoding.{encoding}
use Rattle.rewrite_promise.specs.Admitted.{Admits}
use Rattle.selftest_command.specs.Selftest.{bodies, selftest}
use Rattle.selftest_command.proofs.Sizes.{few_bytes}
use Rattle.selftest_command.specs.Handing.{IsDecoded, IsAccepted, HandsAllOver}
use Rattle.selftest_command.proofs.Handed.{hands_over}
use Rattle.selftest_command.proofs.Whole.{length_bodies, is_valid}
use Rattle.selftest_command.proofs.Bodies.{IsSmall, like, all_small, before_few}
use Rattle.selftest_command.proofs.Light.{framed, no_refusal}
use Rattle.selftest_command.proofs.Plain.{plain_few}

pub valid : (n : ℕ) (bytes : List ℕ) (m : Module) → 1 ≤ n → IsBytes bytes → module_from bytes ≡ Ok m → code_alone m ≡ code_alone (selftest n) → Valid m
valid n bytes m some are is same = same_valid (selftest n) m (sym same) (whole bytes m are is) (is_valid n some)

pub low : (n : ℕ) (m : Module) → code_alone m ≡ code_alone (selftest n) → AllLow m
low n m same =
    let k = like n m same in
    all_low m (λ i op body type types e lt ty before. omega (arith, before_few n m type body op types k (at_of IsSmall m.bodies i body (all_small n m k) e) before))

pub taken : (n : ℕ) (bytes : List ℕ) (m : Module) (heights : List (List ℕ)) → n ≤ 900 → IsBytes bytes → module_from bytes ≡ Ok m → code_alone m ≡ code_alone (selftest n) → Valid m → AreHeights m heights → length bytes ≤ 2000000 → refusal m heights ≡ None
taken n bytes m heights most are is same ok heights_are short =
    let k = like n m same in
    let count : length m.bodies ≡ n = sym (length-map m.bodies body_code) ∙ ap length k.bodies_ ∙ length-map (bodies n n) body_code ∙ length_bodies n in
    no_refusal n m heights most ok k (framed n m same) heights_are count (decoded bytes m are is).code (omega (arith, plain_few bytes m are is, short))

pub accepted : (n : ℕ) (m : Module) → 1 ≤ n → n ≤ 900 → IsBytes (encoding (selftest n)) → IsDecoded n m → IsAccepted m
accepted n m some most are d =
    let ok = valid n (encoding (selftest n)) m some are d.is d.same in
    record {
      valid = ok;
      low = low n m d.same;
      no_cause = λ heights heights_are. taken n (encoding (selftest n)) m heights most are d.is d.same ok heights_are (omega (arith, few_bytes n most));
    }

pub all_handed : (n : ℕ) (m : Module) (bytes : List ℕ) (a : Admits m bytes) → 1 ≤ n → n ≤ 900 → IsBytes (encoding (selftest n)) → IsDecoded n m → HandsAllOver n m a.decoded
all_handed n m bytes a some most are d = hands_over n m bytes a some most (valid n (encoding (selftest n)) m some are d.is d.same) d.same
