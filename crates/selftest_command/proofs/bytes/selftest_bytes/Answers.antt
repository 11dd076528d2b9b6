use Rattle.std.proofs.Common.{◌≡◌, ◌≤◌, ◌∙◌, length, ap, subst, sym, arith}
use Rattle.std.specs.Prelude.{Result, Ok, Err, IfOk}
use Rattle.wasm_syntax.specs.Sizes.{WithinLimits}
use Rattle.wasm_encode.specs.Encoding.{encoding}
use Rattle.wasm_encode.specs.calls.SameModule.{SpellsSame}
use Rattle.wasm_format_laws.specs.calls.Laws.{DecodesSame}
use Rattle.wasm_format_laws.proofs.Decoding.{spelled_decodes}
use Rattle.selftest_command.specs.Selftest.{selftest}
use Rattle.selftest_command.proofs.Sizes.{within, few_bytes}
use Rattle.selftest_command.proofs.bytes.selftest_bytes.Goals as goal

-- two clauses on a result give a third one
both : {A E : Type 0} (r : Result A E) (P Q R : A → Type 0) → ((x : A) → P x → Q x → R x) → IfOk r P → IfOk r Q → IfOk r R
both (Ok x) P Q R f p q = f x p q
both (Err e) P Q R f p q = tt

pub encode-bytes-requires : goal.encode-bytes-requires
encode-bytes-requires c = subst (λ m. length (encoding m) ≤ 134217728) (sym c.in_ok-made.ensures.is) (omega (arith, few_bytes c.args.count c.requires.most))

pub returns-clause-exact : goal.returns-clause-exact
returns-clause-exact c =
    let m = c.in_ok-made.made in
    both c.encode-bytes.result (λ bytes. bytes.items ≡ encoding m) (λ bytes. bytes.items ≡ encoding m) (λ bytes. bytes.items ≡ encoding (selftest c.args.count))
    (λ bytes exact again. exact ∙ ap encoding c.in_ok-made.ensures.is) c.encode-bytes.ensures.exact c.encode-bytes.ensures.exact

pub returns-clause-same : goal.returns-clause-same
returns-clause-same c =
    let n = c.args.count in
    let m = c.in_ok-made.made in
    let few = within n c.requires.most in
    both c.encode-bytes.result (λ bytes. WithinLimits m → SpellsSame m bytes.items) (λ bytes. bytes.items ≡ encoding m) (λ bytes. DecodesSame (selftest n) (encoding (selftest n)))
    (λ bytes spelled exact.
    let made : SpellsSame m bytes.items = spelled (subst WithinLimits (sym c.in_ok-made.ensures.is) few) in
    let same : SpellsSame (selftest n) (encoding (selftest n)) = subst (λ x. SpellsSame x (encoding x)) c.in_ok-made.ensures.is (subst (SpellsSame m) exact made) in
    spelled_decodes (selftest n) (encoding (selftest n)) few (omega (arith, few_bytes n c.requires.most)) same)
    c.encode-bytes.ensures.spelled c.encode-bytes.ensures.exact
