use Rattle.std.proofs.Common.{◌≡◌, ◌+◌, ◌<◌, ◌≤◌, length, take, sym, ap, ◌∙◌, subst, arith}
use Rattle.wasm_syntax.specs.declared.module.ModuleParts.{ModuleParts as Module}
use Rattle.operand_spill.specs.calls.Plans.{IsDefined}
use Rattle.unwind_rewrite.specs.calls.Rewritten.{IsRewritten}
use Rattle.instrument.specs.inner.Adding.{Adds, new_bodies}
use Rattle.instrument.proofs.NewFunctions.{all_functions, function_added, is_there}
use Rattle.instrument.proofs.bodies.push_functions.Goals as goal

pub rewritten-requires-clause-defined : goal.rewritten-requires-clause-defined
rewritten-requires-clause-defined c =
    let m = c.args.source.now in
    let i = c.loop-i.i in
    let same = c.source-parts.ensures ∙ c.requires.numbers in
    let first : c.len-first.result ≡ length m.imports = c.len-first.ensures ∙ ap (λ (x : Module). length x.imports) same in
    let count : c.len-i-end.result ≡ length m.bodies = c.len-i-end.ensures ∙ ap (λ (x : Module). length x.bodies) same in
    let inside : i < length m.bodies = omega (arith, count, c.loop-i-test.true) in
    subst (λ k. IsDefined m (k + i)) (sym first) (is_there m c.requires.accepted i inside)

pub loop-i-preserved : goal.loop-i-preserved
loop-i-preserved c = λ a.
    let m = c.args.source.now in
    let i = c.loop-i.i in
    let b = c.in_ok-body.body in
    let same = c.source-parts.ensures ∙ c.requires.numbers in
    let first : c.len-first.result ≡ length m.imports = c.len-first.ensures ∙ ap (λ (x : Module). length x.imports) same in
    let count : c.len-i-end.result ≡ length m.bodies = c.len-i-end.ensures ∙ ap (λ (x : Module). length x.bodies) same in
    let inside : i < length m.bodies = omega (arith, count, c.loop-i-test.true) in
    subst (λ z. Adds (take (i + 1) (new_bodies m a)) c.args.out.now z) (sym c.in_ok-push.ensures.ok)
    (function_added m a i inside c.args.out.now c.loop-i.out b (subst (λ k. IsRewritten m (k + i) b) first c.in_ok-body.ensures.code) c.in_ok-body.ensures.offsets (c.loop-i.invariant a))

pub returns : goal.returns
returns c = λ a.
    let m = c.args.source.now in
    let same = c.source-parts.ensures ∙ c.requires.numbers in
    let count : c.len-i-end.result ≡ length m.bodies = c.len-i-end.ensures ∙ ap (λ (x : Module). length x.bodies) same in
    let over : length m.bodies ≤ c.loop-i.i = omega (arith, count, c.loop-i-test.false) in
    all_functions m a c.args.out.now c.loop-i.out c.loop-i.i over (c.loop-i.invariant a)
