use Rattle.std.proofs.Common.{◌≡◌, ◌∙◌, ap, subst, sym, refl, Some}
use Rattle.wasm_syntax.specs.declared.module.ModuleParts.{ModuleParts as Module}
use Rattle.wasm_syntax.specs.Valid.{body_of}
use Rattle.rewrite_bodies.specs.calls.Slots.{Ctx}
use Rattle.unwind_rewrite.specs.calls.Bodies.{LowLandings}
use Rattle.unwind_rewrite.specs.calls.Numbers.{HasHelpers}
use Rattle.unwind_rewrite.specs.calls.Points.{CanBeWritten}
use Rattle.unwind_rewrite.proofs.Premises as premises
use Rattle.rewrite_modules.proofs.Modules.{module_given}
use Rattle.rewrite_modules.proofs.Unwinding.{unwinds}
use Rattle.unwind_rewrite.specs.calls.Rewritten.{program_in}
use Rattle.unwind_rewrite.proofs.body.rewrite_body.Goals as goal

pub write_body-requires-clause-source : goal.write_body-requires-clause-source
write_body-requires-clause-source c = let r = c.in-Ok.ensures in c.source-parts.ensures ∙ sym (ap (λ (x : Ctx). x.source) r.is)

pub write_body-requires-clause-helpers : goal.write_body-requires-clause-helpers
write_body-requires-clause-helpers c = let r = c.in-Ok.ensures in subst HasHelpers (sym r.is) (record { base = refl; types = refl })

pub write_body-requires-clause-helped : goal.write_body-requires-clause-helped
write_body-requires-clause-helped c =
    let m = c.args.numbers.now in
    let f = c.args.func in
    let r = c.in-Ok.ensures in
    let here = subst (λ (x : Module). body_of x f ≡ Some c.body_at-body.result.now) c.source-parts.ensures c.body_at-body.ensures in
    premises.helped m c.requires.accepted f c.body_at-body.result.now here c.in-Ok.context (ap (λ (x : Ctx). x.source) r.is)

pub write_body-requires-clause-few : goal.write_body-requires-clause-few
write_body-requires-clause-few c =
    let f = c.args.func in
    let here = subst (λ (x : Module). body_of x f ≡ Some c.body_at-body.result.now) c.source-parts.ensures c.body_at-body.ensures in
    premises.few c.args.numbers.now c.requires.accepted f c.body_at-body.result.now here

pub write_body-requires-clause-tree : goal.write_body-requires-clause-tree
write_body-requires-clause-tree c =
    let m = c.args.numbers.now in
    let f = c.args.func in
    let b = c.body_at-body.result.now in
    let r = c.in-Ok.ensures in
    let here = subst (λ (x : Module). body_of x f ≡ Some b) c.source-parts.ensures c.body_at-body.ensures in
    subst (λ (x : Ctx). CanBeWritten x b) (sym r.is) (premises.can m c.requires.accepted f b here c.args.plan.now c.requires.plan r.exposed r.landings r.derivations)

pub write_body-requires-clause-low : goal.write_body-requires-clause-low
write_body-requires-clause-low c =
    let m = c.args.numbers.now in
    let f = c.args.func in
    let b = c.body_at-body.result.now in
    let r = c.in-Ok.ensures in
    let here = subst (λ (x : Module). body_of x f ≡ Some b) c.source-parts.ensures c.body_at-body.ensures in
    subst LowLandings (sym r.is) (premises.low m c.requires.accepted f b here c.args.plan.now c.requires.plan r.exposed r.landings r.derivations r.own)

pub returns-in-Ok-clause-code : goal.returns-in-Ok-clause-code
returns-in-Ok-clause-code c =
    let m = c.args.numbers.now in
    let f = c.args.func in
    let b = c.body_at-body.result.now in
    let r = c.in-Ok.ensures in
    let here = subst (λ (x : Module). body_of x f ≡ Some b) c.source-parts.ensures c.body_at-body.ensures in
    premises.is_rewritten m f b here c.args.plan.now c.requires.plan r.exposed r.landings r.derivations r.shown r.own r.derived c.in-Ok.context r.is c.write_body.result c.write_body.ensures.code

pub returns-in-Ok-clause-promised : goal.returns-in-Ok-clause-promised
returns-in-Ok-clause-promised c = λ a i old e there. premises.promised c.args.numbers.now c.args.func c.write_body.result (returns-in-Ok-clause-code c) a i old e there

pub returns-in-Ok-clause-unwinds : goal.returns-in-Ok-clause-unwinds
returns-in-Ok-clause-unwinds c = λ a heights are depth. unwinds (program_in c.args.numbers.now a) (module_given c.args.numbers.now a.premises) heights are depth

pub returns-in-Err-clause-unwinds : goal.returns-in-Err-clause-unwinds
returns-in-Err-clause-unwinds c = λ a heights are depth. unwinds (program_in c.args.numbers.now a) (module_given c.args.numbers.now a.premises) heights are depth
