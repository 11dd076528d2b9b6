use Rattle.std.proofs.Common.{◌∙◌, sym, ap, subst}
use Rattle.wasm_syntax.specs.declared.module.ModuleParts.{ModuleParts as Module}
use Rattle.wasm_syntax.specs.Module.{IsModule}
use Rattle.rewrite_promise.specs.calls.Promise.{IsRewriting, Promised}
use Rattle.rewrite_promise.specs.calls.Layers.{Layered}
use Rattle.instrument.proofs.WholeModule.{few_types, elements_there, made_whole, made_rewriting, made_promised, made_layered}
use Rattle.rewrite_bodies.proofs.Doubled.{each_fits, each_doubles}
use Rattle.rewrite_modules.proofs.Listed.{listed}
use Rattle.instrument.proofs.module.assemble.Goals as goal

pub new_parts-requires : goal.new_parts-requires
new_parts-requires c =
    let m = c.args.numbers.now in
    record { types = few_types m c.requires.accepted; elements = elements_there m c.requires.accepted.premises.valid; listed = listed m; fit = each_fits m; limits = each_doubles m }

pub new-requires : goal.new-requires
new-requires c = subst (λ (x : Module). IsModule x) (sym c.in_ok-parts.ensures) (made_whole c.args.numbers.now c.args.bodies c.requires)

pub returns-clause-rewriting : goal.returns-clause-rewriting
returns-clause-rewriting c =
    subst (λ (x : Module). IsRewriting c.args.numbers.now x) (sym (c.new.ensures ∙ c.in_ok-parts.ensures)) (made_rewriting c.args.numbers.now c.args.bodies c.requires)

pub returns-clause-promised : goal.returns-clause-promised
returns-clause-promised c =
    subst (λ (x : Module). Promised c.args.numbers.now x) (sym (c.new.ensures ∙ c.in_ok-parts.ensures)) (made_promised c.args.numbers.now c.args.bodies c.requires)

pub returns-clause-layers : goal.returns-clause-layers
returns-clause-layers c =
    subst (λ (x : Module). Layered c.args.numbers.now x) (sym (c.new.ensures ∙ c.in_ok-parts.ensures)) (made_layered c.args.numbers.now c.args.bodies c.requires)

pub returns-clause-no_customs : goal.returns-clause-no_customs
returns-clause-no_customs c = ap (λ (x : Module). x.customs) (c.new.ensures ∙ c.in_ok-parts.ensures)
