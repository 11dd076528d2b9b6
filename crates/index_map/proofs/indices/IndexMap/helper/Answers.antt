use Rattle.std.proofs.Common.{◌+◌, refl, ap, ap₂, ◌∙◌, arith}
use Rattle.wasm_syntax.specs.declared.module.ModuleParts.{ModuleParts as Module}
use Rattle.rewrite_bodies.specs.Numbering.{helper_base, is_in, place_in}
use Rattle.rewrite_modules.specs.Weight.{types_used}
use Rattle.index_map.proofs.Trees.{of_module}
use Rattle.index_map.proofs.Places.{table_low, place_found}
use Rattle.index_map.proofs.indices.IndexMap.helper.Goals as goal

pub place_of-requires : goal.place_of-requires
place_of-requires c = λ k e.
    let used = ap (λ (m : Module). is_in c.args.ftype (types_used m)) c.self.view_is ∙ c.requires in
    let low = table_low _ _ _ c.self.invariant.can c.self.invariant.used c.args.ftype k used e in
    omega (arith, low, c.len.ensures)

pub overflow_cast-result : goal.overflow_cast-result
overflow_cast-result c =
    let used = ap (λ (m : Module). is_in c.args.ftype (types_used m)) c.self.view_is ∙ c.requires in
    let found = place_found _ _ _ c.self.invariant.can c.self.invariant.used c.args.ftype c.place_of.result used (λ k e. c.place_of.ensures k e ∙ c.len.ensures) in
    omega (arith, found.1, c.self.invariant.can.few.functions)

pub overflow_add-result : goal.overflow_add-result
overflow_add-result c =
    let used = ap (λ (m : Module). is_in c.args.ftype (types_used m)) c.self.view_is ∙ c.requires in
    let found = place_found _ _ _ c.self.invariant.can c.self.invariant.used c.args.ftype c.place_of.result used (λ k e. c.place_of.ensures k e ∙ c.len.ensures) in
    omega (arith, found.1, c.self.invariant.can.few.functions, c.helper_base.ensures, ap helper_base c.self.view_is)

pub returns-clause-flat : goal.returns-clause-flat
returns-clause-flat c =
    let used = ap (λ (m : Module). is_in c.args.ftype (types_used m)) c.self.view_is ∙ c.requires in
    let found = place_found _ _ _ c.self.invariant.can c.self.invariant.used c.args.ftype c.place_of.result used (λ k e. c.place_of.ensures k e ∙ c.len.ensures) in
    ap₂ (λ a b. a + b) c.helper_base.ensures (found.0 ∙ ap (λ (m : Module). place_in c.args.ftype (types_used m)) c.self.view_is)

pub returns-clause-trees : goal.returns-clause-trees
returns-clause-trees c = λ p w e.
    let m = c.args.self.now in
    returns-clause-flat c ∙ ap (λ us. helper_base m + place_in c.args.ftype us) (of_module m (types_used m) p refl w e)
