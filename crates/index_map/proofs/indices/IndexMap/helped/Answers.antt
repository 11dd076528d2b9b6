use Rattle.std.proofs.Common.{ap, ◌∙◌}
use Rattle.wasm_syntax.specs.declared.module.ModuleParts.{ModuleParts as Module}
use Rattle.rewrite_modules.specs.Weight.{types_used}
use Rattle.index_map.proofs.Trees.{of_module}
use Rattle.index_map.proofs.indices.IndexMap.helped.Goals as goal

pub returns-clause-trees : goal.returns-clause-trees
returns-clause-trees c = λ p w e. of_module c.args.self.now c.as_slice.result.now p (c.as_slice.ensures ∙ c.self.invariant.used.helped_is ∙ ap (λ (m : Module). types_used m) c.self.view_is) w e
