use Rattle.std.proofs.Common.{sym, subst}
use Rattle.wasm_syntax.specs.declared.module.ModuleParts.{ModuleParts as Module}
use Rattle.index_map.specs.inner.Kept.{CanBeNumbered}
use Rattle.index_map.proofs.Few.{can_be}
use Rattle.index_map.proofs.indices.IndexMap.new.Goals as goal

pub number-requires : goal.number-requires
number-requires c = subst (λ (m : Module). CanBeNumbered m) (sym c.parts.ensures.value) (can_be c.args.source.now c.requires.valid c.requires.sized)
