use Rattle.std.proofs.Common.{◌∙◌, sym, subst}
use Rattle.wasm_syntax.specs.declared.module.ModuleParts.{ModuleParts as Module}
use Rattle.wasm_syntax.specs.Sizes.{WithinLimits}
use Rattle.wasm_format_laws.specs.calls.Sized.{Sized}
use Rattle.rewrite_tests.proofs.modules.numbered.Goals as goal

pub answers-requires : goal.answers-requires
answers-requires c =
    let same = sym (c.in-Ok.ensures ∙ c.module.ensures.value) in
    record {
      sized = subst (λ (m : Module). Sized m) same c.requires.sized;
      limits = subst (λ (m : Module). WithinLimits m) same c.module.ensures.limits;
    }
