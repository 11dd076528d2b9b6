use Rattle.std.proofs.Common.{ap, ◌∙◌}
use Rattle.wasm_syntax.specs.declared.module.ModuleParts.{ModuleParts as Module}
use Rattle.rewrite_modules.specs.Weight.{weight}
use Rattle.instrument.proofs.Own.{own}
use Rattle.instrument_command.proofs.rewriting.weight_of.Goals as goal

pub weight-requires-clause-low : goal.weight-requires-clause-low
weight-requires-clause-low c = (own c.args.source.now c.heights.result.now c.module.ensures.valid c.heights.ensures c.module.ensures.heights).low

pub returns : goal.returns
returns c = record {
  heights = c.heights.result.now;
  heights_are = (own c.args.source.now c.heights.result.now c.module.ensures.valid c.heights.ensures c.module.ensures.heights).are;
  is = c.weight.ensures ∙ ap (λ (m : Module). weight m c.heights.result.now) (c.in_ok-numbers.ensures ∙ c.module.ensures.value);
}
