use Rattle.std.proofs.Common.{sym, subst}
use Rattle.wasm_syntax.specs.declared.module.ModuleParts.{ModuleParts as Module}
use Rattle.rewrite_promise.specs.calls.Promise.{Promised}
use Rattle.rewrite_promise.specs.calls.Layers.{Layered}
use Rattle.instrument.specs.calls.Assembly.{AreBodies}
use Rattle.instrument.proofs.whole.rewritten.Goals as goal

pub assemble-requires : goal.assemble-requires
assemble-requires c = subst (λ (x : Module). AreBodies x c.in_ok-bodies.bodies) (sym c.requires.numbers) c.in_ok-bodies.ensures

pub returns : goal.returns
returns c = (
  subst (λ (x : Module). Promised x c.in_ok-other.other) c.requires.numbers c.in_ok-other.ensures.promised,
  c.in_ok-other.ensures.no_customs,
  subst (λ (x : Module). Layered x c.in_ok-other.other) c.requires.numbers c.in_ok-other.ensures.layers,
)
