use Rattle.std.proofs.Common.{◌≡◌, true, drop}
use Rattle.var_eval.specs.Steps.{walk}
use Rattle.var_eval.specs.inner.Named.{AreKnown, IsOwn}
use Rattle.var_eval.proofs.walking.take_steps.Given as goal

abbrev pub invariant-loop-step : goal.invariant-loop-step
invariant-loop-step l = record {
  walked : walk l.units l.view.memory l.steps l.initial.part ≡ walk l.units l.view.memory (drop l.step-index l.steps) l.part;
  own : l.own ≡ true → IsOwn l.units l.part.type;
  known : AreKnown l.units l.known;
}
