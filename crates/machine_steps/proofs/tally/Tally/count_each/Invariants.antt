use Rattle.std.proofs.Common.{◌≤◌, ◌-◌, ◌++◌, List}
use Rattle.std.specs.Prelude.{Option}
use Rattle.wasm_syntax.specs.declared.module.ModuleParts.{ModuleParts as Module}
use Rattle.machine_steps.specs.Places.{Place}
use Rattle.machine_steps.specs.calls.Watches.{places_from}
use Rattle.machine_steps.specs.calls.Tallies.{Counted}
use Rattle.machine_steps.proofs.tally.Tally.count_each.Given as goal

abbrev pub invariant-loop-index : goal.invariant-loop-index
invariant-loop-index l = record {
  from : l.start ≤ l.index;
  few : l.index - l.start ≤ l.end - l.start;
  so_far : (m : Module) (seen : List (Option Place)) → Counted m l.initial.self seen → Counted m l.self (seen ++ places_from m l.function l.start (l.index - l.start));
}

abbrev pub decreases-loop-index : goal.decreases-loop-index
decreases-loop-index l = l.end - l.index
