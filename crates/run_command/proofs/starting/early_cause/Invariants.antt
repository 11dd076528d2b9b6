use Rattle.std.proofs.Common.{◌≡◌, ◌<◌, drop}
use Rattle.wasm_machine.specs.calls.Entries.{first_unserved}
use Rattle.run_command.proofs.Entries.{texts}
use Rattle.run_command.proofs.starting.early_cause.Given as goal

abbrev pub invariant-loop-invocation : goal.invariant-loop-invocation
invariant-loop-invocation g l = record {
  entries : texts l.source (drop l.invocation-index l.invocations) ≡ texts l.source l.invocations;
  import : (0 < l.invocation-index → l.import ≡ first_unserved (g.H.HostSide.serving l.hosts) l.source);
}
