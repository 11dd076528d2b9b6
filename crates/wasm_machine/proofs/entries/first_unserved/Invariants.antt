use Rattle.std.proofs.Common.{◌≡◌, drop, map}
use Rattle.wasm_syntax.specs.Run.{first_false}
use Rattle.wasm_machine.specs.calls.Entries.{is_served}
use Rattle.wasm_machine.proofs.entries.first_unserved.Given as goal

abbrev pub invariant-loop-import : goal.invariant-loop-import
invariant-loop-import g l = record {
  place : l.index ≡ l.import-index;
  so_far : first_false l.index (map (is_served (g.H.HostSide.serving l.hosts) l.m) (drop l.import-index l.import-items)) ≡ first_false 0 (map (is_served (g.H.HostSide.serving l.hosts) l.m) l.import-items);
}
