use Rattle.std.proofs.Common.{◌≡◌, ◌≤◌, List, length, map, take, true, is_some}
use Rattle.wasm_syntax.specs.declared.host.CollectorCall.{CollectorCall}
use Rattle.wasm_syntax.specs.Module.{Program}
use Rattle.wasm_syntax.specs.Run.{engine}
use Rattle.wasm_machine.specs.calls.Instances.{IsOf}
use Rattle.run_session.specs.Delivery.{Delivery, IsDelivery}
use Rattle.run_session.specs.Telling.{tells}
use Rattle.run_session.specs.Created.{CreatesOnly}
use Rattle.run_session.specs.calls.Creating.{IsDumpName}
use Rattle.run_session.specs.Invocations.{invocation_of, depth_of}
use Rattle.run_session.specs.calls.Collecting.{KeptBehind}
use Rattle.run_session.specs.calls.Sessions.{SoFar}
use Rattle.run_session.proofs.session.run_all.Given as goal

abbrev pub invariant-loop-index : goal.invariant-loop-index
invariant-loop-index g l = record {
  ready : l.instance.ready ≡ true;
  same : l.instance.module_ ≡ l.fn.instance.module_;
  host : KeptBehind g.H.HostSide.origin g.H.HostSide.collecting g.H.HostSide.serving g.H.HostSide.fault_count l.fn.words.collect l.fn.hosts l.hosts;
  traps : l.lines.traps ≤ l.index;
  telling : is_some (g.F.Files.told l.files) ≡ is_some (g.F.Files.told l.fn.files);
  later : g.F.Files.faults l.fn.files ≤ g.F.Files.faults l.files;
  names : CreatesOnly (IsDumpName l.fn.words.dump (length l.invocations)) (g.F.Files.created l.fn.files) (g.F.Files.created l.files);
  come : ((deliver : List CollectorCall → Delivery) → IsDelivery deliver → (p : Program) → IsOf l.fn.instance p → SoFar (tells l.fn.words.collect deliver) (engine p l.fn.words.collect (depth_of l.fn.words)) l.fn.words.dump l.fn.words.name l.fn.instance l.instance (map invocation_of (take l.index l.invocations)) l.fn.words.fuel l.lines (g.H.HostSide.calls l.fn.hosts).served (g.H.HostSide.calls l.hosts).served (g.F.Files.told l.fn.files) (g.F.Files.told l.files));
}
