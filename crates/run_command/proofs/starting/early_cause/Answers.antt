use Rattle.std.proofs.Common.{◌≡◌, ℕ, ◌<◌, List, sym, ap, ◌∙◌, subst, arith, Option, Some, None}
use Rattle.std.specs.Prelude.{IfOk}
use Rattle.wasm_machine.specs.declared.entries.EntryFault.{EntryFault}
use Rattle.wasm_machine.specs.calls.Entries.{first_unserved}
use Rattle.run_command.specs.Hosting.{import_text}
use Rattle.run_command.specs.calls.Begun.{fault_text, import_in}
use Rattle.run_command.proofs.Entries.{own_text, found, passed, all_passed}
use Rattle.run_command.proofs.Beginning.{own_fault, import_left}
use Rattle.run_command.proofs.starting.early_cause.Goals as goal
use Rattle.std.specs.Option.{option_or}

pub returns-in-Some : goal.returns-in-Some
returns-in-Some g c =
    let serving = g.H.HostSide.serving c.args.hosts.now in
    let m = c.args.source.now in
    let i = c.invocation-item.result in
    let own : own_text c.args.source.now c.invocation-item.result ≡ Some c.in-Some.text = sym (own_fault serving m i) ∙ ap (λ (f : Option EntryFault). fault_text i.entry f) (sym c.fault_of-fault.ensures) ∙ sym c.in_ok-cause.ensures ∙ c.in-Some.is in
    ap (λ (o : Option (List ℕ)). option_or o (import_text (first_unserved serving m)))
    (found m c.args.invocations.now c.loop-invocation.invocation-index i c.in-Some.text c.loop-invocation-test.true c.invocation-item.is own c.loop-invocation.invariant.entries)

pub loop-invocation-preserved : goal.loop-invocation-preserved
loop-invocation-preserved g c =
    let serving = g.H.HostSide.serving c.args.hosts.now in
    let m = c.args.source.now in
    let i = c.invocation-item.result in
    let own : own_text c.args.source.now c.invocation-item.result ≡ None = sym (own_fault serving m i) ∙ ap (λ (f : Option EntryFault). fault_text i.entry f) (sym c.fault_of-fault.ensures) ∙ sym c.in_ok-cause.ensures ∙ c.in-None.is in
    record {
      entries = passed m c.args.invocations.now c.loop-invocation.invocation-index i c.loop-invocation-test.true c.invocation-item.is own c.loop-invocation.invariant.entries;
      import = λ lt. c.unserved-import.ensures ∙ ap (λ (f : Option EntryFault). import_in f) c.fault_of-fault.ensures ∙ import_left serving m i own;
    }

pub returns : goal.returns
returns g c =
    let serving = g.H.HostSide.serving c.args.hosts.now in
    let m = c.args.source.now in
    let some : 0 < c.loop-invocation.invocation-index = omega (arith, c.requires, c.loop-invocation-test.false) in
    subst (λ (x : Option (List ℕ)). IfOk c.import_cause.result (λ t. t ≡ x))
    (ap (λ (o : Option ℕ). import_text o) (c.loop-invocation.invariant.import some)
    ∙ ap (λ (o : Option (List ℕ)). option_or o (import_text (first_unserved serving m))) (all_passed m c.args.invocations.now c.loop-invocation.invocation-index (omega arith) c.loop-invocation.invariant.entries))
    c.import_cause.ensures
