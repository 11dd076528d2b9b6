use Rattle.std.proofs.Common.{◌-◌, ◌+◌, map, length, refl, sym, ap, ◌∙◌, subst, arith, inl, take, drop, List}
use Rattle.std.proofs.Math.Nat.{le_refl}
use Rattle.commands.specs.declared.outcome.Outcome.{Outcome}
use Rattle.wasm_syntax.specs.Run.{engine}
use Rattle.machine_hosted.proofs.HostLaws.{kept_same, kept_on, cause_later}
use Rattle.wasm_machine.proofs.StandingLaws.{of_same}
use Rattle.run_session.specs.Telling.{tells}
use Rattle.run_session.specs.Invocations.{invocation_of, depth_of}
use Rattle.run_session.specs.Stop.{no_memory}
use Rattle.run_session.specs.calls.Collecting.{used_up_of, serving_of, collecting_of}
use Rattle.run_session.specs.calls.Sessions.{OnTurnStop}
use Rattle.run_session.proofs.Tellings.{behaves}
use Rattle.run_session.proofs.Ends.{done_no_fault}
use Rattle.run_session.proofs.Whole.{begins, entry_now, next_done, one_due, due_left, of_ok, of_want, of_goes, of_refused, come_next, ends_ran, torn_ran, ends_stopped, torn_stopped, stops_here, stopped_here, stopped_refused, all_ran_so, of_end}
use Rattle.run_words.specs.declared.invocation.Invocation.{Invocation as RunInvocation}
use Rattle.run_session.specs.Created.{CreatesOnly}
use Rattle.run_session.specs.calls.Creating.{IsDumpName}
use Rattle.run_session.proofs.Created.{creates_dump}
use Rattle.run_session.proofs.session.run_all.Goals as goal
use Rattle.commands.proofs.ReadFiles.{rose_since}

pub loop-index-init : goal.loop-index-init
loop-index-init g c = record {
  ready = c.requires.ready;
  same = refl;
  host = kept_same g.H.HostSide.origin (λ h. collecting_of c.args.words.now.collect (g.H.HostSide.collecting h)) (λ h. serving_of c.args.words.now.collect (g.H.HostSide.serving h)) g.H.HostSide.fault_count c.args.hosts;
  traps = le_refl _;
  telling = refl;
  later = le_refl _;
  names = λ name has. inl has;
  come = λ deliver delivers p is_of.
      begins (tells c.args.words.now.collect deliver) (engine p c.args.words.now.collect (depth_of c.args.words.now)) c.args.words.now.dump c.args.words.now.name c.args.instance.now (map invocation_of (take 0 c.as_slice-invocations.result.now)) c.args.words.now.fuel
      _ (g.H.HostSide.calls c.args.hosts).served (g.F.Files.told c.args.files.now) refl c.requires.steps c.new.ensures refl;
}

pub run_next-turn-requires-clause-entry : goal.run_next-turn-requires-clause-entry
run_next-turn-requires-clause-entry g c =
    let h = c.loop-index.invariant in
    entry_now (serving_of c.args.words.now.collect (g.H.HostSide.serving c.args.hosts)) (serving_of c.args.words.now.collect (g.H.HostSide.serving c.loop-index.hosts)) h.host.serving_is c.args.instance.now.module_ c.loop-index.instance.module_ h.same
    c.args.words.now.invocations c.as_slice-invocations.result.now c.as_slice-invocations.ensures c.requires.entries c.loop-index.index c.index-invocations-index.result _ c.loop-index-test.true c.index-invocations-index.is

pub loop-index-preserved : goal.loop-index-preserved
loop-index-preserved g c =
    let h = c.loop-index.invariant in
    let xs = c.as_slice-invocations.result.now in
    let k = c.loop-index.index in
    record {
      ready = of_goes c.in-Ok.turn _ c.in-GoesOn.is (of_ok c.run_next-turn.result.0 c.in-Ok.turn _ c.in-Ok.is c.run_next-turn.ensures.ready);
      same = c.run_next-turn.ensures.same ∙ h.same;
      host = kept_on g.H.HostSide.origin (λ h. collecting_of c.args.words.now.collect (g.H.HostSide.collecting h)) (λ h. serving_of c.args.words.now.collect (g.H.HostSide.serving h)) g.H.HostSide.fault_count c.args.hosts c.loop-index.hosts c.run_next-turn.result.1 h.host c.run_next-turn.ensures.host;
      traps = omega (arith, c.run_next-turn.ensures.one, h.traps);
      telling = c.run_next-turn.ensures.files.telling ∙ h.telling;
      later = omega (arith, c.run_next-turn.ensures.files.later, h.later);
      names = creates_dump c.args.words.now.dump c.loop-index.lines.traps c.loop-index.index (length c.as_slice-invocations.result.now) (g.F.Files.created c.args.files.now) (g.F.Files.created c.loop-index.files) (g.F.Files.created c.run_next-turn.new.files) c.loop-index.invariant.traps c.loop-index-test.true c.loop-index.invariant.names c.run_next-turn.ensures.names;
      come = λ deliver delivers p is_of.
          come_next (tells c.args.words.now.collect deliver) p (engine p c.args.words.now.collect (depth_of c.args.words.now)) c.args.words.now.dump c.args.words.now.name (used_up_of c.args.words.now.collect (g.H.HostSide.used_up c.run_next-turn.result.1)) c.args.instance.now c.loop-index.instance c.run_next-turn.new.instance
          (map invocation_of (take k xs)) (map invocation_of (drop (k + 1) xs)) (invocation_of c.index-invocations-index.result) c.args.words.now.fuel c.loop-index.lines c.run_next-turn.new.lines
          (g.H.HostSide.calls c.args.hosts).served (g.H.HostSide.calls c.loop-index.hosts).served (g.H.HostSide.calls c.run_next-turn.result.1).served (g.F.Files.told c.args.files.now) (g.F.Files.told c.loop-index.files) (g.F.Files.told c.run_next-turn.new.files)
          (h.come deliver delivers p is_of)
          c.in-Ok.turn (map invocation_of (take (k + 1) xs)) c.in-GoesOn.is (next_done xs k c.index-invocations-index.result _ c.loop-index-test.true c.index-invocations-index.is)
          (of_ok c.run_next-turn.result.0 c.in-Ok.turn _ c.in-Ok.is (c.run_next-turn.ensures.made deliver delivers p (of_same _ _ p h.same is_of)));
    }

pub returns-in-Ends-clause-ran : goal.returns-in-Ends-clause-ran
returns-in-Ends-clause-ran g c = λ deliver delivers p is_of.
    let h = c.loop-index.invariant in
    let xs = c.as_slice-invocations.result.now in
    let k = c.loop-index.index in
    ends_ran (tells c.args.words.now.collect deliver) p (engine p c.args.words.now.collect (depth_of c.args.words.now)) c.args.words.now.dump c.args.words.now.name (used_up_of c.args.words.now.collect (g.H.HostSide.used_up c.run_next-turn.result.1)) c.args.instance.now c.loop-index.instance c.run_next-turn.new.instance
    (map invocation_of (take k xs)) (map invocation_of (drop (k + 1) xs)) (invocation_of c.index-invocations-index.result) c.args.words.now.fuel c.loop-index.lines c.run_next-turn.new.lines
    (g.H.HostSide.calls c.args.hosts).served (g.H.HostSide.calls c.loop-index.hosts).served (g.H.HostSide.calls c.run_next-turn.result.1).served (g.F.Files.told c.args.files.now) (g.F.Files.told c.loop-index.files) (g.F.Files.told c.run_next-turn.new.files)
    (h.come deliver delivers p is_of)
    (g.H.HostSide.fault_count c.args.hosts) (g.H.HostSide.fault_count c.run_next-turn.result.1) c.in-Ok.turn c.in-Ends.answer c.ended_with-outcome.result (map invocation_of c.args.words.now.invocations) (length xs - k - 1) c.given.result c.in-Ends.is
    (one_due xs k c.index-invocations-index.result _ c.loop-index-test.true c.index-invocations-index.is ∙ ap (λ l. map invocation_of l) c.as_slice-invocations.ensures)
    (of_ok c.run_next-turn.result.0 c.in-Ok.turn _ c.in-Ok.is (c.run_next-turn.ensures.made deliver delivers p (of_same _ _ p h.same is_of))) (due_left xs k) c.requires.calls c.given.ensures
    (of_end c.in-Ok.turn c.in-Ends.answer _ c.in-Ends.is (of_ok c.run_next-turn.result.0 c.in-Ok.turn _ c.in-Ok.is c.run_next-turn.ensures.memory))
    (cause_later c.in-Ends.answer (g.H.HostSide.fault_count c.args.hosts) (g.H.HostSide.fault_count c.loop-index.hosts) (g.H.HostSide.fault_count c.run_next-turn.result.1) h.host.later (of_end c.in-Ok.turn c.in-Ends.answer _ c.in-Ends.is (of_ok c.run_next-turn.result.0 c.in-Ok.turn _ c.in-Ok.is c.run_next-turn.ensures.cause)))
    c.ended_with-outcome.ensures

pub returns-in-Ends-clause-stops : goal.returns-in-Ends-clause-stops
returns-in-Ends-clause-stops g c = λ deliver delivers p is_of.
    let h = c.loop-index.invariant in
    let xs = c.as_slice-invocations.result.now in
    let k = c.loop-index.index in
    ends_stopped (tells c.args.words.now.collect deliver) p (engine p c.args.words.now.collect (depth_of c.args.words.now)) c.args.words.now.dump c.args.words.now.name (used_up_of c.args.words.now.collect (g.H.HostSide.used_up c.run_next-turn.result.1)) c.args.instance.now c.loop-index.instance c.run_next-turn.new.instance
    (map invocation_of (take k xs)) (map invocation_of (drop (k + 1) xs)) (invocation_of c.index-invocations-index.result) c.args.words.now.fuel c.loop-index.lines c.run_next-turn.new.lines
    (g.H.HostSide.calls c.args.hosts).served (g.H.HostSide.calls c.loop-index.hosts).served (g.H.HostSide.calls c.run_next-turn.result.1).served (g.F.Files.told c.args.files.now) (g.F.Files.told c.loop-index.files) (g.F.Files.told c.run_next-turn.new.files)
    (h.come deliver delivers p is_of)
    c.in-Ok.turn c.in-Ends.answer c.ended_with-outcome.result (map invocation_of c.args.words.now.invocations) (length xs - k - 1) c.given.result c.in-Ends.is
    (one_due xs k c.index-invocations-index.result _ c.loop-index-test.true c.index-invocations-index.is ∙ ap (λ l. map invocation_of l) c.as_slice-invocations.ensures)
    (of_ok c.run_next-turn.result.0 c.in-Ok.turn _ c.in-Ok.is (c.run_next-turn.ensures.made deliver delivers p (of_same _ _ p h.same is_of))) c.requires.steps c.ended_with-outcome.ensures

pub returns-in-Torn-clause-ran : goal.returns-in-Torn-clause-ran
returns-in-Torn-clause-ran g c = λ deliver delivers p is_of.
    let h = c.loop-index.invariant in
    let xs = c.as_slice-invocations.result.now in
    let k = c.loop-index.index in
    torn_ran (tells c.args.words.now.collect deliver) p (engine p c.args.words.now.collect (depth_of c.args.words.now)) c.args.words.now.dump c.args.words.now.name (used_up_of c.args.words.now.collect (g.H.HostSide.used_up c.run_next-turn.result.1)) c.args.instance.now c.loop-index.instance c.run_next-turn.new.instance
    (map invocation_of (take k xs)) (map invocation_of (drop (k + 1) xs)) (invocation_of c.index-invocations-index.result) c.args.words.now.fuel c.loop-index.lines c.run_next-turn.new.lines
    (g.H.HostSide.calls c.args.hosts).served (g.H.HostSide.calls c.loop-index.hosts).served (g.H.HostSide.calls c.run_next-turn.result.1).served (g.F.Files.told c.args.files.now) (g.F.Files.told c.loop-index.files) (g.F.Files.told c.run_next-turn.new.files)
    (h.come deliver delivers p is_of)
    (g.H.HostSide.fault_count c.args.hosts) (g.H.HostSide.fault_count c.run_next-turn.result.1) c.in-Ok.turn c.in-Torn.at c.torn_with.result (map invocation_of c.args.words.now.invocations) c.in-Torn.is
    (one_due xs k c.index-invocations-index.result _ c.loop-index-test.true c.index-invocations-index.is ∙ ap (λ l. map invocation_of l) c.as_slice-invocations.ensures)
    (of_ok c.run_next-turn.result.0 c.in-Ok.turn _ c.in-Ok.is (c.run_next-turn.ensures.made deliver delivers p (of_same _ _ p h.same is_of))) c.requires.calls c.torn_with.ensures

pub returns-in-Torn-clause-stops : goal.returns-in-Torn-clause-stops
returns-in-Torn-clause-stops g c = λ deliver delivers p is_of.
    let h = c.loop-index.invariant in
    let xs = c.as_slice-invocations.result.now in
    let k = c.loop-index.index in
    torn_stopped (tells c.args.words.now.collect deliver) p (engine p c.args.words.now.collect (depth_of c.args.words.now)) c.args.words.now.dump c.args.words.now.name (used_up_of c.args.words.now.collect (g.H.HostSide.used_up c.run_next-turn.result.1)) c.args.instance.now c.loop-index.instance c.run_next-turn.new.instance
    (map invocation_of (take k xs)) (map invocation_of (drop (k + 1) xs)) (invocation_of c.index-invocations-index.result) c.args.words.now.fuel c.loop-index.lines c.run_next-turn.new.lines
    (g.H.HostSide.calls c.args.hosts).served (g.H.HostSide.calls c.loop-index.hosts).served (g.H.HostSide.calls c.run_next-turn.result.1).served (g.F.Files.told c.args.files.now) (g.F.Files.told c.loop-index.files) (g.F.Files.told c.run_next-turn.new.files)
    (h.come deliver delivers p is_of)
    c.in-Ok.turn c.in-Torn.at c.torn_with.result (map invocation_of c.args.words.now.invocations) c.in-Torn.is
    (one_due xs k c.index-invocations-index.result _ c.loop-index-test.true c.index-invocations-index.is ∙ ap (λ l. map invocation_of l) c.as_slice-invocations.ensures)
    (of_ok c.run_next-turn.result.0 c.in-Ok.turn _ c.in-Ok.is (c.run_next-turn.ensures.made deliver delivers p (of_same _ _ p h.same is_of))) c.requires.steps c.torn_with.ensures

pub returns-in_default-clause-stops : goal.returns-in_default-clause-stops
returns-in_default-clause-stops g c = λ deliver delivers p is_of.
    let h = c.loop-index.invariant in
    let xs = c.as_slice-invocations.result.now in
    let k = c.loop-index.index in
    stopped_here (tells c.args.words.now.collect deliver) p (engine p c.args.words.now.collect (depth_of c.args.words.now)) c.args.words.now.dump c.args.words.now.name (used_up_of c.args.words.now.collect (g.H.HostSide.used_up c.run_next-turn.result.1)) c.args.instance.now c.loop-index.instance c.run_next-turn.new.instance
    (map invocation_of (take k xs)) (map invocation_of (drop (k + 1) xs)) (invocation_of c.index-invocations-index.result) c.args.words.now.fuel c.loop-index.lines c.run_next-turn.new.lines
    (g.H.HostSide.calls c.args.hosts).served (g.H.HostSide.calls c.loop-index.hosts).served (g.H.HostSide.calls c.run_next-turn.result.1).served (g.F.Files.told c.args.files.now) (g.F.Files.told c.loop-index.files) (g.F.Files.told c.run_next-turn.new.files)
    (h.come deliver delivers p is_of)
    no_memory (map invocation_of c.args.words.now.invocations)
    (one_due xs k c.index-invocations-index.result _ c.loop-index-test.true c.index-invocations-index.is ∙ ap (λ l. map invocation_of l) c.as_slice-invocations.ensures) c.requires.steps
    (of_want c.run_next-turn.result.0 _ c.in_default.not-Ok (c.run_next-turn.ensures.stops deliver delivers p (map invocation_of (drop (k + 1) xs)) (of_same _ _ p h.same is_of) (h.come deliver delivers p is_of).within))

pub returns-in-Refused-clause-stops : goal.returns-in-Refused-clause-stops
returns-in-Refused-clause-stops g c = λ deliver delivers p is_of faulted.
    let h = c.loop-index.invariant in
    let xs = c.as_slice-invocations.result.now in
    let k = c.loop-index.index in
    stopped_refused (tells c.args.words.now.collect deliver) p (engine p c.args.words.now.collect (depth_of c.args.words.now)) c.args.words.now.dump c.args.words.now.name (used_up_of c.args.words.now.collect (g.H.HostSide.used_up c.run_next-turn.result.1)) c.args.instance.now c.loop-index.instance c.run_next-turn.new.instance
    (map invocation_of (take k xs)) (map invocation_of (drop (k + 1) xs)) (invocation_of c.index-invocations-index.result) c.args.words.now.fuel c.loop-index.lines c.run_next-turn.new.lines
    (g.H.HostSide.calls c.args.hosts).served (g.H.HostSide.calls c.loop-index.hosts).served (g.H.HostSide.calls c.run_next-turn.result.1).served (g.F.Files.told c.args.files.now) (g.F.Files.told c.loop-index.files) (g.F.Files.told c.run_next-turn.new.files)
    (h.come deliver delivers p is_of)
    c.in-Ok.turn c.in-Refused.refusal (map invocation_of c.args.words.now.invocations) c.in-Refused.is
    (one_due xs k c.index-invocations-index.result _ c.loop-index-test.true c.index-invocations-index.is ∙ ap (λ l. map invocation_of l) c.as_slice-invocations.ensures) c.requires.steps
    (subst (λ r. OnTurnStop (stops_here (tells c.args.words.now.collect deliver) p (engine p c.args.words.now.collect (depth_of c.args.words.now)) c.args.words.now.dump c.args.words.now.name (used_up_of c.args.words.now.collect (g.H.HostSide.used_up c.run_next-turn.result.1)) c.args.instance.now c.loop-index.instance c.run_next-turn.new.instance
    (map invocation_of (take k xs)) (map invocation_of (drop (k + 1) xs)) (invocation_of c.index-invocations-index.result) c.args.words.now.fuel c.loop-index.lines c.run_next-turn.new.lines
    (g.H.HostSide.calls c.args.hosts).served (g.H.HostSide.calls c.loop-index.hosts).served (g.H.HostSide.calls c.run_next-turn.result.1).served (g.F.Files.told c.args.files.now) (g.F.Files.told c.loop-index.files) (g.F.Files.told c.run_next-turn.new.files)
    (h.come deliver delivers p is_of)) r) c.in-Ok.is
    (c.run_next-turn.ensures.stops deliver delivers p (map invocation_of (drop (k + 1) xs)) (of_same _ _ p h.same is_of) (h.come deliver delivers p is_of).within))

pub returns-clause-stops : goal.returns-clause-stops
returns-clause-stops g c = λ deliver delivers p is_of faulted. absurd (done_no_fault c.loop-index.lines.traps (sym (ap (λ (o : Outcome). o.status) c.all_made.ensures) ∙ faulted))

pub returns-in-Refused-clause-fault : goal.returns-in-Refused-clause-fault
returns-in-Refused-clause-fault g c = λ status.
    let fault = of_refused c.in-Ok.turn c.in-Refused.refusal _ c.in-Refused.is (of_ok c.run_next-turn.result.0 c.in-Ok.turn _ c.in-Ok.is c.run_next-turn.ensures.refused) in
    ((c.loop-index.lines.traps, fault.0), rose_since (g.F.Files.faults c.args.files.now) (g.F.Files.faults c.loop-index.files) (g.F.Files.faults c.run_next-turn.new.files) c.loop-index.invariant.later fault.1)

pub returns-clause-ran : goal.returns-clause-ran
returns-clause-ran g c = λ deliver delivers p is_of.
    all_ran_so (tells c.args.words.now.collect deliver) (behaves c.args.words.now.collect deliver) p (engine p c.args.words.now.collect (depth_of c.args.words.now)) c.args.words.now.dump c.args.words.now.name (used_up_of c.args.words.now.collect (g.H.HostSide.used_up c.loop-index.hosts)) (g.H.HostSide.fault_count c.args.hosts) (g.H.HostSide.fault_count c.loop-index.hosts) c.args.instance.now c.loop-index.instance
    c.args.words.now.invocations c.as_slice-invocations.result.now c.loop-index.index c.args.words.now.fuel c.loop-index.lines (g.H.HostSide.calls c.args.hosts).served (g.H.HostSide.calls c.loop-index.hosts).served (g.F.Files.told c.args.files.now) (g.F.Files.told c.loop-index.files) c.all_made.result
    (omega arith) c.as_slice-invocations.ensures c.requires.some c.all_made.ensures (c.loop-index.invariant.come deliver delivers p is_of)

pub returns-in_default-clause-names : goal.returns-in_default-clause-names
returns-in_default-clause-names g c =
    subst (λ (l : List RunInvocation). CreatesOnly (IsDumpName c.args.words.now.dump (length l)) (g.F.Files.created c.args.files.now) (g.F.Files.created c.run_next-turn.new.files)) c.as_slice-invocations.ensures
    (creates_dump c.args.words.now.dump c.loop-index.lines.traps c.loop-index.index (length c.as_slice-invocations.result.now) (g.F.Files.created c.args.files.now) (g.F.Files.created c.loop-index.files) (g.F.Files.created c.run_next-turn.new.files) c.loop-index.invariant.traps c.loop-index-test.true c.loop-index.invariant.names c.run_next-turn.ensures.names)

pub returns-in-Ends-clause-names : goal.returns-in-Ends-clause-names
returns-in-Ends-clause-names g c =
    subst (λ (l : List RunInvocation). CreatesOnly (IsDumpName c.args.words.now.dump (length l)) (g.F.Files.created c.args.files.now) (g.F.Files.created c.run_next-turn.new.files)) c.as_slice-invocations.ensures
    (creates_dump c.args.words.now.dump c.loop-index.lines.traps c.loop-index.index (length c.as_slice-invocations.result.now) (g.F.Files.created c.args.files.now) (g.F.Files.created c.loop-index.files) (g.F.Files.created c.run_next-turn.new.files) c.loop-index.invariant.traps c.loop-index-test.true c.loop-index.invariant.names c.run_next-turn.ensures.names)

pub returns-in-Torn-clause-names : goal.returns-in-Torn-clause-names
returns-in-Torn-clause-names g c =
    subst (λ (l : List RunInvocation). CreatesOnly (IsDumpName c.args.words.now.dump (length l)) (g.F.Files.created c.args.files.now) (g.F.Files.created c.run_next-turn.new.files)) c.as_slice-invocations.ensures
    (creates_dump c.args.words.now.dump c.loop-index.lines.traps c.loop-index.index (length c.as_slice-invocations.result.now) (g.F.Files.created c.args.files.now) (g.F.Files.created c.loop-index.files) (g.F.Files.created c.run_next-turn.new.files) c.loop-index.invariant.traps c.loop-index-test.true c.loop-index.invariant.names c.run_next-turn.ensures.names)

pub returns-in-Refused-clause-names : goal.returns-in-Refused-clause-names
returns-in-Refused-clause-names g c =
    subst (λ (l : List RunInvocation). CreatesOnly (IsDumpName c.args.words.now.dump (length l)) (g.F.Files.created c.args.files.now) (g.F.Files.created c.run_next-turn.new.files)) c.as_slice-invocations.ensures
    (creates_dump c.args.words.now.dump c.loop-index.lines.traps c.loop-index.index (length c.as_slice-invocations.result.now) (g.F.Files.created c.args.files.now) (g.F.Files.created c.loop-index.files) (g.F.Files.created c.run_next-turn.new.files) c.loop-index.invariant.traps c.loop-index-test.true c.loop-index.invariant.names c.run_next-turn.ensures.names)

pub returns-clause-names : goal.returns-clause-names
returns-clause-names g c =
    subst (λ (l : List RunInvocation). CreatesOnly (IsDumpName c.args.words.now.dump (length l)) (g.F.Files.created c.args.files.now) (g.F.Files.created c.loop-index.files)) c.as_slice-invocations.ensures
    (c.loop-index.invariant.names)
