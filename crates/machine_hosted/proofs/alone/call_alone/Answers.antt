use Rattle.std.proofs.Common.{◌≡◌, ◌<◌, ◌∙◌, [], subst, refl, arith}
use Rattle.machine_hosted.specs.calls.Settings.{world_of}
use Rattle.machine_hosted.specs.inner.Alone.{Took}
use Rattle.machine_hosted.proofs.WorldLaws.{shares_own}
use Rattle.machine_hosted.proofs.AloneLaws.{spent, no_memory, without_reply, faulted, replied, took_cause}
use Rattle.machine_hosted.proofs.alone.call_alone.Goals as goal

pub returns-then-fuel-eq0-clause-came : goal.returns-then-fuel-eq0-clause-came
returns-then-fuel-eq0-clause-came g c = λ p codes depth w co there s wf.
    let calls = g.H.HostSide.calls c.args.hosts.now in
    let none : c.args.fuel ≡ 0 = omega (arith, c.if-fuel-eq0.true) in
    spent p codes (g.H.HostSide.used_up c.args.hosts.now) (g.H.HostSide.collecting c.args.hosts.now) depth c.args.imported.now.index c.args.imported.now.import.now c.args.imported.now.ftype.now c.args.args.now w co
    (record c.args.m.now { stack = c.leave_frames.new.m }) c.args.fuel calls calls none refl c.leave_frames.ensures.frames (record { holds = s.holds; table = s.table })

pub returns-in-Replied-clause-came : goal.returns-in-Replied-clause-came
returns-in-Replied-clause-came g c = λ p codes depth w co there s wf.
    let some : 0 < c.args.fuel = omega (arith, c.if-fuel-eq0.false) in
    replied p codes (g.H.HostSide.used_up c.ask.new.hosts) (g.H.HostSide.collecting c.args.hosts.now) depth c.args.imported.now.index c.args.imported.now.import.now c.args.imported.now.ftype.now c.args.args.now w co there wf
    (record c.args.m.now { stack = c.leave_frames.new.m; shared = c.take_reply.new.shared }) c.args.fuel some c.args.m.now c.in-Replied.reply c.leave_frames.ensures.frames refl s
    c.take_reply.result (g.H.HostSide.calls c.args.hosts.now) (g.H.HostSide.calls c.ask.new.hosts) c.in-Replied.ensures.calls
    (subst (λ t. Took c.take_reply.result t c.in-Replied.reply w c.args.m.now.shared c.take_reply.new.shared) c.result_type.ensures (c.take_reply.ensures w s.holds))

pub returns-in-Replied-clause-cause : goal.returns-in-Replied-clause-cause
returns-in-Replied-clause-cause g c =
    let s = shares_own c.args.m.now [] in
    took_cause c.take_reply.result c.result_type.result c.in-Replied.reply (world_of c.args.m.now []) c.args.m.now.shared c.take_reply.new.shared (g.H.HostSide.fault_count c.args.hosts.now) (g.H.HostSide.fault_count c.ask.new.hosts)
    (c.take_reply.ensures (world_of c.args.m.now []) s.holds)

pub returns-in-NoReply-clause-came : goal.returns-in-NoReply-clause-came
returns-in-NoReply-clause-came g c = λ p codes depth w co there s wf.
    let some : 0 < c.args.fuel = omega (arith, c.if-fuel-eq0.false) in
    without_reply p codes (g.H.HostSide.used_up c.ask.new.hosts) (g.H.HostSide.collecting c.args.hosts.now) depth c.args.imported.now.index c.args.imported.now.import.now c.args.imported.now.ftype.now c.args.args.now w co there wf
    (record c.args.m.now { stack = c.leave_frames.new.m }) c.args.fuel some (g.H.HostSide.calls c.args.hosts.now) (g.H.HostSide.calls c.ask.new.hosts) c.in-NoReply.ensures.calls.0 c.in-NoReply.ensures.calls.1
    (c.in-NoReply.ensures.used c.args.imported.now.import.now ∙ c.in-NoReply.ensures.exhausted) c.leave_frames.ensures.frames (record { holds = s.holds; table = s.table })

pub returns-in-Failed-clause-came : goal.returns-in-Failed-clause-came
returns-in-Failed-clause-came g c = λ p codes depth w co there s wf.
    let some : 0 < c.args.fuel = omega (arith, c.if-fuel-eq0.false) in
    faulted p codes (g.H.HostSide.used_up c.ask.new.hosts) (g.H.HostSide.collecting c.args.hosts.now) depth c.args.imported.now.index c.args.imported.now.import.now c.args.imported.now.ftype.now c.args.args.now w co there wf
    (record c.args.m.now { stack = c.leave_frames.new.m }) c.args.fuel some c.in-Failed.name (g.H.HostSide.calls c.args.hosts.now) (g.H.HostSide.calls c.ask.new.hosts) c.in-Failed.ensures.calls.0 c.in-Failed.ensures.calls.1
    c.in-Failed.ensures.cause.0 (c.in-Failed.ensures.used c.args.imported.now.import.now ∙ c.in-Failed.ensures.exhausted) c.leave_frames.ensures.frames (record { holds = s.holds; table = s.table })

pub returns-in-NoMemory-clause-came : goal.returns-in-NoMemory-clause-came
returns-in-NoMemory-clause-came g c = λ p codes depth w co there s wf.
    no_memory p codes (g.H.HostSide.used_up c.ask.new.hosts) (g.H.HostSide.collecting c.args.hosts.now) depth c.args.imported.now.index c.args.imported.now.import.now c.args.imported.now.ftype.now c.args.args.now w co
    (record c.args.m.now { stack = c.leave_frames.new.m }) c.args.fuel (g.H.HostSide.calls c.args.hosts.now) (g.H.HostSide.calls c.ask.new.hosts) c.in-NoMemory.ensures.calls
