use Rattle.wasm_syntax.specs.Run.{engine}
use Rattle.std.proofs.Common.{◌∷◌}
use Rattle.run_session.specs.Telling.{tells}
use Rattle.run_session.specs.Invocations.{invocation_of, depth_of}
use Rattle.run_session.proofs.Nexts.{made_behind, stops_behind_it, kept_behind, kept_alone, made_alone}
use Rattle.run_session.proofs.session.run_next.Goals as goal

pub returns-then-words-clause-made : goal.returns-then-words-clause-made
returns-then-words-clause-made g c = λ deliver delivers p is_of.
    made_behind g.H.HostSide.calls g.H.HostSide.used_up c.args.words.now.collect c.new-collecting.result c.run_one-turn.new.hosts c.args.hosts c.into_inner.result (record { asked = c.if-words.true; begun = c.new-collecting.ensures; back = c.into_inner.ensures })
    (tells c.args.words.now.collect deliver) p (engine p c.args.words.now.collect (depth_of c.args.words.now)) c.args.words.now.dump c.args.words.now.name c.args.instance.now c.args.words.now.fuel (g.F.Files.told c.args.files.now) (g.F.Files.told c.run_one-turn.new.files) c.run_one-turn.result
    c.run_one-turn.new.instance (invocation_of c.args.invocation.now) c.args.lines.now c.run_one-turn.new.lines (c.run_one-turn.ensures.made deliver delivers p is_of)

pub returns-then-words-clause-stops : goal.returns-then-words-clause-stops
returns-then-words-clause-stops g c = λ deliver delivers p rest is_of begun.
    stops_behind_it g.H.HostSide.calls g.H.HostSide.used_up c.args.words.now.collect c.new-collecting.result c.run_one-turn.new.hosts c.args.hosts c.into_inner.result (record { asked = c.if-words.true; begun = c.new-collecting.ensures; back = c.into_inner.ensures })
    (tells c.args.words.now.collect deliver) p (engine p c.args.words.now.collect (depth_of c.args.words.now)) c.args.words.now.dump c.args.words.now.name c.args.instance.now c.args.words.now.fuel (g.F.Files.told c.args.files.now) (g.F.Files.told c.run_one-turn.new.files) c.run_one-turn.result
    c.args.lines.now.traps (invocation_of c.args.invocation.now ∷ rest) (c.run_one-turn.ensures.stops deliver delivers p rest is_of begun)

pub returns-then-words-clause-host : goal.returns-then-words-clause-host
returns-then-words-clause-host g c =
    kept_behind g.H.HostSide.origin g.H.HostSide.collecting g.H.HostSide.serving g.H.HostSide.fault_count c.args.words.now.collect c.args.hosts c.into_inner.result c.new-collecting.result c.run_one-turn.new.hosts
    (record { asked = c.if-words.true; begun = c.new-collecting.ensures; back = c.into_inner.ensures }) c.run_one-turn.ensures.host

pub returns-else-words-clause-made : goal.returns-else-words-clause-made
returns-else-words-clause-made g c = λ deliver delivers p is_of.
    made_alone c.args.words.now.collect (g.H.HostSide.used_up c.run_one-turn_there.new.hosts) c.if-words.false (tells c.args.words.now.collect deliver) p (engine p c.args.words.now.collect (depth_of c.args.words.now)) c.args.words.now.dump c.args.words.now.name c.args.instance.now c.run_one-turn_there.new.instance
    (invocation_of c.args.invocation.now) c.args.words.now.fuel c.args.lines.now c.run_one-turn_there.new.lines (g.H.HostSide.calls c.args.hosts).served (g.H.HostSide.calls c.run_one-turn_there.new.hosts).served (g.F.Files.told c.args.files.now) (g.F.Files.told c.run_one-turn_there.new.files) c.run_one-turn_there.result
    (c.run_one-turn_there.ensures.made deliver delivers p is_of)

pub returns-else-words-clause-host : goal.returns-else-words-clause-host
returns-else-words-clause-host g c =
    kept_alone g.H.HostSide.origin g.H.HostSide.collecting g.H.HostSide.serving g.H.HostSide.fault_count c.args.words.now.collect c.args.hosts c.run_one-turn_there.new.hosts c.if-words.false c.run_one-turn_there.ensures.host
