use Rattle.std.proofs.Common.{[], ◌+◌, length, refl}
use Rattle.machine_hosted.specs.calls.Settings.{world_of}
use Rattle.machine_hosted.specs.calls.Answers.{function_going}
use Rattle.wasm_syntax.specs.Run.{engine}
use Rattle.machine_hosted.proofs.WorldLaws.{shares_own}
use Rattle.machine_hosted.proofs.ModuleLaws.{program_of}
use Rattle.machine_hosted.proofs.FrameLaws.{within_fuel, fits_then}
use Rattle.machine_hosted.proofs.DefinedLaws.{ready, came, no_memory, watched, unwatched}
use Rattle.machine_hosted.proofs.watched_function.watch_defined.Goals as goal

pub watch_frames-requires-clause-ready : goal.watch_frames-requires-clause-ready
watch_frames-requires-clause-ready g c =
    ready c.args.runner.now.source.now c.args.runner.now.prepared.now c.args.function c.args.args.now c.args.m.now c.begin_function.new.m c.args.runner.now.depth (g.H.HostSide.collecting c.args.hosts.now) (g.H.HostSide.serving c.args.hosts.now)
    c.requires.sound c.requires.fits c.requires.args c.requires.host.serves (program_of c.args.runner.now.source.now c.args.runner.now.prepared.now c.requires.sound) refl c.requires.sound.whole.write (world_of c.args.m.now []) [] (shares_own c.args.m.now []) c.in-Ok.ensures

pub returns-in-Ok-clause-came : goal.returns-in-Ok-clause-came
returns-in-Ok-clause-came g c = λ p w co e is s.
    came c.args.runner.now.source.now c.args.runner.now.prepared.now c.args.function c.args.args.now c.args.m.now c.begin_function.new.m c.args.runner.now.depth (g.H.HostSide.collecting c.args.hosts.now) (g.H.HostSide.serving c.args.hosts.now)
    c.requires.sound c.requires.fits c.requires.args c.requires.host.serves p e is w co s (g.H.HostSide.used_up c.watch_frames.new.hosts) c.args.fuel c.watch_frames.result.answer c.watch_frames.result.steps c.watch_frames.new.m (g.H.HostSide.calls c.args.hosts.now) (g.H.HostSide.calls c.watch_frames.new.hosts)
    (c.watch_frames.ensures.came
    (ready c.args.runner.now.source.now c.args.runner.now.prepared.now c.args.function c.args.args.now c.args.m.now c.begin_function.new.m c.args.runner.now.depth (g.H.HostSide.collecting c.args.hosts.now) (g.H.HostSide.serving c.args.hosts.now)
    c.requires.sound c.requires.fits c.requires.args c.requires.host.serves p e is w co s c.in-Ok.ensures))

pub returns-in-Ok-clause-within : goal.returns-in-Ok-clause-within
returns-in-Ok-clause-within g c =
    let p = program_of c.args.runner.now.source.now c.args.runner.now.prepared.now c.requires.sound in
    within_fuel p c.args.runner.now.prepared.now.codes.items (g.H.HostSide.used_up c.watch_frames.new.hosts) (function_going (engine p (g.H.HostSide.collecting c.args.hosts.now) c.args.runner.now.depth) (length c.args.runner.now.source.now.imports + c.args.function) c.args.args.now (world_of c.args.m.now []) []) (world_of c.args.m.now []) [] c.args.fuel c.watch_frames.result.steps c.watch_frames.new.m (g.H.HostSide.calls c.args.hosts.now) (g.H.HostSide.calls c.watch_frames.new.hosts) c.watch_frames.result.answer
    (returns-in-Ok-clause-came g c p (world_of c.args.m.now []) [] refl c.requires.sound.whole.write (shares_own c.args.m.now []))

pub returns-in-Ok-clause-fits : goal.returns-in-Ok-clause-fits
returns-in-Ok-clause-fits g c =
    let p = program_of c.args.runner.now.source.now c.args.runner.now.prepared.now c.requires.sound in
    fits_then p c.args.runner.now.prepared.now.codes.items (g.H.HostSide.used_up c.watch_frames.new.hosts) (function_going (engine p (g.H.HostSide.collecting c.args.hosts.now) c.args.runner.now.depth) (length c.args.runner.now.source.now.imports + c.args.function) c.args.args.now (world_of c.args.m.now []) []) (world_of c.args.m.now []) [] c.args.fuel c.watch_frames.result.steps c.watch_frames.new.m (g.H.HostSide.calls c.args.hosts.now) (g.H.HostSide.calls c.watch_frames.new.hosts) c.watch_frames.result.answer
    (returns-in-Ok-clause-came g c p (world_of c.args.m.now []) [] refl c.requires.sound.whole.write (shares_own c.args.m.now []))

pub returns-in-Err-clause-came : goal.returns-in-Err-clause-came
returns-in-Err-clause-came g c = λ p w co e is s.
    no_memory c.args.runner.now.source.now c.args.runner.now.prepared.now c.args.function c.args.args.now c.args.m.now c.begin_function.new.m c.args.runner.now.depth (g.H.HostSide.collecting c.args.hosts.now) (g.H.HostSide.serving c.args.hosts.now)
    c.requires.sound c.requires.fits c.requires.args c.requires.host.serves p e is w co s (g.H.HostSide.used_up c.args.hosts.now) c.args.fuel c.begin_function.new.m (g.H.HostSide.calls c.args.hosts.now)

pub returns-in-Ok-clause-watched : goal.returns-in-Ok-clause-watched
returns-in-Ok-clause-watched g c = λ p w co e is s.
    watched c.args.runner.now.source.now c.args.runner.now.prepared.now c.args.function c.args.args.now c.args.m.now c.begin_function.new.m c.args.runner.now.depth (g.H.HostSide.collecting c.args.hosts.now) (g.H.HostSide.serving c.args.hosts.now)
    c.requires.sound c.requires.fits c.requires.args c.requires.host.serves p e is w co s g.W.Watch.Saw c.args.fuel c.watch_frames.result.answer c.watch_frames.result.steps c.args.watch.now c.watch_frames.new.watch (g.H.HostSide.calls c.args.hosts.now) (g.H.HostSide.calls c.watch_frames.new.hosts)
    (c.watch_frames.ensures.watched
    (ready c.args.runner.now.source.now c.args.runner.now.prepared.now c.args.function c.args.args.now c.args.m.now c.begin_function.new.m c.args.runner.now.depth (g.H.HostSide.collecting c.args.hosts.now) (g.H.HostSide.serving c.args.hosts.now)
    c.requires.sound c.requires.fits c.requires.args c.requires.host.serves p e is w co s c.in-Ok.ensures))

pub returns-in-Err-clause-watched : goal.returns-in-Err-clause-watched
returns-in-Err-clause-watched g c = λ p w co e is s.
    unwatched c.args.runner.now.source.now c.args.runner.now.prepared.now c.args.function c.args.args.now c.args.m.now c.begin_function.new.m c.args.runner.now.depth (g.H.HostSide.collecting c.args.hosts.now) (g.H.HostSide.serving c.args.hosts.now)
    c.requires.sound c.requires.fits c.requires.args c.requires.host.serves p e is w co s g.W.Watch.Saw c.args.fuel c.args.watch.now (g.H.HostSide.calls c.args.hosts.now)
