use Rattle.std.proofs.Common.{◌≤◌, ◌<◌, length, refl, arith}
use Rattle.wasm_syntax.specs.Run.{engine}
use Rattle.machine_hosted.specs.inner.Resumes.{resuming}
use Rattle.machine_hosted.proofs.WorldLaws.{machine_fits}
use Rattle.machine_hosted.proofs.ModuleLaws.{program_of}
use Rattle.machine_hosted.proofs.FrameLaws.{within_fuel, fits_then}
use Rattle.machine_hosted.proofs.ResumeLaws.{came_alone, ready_there, came_there}
use Rattle.machine_hosted.proofs.resume.resume_function.Goals as goal

pub watch_function-requires-clause-fits : goal.watch_function-requires-clause-fits
watch_function-requires-clause-fits g c =
    let source = c.args.runner.now.source.now in
    let prepared = c.args.runner.now.prepared.now in
    let w = c.requires.waits (program_of source prepared c.requires.sound) refl c.requires.sound.whole.write in
    machine_fits source c.args.m.now w.0.world w.1.shares w.1.fits

pub watch_frames-requires-clause-ready : goal.watch_frames-requires-clause-ready
watch_frames-requires-clause-ready g c =
    let source = c.args.runner.now.source.now in
    let prepared = c.args.runner.now.prepared.now in
    let p = program_of source prepared c.requires.sound in
    let w = c.requires.waits p refl c.requires.sound.whole.write in
    let le : length c.args.runner.now.source.now.imports ≤ c.args.function = omega (arith, c.if-function-import_count.false, c.import_count.ensures) in
    ready_there source prepared (g.H.HostSide.collecting c.args.hosts.now) c.args.runner.now.depth c.args.function c.args.args.now p refl c.args.m.now w.0 w.1 (g.H.HostSide.serving c.args.hosts.now) c.requires.sound c.requires.host.serves c.requires.sound.whole.write le

pub returns-then-function-import_count-clause-came : goal.returns-then-function-import_count-clause-came
returns-then-function-import_count-clause-came g c = λ p there e is w.
    let source = c.args.runner.now.source.now in
    let prepared = c.args.runner.now.prepared.now in
    let lt : c.args.function < length c.args.runner.now.source.now.imports = omega (arith, c.if-function-import_count.true, c.import_count.ensures) in
    came_alone source prepared (g.H.HostSide.collecting c.args.hosts.now) c.args.runner.now.depth c.args.function c.args.args.now p e c.args.m.now there w lt (g.H.HostSide.used_up c.watch_function.new.hosts) c.args.fuel c.watch_function.result.answer c.watch_function.result.steps c.watch_function.new.m (g.H.HostSide.calls c.args.hosts.now) (g.H.HostSide.calls c.watch_function.new.hosts)
    (c.watch_function.ensures.came p there.world there.collected e is w.shares)

pub returns-else-function-import_count-clause-came : goal.returns-else-function-import_count-clause-came
returns-else-function-import_count-clause-came g c = λ p there e is w.
    let source = c.args.runner.now.source.now in
    let prepared = c.args.runner.now.prepared.now in
    let le : length c.args.runner.now.source.now.imports ≤ c.args.function = omega (arith, c.if-function-import_count.false, c.import_count.ensures) in
    came_there source prepared (g.H.HostSide.collecting c.args.hosts.now) c.args.runner.now.depth c.args.function c.args.args.now p e c.args.m.now there w (g.H.HostSide.serving c.args.hosts.now) c.requires.sound c.requires.host.serves is le
    (g.H.HostSide.used_up c.watch_frames.new.hosts) c.args.fuel c.watch_frames.result.answer c.watch_frames.result.steps c.watch_frames.new.m (g.H.HostSide.calls c.args.hosts.now) (g.H.HostSide.calls c.watch_frames.new.hosts)
    c.watch_frames.ensures.came

pub returns-else-function-import_count-clause-within : goal.returns-else-function-import_count-clause-within
returns-else-function-import_count-clause-within g c =
    let prepared = c.args.runner.now.prepared.now in
    let p = program_of c.args.runner.now.source.now prepared c.requires.sound in
    let w = c.requires.waits p refl c.requires.sound.whole.write in
    within_fuel p prepared.codes.items (g.H.HostSide.used_up c.watch_frames.new.hosts) (resuming (engine p (g.H.HostSide.collecting c.args.hosts.now) c.args.runner.now.depth) c.args.function w.1.fn c.args.args.now w.0) w.0.world w.0.collected c.args.fuel c.watch_frames.result.steps c.watch_frames.new.m (g.H.HostSide.calls c.args.hosts.now) (g.H.HostSide.calls c.watch_frames.new.hosts) c.watch_frames.result.answer
    (returns-else-function-import_count-clause-came g c p w.0 refl c.requires.sound.whole.write w.1)

pub returns-else-function-import_count-clause-fits : goal.returns-else-function-import_count-clause-fits
returns-else-function-import_count-clause-fits g c =
    let prepared = c.args.runner.now.prepared.now in
    let p = program_of c.args.runner.now.source.now prepared c.requires.sound in
    let w = c.requires.waits p refl c.requires.sound.whole.write in
    fits_then p prepared.codes.items (g.H.HostSide.used_up c.watch_frames.new.hosts) (resuming (engine p (g.H.HostSide.collecting c.args.hosts.now) c.args.runner.now.depth) c.args.function w.1.fn c.args.args.now w.0) w.0.world w.0.collected c.args.fuel c.watch_frames.result.steps c.watch_frames.new.m (g.H.HostSide.calls c.args.hosts.now) (g.H.HostSide.calls c.watch_frames.new.hosts) c.watch_frames.result.answer
    (returns-else-function-import_count-clause-came g c p w.0 refl c.requires.sound.whole.write w.1)
