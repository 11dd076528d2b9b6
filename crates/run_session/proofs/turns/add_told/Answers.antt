use Rattle.std.proofs.Common.{refl}
use Rattle.run_session.proofs.Tellings.{adds_nothing, adds_torn, adds_finish, adds_bare, adds_that, leaves_none, leaves_that, dumped_that, torn_that}
use Rattle.run_session.proofs.turns.add_told.Goals as goal

pub returns-in-Nothing-clause-added : goal.returns-in-Nothing-clause-added
returns-in-Nothing-clause-added g c = adds_nothing c.args.words.now.dump c.args.words.now.name c.args.calls c.args.lines.now (g.F.Files.told c.args.files.now) c.args.told.now c.in-Nothing.is

pub returns-in_ok-push_finished-in-Finish-clause-added : goal.returns-in_ok-push_finished-in-Finish-clause-added
returns-in_ok-push_finished-in-Finish-clause-added g c = adds_finish c.args.words.now.dump c.args.words.now.name c.args.calls c.args.lines.now _ (g.F.Files.told c.args.files.now) c.args.told.now _ c.in-Finish.is c.in_ok-push_finished-in-Finish.ensures refl

pub returns-in-Trap-clause-added : goal.returns-in-Trap-clause-added
returns-in-Trap-clause-added g c = adds_that c.args.words.now.dump c.args.words.now.name c.args.calls c.args.lines.now c.add_trap.new.lines (g.F.Files.told c.args.files.now) (g.F.Files.told c.add_trap.new.files) c.args.told.now _ _ c.add_trap.result c.in-Trap.is c.add_trap.ensures.added

pub returns-in_ok-push_bare-in-BareTrap-clause-added : goal.returns-in_ok-push_bare-in-BareTrap-clause-added
returns-in_ok-push_bare-in-BareTrap-clause-added g c = adds_bare c.args.words.now.dump c.args.words.now.name c.args.calls c.args.lines.now _ (g.F.Files.told c.args.files.now) c.args.told.now _ c.in-BareTrap.is c.in_ok-push_bare-in-BareTrap.ensures refl

pub returns-in-Torn-clause-added : goal.returns-in-Torn-clause-added
returns-in-Torn-clause-added g c = adds_torn c.args.words.now.dump c.args.words.now.name c.args.calls c.args.lines.now (g.F.Files.told c.args.files.now) c.args.told.now _ c.in-Torn.is

pub returns-in-Nothing-clause-front : goal.returns-in-Nothing-clause-front
returns-in-Nothing-clause-front g c = leaves_none c.args.words.now.dump c.args.words.now.name c.args.told.now c.args.lines.now.traps (g.F.Files.told c.args.files.now)

pub returns-in_err-push_finished-in-Finish-clause-front : goal.returns-in_err-push_finished-in-Finish-clause-front
returns-in_err-push_finished-in-Finish-clause-front g c = leaves_none c.args.words.now.dump c.args.words.now.name c.args.told.now c.args.lines.now.traps (g.F.Files.told c.args.files.now)

pub returns-in_ok-push_finished-in-Finish-clause-front : goal.returns-in_ok-push_finished-in-Finish-clause-front
returns-in_ok-push_finished-in-Finish-clause-front g c = leaves_none c.args.words.now.dump c.args.words.now.name c.args.told.now c.args.lines.now.traps (g.F.Files.told c.args.files.now)

pub returns-in_err-push_bare-in-BareTrap-clause-front : goal.returns-in_err-push_bare-in-BareTrap-clause-front
returns-in_err-push_bare-in-BareTrap-clause-front g c = leaves_none c.args.words.now.dump c.args.words.now.name c.args.told.now c.args.lines.now.traps (g.F.Files.told c.args.files.now)

pub returns-in_ok-push_bare-in-BareTrap-clause-front : goal.returns-in_ok-push_bare-in-BareTrap-clause-front
returns-in_ok-push_bare-in-BareTrap-clause-front g c = leaves_none c.args.words.now.dump c.args.words.now.name c.args.told.now c.args.lines.now.traps (g.F.Files.told c.args.files.now)

pub returns-in-Torn-clause-front : goal.returns-in-Torn-clause-front
returns-in-Torn-clause-front g c = leaves_none c.args.words.now.dump c.args.words.now.name c.args.told.now c.args.lines.now.traps (g.F.Files.told c.args.files.now)

pub returns-in-Trap-clause-front : goal.returns-in-Trap-clause-front
returns-in-Trap-clause-front g c = leaves_that c.args.words.now.dump c.args.words.now.name c.args.told.now _ _ c.args.lines.now.traps (g.F.Files.told c.args.files.now) (g.F.Files.told c.add_trap.new.files) c.in-Trap.is c.add_trap.ensures.front

pub returns-in-Trap-clause-dumped : goal.returns-in-Trap-clause-dumped
returns-in-Trap-clause-dumped g c = dumped_that c.args.words.now.name c.args.told.now _ _ c.in-Trap.is c.add_trap.result

pub returns-in-Trap-clause-torn : goal.returns-in-Trap-clause-torn
returns-in-Trap-clause-torn g c = torn_that c.args.told.now _ _ c.add_trap.result c.in-Trap.is c.add_trap.ensures.torn
