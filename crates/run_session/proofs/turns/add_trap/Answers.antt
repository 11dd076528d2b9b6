use Rattle.std.proofs.Common.{refl}
use Rattle.commands.proofs.Givens.{where_value}
use Rattle.run_session.proofs.Tellings.{adds_trap, leaves_trap}
use Rattle.run_session.proofs.turns.add_trap.Goals as goal

pub returns-in_err-written-clause-front : goal.returns-in_err-written-clause-front
returns-in_err-written-clause-front g c =
    leaves_trap c.args.words.now.dump c.args.words.now.name c.args.kind c.args.dump.now c.args.lines.now.traps (g.F.Files.told c.args.files.now) (g.F.Files.told c.dump_at_trap.new.files) c.dump_at_trap.ensures.front

pub returns-in_err-push_trapped-in-Value-clause-front : goal.returns-in_err-push_trapped-in-Value-clause-front
returns-in_err-push_trapped-in-Value-clause-front g c =
    leaves_trap c.args.words.now.dump c.args.words.now.name c.args.kind c.args.dump.now c.args.lines.now.traps (g.F.Files.told c.args.files.now) (g.F.Files.told c.dump_at_trap.new.files) c.dump_at_trap.ensures.front

pub returns-in_ok-push_trapped-in-Value-clause-front : goal.returns-in_ok-push_trapped-in-Value-clause-front
returns-in_ok-push_trapped-in-Value-clause-front g c =
    leaves_trap c.args.words.now.dump c.args.words.now.name c.args.kind c.args.dump.now c.args.lines.now.traps (g.F.Files.told c.args.files.now) (g.F.Files.told c.dump_at_trap.new.files) c.dump_at_trap.ensures.front

pub returns-in-Refused-clause-front : goal.returns-in-Refused-clause-front
returns-in-Refused-clause-front g c =
    leaves_trap c.args.words.now.dump c.args.words.now.name c.args.kind c.args.dump.now c.args.lines.now.traps (g.F.Files.told c.args.files.now) (g.F.Files.told c.dump_at_trap.new.files) c.dump_at_trap.ensures.front

pub returns-in_ok-push_trapped-in-Value-clause-added : goal.returns-in_ok-push_trapped-in-Value-clause-added
returns-in_ok-push_trapped-in-Value-clause-added g c =
    adds_trap c.args.words.now.dump c.args.words.now.name c.args.calls c.args.lines.now _ (g.F.Files.told c.args.files.now) (g.F.Files.told c.dump_at_trap.new.files) c.args.kind c.args.dump.now c.in_ok-push_trapped-in-Value.ensures refl (where_value c.in_ok-written.written _ _ c.in-Value.is c.in_ok-written.ensures.written)
