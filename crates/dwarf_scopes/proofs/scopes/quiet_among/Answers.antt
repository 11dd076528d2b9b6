use Rattle.std.proofs.Common.{◌<◌, ◌^◌, length, arith}
use Rattle.dwarf_scopes.proofs.LevelLaws.{passed_over}
use Rattle.dwarf_scopes.proofs.scopes.quiet_among.Goals as goal

pub returns-then-quiet-entries-clause-none : goal.returns-then-quiet-entries-clause-none
returns-then-quiet-entries-clause-none c =
    let small : c.args.pick.now.address < 2 ^ 32 = omega arith in
    passed_over c.args.pick.now.sections.now c.args.pick.now.address c.args.unit.now c.args.at c.passed-quiet.result c.passed-quiet.result c.args.entries.now small (omega arith) c.requires.stand
    (c.passed-quiet.ensures c.args.unit.now.entries c.requires.levels)

pub returns-else-quiet-entries-clause-none : goal.returns-else-quiet-entries-clause-none
returns-else-quiet-entries-clause-none c =
    let small : c.args.pick.now.address < 2 ^ 32 = omega arith in
    passed_over c.args.pick.now.sections.now c.args.pick.now.address c.args.unit.now c.args.at (length c.args.entries.now) c.passed-quiet.result c.args.entries.now small (omega (arith, c.if-quiet-entries.false)) c.requires.stand
    (c.passed-quiet.ensures c.args.unit.now.entries c.requires.levels)
