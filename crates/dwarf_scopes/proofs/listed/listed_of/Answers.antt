use Rattle.std.proofs.Common.{arith}
use Rattle.std.proofs.lemmas.List.{drop_all}
use Rattle.dwarf_scopes.proofs.ListedLaws.{all_listed}
use Rattle.dwarf_scopes.proofs.listed.listed_of.Goals as goal

pub returns : goal.returns
returns c = all_listed c.args.entries.now c.entries.index c.entries.numbers (drop_all c.entries.index c.args.entries.now (omega (arith, c.entries-test.false))) c.entries.invariant.1
