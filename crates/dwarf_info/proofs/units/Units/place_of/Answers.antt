use Rattle.dwarf_info.specs.inner.Settling.{placed}
use Rattle.dwarf_info.proofs.FindLaws.{place_here, found_here, first_here}
use Rattle.dwarf_info.proofs.units.Units.place_of.Goals as goal

pub returns-clause-place : goal.returns-clause-place
returns-clause-place c = place_here c.self.inside.answers c.args.self.now (placed c.self.inside.places) c.args.at c.get.result c.self.view_is c.get.ensures (c.self.invariant c.args.at)

pub returns-clause-found : goal.returns-clause-found
returns-clause-found c = found_here c.self.inside.answers c.args.self.now (placed c.self.inside.places) c.args.at c.get.result c.self.view_is c.get.ensures (c.self.invariant c.args.at)

pub returns-clause-first : goal.returns-clause-first
returns-clause-first c = first_here c.self.inside.answers c.args.self.now (placed c.self.inside.places) c.args.at c.get.result c.self.view_is c.get.ensures (c.self.invariant c.args.at)
