use Rattle.std.proofs.Common.{◌-◌, length}
use Rattle.dwarf_scopes.specs.inner.Listing.{AreSeen, SoFar}
use Rattle.dwarf_scopes.proofs.listed.listed_of.Given as goal

abbrev pub invariant-entries : goal.invariant-entries
invariant-entries l = AreSeen l.entries l.numbers l.seen × SoFar l.entries l.index l.numbers

abbrev pub decreases-entries : goal.decreases-entries
decreases-entries l = length l.entries - l.index
