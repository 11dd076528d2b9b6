use Rattle.std.proofs.Common.{ap, ◌∙◌, arith}
use Rattle.dwarf_abbrev.specs.calls.Shared.{list_of}
use Rattle.dwarf_abbrev.specs.inner.Linked.{lists}
use Rattle.dwarf_abbrev.proofs.shared.behind_first.Goals as goal

pub returns-clause-list : goal.returns-clause-list
returns-clause-list g c = ap (list_of (lists c.args.links.now)) c.rest_of.ensures ∙ c.requires.follows.rest c.args.list

pub returns-clause-there : goal.returns-clause-there
returns-clause-there g c = omega (arith, c.rest_of.ensures, c.requires.follows.there c.args.list)
