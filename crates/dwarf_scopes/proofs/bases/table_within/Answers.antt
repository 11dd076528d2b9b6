use Rattle.dwarf_scopes.proofs.BaseLaws.{made_whole, made_none}
use Rattle.dwarf_scopes.proofs.bases.table_within.Goals as goal

pub returns-then-not-whole : goal.returns-then-not-whole
returns-then-not-whole g c =
    made_none (g.K.ListKind.section c.args.sections.now) (g.K.ListKind.item c.args.sections.now) c.args.address c.args.place.way c.args.place.at c.len-entries.result c.in_ok-read.read c.in-Some.whole
    c.read_bases.new.ranges c.in-Some.is c.if-not-whole.true c.in_ok-read.ensures

pub returns : goal.returns
returns g c =
    made_whole (g.K.ListKind.section c.args.sections.now) (g.K.ListKind.item c.args.sections.now) c.args.address c.args.place.way c.args.place.at c.len-entries.result c.in_ok-read.read c.in-Some.whole
    c.read_bases.new.ranges c.as_slice.result.now c.in_ok-steps.steps c.in-Some.is c.if-not-whole.false c.in_ok-read.ensures c.as_slice.ensures c.in_ok-steps.ensures
