use Rattle.std.proofs.Common.{◌∙◌}
use Rattle.dwarf_line.proofs.ScanLaws.{rest_bounds}
use Rattle.dwarf_line.proofs.scan.bounds_behind.Goals as goal

pub returns-clause-bounds : goal.returns-clause-bounds
returns-clause-bounds c =
    let shared = c.turn_to.new.shared in
    c.bounds_of.ensures
    ∙ rest_bounds c.args.parameters shared.parameters c.args.section.now shared.until c.at.result c.args.reader.now c.in_ok-outline.outline c.in_ok-outline.ensures.rest c.turn_to.ensures.parameters (c.turn_to.ensures.until ∙ c.end_at.ensures) c.at.ensures.is c.requires.block
