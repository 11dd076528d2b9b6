use Rattle.std.proofs.Common.{◌+◌, length, refl, ap}
use Rattle.dwarf_types.proofs.InsideLaws.{range_found}
use Rattle.dwarf_types.proofs.entry_range.range_inside.Goals as goal

pub returns-clause-range : goal.returns-clause-range
returns-clause-range c =
    range_found c.args.units.now c.args.at c.in_ok-place.place c.args.standing.now (record { first = c.in_ok-place.place.entry + 1; count = length c.inside-count.result.now })
    c.in_ok-place.ensures.place c.requires refl (ap length c.inside-count.ensures)
