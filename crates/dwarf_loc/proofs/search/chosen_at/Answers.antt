use Rattle.std.proofs.Common.{refl, arith}
use Rattle.dwarf_loc.proofs.Standing.{past_end}
use Rattle.dwarf_loc.proofs.search.chosen_at.Goals as goal

pub returns-then-at-section : goal.returns-then-at-section
returns-then-at-section g c =
    let none = past_end (g.E.Entries.item c.args.entries.now) c.args.section.now c.args.at (omega arith) in
    record { exact = rw none refl }
