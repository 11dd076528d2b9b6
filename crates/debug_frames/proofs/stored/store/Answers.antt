use Rattle.debug_frames.specs.Programs.{program_there}
use Rattle.debug_frames.proofs.StoreLaws.{scanned}
use Rattle.debug_frames.proofs.stored.store.Goals as goal

pub returns-in-Ok-scan_lines5-clause-stored : goal.returns-in-Ok-scan_lines5-clause-stored
returns-in-Ok-scan_lines5-clause-stored c =
    let bounds = c.in-Ok-scan_lines5.bounds in
    c.bounded.ensures (program_there c.args.sections.now c.args.at) (scanned c.args.sections.now c.args.at c.args.room.now.scans bounds c.requires c.in-Ok-scan_lines5.ensures.bounds)
