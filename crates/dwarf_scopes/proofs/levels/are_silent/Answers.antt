use Rattle.std.proofs.Common.{refl}
use Rattle.dwarf_scopes.proofs.LevelLaws.{silent_more}
use Rattle.dwarf_scopes.proofs.levels.are_silent.Goals as goal

pub entries-preserved : goal.entries-preserved
entries-preserved c = silent_more c.args.entries.now c.entries.left.now c.entry-item.result _ _ c.in-len1-up.len_at_least c.entry-item.is refl (c.is_silent.ensures (let is = c.if-not-is_silent.false in cc)) c.entries.invariant
