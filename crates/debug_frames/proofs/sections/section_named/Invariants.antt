use Rattle.std.proofs.Common.{◌≡◌, drop}
use Rattle.debug_frames.specs.Sections.{section_named}
use Rattle.debug_frames.proofs.sections.section_named.Given as goal

abbrev pub invariant-loop-custom : goal.invariant-loop-custom
invariant-loop-custom l = section_named l.bytes l.customs l.name ≡ section_named l.bytes (drop l.custom-index l.customs) l.name
