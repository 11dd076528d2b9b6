use Rattle.debug_frames.specs.Sections.{sections_of}
use Rattle.debug_frames.proofs.Parts.{same_sections5}
use Rattle.debug_frames.proofs.sections.sections_of.Goals as goal

pub returns-clause-is : goal.returns-clause-is
unfolding sections_of
returns-clause-is c =
    same_sections5 _ _ _ _ _ _ _ _ _ _ _ _ c.sections4.ensures.is c.section_named.ensures.is c.section_named-2.ensures.is c.section_named-3.ensures.is c.section_named-4.ensures.is c.section_named-5.ensures.is
