use Rattle.debug_frames.specs.Sections.{sections4}
use Rattle.debug_frames.proofs.Parts.{same_sections}
use Rattle.debug_frames.proofs.sections.sections4.Goals as goal

pub returns-clause-is : goal.returns-clause-is
unfolding sections4
returns-clause-is c =
    same_sections _ _ _ _ _ _ _ _ _ _ _ _ c.section_named.ensures.is c.section_named-2.ensures.is c.section_named-3.ensures.is c.section_named-4.ensures.is c.section_named-5.ensures.is c.section_named-6.ensures.is
