use Rattle.std.proofs.Common.{ap, ◌∙◌}
use Rattle.std.proofs.lemmas.Result.{IfOk-weaker}
use Rattle.dwarf_info.specs.Sections.{SectionBytes5}
use Rattle.dwarf_info.specs.Units.{settled, answers_of, units_of}
use Rattle.dwarf_info.proofs.read.read_all.Goals as goal

pub returns-in-Ok-read : goal.returns-in-Ok-read
unfolding units_of
returns-in-Ok-read g c = IfOk-weaker c.settled.result _ _ (λ units is. is ∙ ap settled (c.in-Ok-read.ensures ∙ ap (λ (s : SectionBytes5). answers_of s g.W.UnitVersions.versions) c.in-Ok.ensures)) c.settled.ensures
