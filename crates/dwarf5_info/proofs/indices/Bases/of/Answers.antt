use Rattle.std.proofs.Common.{[], sym, ap, ◌∙◌}
use Rattle.std.specs.Prelude.{option_copied, unwrap_or}
use Rattle.dwarf5_info.specs.Indices.{index5}
use Rattle.dwarf5_info.specs.inner.Bases.{base_in}
use Rattle.dwarf5_info.proofs.LookUp.{looked_up_is}
use Rattle.dwarf5_info.proofs.indices.Bases.of.Goals as goal

pub returns-in-Some : goal.returns-in-Some
returns-in-Some c = λ s. looked_up_is s (base_in c.root_bases.result) c.in-Some.root.now c.root_bases.ensures ∙ ap (λ o. index5 s (unwrap_or (option_copied o) [])) (sym c.in-Some.is)

pub returns-in-None : goal.returns-in-None
returns-in-None c = λ s. looked_up_is s (base_in c.no_bases.result) [] c.no_bases.ensures ∙ ap (λ o. index5 s (unwrap_or (option_copied o) [])) (sym c.in-None.is)
