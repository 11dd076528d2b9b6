use Rattle.std.proofs.Common.{◌≡◌, subst}
use Rattle.std.specs.Prelude.{IfSome, option_copied}
use Rattle.dwarf_entries.specs.Standing.{Standing, inside}
use Rattle.dwarf_types.specs.calls.Inside.{AreInside, picked}
use Rattle.dwarf_types.specs.calls.Contents.{contents}
use Rattle.dwarf_types.proofs.KeptLaws.{range_told, told_here}
use Rattle.dwarf_types.proofs.type_standing.TypeStanding.contents.Goals as goal

pub returns-clause-range : goal.returns-clause-range
returns-clause-range c =
    subst (λ (s : Standing). IfSome (option_copied c.self.inside.contents) (λ m. AreInside s m.range)) c.self.view_is
    (range_told (option_copied c.self.inside.contents) c.self.inside.standing c.self.invariant.1)

pub returns-clause-told : goal.returns-clause-told
returns-clause-told c =
    subst (λ (s : Standing). IfSome (option_copied c.self.inside.contents) (λ m. picked m.positions (inside s) ≡ contents s)) c.self.view_is
    (told_here (option_copied c.self.inside.contents) c.self.inside.standing c.self.invariant.1)
