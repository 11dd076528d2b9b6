use Rattle.std.proofs.Common.{◌≡◌, List, Some, None, ap, ◌∙◌, arith, to_z, of_z}
use Rattle.std.specs.Int.{w128}
use Rattle.std.proofs.lemmas.Int.{ints}
use Rattle.std.specs.Prelude.{slice_get}
use Rattle.dwarf_info.specs.declared.entry.Entry.{Entry}
use Rattle.dwarf_types.proofs.FirstLaws.{first_by}
use Rattle.dwarf_types.proofs.type_standing.TypeStanding.enumerator_by.Goals as goal

pub returns-in-Some : goal.returns-in-Some
returns-in-Some c =
    let same : to_z w128 (of_z w128 c.args.number) ≡ c.args.number = omega (arith, ints) in
    c.entry_at.ensures ∙ ap (λ (es : List Entry). slice_get es c.in-Some.position) c.inside_at.ensures
    ∙ first_by c.args.self.now c.args.known.now (to_z w128 (of_z w128 c.args.number)) c.args.number (Some c.in-Some.position) same c.requires.first c.in-Some.ensures

pub returns-in-None : goal.returns-in-None
returns-in-None c =
    let same : to_z w128 (of_z w128 c.args.number) ≡ c.args.number = omega (arith, ints) in
    first_by c.args.self.now c.args.known.now (to_z w128 (of_z w128 c.args.number)) c.args.number None same c.requires.first c.in-None.ensures
