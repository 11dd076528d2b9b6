use Rattle.std.proofs.Common.{◌≡◌, ltb, true, length, Some, sym, ap, ◌∙◌, arith}
use Rattle.std.specs.Prelude.{slice_get}
use Rattle.std.proofs.lemmas.Option.{slice_get-get_or}
use Rattle.dwarf_scopes.proofs.LevelLaws.{level_at}
use Rattle.dwarf_scopes.proofs.table.found_there.Goals as goal

pub found_in_unit-requires : goal.found_in_unit-requires
found_in_unit-requires c =
    let n = c.args.place.unit in
    let in_units : ltb n (length c.args.units.now) ≡ true = sym c.in-Some.ensures.lookup.0 in
    let in_levels : ltb n (length c.args.levels.now) ≡ true = sym c.in-Some-get.ensures.lookup.0 in
    let unit : slice_get c.args.units.now n ≡ Some c.in-Some.answer.now = slice_get-get_or c.args.units.now n c.in-Some.answer.now (grind (arith, in_units)) ∙ ap Some (sym c.in-Some.ensures.lookup.1) in
    let level : slice_get c.args.levels.now n ≡ Some c.in-Some-get.levels.now = slice_get-get_or c.args.levels.now n c.in-Some-get.levels.now (grind (arith, in_levels)) ∙ ap Some (sym c.in-Some-get.ensures.lookup.1) in
    level_at n c.args.levels.now c.args.units.now c.in-Some-get.levels.now c.in-Some.answer.now c.requires level unit
