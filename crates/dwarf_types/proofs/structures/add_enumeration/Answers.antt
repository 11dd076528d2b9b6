use Rattle.std.proofs.Common.{Option, sym, subst, ◌∙◌}
use Rattle.std.specs.Ordering.{nat_cmp}
use Rattle.std.specs.BTreeMap.{get}
use Rattle.std.proofs.lemmas.Result.{on_ok_weaker}
use Rattle.dwarf_entries.specs.Standing.{Standing, standing_at}
use Rattle.dwarf_types.specs.calls.Numbers.{AreFirstOf}
use Rattle.dwarf_types.proofs.KeptLaws.{one_kept}
use Rattle.dwarf_types.proofs.structures.add_enumeration.Goals as goal

pub returns-in-Ok : goal.returns-in-Ok
returns-in-Ok c =
    let enumerators = c.in-Ok.enumerators in
    let is = subst (λ (o : Option Standing). AreFirstOf o enumerators) (sym c.in-Some.is ∙ c.standing_at.ensures) c.in-Ok.ensures in
    on_ok_weaker c.keep.result
    (λ updates. record {
      members = c.requires.members;
      numbers = one_kept (λ q. AreFirstOf (standing_at c.args.units.now q)) (get nat_cmp c.args.structures.now.numbers) (get nat_cmp c.keep.new.known) c.args.at enumerators updates c.requires.numbers is;
    })
    c.keep.ensures
