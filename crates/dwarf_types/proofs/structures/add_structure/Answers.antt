use Rattle.std.proofs.Common.{Option, sym, subst, ◌∙◌}
use Rattle.std.specs.Ordering.{nat_cmp}
use Rattle.std.specs.BTreeMap.{get}
use Rattle.std.proofs.lemmas.Result.{on_ok_weaker}
use Rattle.dwarf_entries.specs.Standing.{Standing, standing_at}
use Rattle.dwarf_types.specs.calls.Contents.{AreContentsOf}
use Rattle.dwarf_types.proofs.KeptLaws.{one_kept}
use Rattle.dwarf_types.proofs.structures.add_structure.Goals as goal

pub returns-else-len-range : goal.returns-else-len-range
returns-else-len-range c =
    let members = c.in-Ok.members in
    let is = subst (λ (o : Option Standing). AreContentsOf o members) (sym c.in-Some.is ∙ c.standing_at.ensures) c.in-Ok.ensures in
    on_ok_weaker c.keep.result
    (λ updates. record {
      members = one_kept (λ q. AreContentsOf (standing_at c.args.units.now q)) (get nat_cmp c.args.structures.now.members) (get nat_cmp c.keep.new.known) c.args.at members updates c.requires.members is;
      numbers = c.requires.numbers;
    })
    c.keep.ensures
