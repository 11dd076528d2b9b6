use Rattle.std.proofs.Common.{◌≡◌, Some, sym, subst, ◌∙◌}
use Rattle.std.specs.Prelude.{Option, IfSome}
use Rattle.std.specs.Ordering.{nat_cmp}
use Rattle.std.specs.BTreeMap.{get}
use Rattle.dwarf_info.specs.declared.known.PairsAt.{PairsAt}
use Rattle.dwarf_info.specs.calls.Pairs.{IsRight}
use Rattle.dwarf_info.proofs.PairLaws.{knows_at}
use Rattle.dwarf_info.proofs.known.keep_row.Goals as goal

pub returns-in-Ok : goal.returns-in-Ok
returns-in-Ok c = λ pair section learned knows.
    let lists = c.args.growing.now.lists in
    let at = c.in-Ok-Some.start in
    let pairs = c.in-Some.pairs in
    let e : get nat_cmp c.args.growing.now.known at ≡ Some pairs = sym c.kept_at.ensures ∙ c.in-Some.is in
    let right : IsRight pair section lists at pairs = subst (λ (o : Option PairsAt). IfSome o (IsRight pair section lists at)) e (learned at) in
    knows_at pair section lists (get nat_cmp c.args.known.now) (get nat_cmp c.insert.new.self) at pairs c.in-Ok.ensures.updates.0 knows right
