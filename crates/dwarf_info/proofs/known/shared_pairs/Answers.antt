use Rattle.std.proofs.Common.{List, sym, subst}
use Rattle.std.specs.Ordering.{nat_cmp}
use Rattle.std.specs.BTreeMap.{get}
use Rattle.dwarf_info.specs.declared.form.Slot.{Slot}
use Rattle.dwarf_info.specs.calls.Pairs.{Knows}
use Rattle.dwarf_info.proofs.known.shared_pairs.Goals as goal

pub returns-in-Ok : goal.returns-in-Ok
returns-in-Ok c = λ pair section knows.
    subst (λ (lists : List (List Slot)). Knows pair section lists (get nat_cmp c.args.known)) (sym c.in-Ok.ensures) knows
