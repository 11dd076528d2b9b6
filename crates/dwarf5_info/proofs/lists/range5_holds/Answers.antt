use Rattle.std.proofs.Common.{◌≡◌, ℕ, List, Ok, Err, ap}
use Rattle.std.specs.Prelude.{◌↔◌, is_some}
use Rattle.dwarf_bytes.specs.declared.faults.ReadFault.TheVariants.{Unreadable}
use Rattle.dwarf_info.specs.Sections.{SectionBytes5}
use Rattle.dwarf_loc.specs.declared.entry.ListEntry.{ListEntry}
use Rattle.dwarf_loc.specs.Lists.{chosen}
use Rattle.dwarf_loc.specs.Addresses.{Table, address_of}
use Rattle.dwarf_loc.specs.calls.Grammar5.{IsRanges5}
use Rattle.dwarf5_info.specs.Lists.{list_base, addresses_of}
use Rattle.dwarf5_info.proofs.ListLaws.{of_unit}
use Rattle.dwarf5_info.proofs.lists.range5_holds.Goals as goal

pub returns-clause-spelled : goal.returns-clause-spelled
returns-clause-spelled c =
    of_unit (λ (lists : List ℕ) (t : Table) (b : ℕ). (entries : List (ListEntry (Unit {0}))) → IsRanges5 lists (address_of t) c.args.at entries → c.rnglist_holds.result ≡ Ok (is_some (chosen b c.args.address entries)))
    c.sections.inside.rnglists.now c.args.sections.now.rnglists c.address_table-addresses.result (addresses_of c.args.sections.now c.args.unit.now) c.list_base.result (list_base c.args.unit.now)
    (ap (λ (s : SectionBytes5). s.rnglists) c.sections.view_is) c.address_table-addresses.ensures c.list_base.ensures c.rnglist_holds.ensures.spelled

pub returns-clause-unreadable : goal.returns-clause-unreadable
returns-clause-unreadable c =
    of_unit (λ (lists : List ℕ) (t : Table) (b : ℕ). (c.rnglist_holds.result ≡ Err (Unreadable c.args.at)) ↔ ((entries : List (ListEntry (Unit {0}))) → IsRanges5 lists (address_of t) c.args.at entries → ⊥))
    c.sections.inside.rnglists.now c.args.sections.now.rnglists c.address_table-addresses.result (addresses_of c.args.sections.now c.args.unit.now) c.list_base.result (list_base c.args.unit.now)
    (ap (λ (s : SectionBytes5). s.rnglists) c.sections.view_is) c.address_table-addresses.ensures c.list_base.ensures c.rnglist_holds.ensures.unreadable
