-- What is kept of a unit says of each index what the attributes of its root say.
use Rattle.std.proofs.Common.{◌≡◌, ℕ, List, Option}
use Rattle.std.specs.Prelude.{option_and_then}
use Rattle.dwarf_info.specs.declared.form.IndexTable.{IndexTable}
use Rattle.dwarf_info.specs.declared.form.IndexTable.TheVariants.{Texts, Addresses, LocationLists, RangeLists}
use Rattle.dwarf_info.specs.declared.entry.Attribute.{Attribute}
use Rattle.dwarf_info.specs.Sections.{SectionBytes5}
use Rattle.dwarf5_info.specs.declared.indices.Bases.{Bases}
use Rattle.dwarf5_info.specs.Indices.{base_of, from_table, index5}
use Rattle.dwarf5_info.specs.inner.Bases.{base_in}

each_base : (b : Bases) (root : List Attribute) → b.texts ≡ base_of root Texts → b.addresses ≡ base_of root Addresses
    → b.location_lists ≡ base_of root LocationLists → b.range_lists ≡ base_of root RangeLists → (table : IndexTable) → base_in b table ≡ base_of root table
each_base b root texts addresses locations ranges Texts = texts
each_base b root texts addresses locations ranges Addresses = addresses
each_base b root texts addresses locations ranges LocationLists = locations
each_base b root texts addresses locations ranges RangeLists = ranges

pub bases_are : (b : Bases) (root : List Attribute) → b.texts ≡ base_of root Texts → b.addresses ≡ base_of root Addresses
    → b.location_lists ≡ base_of root LocationLists → b.range_lists ≡ base_of root RangeLists → base_in b ≡ base_of root
bases_are b root texts addresses locations ranges = λ i table. each_base b root texts addresses locations ranges table i

pub looked_up_is : (s : SectionBytes5) (bases : IndexTable → Option ℕ) (root : List Attribute) → bases ≡ base_of root
    → (λ table i. option_and_then (from_table s table i) (bases table)) ≡ index5 s root
looked_up_is s bases root same = λ i table n. option_and_then (from_table s table n) (same i table)
