-- Tables that are looked up by index (DWARF 5, 7.26 to 7.29). Their bases are attributes of the root of a unit.
use Rattle.std.specs.Prelude.{ℕ, ◌+◌, ◌-◌, ◌*◌, ◌^◌, min, List, Option, Some, option_map, option_and_then}
use Rattle.dwarf_bytes.specs.Items.{number_item, read_at}
use Rattle.dwarf_info.specs.declared.form.TextSection.TheVariants.{Str}
use Rattle.dwarf_info.specs.declared.form.IndexTable.{IndexTable}
use Rattle.dwarf_info.specs.declared.form.IndexTable.TheVariants.{Texts, Addresses, LocationLists, RangeLists}
use Rattle.dwarf_info.specs.declared.entry.AttrValue.{AttrValue}
use Rattle.dwarf_info.specs.declared.entry.AttrValue.TheVariants as value
use Rattle.dwarf_info.specs.declared.entry.Attribute.{Attribute}
use Rattle.dwarf_info.specs.Sections.{SectionBytes5}
use Rattle.dwarf_info.specs.Attributes.{valued, as_offset, str_offsets_base, addr_base, rnglists_base, loclists_base}
use Rattle.dwarf_info.specs.Values.{text_at}

abbrev pub base_name : IndexTable → ℕ
base_name Texts = str_offsets_base
base_name Addresses = addr_base
base_name LocationLists = loclists_base
base_name RangeLists = rnglists_base

abbrev pub table_section : SectionBytes5 → IndexTable → List ℕ
table_section s Texts = s.str_offsets
table_section s Addresses = s.addr
table_section s LocationLists = s.loclists
table_section s RangeLists = s.rnglists

-- the base of a table, where the root has one
abbrev pub base_of : List Attribute → IndexTable → Option ℕ
base_of root table = valued as_offset (base_name table) root

-- Entry i of a table is the 4 bytes at base + 4 i.
abbrev pub entry_at : SectionBytes5 → IndexTable → ℕ → ℕ → Option ℕ
entry_at s table base i = read_at (number_item 4) (table_section s table) (base + 4 * i)

-- The offset of a list counts from the base. One past 2^32 - 1 stands past the end of the section, as 2^32 - 1 does.
abbrev pub list_offset : ℕ → AttrValue
list_offset at = value.Offset (min at (2 ^ 32 - 1))

-- what an entry of a table with that base stands for
abbrev pub entry_means : SectionBytes5 → ℕ → IndexTable → ℕ → Option AttrValue
entry_means s base Texts n = option_map value.Text (text_at s Str n)
entry_means s base Addresses n = Some (value.Address n)
entry_means s base LocationLists n = Some (list_offset (base + n))
entry_means s base RangeLists n = Some (list_offset (base + n))

abbrev pub from_table : SectionBytes5 → IndexTable → ℕ → ℕ → Option AttrValue
from_table s table i base = option_and_then (entry_means s base table) (entry_at s table base i)

-- what an index stands for, in a unit whose root has these attributes
abbrev pub index5 : SectionBytes5 → List Attribute → IndexTable → ℕ → Option AttrValue
index5 s root table i = option_and_then (from_table s table i) (base_of root table)
