-- The lists of ranges and of locations, in the sections of both versions.
use Rattle.std.specs.Prelude.{ℕ, List, Option, if◌then◌else◌}
use Rattle.wasm_bytes.specs.Place.{Place, Read}
use Rattle.dwarf_info.specs.Sections.{SectionBytes5}
use Rattle.dwarf_loc.specs.declared.contents.Span.{Span}
use Rattle.dwarf_loc.specs.declared.entry.ListEntry.{ListEntry}
use Rattle.dwarf_loc.specs.Addresses.{Addresses, table, address_of}
use Rattle.dwarf_loc.specs.Contents.{nothing_item}
use Rattle.dwarf_loc.specs.Kinds.{location_kind, range_kind}
use Rattle.dwarf_loc.specs.Version4.{expression4_item, entry4_item}
use Rattle.dwarf_loc.specs.Version5.{expression5_item, entry5_item}
use Rattle.dwarf_scopes.specs.declared.kinds.ListWay.{ListWay}

abbrev pub addresses_by : SectionBytes5 → ListWay → Addresses
addresses_by s way = address_of (table s.addr way.addresses)

abbrev pub range_section : SectionBytes5 → ListWay → List ℕ
range_section s way = if way.version5 then s.rnglists else s.base.ranges

abbrev pub range_item : SectionBytes5 → ListWay → Place → Read (Option (ListEntry (Unit {0})))
range_item s way = if way.version5 then entry5_item range_kind (addresses_by s way) nothing_item else entry4_item nothing_item

abbrev pub location_section : SectionBytes5 → ListWay → List ℕ
location_section s way = if way.version5 then s.loclists else s.base.loc

abbrev pub location_item : SectionBytes5 → ListWay → Place → Read (Option (ListEntry Span))
location_item s way = if way.version5 then entry5_item location_kind (addresses_by s way) expression5_item else entry4_item expression4_item
