-- Units of version 5 by computation: hand-made bytes, with what an independent reader finds in them.
use Rattle.std.specs.Prelude.{◌≡◌, ℕ, negsuc, List, [], ◌∷◌, codes, refl}
use Rattle.wasm_leb.specs.Reading.{unsigned_at, u64_at, signed_at, s64_at, last_signed}
use Rattle.wasm_bytes.specs.Reading.{byte_item, one_of_item, run_item, rest_item, u64_item, s64_item, until_end, to_end_item, steps_while_due, steps_until_done}
use Rattle.dwarf_bytes.specs.Items.{each_item, ended_from, ended_item, number_item, text_item, unit_block_item}
use Rattle.dwarf_abbrev.specs.Reading.{pair_item, table_item, abbrevs_item}
use Rattle.dwarf_info.specs.declared.entry.AttrValue.{AttrValue}
use Rattle.dwarf_info.specs.declared.entry.AttrValue.TheVariants as value
use Rattle.dwarf_info.specs.declared.entry.Attribute.{Attribute}
use Rattle.dwarf_info.specs.declared.entry.Entry.{Entry}
use Rattle.dwarf_info.specs.declared.entry.Unit.{Unit as UnitTree}
use Rattle.dwarf_info.specs.declared.entry.UnitAnswer.{UnitAnswer}
use Rattle.dwarf_info.specs.declared.entry.UnitAnswer.TheVariants.{Tree, Unreadable}
use Rattle.dwarf_info.specs.Sections.{SectionBytes5}
use Rattle.dwarf_info.specs.Values.{plain_item, named_item, slot_item, attributes_item}
use Rattle.dwarf_info.specs.Entries.{step_item, entries_item}
use Rattle.dwarf_info.specs.Units.{padding_item, unit_item, whole_unit, answer_item, answers_of, units_of}
use Rattle.dwarf_info.specs.Version4.{header4_item, shapes4_item}
use Rattle.dwarf5_info.specs.Version5.{header5_item, shapes5_item, units5}

abbrev attr : ℕ → AttrValue → Attribute
attr name v = record { name = name; value = v }

abbrev entry : ℕ → ℕ → ℕ → List Attribute → Entry
entry at depth tag attributes = record { at = at; depth = depth; tag = tag; attributes = attributes }

abbrev unit : ℕ → ℕ → List Entry → UnitTree
unit at version entries = record { at = at; version = version; entries = entries }

abbrev tree : ℕ → ℕ → List Entry → UnitAnswer
tree at version entries = Tree (unit at version entries)

abbrev unread : ℕ → UnitAnswer
unread at = Unreadable (codes ".debug_info") at

-- one entry with a name
abbrev small5_sections : SectionBytes5
small5_sections = record { base = record { info = (0x0b ∷ 0x00 ∷ 0x00 ∷ 0x00 ∷ 0x05 ∷ 0x00 ∷ 0x01 ∷ 0x04 ∷ 0x00 ∷ 0x00 ∷ 0x00 ∷ 0x00 ∷ 0x01 ∷ 0x61 ∷ 0x00 ∷ []); abbreviations = (0x01 ∷ 0x11 ∷ 0x00 ∷ 0x03 ∷ 0x08 ∷ 0x00 ∷ 0x00 ∷ 0x00 ∷ []); line = []; str = []; loc = []; ranges = [] }; line_str = []; str_offsets = []; addr = []; loclists = []; rnglists = [] }

small5 : units5 small5_sections ≡ (
    tree 0 5 (
    entry 12 0 0x11 (attr 0x03 (value.Text (0x61 ∷ [])) ∷ []) ∷ []) ∷ [])
unfolding unsigned_at u64_at signed_at s64_at last_signed byte_item one_of_item run_item rest_item u64_item s64_item until_end to_end_item steps_while_due steps_until_done each_item ended_from ended_item number_item text_item unit_block_item pair_item table_item abbrevs_item plain_item named_item slot_item attributes_item step_item entries_item padding_item unit_item whole_unit answer_item answers_of units_of header4_item shapes4_item header5_item shapes5_item units5
small5 = refl

-- a unit of version 4 behind one of version 5
abbrev mixed_sections : SectionBytes5
mixed_sections = record { base = record { info = (0x0b ∷ 0x00 ∷ 0x00 ∷ 0x00 ∷ 0x05 ∷ 0x00 ∷ 0x01 ∷ 0x04 ∷ 0x00 ∷ 0x00 ∷ 0x00 ∷ 0x00 ∷ 0x01 ∷ 0x61 ∷ 0x00 ∷ 0x0a ∷ 0x00 ∷ 0x00 ∷ 0x00 ∷ 0x04 ∷ 0x00 ∷ 0x00 ∷ 0x00 ∷ 0x00 ∷ 0x00 ∷ 0x04 ∷ 0x01 ∷ 0x62 ∷ 0x00 ∷ []); abbreviations = (0x01 ∷ 0x11 ∷ 0x00 ∷ 0x03 ∷ 0x08 ∷ 0x00 ∷ 0x00 ∷ 0x00 ∷ []); line = []; str = []; loc = []; ranges = [] }; line_str = []; str_offsets = []; addr = []; loclists = []; rnglists = [] }

mixed : units5 mixed_sections ≡ (
    tree 0 5 (
    entry 12 0 0x11 (attr 0x03 (value.Text (0x61 ∷ [])) ∷ []) ∷ []) ∷
    tree 15 4 (
    entry 26 0 0x11 (attr 0x03 (value.Text (0x62 ∷ [])) ∷ []) ∷ []) ∷ [])
unfolding unsigned_at u64_at signed_at s64_at last_signed byte_item one_of_item run_item rest_item u64_item s64_item until_end to_end_item steps_while_due steps_until_done each_item ended_from ended_item number_item text_item unit_block_item pair_item table_item abbrevs_item plain_item named_item slot_item attributes_item step_item entries_item padding_item unit_item whole_unit answer_item answers_of units_of header4_item shapes4_item header5_item shapes5_item units5
mixed = refl

-- a partial unit
abbrev partial_sections : SectionBytes5
partial_sections = record { base = record { info = (0x0b ∷ 0x00 ∷ 0x00 ∷ 0x00 ∷ 0x05 ∷ 0x00 ∷ 0x03 ∷ 0x04 ∷ 0x00 ∷ 0x00 ∷ 0x00 ∷ 0x00 ∷ 0x01 ∷ 0x61 ∷ 0x00 ∷ []); abbreviations = (0x01 ∷ 0x11 ∷ 0x00 ∷ 0x03 ∷ 0x08 ∷ 0x00 ∷ 0x00 ∷ 0x00 ∷ []); line = []; str = []; loc = []; ranges = [] }; line_str = []; str_offsets = []; addr = []; loclists = []; rnglists = [] }

partial : units5 partial_sections ≡ (
    tree 0 5 (
    entry 12 0 0x11 (attr 0x03 (value.Text (0x61 ∷ [])) ∷ []) ∷ []) ∷ [])
unfolding unsigned_at u64_at signed_at s64_at last_signed byte_item one_of_item run_item rest_item u64_item s64_item until_end to_end_item steps_while_due steps_until_done each_item ended_from ended_item number_item text_item unit_block_item pair_item table_item abbrevs_item plain_item named_item slot_item attributes_item step_item entries_item padding_item unit_item whole_unit answer_item answers_of units_of header4_item shapes4_item header5_item shapes5_item units5
partial = refl

-- a type unit
abbrev type_unit_sections : SectionBytes5
type_unit_sections = record { base = record { info = (0x0b ∷ 0x00 ∷ 0x00 ∷ 0x00 ∷ 0x05 ∷ 0x00 ∷ 0x02 ∷ 0x04 ∷ 0x00 ∷ 0x00 ∷ 0x00 ∷ 0x00 ∷ 0x01 ∷ 0x61 ∷ 0x00 ∷ []); abbreviations = (0x01 ∷ 0x11 ∷ 0x00 ∷ 0x03 ∷ 0x08 ∷ 0x00 ∷ 0x00 ∷ 0x00 ∷ []); line = []; str = []; loc = []; ranges = [] }; line_str = []; str_offsets = []; addr = []; loclists = []; rnglists = [] }

type_unit : units5 type_unit_sections ≡ (
    unread 0 ∷ [])
unfolding unsigned_at u64_at signed_at s64_at last_signed byte_item one_of_item run_item rest_item u64_item s64_item until_end to_end_item steps_while_due steps_until_done each_item ended_from ended_item number_item text_item unit_block_item pair_item table_item abbrevs_item plain_item named_item slot_item attributes_item step_item entries_item padding_item unit_item whole_unit answer_item answers_of units_of header4_item shapes4_item header5_item shapes5_item units5
type_unit = refl

-- an implicit value stands in the abbreviation
abbrev implicit_sections : SectionBytes5
implicit_sections = record { base = record { info = (0x0b ∷ 0x00 ∷ 0x00 ∷ 0x00 ∷ 0x05 ∷ 0x00 ∷ 0x01 ∷ 0x04 ∷ 0x00 ∷ 0x00 ∷ 0x00 ∷ 0x00 ∷ 0x01 ∷ 0x61 ∷ 0x00 ∷ []); abbreviations = (0x01 ∷ 0x11 ∷ 0x00 ∷ 0x0b ∷ 0x21 ∷ 0x7f ∷ 0x03 ∷ 0x08 ∷ 0x00 ∷ 0x00 ∷ 0x00 ∷ []); line = []; str = []; loc = []; ranges = [] }; line_str = []; str_offsets = []; addr = []; loclists = []; rnglists = [] }

implicit : units5 implicit_sections ≡ (
    tree 0 5 (
    entry 12 0 0x11 (attr 0x0b (value.Signed (negsuc 0)) ∷ attr 0x03 (value.Text (0x61 ∷ [])) ∷ []) ∷ []) ∷ [])
unfolding unsigned_at u64_at signed_at s64_at last_signed byte_item one_of_item run_item rest_item u64_item s64_item until_end to_end_item steps_while_due steps_until_done each_item ended_from ended_item number_item text_item unit_block_item pair_item table_item abbrevs_item plain_item named_item slot_item attributes_item step_item entries_item padding_item unit_item whole_unit answer_item answers_of units_of header4_item shapes4_item header5_item shapes5_item units5
implicit = refl

-- in a table of version 4 no number stands behind the form, which has no reading in an entry
abbrev implicit4_sections : SectionBytes5
implicit4_sections = record { base = record { info = (0x0a ∷ 0x00 ∷ 0x00 ∷ 0x00 ∷ 0x04 ∷ 0x00 ∷ 0x00 ∷ 0x00 ∷ 0x00 ∷ 0x00 ∷ 0x04 ∷ 0x01 ∷ 0x61 ∷ 0x00 ∷ []); abbreviations = (0x01 ∷ 0x11 ∷ 0x00 ∷ 0x03 ∷ 0x21 ∷ 0x00 ∷ 0x00 ∷ 0x00 ∷ []); line = []; str = []; loc = []; ranges = [] }; line_str = []; str_offsets = []; addr = []; loclists = []; rnglists = [] }

implicit4 : units5 implicit4_sections ≡ (
    unread 0 ∷ [])
unfolding unsigned_at u64_at signed_at s64_at last_signed byte_item one_of_item run_item rest_item u64_item s64_item until_end to_end_item steps_while_due steps_until_done each_item ended_from ended_item number_item text_item unit_block_item pair_item table_item abbrevs_item plain_item named_item slot_item attributes_item step_item entries_item padding_item unit_item whole_unit answer_item answers_of units_of header4_item shapes4_item header5_item shapes5_item units5
implicit4 = refl

-- an implicit value has no reading through indirect
abbrev implicit_named_sections : SectionBytes5
implicit_named_sections = record { base = record { info = (0x0b ∷ 0x00 ∷ 0x00 ∷ 0x00 ∷ 0x05 ∷ 0x00 ∷ 0x01 ∷ 0x04 ∷ 0x00 ∷ 0x00 ∷ 0x00 ∷ 0x00 ∷ 0x01 ∷ 0x21 ∷ 0x05 ∷ []); abbreviations = (0x01 ∷ 0x11 ∷ 0x00 ∷ 0x03 ∷ 0x16 ∷ 0x00 ∷ 0x00 ∷ 0x00 ∷ []); line = []; str = []; loc = []; ranges = [] }; line_str = []; str_offsets = []; addr = []; loclists = []; rnglists = [] }

implicit_named : units5 implicit_named_sections ≡ (
    unread 0 ∷ [])
unfolding unsigned_at u64_at signed_at s64_at last_signed byte_item one_of_item run_item rest_item u64_item s64_item until_end to_end_item steps_while_due steps_until_done each_item ended_from ended_item number_item text_item unit_block_item pair_item table_item abbrevs_item plain_item named_item slot_item attributes_item step_item entries_item padding_item unit_item whole_unit answer_item answers_of units_of header4_item shapes4_item header5_item shapes5_item units5
implicit_named = refl

-- data16 and line_strp
abbrev plain_forms5_sections : SectionBytes5
plain_forms5_sections = record { base = record { info = (0x1d ∷ 0x00 ∷ 0x00 ∷ 0x00 ∷ 0x05 ∷ 0x00 ∷ 0x01 ∷ 0x04 ∷ 0x00 ∷ 0x00 ∷ 0x00 ∷ 0x00 ∷ 0x01 ∷ 0x00 ∷ 0x00 ∷ 0x00 ∷ 0x00 ∷ 0x00 ∷ 0x00 ∷ 0x00 ∷ 0x00 ∷ 0x00 ∷ 0x00 ∷ 0x00 ∷ 0x00 ∷ 0x00 ∷ 0x00 ∷ 0x00 ∷ 0x00 ∷ 0x02 ∷ 0x00 ∷ 0x00 ∷ 0x00 ∷ []); abbreviations = (0x01 ∷ 0x11 ∷ 0x00 ∷ 0x0b ∷ 0x1e ∷ 0x03 ∷ 0x1f ∷ 0x00 ∷ 0x00 ∷ 0x00 ∷ []); line = []; str = []; loc = []; ranges = [] }; line_str = (0x61 ∷ 0x00 ∷ 0x62 ∷ 0x63 ∷ 0x00 ∷ []); str_offsets = []; addr = []; loclists = []; rnglists = [] }

plain_forms5 : units5 plain_forms5_sections ≡ (
    tree 0 5 (
    entry 12 0 0x11 (attr 0x0b (value.Other) ∷ attr 0x03 (value.Text (0x62 ∷ 0x63 ∷ [])) ∷ []) ∷ []) ∷ [])
unfolding unsigned_at u64_at signed_at s64_at last_signed byte_item one_of_item run_item rest_item u64_item s64_item until_end to_end_item steps_while_due steps_until_done each_item ended_from ended_item number_item text_item unit_block_item pair_item table_item abbrevs_item plain_item named_item slot_item attributes_item step_item entries_item padding_item unit_item whole_unit answer_item answers_of units_of header4_item shapes4_item header5_item shapes5_item units5
plain_forms5 = refl

-- the form 24
abbrev no_form_sections : SectionBytes5
no_form_sections = record { base = record { info = (0x0a ∷ 0x00 ∷ 0x00 ∷ 0x00 ∷ 0x05 ∷ 0x00 ∷ 0x01 ∷ 0x04 ∷ 0x00 ∷ 0x00 ∷ 0x00 ∷ 0x00 ∷ 0x01 ∷ 0x00 ∷ []); abbreviations = (0x01 ∷ 0x11 ∷ 0x00 ∷ 0x03 ∷ 0x24 ∷ 0x00 ∷ 0x00 ∷ 0x00 ∷ []); line = []; str = []; loc = []; ranges = [] }; line_str = []; str_offsets = []; addr = []; loclists = []; rnglists = [] }

no_form : units5 no_form_sections ≡ (
    unread 0 ∷ [])
unfolding unsigned_at u64_at signed_at s64_at last_signed byte_item one_of_item run_item rest_item u64_item s64_item until_end to_end_item steps_while_due steps_until_done each_item ended_from ended_item number_item text_item unit_block_item pair_item table_item abbrevs_item plain_item named_item slot_item attributes_item step_item entries_item padding_item unit_item whole_unit answer_item answers_of units_of header4_item shapes4_item header5_item shapes5_item units5
no_form = refl

-- each form of an index; the bases stand later in the root than their first use
abbrev index_forms_sections : SectionBytes5
index_forms_sections = record { base = record { info = (0x35 ∷ 0x00 ∷ 0x00 ∷ 0x00 ∷ 0x05 ∷ 0x00 ∷ 0x01 ∷ 0x04 ∷ 0x00 ∷ 0x00 ∷ 0x00 ∷ 0x00 ∷ 0x01 ∷ 0x01 ∷ 0x00 ∷ 0x01 ∷ 0x00 ∷ 0x00 ∷ 0x01 ∷ 0x00 ∷ 0x00 ∷ 0x00 ∷ 0x00 ∷ 0x01 ∷ 0x00 ∷ 0x00 ∷ 0x00 ∷ 0x01 ∷ 0x00 ∷ 0x00 ∷ 0x01 ∷ 0x00 ∷ 0x00 ∷ 0x00 ∷ 0x00 ∷ 0x00 ∷ 0x00 ∷ 0x02 ∷ 0x00 ∷ 0x00 ∷ 0x00 ∷ 0x01 ∷ 0x00 ∷ 0x00 ∷ 0x00 ∷ 0x04 ∷ 0x00 ∷ 0x00 ∷ 0x00 ∷ 0x03 ∷ 0x00 ∷ 0x00 ∷ 0x00 ∷ 0x02 ∷ 0x00 ∷ 0x01 ∷ 0x00 ∷ []); abbreviations = (0x01 ∷ 0x11 ∷ 0x01 ∷ 0x03 ∷ 0x1a ∷ 0x11 ∷ 0x1b ∷ 0x02 ∷ 0x22 ∷ 0x55 ∷ 0x23 ∷ 0x03 ∷ 0x25 ∷ 0x03 ∷ 0x26 ∷ 0x03 ∷ 0x27 ∷ 0x03 ∷ 0x28 ∷ 0x11 ∷ 0x29 ∷ 0x11 ∷ 0x2a ∷ 0x11 ∷ 0x2b ∷ 0x11 ∷ 0x2c ∷ 0x72 ∷ 0x17 ∷ 0x73 ∷ 0x17 ∷ 0x74 ∷ 0x17 ∷ 0x8c ∷ 0x01 ∷ 0x17 ∷ 0x00 ∷ 0x00 ∷ 0x02 ∷ 0x34 ∷ 0x00 ∷ 0x03 ∷ 0x25 ∷ 0x02 ∷ 0x22 ∷ 0x00 ∷ 0x00 ∷ 0x00 ∷ []); line = []; str = (0x78 ∷ 0x00 ∷ 0x79 ∷ 0x7a ∷ 0x00 ∷ []); loc = []; ranges = [] }; line_str = []; str_offsets = (0x00 ∷ 0x00 ∷ 0x02 ∷ 0x00 ∷ 0x00 ∷ 0x00 ∷ 0x00 ∷ 0x00 ∷ 0x00 ∷ 0x00 ∷ []); addr = (0x00 ∷ 0x07 ∷ 0x00 ∷ 0x00 ∷ 0x00 ∷ 0x09 ∷ 0x00 ∷ 0x00 ∷ 0x00 ∷ []); loclists = (0x00 ∷ 0x00 ∷ 0x00 ∷ 0x14 ∷ 0x00 ∷ 0x00 ∷ 0x00 ∷ 0x1e ∷ 0x00 ∷ 0x00 ∷ 0x00 ∷ []); rnglists = (0x00 ∷ 0x00 ∷ 0x00 ∷ 0x00 ∷ 0x28 ∷ 0x00 ∷ 0x00 ∷ 0x00 ∷ 0x32 ∷ 0x00 ∷ 0x00 ∷ 0x00 ∷ []) }

index_forms : units5 index_forms_sections ≡ (
    tree 0 5 (
    entry 12 0 0x11 (attr 0x03 (value.Text (0x78 ∷ [])) ∷ attr 0x11 (value.Address 7) ∷ attr 0x02 (value.Offset 33) ∷ attr 0x55 (value.Offset 44) ∷ attr 0x03 (value.Text (0x79 ∷ 0x7a ∷ [])) ∷ attr 0x03 (value.Text (0x78 ∷ [])) ∷ attr 0x03 (value.Text (0x79 ∷ 0x7a ∷ [])) ∷ attr 0x03 (value.Text (0x78 ∷ [])) ∷ attr 0x11 (value.Address 9) ∷ attr 0x11 (value.Address 7) ∷ attr 0x11 (value.Address 9) ∷ attr 0x11 (value.Address 7) ∷ attr 0x72 (value.Offset 2) ∷ attr 0x73 (value.Offset 1) ∷ attr 0x74 (value.Offset 4) ∷ attr 0x8c (value.Offset 3) ∷ []) ∷
    entry 53 1 0x34 (attr 0x03 (value.Text (0x79 ∷ 0x7a ∷ [])) ∷ attr 0x02 (value.Offset 33) ∷ []) ∷ []) ∷ [])
unfolding unsigned_at u64_at signed_at s64_at last_signed byte_item one_of_item run_item rest_item u64_item s64_item until_end to_end_item steps_while_due steps_until_done each_item ended_from ended_item number_item text_item unit_block_item pair_item table_item abbrevs_item plain_item named_item slot_item attributes_item step_item entries_item padding_item unit_item whole_unit answer_item answers_of units_of header4_item shapes4_item header5_item shapes5_item units5
index_forms = refl

-- an index without a base
abbrev no_base_sections : SectionBytes5
no_base_sections = record { base = record { info = (0x0a ∷ 0x00 ∷ 0x00 ∷ 0x00 ∷ 0x05 ∷ 0x00 ∷ 0x01 ∷ 0x04 ∷ 0x00 ∷ 0x00 ∷ 0x00 ∷ 0x00 ∷ 0x01 ∷ 0x00 ∷ []); abbreviations = (0x01 ∷ 0x11 ∷ 0x00 ∷ 0x11 ∷ 0x1b ∷ 0x00 ∷ 0x00 ∷ 0x00 ∷ []); line = []; str = []; loc = []; ranges = [] }; line_str = []; str_offsets = []; addr = (0x07 ∷ 0x00 ∷ 0x00 ∷ 0x00 ∷ []); loclists = []; rnglists = [] }

no_base : units5 no_base_sections ≡ (
    unread 0 ∷ [])
unfolding unsigned_at u64_at signed_at s64_at last_signed byte_item one_of_item run_item rest_item u64_item s64_item until_end to_end_item steps_while_due steps_until_done each_item ended_from ended_item number_item text_item unit_block_item pair_item table_item abbrevs_item plain_item named_item slot_item attributes_item step_item entries_item padding_item unit_item whole_unit answer_item answers_of units_of header4_item shapes4_item header5_item shapes5_item units5
no_base = refl

-- an entry past its section
abbrev past_table_sections : SectionBytes5
past_table_sections = record { base = record { info = (0x0e ∷ 0x00 ∷ 0x00 ∷ 0x00 ∷ 0x05 ∷ 0x00 ∷ 0x01 ∷ 0x04 ∷ 0x00 ∷ 0x00 ∷ 0x00 ∷ 0x00 ∷ 0x01 ∷ 0x00 ∷ 0x01 ∷ 0x00 ∷ 0x00 ∷ 0x00 ∷ []); abbreviations = (0x01 ∷ 0x11 ∷ 0x00 ∷ 0x11 ∷ 0x1b ∷ 0x73 ∷ 0x17 ∷ 0x00 ∷ 0x00 ∷ 0x00 ∷ []); line = []; str = []; loc = []; ranges = [] }; line_str = []; str_offsets = []; addr = (0x07 ∷ 0x00 ∷ 0x00 ∷ 0x00 ∷ []); loclists = []; rnglists = [] }

past_table : units5 past_table_sections ≡ (
    unread 0 ∷ [])
unfolding unsigned_at u64_at signed_at s64_at last_signed byte_item one_of_item run_item rest_item u64_item s64_item until_end to_end_item steps_while_due steps_until_done each_item ended_from ended_item number_item text_item unit_block_item pair_item table_item abbrevs_item plain_item named_item slot_item attributes_item step_item entries_item padding_item unit_item whole_unit answer_item answers_of units_of header4_item shapes4_item header5_item shapes5_item units5
past_table = refl

-- a base counts on the root alone
abbrev base_of_a_child_sections : SectionBytes5
base_of_a_child_sections = record { base = record { info = (0x10 ∷ 0x00 ∷ 0x00 ∷ 0x00 ∷ 0x05 ∷ 0x00 ∷ 0x01 ∷ 0x04 ∷ 0x00 ∷ 0x00 ∷ 0x00 ∷ 0x00 ∷ 0x01 ∷ 0x02 ∷ 0x00 ∷ 0x00 ∷ 0x00 ∷ 0x00 ∷ 0x00 ∷ 0x00 ∷ []); abbreviations = (0x01 ∷ 0x11 ∷ 0x01 ∷ 0x00 ∷ 0x00 ∷ 0x02 ∷ 0x34 ∷ 0x00 ∷ 0x11 ∷ 0x1b ∷ 0x73 ∷ 0x17 ∷ 0x00 ∷ 0x00 ∷ 0x00 ∷ []); line = []; str = []; loc = []; ranges = [] }; line_str = []; str_offsets = []; addr = (0x07 ∷ 0x00 ∷ 0x00 ∷ 0x00 ∷ []); loclists = []; rnglists = [] }

base_of_a_child : units5 base_of_a_child_sections ≡ (
    unread 0 ∷ [])
unfolding unsigned_at u64_at signed_at s64_at last_signed byte_item one_of_item run_item rest_item u64_item s64_item until_end to_end_item steps_while_due steps_until_done each_item ended_from ended_item number_item text_item unit_block_item pair_item table_item abbrevs_item plain_item named_item slot_item attributes_item step_item entries_item padding_item unit_item whole_unit answer_item answers_of units_of header4_item shapes4_item header5_item shapes5_item units5
base_of_a_child = refl

-- the first attribute of a name counts, also where it is no offset
abbrev first_base_sections : SectionBytes5
first_base_sections = record { base = record { info = (0x0f ∷ 0x00 ∷ 0x00 ∷ 0x00 ∷ 0x05 ∷ 0x00 ∷ 0x01 ∷ 0x04 ∷ 0x00 ∷ 0x00 ∷ 0x00 ∷ 0x00 ∷ 0x01 ∷ 0x00 ∷ 0x00 ∷ 0x00 ∷ 0x00 ∷ 0x00 ∷ 0x00 ∷ []); abbreviations = (0x01 ∷ 0x11 ∷ 0x00 ∷ 0x11 ∷ 0x1b ∷ 0x73 ∷ 0x0b ∷ 0x73 ∷ 0x17 ∷ 0x00 ∷ 0x00 ∷ 0x00 ∷ []); line = []; str = []; loc = []; ranges = [] }; line_str = []; str_offsets = []; addr = (0x07 ∷ 0x00 ∷ 0x00 ∷ 0x00 ∷ []); loclists = []; rnglists = [] }

first_base : units5 first_base_sections ≡ (
    unread 0 ∷ [])
unfolding unsigned_at u64_at signed_at s64_at last_signed byte_item one_of_item run_item rest_item u64_item s64_item until_end to_end_item steps_while_due steps_until_done each_item ended_from ended_item number_item text_item unit_block_item pair_item table_item abbrevs_item plain_item named_item slot_item attributes_item step_item entries_item padding_item unit_item whole_unit answer_item answers_of units_of header4_item shapes4_item header5_item shapes5_item units5
first_base = refl

-- the text of an index runs out of its section
abbrev text_of_index_cut_sections : SectionBytes5
text_of_index_cut_sections = record { base = record { info = (0x0e ∷ 0x00 ∷ 0x00 ∷ 0x00 ∷ 0x05 ∷ 0x00 ∷ 0x01 ∷ 0x04 ∷ 0x00 ∷ 0x00 ∷ 0x00 ∷ 0x00 ∷ 0x01 ∷ 0x00 ∷ 0x00 ∷ 0x00 ∷ 0x00 ∷ 0x00 ∷ []); abbreviations = (0x01 ∷ 0x11 ∷ 0x00 ∷ 0x03 ∷ 0x1a ∷ 0x72 ∷ 0x17 ∷ 0x00 ∷ 0x00 ∷ 0x00 ∷ []); line = []; str = (0x78 ∷ []); loc = []; ranges = [] }; line_str = []; str_offsets = (0x00 ∷ 0x00 ∷ 0x00 ∷ 0x00 ∷ []); addr = []; loclists = []; rnglists = [] }

text_of_index_cut : units5 text_of_index_cut_sections ≡ (
    unread 0 ∷ [])
unfolding unsigned_at u64_at signed_at s64_at last_signed byte_item one_of_item run_item rest_item u64_item s64_item until_end to_end_item steps_while_due steps_until_done each_item ended_from ended_item number_item text_item unit_block_item pair_item table_item abbrevs_item plain_item named_item slot_item attributes_item step_item entries_item padding_item unit_item whole_unit answer_item answers_of units_of header4_item shapes4_item header5_item shapes5_item units5
text_of_index_cut = refl

-- an index form in a unit of version 4
abbrev index_in_version4_sections : SectionBytes5
index_in_version4_sections = record { base = record { info = (0x0d ∷ 0x00 ∷ 0x00 ∷ 0x00 ∷ 0x04 ∷ 0x00 ∷ 0x00 ∷ 0x00 ∷ 0x00 ∷ 0x00 ∷ 0x04 ∷ 0x01 ∷ 0x00 ∷ 0x00 ∷ 0x00 ∷ 0x00 ∷ 0x00 ∷ []); abbreviations = (0x01 ∷ 0x11 ∷ 0x00 ∷ 0x03 ∷ 0x1a ∷ 0x72 ∷ 0x17 ∷ 0x00 ∷ 0x00 ∷ 0x00 ∷ []); line = []; str = (0x78 ∷ 0x00 ∷ []); loc = []; ranges = [] }; line_str = []; str_offsets = (0x00 ∷ 0x00 ∷ 0x00 ∷ 0x00 ∷ []); addr = []; loclists = []; rnglists = [] }

index_in_version4 : units5 index_in_version4_sections ≡ (
    unread 0 ∷ [])
unfolding unsigned_at u64_at signed_at s64_at last_signed byte_item one_of_item run_item rest_item u64_item s64_item until_end to_end_item steps_while_due steps_until_done each_item ended_from ended_item number_item text_item unit_block_item pair_item table_item abbrevs_item plain_item named_item slot_item attributes_item step_item entries_item padding_item unit_item whole_unit answer_item answers_of units_of header4_item shapes4_item header5_item shapes5_item units5
index_in_version4 = refl

-- the worked vector S in version 5
abbrev vector_s5_sections : SectionBytes5
vector_s5_sections = record { base = record { info = (0x7e ∷ 0x00 ∷ 0x00 ∷ 0x00 ∷ 0x05 ∷ 0x00 ∷ 0x01 ∷ 0x04 ∷ 0x00 ∷ 0x00 ∷ 0x00 ∷ 0x00 ∷ 0x01 ∷ 0x74 ∷ 0x2e ∷ 0x63 ∷ 0x00 ∷ 0x00 ∷ 0x00 ∷ 0x00 ∷ 0x00 ∷ 0x02 ∷ 0x00 ∷ 0x00 ∷ 0x00 ∷ 0x2f ∷ 0x00 ∷ 0x00 ∷ 0x00 ∷ 0x02 ∷ 0x66 ∷ 0x00 ∷ 0x02 ∷ 0x00 ∷ 0x00 ∷ 0x00 ∷ 0x2f ∷ 0x00 ∷ 0x00 ∷ 0x00 ∷ 0x04 ∷ 0xed ∷ 0x00 ∷ 0x02 ∷ 0x9f ∷ 0x50 ∷ 0x00 ∷ 0x00 ∷ 0x00 ∷ 0x03 ∷ 0x70 ∷ 0x00 ∷ 0x02 ∷ 0x91 ∷ 0x08 ∷ 0x5f ∷ 0x00 ∷ 0x00 ∷ 0x00 ∷ 0x04 ∷ 0x78 ∷ 0x00 ∷ 0x02 ∷ 0x91 ∷ 0x0c ∷ 0x50 ∷ 0x00 ∷ 0x00 ∷ 0x00 ∷ 0x04 ∷ 0x73 ∷ 0x00 ∷ 0x02 ∷ 0x91 ∷ 0x10 ∷ 0x64 ∷ 0x00 ∷ 0x00 ∷ 0x00 ∷ 0x00 ∷ 0x05 ∷ 0x69 ∷ 0x6e ∷ 0x74 ∷ 0x00 ∷ 0x05 ∷ 0x04 ∷ 0x05 ∷ 0x63 ∷ 0x68 ∷ 0x61 ∷ 0x72 ∷ 0x00 ∷ 0x06 ∷ 0x01 ∷ 0x06 ∷ 0x50 ∷ 0x00 ∷ 0x00 ∷ 0x00 ∷ 0x07 ∷ 0x53 ∷ 0x00 ∷ 0x08 ∷ 0x08 ∷ 0x61 ∷ 0x00 ∷ 0x50 ∷ 0x00 ∷ 0x00 ∷ 0x00 ∷ 0x00 ∷ 0x08 ∷ 0x62 ∷ 0x00 ∷ 0x79 ∷ 0x00 ∷ 0x00 ∷ 0x00 ∷ 0x04 ∷ 0x00 ∷ 0x09 ∷ 0x57 ∷ 0x00 ∷ 0x00 ∷ 0x00 ∷ 0x0a ∷ 0x04 ∷ 0x00 ∷ 0x00 ∷ []); abbreviations = (0x01 ∷ 0x11 ∷ 0x01 ∷ 0x03 ∷ 0x08 ∷ 0x10 ∷ 0x17 ∷ 0x11 ∷ 0x01 ∷ 0x12 ∷ 0x06 ∷ 0x00 ∷ 0x00 ∷ 0x02 ∷ 0x2e ∷ 0x01 ∷ 0x03 ∷ 0x08 ∷ 0x11 ∷ 0x01 ∷ 0x12 ∷ 0x06 ∷ 0x40 ∷ 0x18 ∷ 0x49 ∷ 0x13 ∷ 0x00 ∷ 0x00 ∷ 0x03 ∷ 0x05 ∷ 0x00 ∷ 0x03 ∷ 0x08 ∷ 0x02 ∷ 0x18 ∷ 0x49 ∷ 0x13 ∷ 0x00 ∷ 0x00 ∷ 0x04 ∷ 0x34 ∷ 0x00 ∷ 0x03 ∷ 0x08 ∷ 0x02 ∷ 0x18 ∷ 0x49 ∷ 0x13 ∷ 0x00 ∷ 0x00 ∷ 0x05 ∷ 0x24 ∷ 0x00 ∷ 0x03 ∷ 0x08 ∷ 0x3e ∷ 0x0b ∷ 0x0b ∷ 0x0b ∷ 0x00 ∷ 0x00 ∷ 0x06 ∷ 0x0f ∷ 0x00 ∷ 0x49 ∷ 0x13 ∷ 0x00 ∷ 0x00 ∷ 0x07 ∷ 0x13 ∷ 0x01 ∷ 0x03 ∷ 0x08 ∷ 0x0b ∷ 0x0b ∷ 0x00 ∷ 0x00 ∷ 0x08 ∷ 0x0d ∷ 0x00 ∷ 0x03 ∷ 0x08 ∷ 0x49 ∷ 0x13 ∷ 0x38 ∷ 0x0b ∷ 0x00 ∷ 0x00 ∷ 0x09 ∷ 0x01 ∷ 0x01 ∷ 0x49 ∷ 0x13 ∷ 0x00 ∷ 0x00 ∷ 0x0a ∷ 0x21 ∷ 0x00 ∷ 0x37 ∷ 0x0b ∷ 0x00 ∷ 0x00 ∷ 0x00 ∷ []); line = []; str = []; loc = []; ranges = [] }; line_str = []; str_offsets = []; addr = []; loclists = []; rnglists = [] }

vector_s5 : units5 vector_s5_sections ≡ (
    tree 0 5 (
    entry 12 0 0x11 (attr 0x03 (value.Text (0x74 ∷ 0x2e ∷ 0x63 ∷ [])) ∷ attr 0x10 (value.Offset 0) ∷ attr 0x11 (value.Address 2) ∷ attr 0x12 (value.Constant 47) ∷ []) ∷
    entry 29 1 0x2e (attr 0x03 (value.Text (0x66 ∷ [])) ∷ attr 0x11 (value.Address 2) ∷ attr 0x12 (value.Constant 47) ∷ attr 0x40 (value.Block (0xed ∷ 0x00 ∷ 0x02 ∷ 0x9f ∷ [])) ∷ attr 0x49 (value.Reference 80) ∷ []) ∷
    entry 49 2 0x05 (attr 0x03 (value.Text (0x70 ∷ [])) ∷ attr 0x02 (value.Block (0x91 ∷ 0x08 ∷ [])) ∷ attr 0x49 (value.Reference 95) ∷ []) ∷
    entry 59 2 0x34 (attr 0x03 (value.Text (0x78 ∷ [])) ∷ attr 0x02 (value.Block (0x91 ∷ 0x0c ∷ [])) ∷ attr 0x49 (value.Reference 80) ∷ []) ∷
    entry 69 2 0x34 (attr 0x03 (value.Text (0x73 ∷ [])) ∷ attr 0x02 (value.Block (0x91 ∷ 0x10 ∷ [])) ∷ attr 0x49 (value.Reference 100) ∷ []) ∷
    entry 80 1 0x24 (attr 0x03 (value.Text (0x69 ∷ 0x6e ∷ 0x74 ∷ [])) ∷ attr 0x3e (value.Constant 5) ∷ attr 0x0b (value.Constant 4) ∷ []) ∷
    entry 87 1 0x24 (attr 0x03 (value.Text (0x63 ∷ 0x68 ∷ 0x61 ∷ 0x72 ∷ [])) ∷ attr 0x3e (value.Constant 6) ∷ attr 0x0b (value.Constant 1) ∷ []) ∷
    entry 95 1 0x0f (attr 0x49 (value.Reference 80) ∷ []) ∷
    entry 100 1 0x13 (attr 0x03 (value.Text (0x53 ∷ [])) ∷ attr 0x0b (value.Constant 8) ∷ []) ∷
    entry 104 2 0x0d (attr 0x03 (value.Text (0x61 ∷ [])) ∷ attr 0x49 (value.Reference 80) ∷ attr 0x38 (value.Constant 0) ∷ []) ∷
    entry 112 2 0x0d (attr 0x03 (value.Text (0x62 ∷ [])) ∷ attr 0x49 (value.Reference 121) ∷ attr 0x38 (value.Constant 4) ∷ []) ∷
    entry 121 1 0x01 (attr 0x49 (value.Reference 87) ∷ []) ∷
    entry 126 2 0x21 (attr 0x37 (value.Constant 4) ∷ []) ∷ []) ∷ [])
unfolding unsigned_at u64_at signed_at s64_at last_signed byte_item one_of_item run_item rest_item u64_item s64_item until_end to_end_item steps_while_due steps_until_done each_item ended_from ended_item number_item text_item unit_block_item pair_item table_item abbrevs_item plain_item named_item slot_item attributes_item step_item entries_item padding_item unit_item whole_unit answer_item answers_of units_of header4_item shapes4_item header5_item shapes5_item units5
vector_s5 = refl
