-- The values of attributes, by form (DWARF 4, 7.5.4).
use Rattle.std.specs.Prelude.{ℕ, ◌+◌, ◌^◌, List, Option, Some, option_map, true, not, ◌==◌, nat_lt, if◌then◌else◌}
use Rattle.wasm_bytes.specs.Place.{Place, Read}
use Rattle.wasm_bytes.specs.Reading.{◌▷◌, mapped, done_item, run_item, s64_item, u64_item}
use Rattle.dwarf_bytes.specs.Items.{no_item, item_or_none, meaning_item, each_item, number_item, text_item, read_at}
use Rattle.dwarf_info.specs.declared.form.NumberForm.{NumberForm}
use Rattle.dwarf_info.specs.declared.form.NumberForm.TheVariants.{Bytes, Leb}
use Rattle.dwarf_info.specs.declared.form.TextSection.{TextSection}
use Rattle.dwarf_info.specs.declared.form.TextSection.TheVariants.{Str, LineStr}
use Rattle.dwarf_info.specs.declared.form.IndexTable.{IndexTable}
use Rattle.dwarf_info.specs.declared.form.Meaning.{Meaning}
use Rattle.dwarf_info.specs.declared.form.Meaning.TheVariants as means
use Rattle.dwarf_info.specs.declared.form.Form.{Form}
use Rattle.dwarf_info.specs.declared.form.Form.TheVariants as form
use Rattle.dwarf_info.specs.declared.form.Slot.{Slot}
use Rattle.dwarf_info.specs.declared.form.Shape.{Shape}
use Rattle.dwarf_info.specs.declared.entry.AttrValue.{AttrValue}
use Rattle.dwarf_info.specs.declared.entry.AttrValue.TheVariants as value
use Rattle.dwarf_info.specs.declared.entry.Attribute.{Attribute}
use Rattle.dwarf_info.specs.Sections.{SectionBytes5}
use Rattle.dwarf_info.specs.Forms.{Rows, form_of}

-- what the entries of a unit are read by
pub record Context : Type 0 where
  pub sections : SectionBytes5
  -- the offset of the unit, from which its references count
  pub origin : ℕ
  pub rows : Rows
  pub table : List Shape
  -- what an index of a table stands for
  pub index : IndexTable → ℕ → Option AttrValue

-- ---- what a number stands for

abbrev pub texts : SectionBytes5 → TextSection → List ℕ
texts s Str = s.base.str
texts s LineStr = s.line_str

-- the text at an offset of a section of texts
abbrev pub text_at : SectionBytes5 → TextSection → ℕ → Option (List ℕ)
text_at s section = read_at text_item (texts s section)

-- A reference to the entry at an offset. Whether one stands there is settled when all units are read; none stands past 2^32 - 1.
abbrev pub refers_to : ℕ → AttrValue
refers_to at = if nat_lt at (2 ^ 32) then value.Reference at else value.Other

abbrev pub meant : Context → Meaning → ℕ → Option AttrValue
meant c means.Address n = Some (value.Address n)
meant c means.Constant n = Some (value.Constant n)
meant c means.Flag n = Some (value.Flag (not (n == 0)))
meant c means.Offset n = Some (value.Offset n)
meant c (means.TextIn section) n = option_map value.Text (text_at c.sections section n)
meant c means.InUnit n = Some (refers_to (c.origin + n))
meant c means.InSection n = Some (refers_to n)
meant c (means.IndexOf table) n = c.index table n

-- ---- forms

abbrev pub width_item : NumberForm → Place → Read ℕ
width_item (Bytes width) = number_item width
width_item Leb = u64_item

-- a value in a form that is stated
unfoldable pub plain_item : Context → Form → Place → Read AttrValue
plain_item c (form.Number width meaning) = meaning_item (meant c meaning) (width_item width)
plain_item c (form.Block width) = mapped value.Block (width_item width ▷ run_item)
plain_item c form.Text = mapped value.Text text_item
plain_item c form.Signed = mapped value.Signed s64_item
plain_item c form.Present = done_item (value.Flag true)
plain_item c (form.Skipped width) = mapped (λ bytes. value.Other) (run_item width)
plain_item c (form.Implicit z) = done_item (value.Signed z)
plain_item c form.Indirect = no_item

-- A value whose form stands in front of it, which is no `indirect` again. An implicit value has no row, because it stands in the table.
unfoldable pub named_item : Context → Place → Read AttrValue
named_item c = u64_item ▷ λ code. item_or_none (option_map (plain_item c) (form_of c.rows code))

abbrev pub value_item : Context → Form → Place → Read AttrValue
value_item c form.Indirect = named_item c
value_item c f = plain_item c f

abbrev pub attribute_of : Slot → AttrValue → Attribute
attribute_of slot v = record { name = slot.attribute; value = v }

unfoldable pub slot_item : Context → Slot → Place → Read Attribute
slot_item c slot = mapped (attribute_of slot) (item_or_none (option_map (value_item c) slot.form))

-- the attributes of an entry, as its abbreviation lists them
unfoldable pub attributes_item : Context → List Slot → Place → Read (List Attribute)
attributes_item c = each_item (slot_item c)
