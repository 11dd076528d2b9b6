-- Reading units (DWARF 4, 7.5.1), for the versions that a rule gives.
use Rattle.std.specs.Prelude.{ℕ, List, [], length, map, flat_map, Option, Some, None, option_map, Ok, Err, ◌==◌, codes, if◌then◌else◌}
use Rattle.std.specs.List.{list_any, list_all}
use Rattle.wasm_bytes.specs.Place.{Place, Read}
use Rattle.wasm_bytes.specs.Reading.{◌>>=◌, ◌▷◌, mapped, checked, rest_item, to_end_item}
use Rattle.dwarf_bytes.specs.Items.{item_or_none, number_item, unit_block_item, read_at, reading_of, is_zero}
use Rattle.dwarf_info.specs.declared.form.IndexTable.{IndexTable}
use Rattle.dwarf_info.specs.declared.form.Shape.{Shape}
use Rattle.dwarf_info.specs.declared.entry.AttrValue.{AttrValue}
use Rattle.dwarf_info.specs.declared.entry.AttrValue.TheVariants.{Reference, Other}
use Rattle.dwarf_info.specs.declared.entry.Attribute.{Attribute}
use Rattle.dwarf_info.specs.declared.entry.Entry.{Entry}
use Rattle.dwarf_info.specs.declared.entry.Unit.{Unit as UnitTree}
use Rattle.dwarf_info.specs.declared.entry.UnitAnswer.{UnitAnswer}
use Rattle.dwarf_info.specs.declared.entry.UnitAnswer.TheVariants.{Tree, Unreadable}
use Rattle.dwarf_info.specs.Sections.{SectionBytes5}
use Rattle.dwarf_info.specs.Forms.{Rows}
use Rattle.dwarf_info.specs.Values.{Context}
use Rattle.dwarf_info.specs.Entries.{seed, step_item, entries_item, root_attributes}

-- what a version says of its units
pub record Version : Type 0 where
  -- what stands between the version and the entries, which gives the offset of the abbreviations
  pub header : Place → Read ℕ
  -- a table of abbreviations, with the forms of its codes
  pub shapes : Place → Read (List Shape)
  pub rows : Rows
  -- what an index of a table stands for, in a unit whose root has these attributes
  pub index : SectionBytes5 → List Attribute → IndexTable → ℕ → Option AttrValue

-- the versions that are read
abbrev pub Versions : Type 0
Versions = ℕ → Option Version

-- ---- one unit

-- The entries of a unit. What its indices stand for is found by attributes of its root, so the root is looked at for them first, where
-- no index is looked up.
abbrev pub unsettled : IndexTable → ℕ → Option AttrValue
unsettled table n = Some Other

abbrev pub context : SectionBytes5 → Version → ℕ → List Shape → (IndexTable → ℕ → Option AttrValue) → Context
context s v origin table index = record { sections = s; origin = origin; rows = v.rows; table = table; index = index }

abbrev pub rooted_item : SectionBytes5 → Version → ℕ → List Shape → Place → Read (List Entry)
rooted_item s v origin table p =
    step_item (context s v origin table unsettled) seed p
    >>= λ root. entries_item (context s v origin table (v.index s (root_attributes root.0.entries))) p

-- bytes of zero up to the end
unfoldable pub padding_item : Place → Read (List ℕ)
padding_item = checked (list_all is_zero) rest_item

abbrev pub unit_of : ℕ → ℕ → List Entry → UnitTree
unit_of origin version entries = record { at = origin; version = version; entries = entries }

-- what stands behind the version: a header, entries by the abbreviations that it names, and padding
abbrev pub body_item : SectionBytes5 → ℕ → ℕ → Version → Place → Read UnitTree
body_item s origin version v = v.header ▷ λ offset.
    item_or_none (option_map (λ table. mapped (unit_of origin version) (rooted_item s v origin table)) (read_at v.shapes s.base.abbreviations offset))

unfoldable pub unit_item : SectionBytes5 → Versions → ℕ → Place → Read UnitTree
unit_item s versions origin = number_item 2 ▷ λ version. item_or_none (option_map (body_item s origin version) (versions version))

-- all of a unit, whose length stands at that offset
unfoldable pub whole_unit : SectionBytes5 → Versions → ℕ → Place → Read UnitTree
whole_unit s versions origin = unit_item s versions origin ▷ λ u. mapped (λ zeros. u) padding_item

-- ---- all units

abbrev pub answer_of : ℕ → Option UnitTree → UnitAnswer
answer_of at (Some u) = Tree u
answer_of at None = Unreadable (codes ".debug_info") at

-- A unit, or in its place that it has no reading. Where its length has none, the rest of the section is that one unit.
abbrev pub answer_in : SectionBytes5 → Versions → Place → Read Place → Read UnitAnswer
answer_in s versions p (Ok x) = Ok (answer_of p.at (reading_of (whole_unit s versions p.at x.0)), x.1)
answer_in s versions p (Err at) = Ok (answer_of p.at None, record p { at = length p.block })

unfoldable pub answer_item : SectionBytes5 → Versions → Place → Read UnitAnswer
answer_item s versions p = answer_in s versions p (unit_block_item p)

abbrev pub all_of : {A : Type 0} → Option (List A) → List A
all_of (Some xs) = xs
all_of None = []

-- the units of the section in order, in which references are not settled; this never fails
unfoldable pub answers_of : SectionBytes5 → Versions → List UnitAnswer
answers_of s versions = all_of (read_at (to_end_item (answer_item s versions)) s.base.info 0)

-- ---- references

abbrev pub entries_in : UnitAnswer → List Entry
entries_in (Tree u) = u.entries
entries_in (Unreadable section at) = []

-- the offsets of all entries of all units
abbrev pub offsets_of : List UnitAnswer → List ℕ
offsets_of units = map (λ e. e.at) (flat_map entries_in units)

-- A reference that meets no entry refers to nothing.
abbrev pub settled_value : List ℕ → AttrValue → AttrValue
settled_value offsets (Reference at) = if list_any (λ o. o == at) offsets then Reference at else Other
settled_value offsets v = v

abbrev pub settled_entry : List ℕ → Entry → Entry
settled_entry offsets e = record e { attributes = map (λ a. record { name = a.name; value = settled_value offsets a.value }) e.attributes }

abbrev pub settled_answer : List ℕ → UnitAnswer → UnitAnswer
settled_answer offsets (Tree u) = Tree (record u { entries = map (settled_entry offsets) u.entries })
settled_answer offsets (Unreadable section at) = Unreadable section at

abbrev pub settled : List UnitAnswer → List UnitAnswer
settled units = map (settled_answer (offsets_of units)) units

-- the units of the section in order
unfoldable pub units_of : SectionBytes5 → Versions → List UnitAnswer
units_of s versions = settled (answers_of s versions)
