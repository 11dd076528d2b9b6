-- Attributes of an entry. The first one of a name counts, and a value of another class than the one that is asked for counts as absent.
use Rattle.std.specs.Prelude.{ℕ, ℤ, pos, List, Option, Some, None, option_map, option_and_then, find, ◌==◌}
use Rattle.dwarf_info.specs.declared.entry.AttrValue.{AttrValue}
use Rattle.dwarf_info.specs.declared.entry.AttrValue.TheVariants.{Address, Constant, Signed, Block, Text, Reference, Offset}
use Rattle.dwarf_info.specs.declared.entry.Attribute.{Attribute}

abbrev pub attribute : ℕ → List Attribute → Option AttrValue
attribute name attributes = option_map (λ a. a.value) (find (λ a. a.name == name) attributes)

abbrev pub as_address : AttrValue → Option ℕ
as_address (Address n) = Some n
as_address v = None

-- a constant, with its sign
abbrev pub as_number : AttrValue → Option ℤ
as_number (Constant n) = Some (pos n)
as_number (Signed z) = Some z
as_number v = None

abbrev pub as_block : AttrValue → Option (List ℕ)
as_block (Block bytes) = Some bytes
as_block v = None

abbrev pub as_text : AttrValue → Option (List ℕ)
as_text (Text bytes) = Some bytes
as_text v = None

abbrev pub as_reference : AttrValue → Option ℕ
as_reference (Reference at) = Some at
as_reference v = None

abbrev pub as_offset : AttrValue → Option ℕ
as_offset (Offset at) = Some at
as_offset v = None

-- the value of an attribute, seen as one class
abbrev pub valued : {A : Type 0} → (AttrValue → Option A) → ℕ → List Attribute → Option A
valued class name attributes = option_and_then class (attribute name attributes)

-- the attributes that this project uses (DWARF 4, 7.5.4; from 0x72 on DWARF 5, 7.5.4)
abbrev pub location : ℕ
location = 0x02

abbrev pub name : ℕ
name = 0x03

abbrev pub stmt_list : ℕ
stmt_list = 0x10

abbrev pub low_pc : ℕ
low_pc = 0x11

abbrev pub high_pc : ℕ
high_pc = 0x12

abbrev pub abstract_origin : ℕ
abstract_origin = 0x31

abbrev pub specification : ℕ
specification = 0x47

abbrev pub ranges : ℕ
ranges = 0x55

abbrev pub str_offsets_base : ℕ
str_offsets_base = 0x72

abbrev pub addr_base : ℕ
addr_base = 0x73

abbrev pub rnglists_base : ℕ
rnglists_base = 0x74

abbrev pub loclists_base : ℕ
loclists_base = 0x8c
