-- Tags of entries (DWARF 4, 7.5.3; the same in DWARF 5).
use Rattle.std.specs.Prelude.{ℕ}

abbrev pub tag_array : ℕ
tag_array = 0x01

abbrev pub tag_class : ℕ
tag_class = 0x02

abbrev pub tag_enumeration : ℕ
tag_enumeration = 0x04

abbrev pub tag_formal_parameter : ℕ
tag_formal_parameter = 0x05

abbrev pub tag_lexical_block : ℕ
tag_lexical_block = 0x0b

abbrev pub tag_member : ℕ
tag_member = 0x0d

abbrev pub tag_pointer : ℕ
tag_pointer = 0x0f

abbrev pub tag_reference : ℕ
tag_reference = 0x10

abbrev pub tag_structure : ℕ
tag_structure = 0x13

abbrev pub tag_typedef : ℕ
tag_typedef = 0x16

abbrev pub tag_union : ℕ
tag_union = 0x17

abbrev pub tag_inlined_subroutine : ℕ
tag_inlined_subroutine = 0x1d

abbrev pub tag_subrange : ℕ
tag_subrange = 0x21

abbrev pub tag_base : ℕ
tag_base = 0x24

abbrev pub tag_const : ℕ
tag_const = 0x26

abbrev pub tag_enumerator : ℕ
tag_enumerator = 0x28

abbrev pub tag_subprogram : ℕ
tag_subprogram = 0x2e

abbrev pub tag_variable : ℕ
tag_variable = 0x34

abbrev pub tag_volatile : ℕ
tag_volatile = 0x35

abbrev pub tag_restrict : ℕ
tag_restrict = 0x37

abbrev pub tag_rvalue_reference : ℕ
tag_rvalue_reference = 0x42
