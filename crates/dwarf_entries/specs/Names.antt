-- Attributes of types and variables (DWARF 4, 7.5.4; the same in DWARF 5).
use Rattle.std.specs.Prelude.{ℕ, ℤ, pos, negsuc, Option, Some, None, option_and_then}
use Rattle.dwarf_info.specs.declared.entry.AttrValue.{AttrValue}
use Rattle.dwarf_info.specs.Attributes.{as_number}

abbrev pub at_byte_size : ℕ
at_byte_size = 0x0b

abbrev pub at_bit_size : ℕ
at_bit_size = 0x0d

abbrev pub at_const_value : ℕ
at_const_value = 0x1c

abbrev pub at_upper_bound : ℕ
at_upper_bound = 0x2f

abbrev pub at_count : ℕ
at_count = 0x37

abbrev pub at_data_member_location : ℕ
at_data_member_location = 0x38

abbrev pub at_encoding : ℕ
at_encoding = 0x3e

abbrev pub at_frame_base : ℕ
at_frame_base = 0x40

abbrev pub at_type : ℕ
at_type = 0x49

abbrev pub at_data_bit_offset : ℕ
at_data_bit_offset = 0x6b

abbrev pub not_negative : ℤ → Option ℕ
not_negative (pos n) = Some n
not_negative (negsuc n) = None

-- a constant that is not below 0
abbrev pub as_natural : AttrValue → Option ℕ
as_natural v = option_and_then not_negative (as_number v)
