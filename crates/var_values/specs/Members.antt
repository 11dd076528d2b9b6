-- Where the members of a structure stand (DWARF 4, 5.5.6).
use Rattle.std.specs.Prelude.{ℕ, ◌||◌, Bool, false, Option, Some, None, option_map, unwrap_or, if◌then◌else◌}
use Rattle.dwarf_info.specs.declared.entry.AttrValue.{AttrValue}
use Rattle.dwarf_info.specs.declared.entry.AttrValue.TheVariants.{Flag}
use Rattle.dwarf_info.specs.declared.entry.Entry.{Entry}
use Rattle.dwarf_info.specs.Attributes.{attribute, valued, as_number}
use Rattle.dwarf_entries.specs.Names.{as_natural, at_bit_size, at_data_bit_offset, at_data_member_location}
use Rattle.var_values.specs.declared.mark.Mark.TheVariants.{UnsupportedType}
use Rattle.var_values.specs.declared.source.Source.TheVariants.{Lost}
use Rattle.var_values.specs.Places.{Place, start_of, constant_source, further, in_bits}

-- a member without a location stands where the structure begins
abbrev pub at_location : Place → Option AttrValue → Option Place
at_location p None = Some p
at_location p (Some v) = option_map (further p) (as_number v)

abbrev pub at_bits : Place → Option ℕ → Option ℕ → Option Place
at_bits p (Some count) (Some first) = Some (in_bits p (record { first = first; count = count }))
at_bits p _ _ = None

-- the place of a member that is part of a structure that stands there; None where it is of another form
unfoldable pub part_at : Place → Entry → Option Place
part_at p e = elim (attribute at_bit_size e.attributes) [
  | None ↦ at_location p (attribute at_data_member_location e.attributes)
  | Some v ↦ at_bits p (valued as_natural at_bit_size e.attributes) (valued as_natural at_data_bit_offset e.attributes)
]

-- ---- static members: external or only declared ones, which are no part of a structure

abbrev pub at_declaration : ℕ
at_declaration = 0x3c

abbrev pub at_external : ℕ
at_external = 0x3f

abbrev pub is_set : Option AttrValue → Bool
is_set (Some (Flag b)) = b
is_set v = false

abbrev pub is_static : Entry → Bool
is_static e = is_set (attribute at_external e.attributes) || is_set (attribute at_declaration e.attributes)

-- ---- members

-- a static one is no more than its constant
abbrev pub member_at : Place → Entry → Option Place
member_at p e = if is_static e then Some (start_of (constant_source e.attributes)) else part_at p e

-- a member of another form is nowhere
abbrev pub unplaced : Place → Place
unplaced p = record { source = Lost UnsupportedType; offset = p.offset; bits = None }

abbrev pub member_place : Place → Entry → Place
member_place p e = unwrap_or (member_at p e) (unplaced p)
