-- Parts of texts of structures and arrays.
use Rattle.std.specs.Prelude.{ℕ, pos, List, [], ◌++◌, Bool, true, false, unwrap_or, codes, if◌then◌else◌}
use Rattle.std.specs.List.{flat_map, join_by}
use Rattle.dwarf_info.specs.declared.entry.Entry.{Entry}
use Rattle.dwarf_info.specs.declared.entry.UnitAnswer.{UnitAnswer}
use Rattle.dwarf_entries.specs.Standing.{Standing}
use Rattle.dwarf_types.specs.declared.behind.Typed.{Typed}
use Rattle.dwarf_types.specs.Types.{type_of}
use Rattle.dwarf_types.specs.Sizes.{type_size}
use Rattle.var_values.specs.declared.mark.Mark.TheVariants.{UnsupportedType}
use Rattle.var_values.specs.declared.source.Source.{Source}
use Rattle.var_values.specs.declared.source.Source.TheVariants.{Lost}
use Rattle.var_values.specs.Bytes.{Recorded}
use Rattle.var_values.specs.Places.{Place, constant_source, further}
use Rattle.var_values.specs.Members.{is_static}
use Rattle.var_values.specs.Values.{in_place, value_text}

-- texts between braces, where the first of them is still to come or not
abbrev pub joined : Bool → List (List ℕ) → List ℕ
joined true texts = join_by (λ t. t) (codes ", ") texts
joined false texts = flat_map (λ y. codes ", " ++ y) texts

abbrev pub separator : Bool → List ℕ
separator true = []
separator false = codes ", "

-- an element so many bytes from the start of an array on
abbrev pub element_text : List UnitAnswer → Recorded → ℕ → Typed → Place → ℕ → List ℕ
element_text units memory n t p z = in_place (value_text units memory n t (further p (pos z)))

-- the size of the innermost elements of an array, where it has one
abbrev pub inner_size : List UnitAnswer → Standing → ℕ
inner_size units s = unwrap_or (type_size units (type_of units s.entry.attributes)) 0

-- where the value of a member comes from that is no part of its structure
abbrev pub own_source : Entry → Source
own_source e = if is_static e then constant_source e.attributes else Lost UnsupportedType
