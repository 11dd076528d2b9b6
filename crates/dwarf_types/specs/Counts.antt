-- Counts of arrays (DWARF 4, 5.4 and 5.11).
use Rattle.std.specs.Prelude.{ℕ, pos, ◌+ℤ◌, List, [], ◌∷◌, map, Option, Some, None, option_map, option_and_then}
use Rattle.dwarf_info.specs.declared.entry.AttrValue.{AttrValue}
use Rattle.dwarf_info.specs.declared.entry.Entry.{Entry}
use Rattle.dwarf_info.specs.Attributes.{attribute, as_number}
use Rattle.dwarf_entries.specs.Names.{as_natural, not_negative, at_count, at_upper_bound}
use Rattle.dwarf_entries.specs.Standing.{Standing, children_tagged}
use Rattle.dwarf_entries.specs.Tags.{tag_subrange}

-- the count that an upper bound makes
abbrev pub bound_count : AttrValue → Option ℕ
bound_count v = option_and_then not_negative (option_map (λ u. u +ℤ pos 1) (as_number v))

-- count; where there is none, upper_bound + 1
abbrev pub count_said : Option AttrValue → Option AttrValue → Option ℕ
count_said (Some v) bound = as_natural v
count_said None bound = option_and_then bound_count bound

abbrev pub subrange_count : Entry → Option ℕ
subrange_count e = count_said (attribute at_count e.attributes) (attribute at_upper_bound e.attributes)

-- an array without subranges has one count, which is not known
abbrev pub one_at_least : List (Option ℕ) → List (Option ℕ)
one_at_least [] = None ∷ []
one_at_least (c ∷ cs) = c ∷ cs

unfoldable pub counts : Standing → List (Option ℕ)
counts s = one_at_least (map subrange_count (children_tagged tag_subrange s))
