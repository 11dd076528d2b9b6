-- The text of a value, by recursion on its type (DWARF 4, 5.4, 5.5 and 5.7).
use Rattle.std.specs.Prelude.{ℕ, zero, suc, ◌*◌, nat_lt, min, pos, List, [], ◌∷◌, ◌++◌, map, drop, Option, Some, None, unwrap_or, Result, Ok, Err, if◌then◌else◌, codes}
use Rattle.std.specs.List.{join_by, range_with_len}
use Rattle.pm_text.specs.Names.{plain}
use Rattle.dwarf_info.specs.declared.entry.Entry.{Entry}
use Rattle.dwarf_info.specs.declared.entry.UnitAnswer.{UnitAnswer}
use Rattle.dwarf_entries.specs.Standing.{Standing}
use Rattle.dwarf_entries.specs.Origins.{name_or_empty, longest_chain}
use Rattle.dwarf_types.specs.declared.class.Class.{Class}
use Rattle.dwarf_types.specs.declared.class.Class.TheVariants as classes
use Rattle.dwarf_types.specs.declared.behind.Typed.{Typed}
use Rattle.dwarf_types.specs.declared.behind.Typed.TheVariants as typeds
use Rattle.dwarf_types.specs.Types.{class_at, type_of}
use Rattle.dwarf_types.specs.Counts.{counts}
use Rattle.dwarf_types.specs.Sizes.{type_size}
use Rattle.var_values.specs.declared.mark.Mark.{Mark}
use Rattle.var_values.specs.declared.mark.Mark.TheVariants.{TypeTooDeep, UnsupportedType}
use Rattle.var_values.specs.declared.source.Source.{Source}
use Rattle.var_values.specs.declared.source.Source.TheVariants.{Lost}
use Rattle.var_values.specs.Marks.{mark_text}
use Rattle.var_values.specs.Bytes.{Recorded}
use Rattle.var_values.specs.declared.item.Item.{Item}
use Rattle.var_values.specs.declared.item.Item.TheVariants.{Member, Unknown}
use Rattle.var_values.specs.Places.{Place, further}
use Rattle.var_values.specs.Scalars.{scalar_text}
use Rattle.var_values.specs.Members.{member_place}
use Rattle.var_values.specs.Suits.{suits}
use Rattle.var_values.specs.Variants.{items}

-- a text, or the mark that counts
abbrev pub Text : Type 0
Text = Result (List ℕ) Mark

-- a mark stands in the place of the text
abbrev pub in_place : Text → List ℕ
in_place (Ok text) = text
in_place (Err m) = mark_text m

-- ---- structures and arrays

abbrev pub braced : List (List ℕ) → List ℕ
braced texts = codes "{" ++ join_by (λ t. t) (codes ", ") texts ++ codes "}"

abbrev pub member_text : List UnitAnswer → (Typed → Place → Text) → Place → Entry → List ℕ
member_text units value p e = plain (name_or_empty units e.attributes) ++ codes " = " ++ in_place (value (type_of units e.attributes) (member_place p e))

-- the mark of a variant part stands without a name
abbrev pub item_text : List UnitAnswer → (Typed → Place → Text) → Place → Item → List ℕ
item_text units value p (Member x) = member_text units value p x.entry
item_text units value p (Unknown m) = mark_text m

abbrev pub shown_elements : ℕ
shown_elements = 64

abbrev pub dots : ℕ → List (List ℕ)
dots n = if nat_lt shown_elements n then codes "..." ∷ [] else []

-- n elements of this size, of which each has its text by its place
abbrev pub elements_text : (Place → Text) → ℕ → ℕ → Place → Text
elements_text text n size p =
    Ok (braced (map (λ i. in_place (text (further p (pos (i * size))))) (range_with_len 0 (min n shown_elements)) ++ dots n))

-- the size of the elements of an array with these counts, whose innermost elements have this size
abbrev pub row_size : List (Option ℕ) → ℕ → ℕ
row_size [] size = size
row_size (c ∷ cs) size = unwrap_or c 0 * row_size cs size

-- arrays of arrays: `text` is of the innermost elements
abbrev pub array_text : (Place → Text) → List (Option ℕ) → ℕ → Place → Text
array_text text [] size p = text p
array_text text (c ∷ cs) size p = elements_text (array_text text cs size) (unwrap_or c 0) (row_size cs size) p

-- ---- values

-- of that size
abbrev pub content_as : Class → List UnitAnswer → Recorded → (Typed → Place → Text) → Standing → ℕ → ℕ → Place → Text
content_as classes.Members units memory value s k size p = Ok (braced (map (item_text units value p) (items units memory p longest_chain s)))
content_as classes.Array units memory value s k size p =
    array_text (value (type_of units s.entry.attributes)) (drop k (counts s)) (unwrap_or (type_size units (type_of units s.entry.attributes)) 0) p
content_as c units memory value s k size p = scalar_text units memory s size p

-- a value that is nowhere has one mark for the whole of it
abbrev pub unless_lost : Source → Text → Text
unless_lost (Lost m) text = Err m
unless_lost _ text = text

abbrev pub sized_text : Option ℕ → List UnitAnswer → Recorded → (Typed → Place → Text) → Standing → ℕ → Place → Text
sized_text None units memory value s k p = Err UnsupportedType
sized_text (Some size) units memory value s k p =
    if suits s p size then unless_lost p.source (content_as (class_at s) units memory value s k size p) else Err UnsupportedType

abbrev pub value_as : Class → List UnitAnswer → Recorded → (Typed → Place → Text) → Standing → ℕ → Place → Text
value_as classes.Passed units memory value s k p = value (type_of units s.entry.attributes) p
value_as c units memory value s k p = sized_text (type_size units (typeds.At s k)) units memory value s k p

-- the text of a value, where at most n type entries follow each other from here on
unfoldable pub value_text : List UnitAnswer → Recorded → ℕ → Typed → Place → Text
value_text units memory n typeds.Nothing p = Err UnsupportedType
value_text units memory zero (typeds.At s k) p = Err TypeTooDeep
value_text units memory (suc n) (typeds.At s k) p = value_as (class_at s) units memory (value_text units memory n) s k p
