-- What stands in a structure: its members, and in the place of a variant part those of the variant that the discriminant chooses (DWARF 4, 5.5.9).
use Rattle.std.specs.Prelude.{ℕ, zero, suc, ◌&&◌, ◌||◌, Bool, true, false, nat_le, List, [], ◌∷◌, length, find, flat_map, Option, Some, None, option_and_then, ok_or, Result, Ok, Err, if◌then◌else◌}
use Rattle.std.specs.Option.{is_none, option_or}
use Rattle.dwarf_info.specs.declared.entry.Entry.{Entry}
use Rattle.dwarf_info.specs.declared.entry.UnitAnswer.{UnitAnswer}
use Rattle.dwarf_info.specs.Attributes.{attribute, valued, as_number, as_block, as_reference}
use Rattle.dwarf_entries.specs.Tags.{tag_member}
use Rattle.dwarf_entries.specs.Standing.{Standing, standing_at, inside, is_child}
use Rattle.dwarf_entries.specs.Origins.{longest_chain}
use Rattle.dwarf_types.specs.declared.class.Class.{Class}
use Rattle.dwarf_types.specs.declared.class.Class.TheVariants as classes
use Rattle.dwarf_types.specs.declared.behind.Behind.{Behind}
use Rattle.dwarf_types.specs.declared.behind.Behind.TheVariants as behinds
use Rattle.dwarf_types.specs.Structures.{tag_variant_part}
use Rattle.dwarf_types.specs.Types.{class_at, type_of, behind}
use Rattle.dwarf_types.specs.Sizes.{type_size}
use Rattle.var_values.specs.declared.mark.Mark.{Mark}
use Rattle.var_values.specs.declared.mark.Mark.TheVariants.{TypeTooDeep, UnsupportedType, OptimisedOut}
use Rattle.var_values.specs.declared.item.Item.{Item}
use Rattle.var_values.specs.declared.item.Item.TheVariants.{Member, Unknown}
use Rattle.var_values.specs.declared.discriminant.Discriminant.{Discriminant}
use Rattle.var_values.specs.Bytes.{Recorded}
use Rattle.var_values.specs.Texts.{equals}
use Rattle.var_values.specs.Places.{Place}
use Rattle.var_values.specs.Scalars.{bits_of, number_of, result_map, type_is_signed, word_in}
use Rattle.var_values.specs.Members.{member_place}
use Rattle.var_values.specs.Suits.{suits}
use Rattle.var_values.specs.Lists.{is_listed}

abbrev pub tag_variant : ℕ
tag_variant = 0x19

abbrev pub at_discr : ℕ
at_discr = 0x15

abbrev pub at_discr_value : ℕ
at_discr_value = 0x16

abbrev pub at_discr_list : ℕ
at_discr_list = 0x3d

-- ---- the discriminant

abbrev pub is_discrete : Class → Bool
is_discrete classes.Base = true
is_discrete classes.Enumeration = true
is_discrete c = false

-- its size, whether it is signed, and the number that its bits are
abbrev pub number_in : List UnitAnswer → Standing → ℕ → ℕ → ℕ → Discriminant
number_in units s size k w =
    let signed = type_is_signed (class_at s) units s in
    record { size = size; signed = signed; number = number_of signed k w }

-- a base type or an enumeration of at most eight bytes
abbrev pub discriminant_as : List UnitAnswer → Recorded → Place → Option ℕ → Behind → Result Discriminant Mark
discriminant_as units memory p size behinds.TooDeep = Err TypeTooDeep
discriminant_as units memory p (Some size) (behinds.Stands s k) =
    if is_discrete (class_at s) && nat_le size 8 && suits s p size then result_map (number_in units s size (bits_of p size).count) (word_in memory p (bits_of p size))
    else Err UnsupportedType
discriminant_as units memory p _ _ = Err UnsupportedType

-- of that member of a structure that stands there
unfoldable pub discriminant_of : List UnitAnswer → Recorded → Place → Entry → Result Discriminant Mark
discriminant_of units memory p e =
    let t = type_of units e.attributes in
    discriminant_as units memory (member_place p e) (type_size units t) (behind units longest_chain t)

-- ---- the variant

abbrev pub in_list : Discriminant → Option (List ℕ) → Bool
in_list d None = false
in_list d (Some list) = is_listed (length list) d.signed d.number (record { block = list; at = 0 })

-- one of the value, as numbers of that size, or in whose list the number is
abbrev pub has_number : Discriminant → Entry → Bool
has_number d v = equals d.size d.number (valued as_number at_discr_value v.attributes) || in_list d (valued as_block at_discr_list v.attributes)

-- one without a value and without a list
abbrev pub is_default : Entry → Bool
is_default v = is_none (attribute at_discr_value v.attributes) && is_none (attribute at_discr_list v.attributes)

abbrev pub first_variant : (Entry → Bool) → Standing → Option Standing
first_variant passes part = find (λ v. is_child part.entry.depth tag_variant v.entry && passes v.entry) (inside part)

abbrev pub variant_by : Standing → Result Discriminant Mark → Result Standing Mark
variant_by part (Ok d) = ok_or (option_or (first_variant (has_number d) part) (first_variant is_default part)) OptimisedOut
variant_by part (Err m) = Err m

-- a part without a discriminant has at most the default one
unfoldable pub variant_of : List UnitAnswer → Recorded → Place → Standing → Result Standing Mark
variant_of units memory p part = elim (option_and_then (standing_at units) (valued as_reference at_discr part.entry.attributes)) [
  | None ↦ ok_or (first_variant is_default part) OptimisedOut
  | Some d ↦ variant_by part (discriminant_of units memory p d.entry)
]

-- ---- what stands in a structure

abbrev pub variant_items : (Standing → List Item) → Result Standing Mark → List Item
variant_items content (Ok v) = content v
variant_items content (Err m) = Unknown m ∷ []

-- a child of an entry of that depth
abbrev pub child_items : List UnitAnswer → Recorded → Place → (Standing → List Item) → ℕ → Standing → List Item
child_items units memory p content depth x =
    if is_child depth tag_member x.entry then Member x ∷ []
    else (if is_child depth tag_variant_part x.entry then variant_items content (variant_of units memory p x)
    else [])

-- or in a variant, where at most n variant parts stand in each other
unfoldable pub items : List UnitAnswer → Recorded → Place → ℕ → Standing → List Item
items units memory p zero s = Unknown TypeTooDeep ∷ []
items units memory p (suc n) s = flat_map (child_items units memory p (items units memory p n) s.entry.depth) (inside s)
