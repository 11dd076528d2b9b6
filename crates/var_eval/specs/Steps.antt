-- Steps from a value to another one: to a member, to what it points to, to an element.
use Rattle.std.specs.Prelude.{ℕ, ◌+◌, ◌*◌, ◌%◌, ◌^◌, ◌==◌, ◌||◌, Bool, false, nat_lt, nat_le, pos, List, [], ◌∷◌, length, drop, find, bytes_eq, Option, Some, None, option_map, option_and_then, ok_or, Result, Ok, Err, if◌then◌else◌}
use Rattle.dwarf_info.specs.declared.entry.Entry.{Entry}
use Rattle.dwarf_info.specs.declared.entry.UnitAnswer.{UnitAnswer}
use Rattle.dwarf_expr.specs.declared.answer.PiecePlace.TheVariants.{Address}
use Rattle.dwarf_entries.specs.Tags.{tag_pointer}
use Rattle.dwarf_entries.specs.Standing.{Standing}
use Rattle.dwarf_entries.specs.Origins.{name_or_empty, longest_chain}
use Rattle.dwarf_types.specs.declared.class.Class.{Class}
use Rattle.dwarf_types.specs.declared.class.Class.TheVariants as classes
use Rattle.dwarf_types.specs.declared.behind.Typed.{Typed}
use Rattle.dwarf_types.specs.declared.behind.Typed.TheVariants as typeds
use Rattle.dwarf_types.specs.declared.behind.Behind.{Behind}
use Rattle.dwarf_types.specs.declared.behind.Behind.TheVariants as behinds
use Rattle.dwarf_types.specs.Types.{class_at, type_of, behind}
use Rattle.dwarf_types.specs.Counts.{counts}
use Rattle.dwarf_types.specs.Sizes.{type_size}
use Rattle.var_path.specs.declared.path.Step.{Step}
use Rattle.var_path.specs.declared.path.Step.TheVariants.{Member, Arrow, Index, Deref}
use Rattle.var_values.specs.declared.mark.Mark.{Mark}
use Rattle.var_values.specs.declared.mark.Mark.TheVariants.{TypeTooDeep, UnsupportedType, OutsideArray}
use Rattle.var_values.specs.declared.source.Source.{Source}
use Rattle.var_values.specs.declared.source.Source.TheVariants.{Lost, Single}
use Rattle.var_values.specs.Bytes.{Recorded, number_at}
use Rattle.var_values.specs.declared.bits.Bits.{Bits}
use Rattle.var_values.specs.Places.{Place, start_of, further}
use Rattle.var_values.specs.Members.{member_at}
use Rattle.var_values.specs.declared.item.Item.{Item}
use Rattle.var_values.specs.declared.item.Item.TheVariants as items
use Rattle.var_values.specs.Variants.{items as items_in}
use Rattle.var_eval.specs.declared.meeting.Met.{Met}

-- a part of a variable: its type, where it stands, and whether that is behind the end of an array whose count is known
pub record Part : Type 0 where
  pub type : Typed
  pub place : Place
  pub past : Bool

-- the whole of what comes from a source
abbrev pub whole : Typed → Source → Part
whole type source = record { type = type; place = start_of source; past = false }

abbrev pub Reached : Type 0
Reached = Result Part Mark

abbrev pub and_then : {A B : Type 0} → Result A Mark → (A → Result B Mark) → Result B Mark
and_then (Ok x) go = go x
and_then (Err m) go = Err m

-- What a step meets: the entry that stands behind the type, and how many subranges of it are behind. No step leads on from a bit-field.
abbrev pub met_as : Option Bits → Behind → Result Met Mark
met_as bits behinds.TooDeep = Err TypeTooDeep
met_as None (behinds.Stands s k) = Ok (record { standing = s; skipped = k })
met_as _ _ = Err UnsupportedType

abbrev pub met : List UnitAnswer → Part → Result Met Mark
met units part = met_as part.place.bits (behind units longest_chain part.type)

-- ---- members

abbrev pub has_name : List UnitAnswer → List ℕ → Item → Bool
has_name units name (items.Member x) = bytes_eq (name_or_empty units x.entry.attributes) name
has_name units name (items.Unknown m) = false

-- of a variant part one of the variant that is chosen
abbrev pub member_named : List UnitAnswer → Recorded → List ℕ → Standing → Place → Option Item
member_named units memory name s place = find (has_name units name) (items_in units memory place longest_chain s)

abbrev pub part_of : List UnitAnswer → Bool → Entry → Place → Part
part_of units past e p = record { type = type_of units e.attributes; place = p; past = past }

-- one of another form has no place to go on from
unfoldable pub at_member : List UnitAnswer → Place → Bool → Entry → Option Part
at_member units place past e = option_map (part_of units past e) (member_at place e)

abbrev pub at_item : List UnitAnswer → Place → Bool → Item → Option Part
at_item units place past (items.Member x) = at_member units place past x.entry
at_item units place past (items.Unknown m) = None

abbrev pub member_of : List UnitAnswer → Recorded → List ℕ → Standing → Place → Bool → Reached
member_of units memory name s place past = ok_or (option_and_then (at_item units place past) (member_named units memory name s place)) UnsupportedType

abbrev pub member_as : Class → List UnitAnswer → Recorded → List ℕ → Part → Standing → Reached
member_as classes.Members units memory name part s = member_of units memory name s part.place part.past
member_as c units memory name part s = Err UnsupportedType

unfoldable pub member_step : List UnitAnswer → Recorded → List ℕ → Part → Reached
member_step units memory name part = and_then (met units part) (λ x. member_as (class_at x.standing) units memory name part x.standing)

-- ---- pointers and references

-- an address that was read; one that stands behind the end of an array leads nowhere
abbrev pub at_address : Bool → Result ℕ Mark → Source
at_address past (Err m) = Lost m
at_address past (Ok a) = if past then Lost OutsideArray else Single (Address a)

-- where a pointer leads
unfoldable pub pointed : Recorded → Place → Bool → Source
pointed memory place past = at_address past (number_at memory place.source place.offset 4)

abbrev pub pointer_as : Class → List UnitAnswer → Recorded → Part → Standing → Reached
pointer_as classes.Pointing units memory part s = Ok (whole (type_of units s.entry.attributes) (pointed memory part.place part.past))
pointer_as c units memory part s = Err UnsupportedType

unfoldable pub pointer_step : List UnitAnswer → Recorded → Part → Reached
pointer_step units memory part = and_then (met units part) (λ x. pointer_as (class_at x.standing) units memory part x.standing)

-- ---- elements

-- the type of the elements of an array behind its first k subranges: rows of it, or the type that it has
abbrev pub element_type : List UnitAnswer → Standing → ℕ → Typed
element_type units s k = if nat_lt (k + 1) (length (counts s)) then typeds.At s (k + 1) else type_of units s.entry.attributes

-- at or past the first of these counts, where it is known
abbrev pub is_past : List (Option ℕ) → ℕ → Bool
is_past (Some c ∷ cs) n = nat_le c n
is_past _ n = false

abbrev pub element_at : List UnitAnswer → ℕ → Place → Bool → Met → Option ℕ → Reached
element_at units n place past x None = Err UnsupportedType
element_at units n place past x (Some size) = Ok (record {
  type = element_type units x.standing x.skipped;
  place = further place (pos (n * size));
  past = past || is_past (drop x.skipped (counts x.standing)) n;
})

-- addresses go on modulo 2 ^ 32
abbrev pub address_further : ℕ → Source → Source
address_further n (Single (Address a)) = Single (Address ((a + n) % 2 ^ 32))
address_further n source = source

abbrev pub pointed_element : List UnitAnswer → ℕ → Standing → Source → Option ℕ → Reached
pointed_element units n s source None = Err UnsupportedType
pointed_element units n s source (Some size) =
    if s.entry.tag == tag_pointer then Ok (whole (type_of units s.entry.attributes) (address_further (n * size) source)) else Err UnsupportedType

abbrev pub element_as : Class → List UnitAnswer → Recorded → ℕ → Part → Met → Reached
element_as classes.Array units memory n part x = element_at units n part.place part.past x (type_size units (element_type units x.standing x.skipped))
element_as classes.Pointing units memory n part x = pointed_element units n x.standing (pointed memory part.place part.past) (type_size units (type_of units x.standing.entry.attributes))
element_as c units memory n part x = Err UnsupportedType

unfoldable pub element_step : List UnitAnswer → Recorded → ℕ → Part → Reached
element_step units memory n part = and_then (met units part) (λ x. element_as (class_at x.standing) units memory n part x)

-- ---- steps of a path

unfoldable pub step : List UnitAnswer → Recorded → Part → Step → Reached
step units memory part (Member name) = member_step units memory name part
step units memory part (Arrow name) = and_then (pointer_step units memory part) (member_step units memory name)
step units memory part (Index n) = element_step units memory n part
step units memory part Deref = pointer_step units memory part

-- one behind another, up to the first that does not fit
unfoldable pub walk : List UnitAnswer → Recorded → List Step → Part → Reached
walk units memory [] part = Ok part
walk units memory (s ∷ ss) part = and_then (step units memory part s) (walk units memory ss)
