-- Types behind steps, whose entries are those at their offsets.
use Rattle.std.proofs.Common.{◌≡◌, ℕ, zero, suc, ◌+◌, Bool, true, false, List, length, Option, Some, None, Ok, Err, refl, subst}
use Rattle.std.specs.Prelude.{Result, ◌*◌, ◌==◌, nat_lt, option_map, option_and_then, ok_or, IfSome, if◌then◌else◌}
use Rattle.dwarf_info.specs.declared.entry.Attribute.{Attribute}
use Rattle.dwarf_info.specs.declared.entry.UnitAnswer.{UnitAnswer}
use Rattle.dwarf_entries.specs.Standing.{Standing}
use Rattle.dwarf_entries.specs.Tags.{tag_pointer}
use Rattle.dwarf_entries.specs.Origins.{type_entry, longest_chain}
use Rattle.dwarf_types.specs.declared.class.Class.{Class}
use Rattle.dwarf_types.specs.declared.class.Class.TheVariants as classes
use Rattle.dwarf_types.specs.declared.behind.Typed.{Typed}
use Rattle.dwarf_types.specs.declared.behind.Typed.TheVariants as typeds
use Rattle.dwarf_types.specs.declared.behind.Behind.{Behind}
use Rattle.dwarf_types.specs.declared.behind.Behind.TheVariants as behinds
use Rattle.dwarf_types.specs.Types.{class_at, typed, type_of, behind, behind_as}
use Rattle.dwarf_types.specs.Counts.{counts}
use Rattle.dwarf_types.specs.Sizes.{type_size}
use Rattle.dwarf_types.proofs.OwnLaws.{own_type}
use Rattle.var_path.specs.declared.path.Step.{Step}
use Rattle.var_path.specs.declared.path.Step.TheVariants.{Member, Arrow, Index, Deref}
use Rattle.var_values.specs.declared.bits.Bits.{Bits}
use Rattle.var_values.specs.declared.item.Item.{Item}
use Rattle.var_values.specs.declared.item.Item.TheVariants as items
use Rattle.var_values.specs.declared.mark.Mark.{Mark}
use Rattle.var_values.specs.declared.mark.Mark.TheVariants.{UnsupportedType}
use Rattle.var_values.specs.declared.source.Source.{Source}
use Rattle.var_values.specs.Bytes.{Recorded}
use Rattle.var_values.specs.Places.{Place}
use Rattle.var_values.specs.Members.{member_at}
use Rattle.var_eval.specs.declared.meeting.Met.{Met}
use Rattle.var_eval.specs.Steps.{Part, Reached, and_then, whole, met, met_as, part_of, at_member, at_item, member_named, member_as, member_step, pointed, pointer_as, pointer_step, element_type, element_at, address_further, pointed_element, element_as, element_step, step}
use Rattle.var_eval.specs.inner.Named.{IsFound, IsOwn, owns}

-- ---- types of entries, and what stands behind types

own_typed : (units : List UnitAnswer) (o : Option Standing) → IfSome o (IsFound units) → IsOwn units (typed o)
own_typed units None is = tt
own_typed units (Some s) is = is

pub own_type_of : (units : List UnitAnswer) (es : List Attribute) → IsOwn units (type_of units es)
unfolding type_of
own_type_of units es = own_typed units (type_entry units es) (own_type units es)

abbrev IsOwnBehind : List UnitAnswer → Behind → Type 0
IsOwnBehind units (behinds.Stands s k) = IsFound units s
IsOwnBehind units behinds.TooDeep = Unit {0}
IsOwnBehind units behinds.Nothing = Unit {0}

own_by_class : (units : List UnitAnswer) (c : Class) (further : Behind) (s : Standing) (k : ℕ) → IsOwnBehind units further → IsFound units s → IsOwnBehind units (behind_as c further s k)
own_by_class units classes.Passed further s k on is = on
own_by_class units classes.Base further s k on is = is
own_by_class units classes.Enumeration further s k on is = is
own_by_class units classes.Pointing further s k on is = is
own_by_class units classes.Members further s k on is = is
own_by_class units classes.Array further s k on is = is
own_by_class units classes.Another further s k on is = is

own_behind : (units : List UnitAnswer) (n : ℕ) (t : Typed) → IsOwn units t → IsOwnBehind units (behind units n t)
unfolding behind
own_behind units zero (typeds.At s k) is = tt
own_behind units (suc n) (typeds.At s k) is =
    own_by_class units (class_at s) (behind units n (type_of units s.entry.attributes)) s k (own_behind units n (type_of units s.entry.attributes) (own_type_of units s.entry.attributes)) is
own_behind units zero typeds.Nothing is = tt
own_behind units (suc n) typeds.Nothing is = tt

abbrev IsOwnMet : List UnitAnswer → Result Met Mark → Type 0
IsOwnMet units (Ok x) = IsFound units x.standing
IsOwnMet units (Err m) = Unit {0}

own_met_as : (units : List UnitAnswer) (bits : Option Bits) (b : Behind) → IsOwnBehind units b → IsOwnMet units (met_as bits b)
own_met_as units bits behinds.TooDeep own = tt
own_met_as units None (behinds.Stands s k) own = own
own_met_as units (Some bits) (behinds.Stands s k) own = tt
own_met_as units None behinds.Nothing own = tt
own_met_as units (Some bits) behinds.Nothing own = tt

pub own_met : (units : List UnitAnswer) (bits : Option Bits) (t : Typed) (x : Met) → met_as bits (behind units longest_chain t) ≡ Ok x → IsOwn units t → IsFound units x.standing
own_met units bits t x e own = subst (λ (r : Result Met Mark). IsOwnMet units r) e (own_met_as units bits (behind units longest_chain t) (own_behind units longest_chain t own))

-- ---- what steps lead to

-- an answer of one step, of which the type is one
abbrev IsOwnReached : List UnitAnswer → Reached → Type 0
IsOwnReached units (Ok p) = IsOwn units p.type
IsOwnReached units (Err m) = Unit {0}

own_reached : (units : List UnitAnswer) (r : Reached) (p : Part) → IsOwnReached units r → r ≡ Ok p → IsOwn units p.type
own_reached units r p own e = subst (λ (x : Reached). IsOwnReached units x) e own

own_then : {A : Type 0} (units : List UnitAnswer) (first : Result A Mark) (go : A → Reached) → ((x : A) → first ≡ Ok x → IsOwnReached units (go x)) → IsOwnReached units (and_then first go)
own_then units (Ok x) go own = own x refl
own_then units (Err m) go own = tt

own_member : (units : List UnitAnswer) (place : Place) (past : Bool) (o : Option Item) → IsOwnReached units (ok_or (option_and_then (at_item units place past) o) UnsupportedType)
unfolding at_member
own_member units place past None = tt
own_member units place past (Some (items.Unknown m)) = tt
own_member units place past (Some (items.Member x)) = by (member_at place x.entry)
  where
    by : (o : Option Place) → IsOwnReached units (ok_or (option_map (part_of units past x.entry) o) UnsupportedType)
    by None = tt
    by (Some p) = own_type_of units x.entry.attributes

own_member_as : (c : Class) (units : List UnitAnswer) (memory : Recorded) (name : List ℕ) (part : Part) (s : Standing) → IsOwnReached units (member_as c units memory name part s)
own_member_as classes.Members units memory name part s = own_member units part.place part.past (member_named units memory name s part.place)
own_member_as classes.Passed units memory name part s = tt
own_member_as classes.Base units memory name part s = tt
own_member_as classes.Enumeration units memory name part s = tt
own_member_as classes.Pointing units memory name part s = tt
own_member_as classes.Array units memory name part s = tt
own_member_as classes.Another units memory name part s = tt

own_member_step : (units : List UnitAnswer) (memory : Recorded) (name : List ℕ) (part : Part) → IsOwnReached units (member_step units memory name part)
unfolding member_step
own_member_step units memory name part =
    own_then units (met units part) (λ x. member_as (class_at x.standing) units memory name part x.standing) (λ x e. own_member_as (class_at x.standing) units memory name part x.standing)

own_pointer_as : (c : Class) (units : List UnitAnswer) (memory : Recorded) (part : Part) (s : Standing) → IsOwnReached units (pointer_as c units memory part s)
own_pointer_as classes.Pointing units memory part s = own_type_of units s.entry.attributes
own_pointer_as classes.Passed units memory part s = tt
own_pointer_as classes.Base units memory part s = tt
own_pointer_as classes.Enumeration units memory part s = tt
own_pointer_as classes.Members units memory part s = tt
own_pointer_as classes.Array units memory part s = tt
own_pointer_as classes.Another units memory part s = tt

own_pointer_step : (units : List UnitAnswer) (memory : Recorded) (part : Part) → IsOwnReached units (pointer_step units memory part)
unfolding pointer_step
own_pointer_step units memory part =
    own_then units (met units part) (λ x. pointer_as (class_at x.standing) units memory part x.standing) (λ x e. own_pointer_as (class_at x.standing) units memory part x.standing)

pub own_pointer : (units : List UnitAnswer) (memory : Recorded) (part next : Part) → pointer_step units memory part ≡ Ok next → IsOwn units next.type
own_pointer units memory part next e = own_reached units (pointer_step units memory part) next (own_pointer_step units memory part) e

own_element_type : (units : List UnitAnswer) (s : Standing) (k : ℕ) → IsFound units s → IsOwn units (element_type units s k)
own_element_type units s k own = by (nat_lt (k + 1) (length (counts s)))
  where
    by : (b : Bool) → IsOwn units (if b then typeds.At s (k + 1) else type_of units s.entry.attributes)
    by true = own
    by false = own_type_of units s.entry.attributes

own_element_at : (units : List UnitAnswer) (n : ℕ) (place : Place) (past : Bool) (x : Met) (size : Option ℕ) → IsFound units x.standing → IsOwnReached units (element_at units n place past x size)
own_element_at units n place past x None own = tt
own_element_at units n place past x (Some size) own = own_element_type units x.standing x.skipped own

own_pointed_element : (units : List UnitAnswer) (n : ℕ) (s : Standing) (source : Source) (size : Option ℕ) → IsOwnReached units (pointed_element units n s source size)
own_pointed_element units n s source None = tt
own_pointed_element units n s source (Some size) = by (s.entry.tag == tag_pointer) (address_further (n * size) source)
  where
    by : (b : Bool) (place : Source) → IsOwnReached units (if b then Ok (whole (type_of units s.entry.attributes) place) else Err UnsupportedType)
    by true place = own_type_of units s.entry.attributes
    by false place = tt

own_element_as : (c : Class) (units : List UnitAnswer) (memory : Recorded) (n : ℕ) (part : Part) (x : Met) → IsFound units x.standing → IsOwnReached units (element_as c units memory n part x)
own_element_as classes.Array units memory n part x own = own_element_at units n part.place part.past x (type_size units (element_type units x.standing x.skipped)) own
own_element_as classes.Pointing units memory n part x own =
    own_pointed_element units n x.standing (pointed memory part.place part.past) (type_size units (type_of units x.standing.entry.attributes))
own_element_as classes.Passed units memory n part x own = tt
own_element_as classes.Base units memory n part x own = tt
own_element_as classes.Enumeration units memory n part x own = tt
own_element_as classes.Members units memory n part x own = tt
own_element_as classes.Another units memory n part x own = tt

own_element_step : (units : List UnitAnswer) (memory : Recorded) (n : ℕ) (part : Part) → IsOwn units part.type → IsOwnReached units (element_step units memory n part)
unfolding element_step
own_element_step units memory n part own =
    own_then units (met units part) (λ x. element_as (class_at x.standing) units memory n part x)
    (λ x e. own_element_as (class_at x.standing) units memory n part x (own_met units part.place.bits part.type x e own))

own_by_step : (units : List UnitAnswer) (memory : Recorded) (part : Part) (own : Bool) (s : Step) → (own ≡ true → IsOwn units part.type) → owns own s ≡ true → IsOwnReached units (step units memory part s)
unfolding step
own_by_step units memory part own (Member name) is e = own_member_step units memory name part
own_by_step units memory part own (Arrow name) is e = own_then units (pointer_step units memory part) (member_step units memory name) (λ x e. own_member_step units memory name x)
own_by_step units memory part own (Index n) is e = own_element_step units memory n part (is e)
own_by_step units memory part own Deref is e = own_pointer_step units memory part

pub own_behind_step : (units : List UnitAnswer) (memory : Recorded) (part next : Part) (own : Bool) (s : Step) → (own ≡ true → IsOwn units part.type) → step units memory part s ≡ Ok next
    → owns own s ≡ true → IsOwn units next.type
own_behind_step units memory part next own s is e still = own_reached units (step units memory part s) next (own_by_step units memory part own s is still) e
