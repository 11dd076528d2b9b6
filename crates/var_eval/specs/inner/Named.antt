-- What is known of the members of structures: the first one of each name.
use Rattle.std.specs.Prelude.{◌≡◌, ◌≤◌, ℕ, Bool, true, List, length, bytes_eq, Option, Some, None, option_and_then, ok_or, IfSome, if◌then◌else◌}
use Rattle.std.specs.Cmp.Lexicographic.{slice_cmp}
use Rattle.std.specs.Ordering.{nat_cmp}
use Rattle.std.specs.BTreeMap.{get, get_by}
use Rattle.dwarf_info.specs.declared.entry.Entry.{Entry}
use Rattle.dwarf_info.specs.declared.entry.UnitAnswer.{UnitAnswer}
use Rattle.dwarf_entries.specs.Standing.{Standing, standing_at, is_child}
use Rattle.dwarf_entries.specs.Origins.{name_or_empty}
use Rattle.dwarf_entries.specs.Tags.{tag_member}
use Rattle.dwarf_types.specs.declared.behind.Typed.{Typed}
use Rattle.dwarf_types.specs.declared.behind.Typed.TheVariants as typeds
use Rattle.var_path.specs.declared.path.Step.{Step}
use Rattle.var_path.specs.declared.path.Step.TheVariants.{Index}
use Rattle.var_values.specs.declared.item.Item.{Item}
use Rattle.var_values.specs.declared.item.Item.TheVariants as items
use Rattle.var_values.specs.declared.mark.Mark.TheVariants.{UnsupportedType}
use Rattle.var_values.specs.Bytes.{Recorded}
use Rattle.var_values.specs.Places.{Place}
use Rattle.var_eval.specs.declared.named.MemberNames.{MemberNames}
use Rattle.var_eval.specs.declared.named.KnownMembers.{KnownMembers}
use Rattle.var_eval.specs.Steps.{Reached, at_member, member_of}

-- the names that are kept
abbrev pub longest_name : ℕ
longest_name = 128

abbrev pub is_called : List UnitAnswer → List ℕ → Entry → Bool
is_called units name e = bytes_eq (name_or_empty units e.attributes) name

-- what an entry with its own name adds at a name
abbrev pub own_at : Entry → List ℕ → List ℕ → Option Entry
own_at e own name = if bytes_eq own name then Some e else None

-- what one behind others adds to the members of a structure of that depth
abbrev pub member_at : List UnitAnswer → ℕ → Entry → List ℕ → Option Entry
member_at units depth e name = if is_child depth tag_member e then own_at e (name_or_empty units e.attributes) name else None

abbrev pub first_by : MemberNames → List ℕ → Option Entry
first_by m name = get_by (λ k. slice_cmp nat_cmp name k.now) m.first

-- the entry of what stands in a structure, unless it is in the place of a variant part
abbrev pub entry_of : Item → Option Entry
entry_of (items.Member x) = Some x.entry
entry_of (items.Unknown m) = None

-- what a step to that member of a structure leads to
abbrev pub member_told : List UnitAnswer → Place → Bool → Option Entry → Reached
member_told units place past o = ok_or (option_and_then (at_member units place past) o) UnsupportedType

-- a step to that name leads to that member, wherever the structure stands
abbrev pub IsMember : List UnitAnswer → Standing → List ℕ → Option Entry → Type 0
IsMember units s name o = (memory : Recorded) (place : Place) (past : Bool) → member_of units memory name s place past ≡ member_told units place past o

abbrev pub AreNamed : List UnitAnswer → Standing → MemberNames → Type 0
AreNamed units s m = (name : List ℕ) → length name ≤ longest_name → IsMember units s name (first_by m name)

-- they are those of an entry, if there is one
abbrev pub AreNamedOf : List UnitAnswer → Option Standing → MemberNames → Type 0
AreNamedOf units s m = IfSome s (λ s. AreNamed units s m)

-- each is of the entry at its offset
abbrev pub AreKnown : List UnitAnswer → KnownMembers → Type 0
AreKnown units k = (at : ℕ) → IfSome (get nat_cmp k.structures at) (AreNamedOf units (standing_at units at))

-- ---- types whose entry is the one at its offset

abbrev pub IsFound : List UnitAnswer → Standing → Type 0
IsFound units s = standing_at units s.entry.at ≡ Some s

abbrev pub IsOwn : List UnitAnswer → Typed → Type 0
IsOwn units (typeds.At s k) = IsFound units s
IsOwn units typeds.Nothing = Unit {0}

-- it is known of a type behind a step that it is one, if it was known before that step
abbrev pub owns : Bool → Step → Bool
owns own (Index n) = own
owns own _ = true
