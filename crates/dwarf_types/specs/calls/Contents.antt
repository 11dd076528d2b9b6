-- What stands in a structure and is told of it: its members and variant parts; and what is known of structures and enumerations.
use Rattle.std.specs.Prelude.{◌≡◌, ◌||◌, ℕ, Bool, List, filter, Option, IfSome}
use Rattle.std.specs.Ordering.{nat_cmp}
use Rattle.std.specs.BTreeMap.{get}
use Rattle.dwarf_info.specs.declared.entry.Entry.{Entry}
use Rattle.dwarf_info.specs.declared.entry.UnitAnswer.{UnitAnswer}
use Rattle.dwarf_entries.specs.Tags.{tag_member}
use Rattle.dwarf_entries.specs.Standing.{Standing, standing_at, inside, is_child}
use Rattle.dwarf_types.specs.Structures.{tag_variant_part}
use Rattle.dwarf_types.specs.calls.Inside.{AreInside, picked}
use Rattle.dwarf_types.specs.calls.Numbers.{AreFirstOf}
use Rattle.dwarf_types.specs.declared.structures.MemberPositions.{MemberPositions}
use Rattle.dwarf_types.specs.declared.structures.Structures.{Structures}

-- a child of an entry of that depth
abbrev pub is_content : ℕ → Entry → Bool
is_content depth e = is_child depth tag_member e || is_child depth tag_variant_part e

abbrev pub stands_in : ℕ → Standing → Bool
stands_in depth x = is_content depth x.entry

abbrev pub contents : Standing → List Standing
contents s = filter (stands_in s.entry.depth) (inside s)

-- the members and variant parts among what stands in an entry are at these positions of it
pub record AreContentsIn (s : Standing) (m : MemberPositions) : Type 0 where
  pub range : AreInside s m.range
  pub told : picked m.positions (inside s) ≡ contents s

-- they are those of an entry, if there is one
abbrev pub AreContentsOf : Option Standing → MemberPositions → Type 0
AreContentsOf s m = IfSome s (λ s. AreContentsIn s m)

-- each is of the entry at its offset
pub record AreContents (units : List UnitAnswer) (structures : Structures) : Type 0 where
  pub members : (at : ℕ) → IfSome (get nat_cmp structures.members at) (AreContentsOf (standing_at units at))
  pub numbers : (at : ℕ) → IfSome (get nat_cmp structures.numbers at) (AreFirstOf (standing_at units at))
