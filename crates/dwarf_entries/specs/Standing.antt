-- Entries where they stand: in the written out tree of a unit, with the entries behind them.
use Rattle.std.specs.Prelude.{ℕ, suc, List, [], ◌∷◌, filter, find, take_while, flat_map, Bool, Option, ◌==◌, ◌&&◌, nat_lt}
use Rattle.dwarf_info.specs.declared.entry.Entry.{Entry}
use Rattle.dwarf_info.specs.declared.entry.Unit.{Unit as UnitTree}
use Rattle.dwarf_info.specs.declared.entry.UnitAnswer.{UnitAnswer}
use Rattle.dwarf_info.specs.declared.entry.UnitAnswer.TheVariants.{Tree, Unreadable}

pub record Standing : Type 0 where
  pub unit : UnitTree
  pub entry : Entry
  pub behind : List Entry

abbrev pub stands : UnitTree → Entry → List Entry → Standing
stands u e es = record { unit = u; entry = e; behind = es }

abbrev pub standing_in : UnitTree → List Entry → List Standing
standing_in u [] = []
standing_in u (e ∷ es) = stands u e es ∷ standing_in u es

abbrev pub of_unit : UnitAnswer → List Standing
of_unit (Tree u) = standing_in u u.entries
of_unit (Unreadable section at) = []

-- all entries, in the order of the section
abbrev pub standing : List UnitAnswer → List Standing
standing units = flat_map of_unit units

abbrev pub stands_at : ℕ → Standing → Bool
stands_at at x = x.entry.at == at

-- the entry at an offset of the section
unfoldable pub standing_at : List UnitAnswer → ℕ → Option Standing
standing_at units at = find (stands_at at) (standing units)

-- the entries in an entry: those behind it that are deeper, up to the first that is not
abbrev pub entries_inside : Standing → List Entry
entries_inside s = take_while (λ e. nat_lt s.entry.depth e.depth) s.behind

abbrev pub inside : Standing → List Standing
inside s = standing_in s.unit (entries_inside s)

-- its children are one deeper
abbrev pub children : Standing → List Standing
children s = filter (λ t. t.entry.depth == suc s.entry.depth) (inside s)

-- a child of this tag of an entry of this depth
abbrev pub is_child : ℕ → ℕ → Entry → Bool
is_child depth tag e = e.depth == suc depth && e.tag == tag

abbrev pub children_tagged : ℕ → Standing → List Entry
children_tagged tag s = filter (is_child s.entry.depth tag) (entries_inside s)
