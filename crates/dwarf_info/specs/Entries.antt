-- Reading the entries of a unit (DWARF 4, 2.3 and 7.5.2): the tree, written out in the order of the section.
use Rattle.std.specs.Prelude.{ℕ, zero, suc, List, [], ◌∷◌, ◌++◌, length, Option, option_map, find, Bool, ◌==◌, ◌&&◌, nat_lt, if◌then◌else◌}
use Rattle.wasm_bytes.specs.Place.{Place, Read}
use Rattle.wasm_bytes.specs.Reading.{◌▷◌, mapped, done_item, here_item, steps_until_done, u64_item}
use Rattle.dwarf_bytes.specs.Items.{no_item, item_or_none}
use Rattle.dwarf_info.specs.declared.form.Shape.{Shape}
use Rattle.dwarf_info.specs.declared.entry.Attribute.{Attribute}
use Rattle.dwarf_info.specs.declared.entry.Entry.{Entry}
use Rattle.dwarf_info.specs.declared.growing.Growing.{Growing}
use Rattle.dwarf_info.specs.Values.{Context, attributes_item}

-- The first abbreviation of a code counts.
abbrev pub shape_of : List Shape → ℕ → Option Shape
shape_of table code = find (λ s. s.code == code) table

-- no entry yet
abbrev pub seed : Growing
seed = record { entries = []; depth = 0 }

abbrev pub entry_of : ℕ → ℕ → Shape → List Attribute → Entry
entry_of depth at shape attributes = record { at = at; depth = depth; tag = shape.tag; attributes = attributes }

-- one more entry, whose children follow where its abbreviation says so
abbrev pub with_entry : Growing → ℕ → Shape → List Attribute → Growing
with_entry g at shape attributes = record {
  entries = g.entries ++ entry_of g.depth at shape attributes ∷ [];
  depth = if shape.children then suc g.depth else g.depth;
}

abbrev pub shape_item : Context → Growing → ℕ → Shape → Place → Read Growing
shape_item c g at shape = mapped (with_entry g at shape) (attributes_item c shape.slots)

-- the end of the innermost list of children
abbrev pub closing_item : List Entry → ℕ → Place → Read Growing
closing_item entries zero = no_item
closing_item entries (suc depth) = done_item (record { entries = entries; depth = depth })

-- behind a code, which began at that offset: the code 0 ends a list of children, every other is that of an entry
abbrev pub code_item : Context → Growing → ℕ → ℕ → Place → Read Growing
code_item c g at code =
    if code == 0 then closing_item g.entries g.depth
    else item_or_none (option_map (shape_item c g at) (shape_of c.table code))

unfoldable pub step_item : Context → Growing → Place → Read Growing
step_item c g = here_item ▷ λ at. u64_item ▷ code_item c g at

-- The tree is whole: its root is there, and no list of children is open.
abbrev pub is_whole : Growing → Bool
is_whole g = nat_lt 0 (length g.entries) && g.depth == 0

abbrev pub entries_read : Growing → List Entry
entries_read g = g.entries

unfoldable pub entries_item : Context → Place → Read (List Entry)
entries_item c = mapped entries_read (steps_until_done is_whole (step_item c) seed)

-- the attributes of the root, which comes first
abbrev pub root_attributes : List Entry → List Attribute
root_attributes [] = []
root_attributes (e ∷ es) = e.attributes
