-- The entries in an entry: in the list that a tree writes out, and in the tree.
use Rattle.std.specs.Prelude.{ℕ, suc, List, [], ◌∷◌, ◌++◌, take_while, nat_lt}
use Rattle.dwarf_info.specs.declared.entry.Entry.{Entry}
use Rattle.dwarf_info.specs.calls.Trees.{Siblings, none, entry, Tree, written_at}

-- ---- in the list

-- those in front that are deeper
abbrev pub deeper : ℕ → List Entry → List Entry
deeper depth es = take_while (λ e. nat_lt depth e.depth) es

-- each entry, with those behind it that are deeper, up to the first that is not
abbrev pub insides : List Entry → List (Entry × List Entry)
insides [] = []
insides (e ∷ es) = (e, deeper e.depth es) ∷ insides es

-- ---- in the tree

-- each entry, with its children written out
abbrev pub nodes_at : ℕ → Siblings → List (Entry × List Entry)
nodes_at depth none = []
nodes_at depth (entry at tag attributes children rest) =
    (record { at = at; depth = depth; tag = tag; attributes = attributes }, written_at (suc depth) children) ∷ nodes_at (suc depth) children ++ nodes_at depth rest

abbrev pub nodes : Tree → List (Entry × List Entry)
nodes t = (record { at = t.at; depth = 0; tag = t.tag; attributes = t.attributes }, written_at 1 t.children) ∷ nodes_at 1 t.children

-- siblings, without what is in them
abbrev pub siblings_at : ℕ → Siblings → List Entry
siblings_at depth none = []
siblings_at depth (entry at tag attributes children rest) = record { at = at; depth = depth; tag = tag; attributes = attributes } ∷ siblings_at depth rest
