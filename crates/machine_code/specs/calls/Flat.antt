-- Where a tree stands in a flat body with its side table.
use Rattle.std.specs.Prelude.{◌≡◌, ℕ, suc, ◌+◌, List, Option, Some, None, slice_get}
use Rattle.wasm_syntax.specs.Tree.{Nodes, stop, basic, jump, block, loop, choose, Tree, HasElse, Item, Plain, Goes, Opens, OpensLoop, OpensIf, Else, End, Placed, placed}
use Rattle.machine_code.specs.declared.sides.Side.{Side}

-- how many instructions an arm takes, with the `else` in front of it
abbrev pub else_size : Option ℕ → ℕ → ℕ
else_size None n = n
else_size (Some at) n = suc n

-- how many instructions nodes are written as
abbrev pub size : Nodes → ℕ
size stop = 0
size (basic at i rest) = suc (size rest)
size (jump at j rest) = suc (size rest)
size (block at t body end rest) = suc (size body + suc (size rest))
size (loop at t body end rest) = suc (size body + suc (size rest))
size (choose at t a else_at b end rest) = suc (size a + else_size else_at (size b + suc (size rest)))

module _ (code : List Placed) (sides : List Side) where
  -- an instruction at an index, with its offset
  abbrev pub Is : ℕ → ℕ → Item → Type 0
  Is pc at item = slice_get code pc ≡ Some (placed at item)

  abbrev pub ElseIs : Option ℕ → ℕ → Type 0
  ElseIs None pc = Unit {0}
  ElseIs (Some at) pc = Is pc at Else

  -- the table's entry
  abbrev pub SideIs : ℕ → ℕ → ℕ → Type 0
  SideIs pc arm end = slice_get sides pc ≡ Some (record { arm = arm; end = end })

  -- the nodes stand at an index: each of their instructions at its own, and what they open goes on where the table says
  abbrev pub At : Nodes → ℕ → Type 0
  At stop pc = Unit {0}
  At (basic at i rest) pc = Is pc at (Plain i) × At rest (suc pc)
  At (jump at j rest) pc = Is pc at (Goes j) × At rest (suc pc)
  At (block at t body end rest) pc =
      Is pc at (Opens t) × At body (suc pc) × Is (suc pc + size body) end End × At rest (suc (suc pc + size body))
      × ((arm : ℕ) × SideIs pc arm (suc (suc pc + size body)))
  At (loop at t body end rest) pc =
      Is pc at (OpensLoop t) × At body (suc pc) × Is (suc pc + size body) end End × At rest (suc (suc pc + size body))
  At (choose at t a else_at b end rest) pc =
      Is pc at (OpensIf t) × At a (suc pc) × ElseIs else_at (suc pc + size a)
      × At b (suc pc + size a + else_size else_at 0) × Is (suc pc + size a + else_size else_at (size b)) end End
      × At rest (suc (suc pc + size a + else_size else_at (size b)))
      × SideIs pc (suc pc + size a + else_size else_at 0) (suc (suc pc + size a + else_size else_at (size b)))
      × HasElse else_at b

-- a whole body stands from the first index on
pub record Stands (code : List Placed) (sides : List Side) (tree : Tree) : Type 0 where
  pub nodes : At code sides tree.nodes 0
  pub end : Is code sides (size tree.nodes) tree.end End
