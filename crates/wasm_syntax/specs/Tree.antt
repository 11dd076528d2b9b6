-- The tree of a body, and the flat body that it writes out (Core 2.4.5, 2.4.6, 5.4.1).
use Rattle.std.specs.Prelude.{◌≡◌, ℕ, List, [], ◌∷◌, map, take, drop, Option, Some, None}
use Rattle.wasm_syntax.specs.declared.value.ValType.{ValType}
use Rattle.wasm_syntax.specs.declared.instruction.Basic.{Basic}
use Rattle.wasm_syntax.specs.declared.instruction.Jump.{Jump as FlatJump}
use Rattle.wasm_syntax.specs.declared.instruction.Jump.TheVariants as flat
use Rattle.wasm_syntax.specs.declared.instruction.Instr.{Instr}
use Rattle.wasm_syntax.specs.declared.instruction.Instr.TheVariants as instr
use Rattle.wasm_syntax.specs.declared.instruction.Op.{Op}

-- A control instruction that holds no others (Core 2.4.5). A `br_table` has its targets with it.
pub data Jump : Type 0 where
  Unreachable : Jump
  Br : (n : ℕ) → Jump
  BrIf : (n : ℕ) → Jump
  BrTable : (targets : List ℕ) (default : ℕ) → Jump
  Return : Jump
  Call : (f : ℕ) → Jump
  CallIndirect : (type : ℕ) → Jump

-- A list of nodes: none, or a first node and the nodes behind it. A node begins with the code offset of its first byte.
pub data Nodes : Type 0 where
  stop : Nodes
  basic : (at : ℕ) → Basic → (rest : Nodes) → Nodes
  jump : (at : ℕ) → Jump → (rest : Nodes) → Nodes
  -- with the offset of its `end`
  block : (at : ℕ) → Option ValType → (body : Nodes) → (end : ℕ) → (rest : Nodes) → Nodes
  loop : (at : ℕ) → Option ValType → (body : Nodes) → (end : ℕ) → (rest : Nodes) → Nodes
  -- with the offset of its `else`, where it has one; without one the second list is empty
  choose : (at : ℕ) → Option ValType → (then_arm : Nodes) → (else_at : Option ℕ) → (else_arm : Nodes) → (end : ℕ) → (rest : Nodes) → Nodes

-- the nodes of a body, and the offset of its last `end`
pub record Tree : Type 0 where
  pub nodes : Nodes
  pub end : ℕ

-- an instruction of a flat body, with the targets of a `br_table`
pub data Item : Type 0 where
  Plain : Basic → Item
  Goes : Jump → Item
  Opens : Option ValType → Item
  OpensLoop : Option ValType → Item
  OpensIf : Option ValType → Item
  Else : Item
  End : Item

-- and the code offset of its first byte
pub record Placed : Type 0 where
  pub at : ℕ
  pub code : Item

abbrev pub placed : ℕ → Item → Placed
placed at code = record { at = at; code = code }

-- `else` and the second arm of an `if`, where it has one
abbrev pub else_out : Option ℕ → List Placed → List Placed
else_out None arm = arm
else_out (Some at) arm = placed at Else ∷ arm

-- the nodes written out, in front of what follows them
abbrev pub write : Nodes → List Placed → List Placed
write stop after = after
write (basic at i rest) after = placed at (Plain i) ∷ write rest after
write (jump at j rest) after = placed at (Goes j) ∷ write rest after
write (block at t body end rest) after = placed at (Opens t) ∷ write body (placed end End ∷ write rest after)
write (loop at t body end rest) after = placed at (OpensLoop t) ∷ write body (placed end End ∷ write rest after)
write (choose at t then_arm else_at else_arm end rest) after =
    placed at (OpensIf t) ∷ write then_arm (else_out else_at (write else_arm (placed end End ∷ write rest after)))

-- the second list of each `if` without `else` is empty
abbrev pub HasElse : Option ℕ → Nodes → Type 0
HasElse None arm = arm ≡ stop
HasElse (Some at) arm = Unit {0}

abbrev pub IsTree : Nodes → Type 0
IsTree stop = Unit {0}
IsTree (basic at i rest) = IsTree rest
IsTree (jump at j rest) = IsTree rest
IsTree (block at t body end rest) = IsTree body × IsTree rest
IsTree (loop at t body end rest) = IsTree body × IsTree rest
IsTree (choose at t then_arm else_at else_arm end rest) = IsTree then_arm × HasElse else_at else_arm × IsTree else_arm × IsTree rest

abbrev pub written : Tree → List Placed
written tree = write tree.nodes (placed tree.end End ∷ [])

-- a flat list of instructions is what this tree writes out
pub record WritesOut (code : List Placed) (tree : Tree) : Type 0 where
  pub arms : IsTree tree.nodes
  pub out : code ≡ written tree

-- the flat instructions of a body that keeps the targets of its `br_table`s in one list
abbrev pub jump_of : List ℕ → FlatJump → Jump
jump_of ts flat.Unreachable = Unreachable
jump_of ts (flat.Br n) = Br n
jump_of ts (flat.BrIf n) = BrIf n
jump_of ts (flat.BrTable start count default) = BrTable (take count (drop start ts)) default
jump_of ts flat.Return = Return
jump_of ts (flat.Call f) = Call f
jump_of ts (flat.CallIndirect t) = CallIndirect t

abbrev pub item_of : List ℕ → Instr → Item
item_of ts (instr.Basic i) = Plain i
item_of ts (instr.Jump j) = Goes (jump_of ts j)
item_of ts (instr.Block t) = Opens t
item_of ts (instr.Loop t) = OpensLoop t
item_of ts (instr.If t) = OpensIf t
item_of ts instr.Else = Else
item_of ts instr.End = End

abbrev pub code_of : List ℕ → List Op → List Placed
code_of ts ops = map (λ o. placed o.at (item_of ts o.code)) ops

abbrev pub Writes : List ℕ → List Op → Tree → Type 0
Writes ts ops tree = WritesOut (code_of ts ops) tree
