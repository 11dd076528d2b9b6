-- Flat code that is being written, and which piece of a tree was written: whatever nodes go on behind it, all that is written in the end
-- is the same.
use Rattle.std.specs.Prelude.{ℕ, ◌≡◌, List, [], ◌∷◌, ◌++◌, length, Option, Some}
use Rattle.wasm_syntax.specs.declared.value.ValType.{ValType}
use Rattle.wasm_syntax.specs.declared.instruction.Instr.{Instr}
use Rattle.wasm_syntax.specs.declared.instruction.Instr.TheVariants as instrs
use Rattle.wasm_syntax.specs.declared.instruction.Op.{Op}
use Rattle.wasm_syntax.specs.Tree.{Nodes, stop, choose}
use Rattle.rewrite_modules.specs.calls.FlatCode.{op, ops_in, targets_in}

-- instructions, each at offset 0 with length 0, and the targets of their `br_table`s
pub record Written : Type 0 where
  pub ops : List Op
  pub targets : List ℕ

abbrev pub written : List Op → List ℕ → Written
written ops targets = record { ops = ops; targets = targets }

abbrev pub nothing : Written
nothing = written [] []

-- an instruction behind the code
abbrev pub with_op : Written → Instr → Written
with_op w i = written (w.ops ++ op i ∷ []) w.targets

-- nodes behind the code
abbrev pub with_nodes : Written → Nodes → Written
with_nodes w nodes = written (w.ops ++ ops_in (length w.targets) nodes) (w.targets ++ targets_in nodes)

-- what is due behind the nodes of a block: its end and the nodes behind it; or `else`, the second arm, the end and the nodes behind it
pub data Behind : Type 0 where
  ends : (rest : Nodes) → Behind
  alternates : (arm : Nodes) (rest : Nodes) → Behind

-- the code with all that is due, that of the innermost block first
abbrev pub with_due : Written → List Behind → Written
with_due w [] = w
with_due w (ends rest ∷ behind) = with_due (with_nodes (with_op w instrs.End) rest) behind
with_due w (alternates arm rest ∷ behind) =
    with_due (with_nodes (with_op (with_nodes (with_op w instrs.Else) arm) instrs.End) rest) behind

-- all that is written when these nodes and what is due behind them are
abbrev pub goes : Written → Nodes → List Behind → Written
goes w nodes behind = with_due (with_nodes w nodes) behind

-- from the old code to the new one, a piece was written
pub record Emits (piece : Nodes → Nodes) (old new : Written) : Type 0 where
  pub emitted : (k : Nodes) (behind : List Behind) → goes old (piece k) behind ≡ goes new k behind

-- the last nodes of a list
pub record EmitsLast (nodes : Nodes) (old new : Written) : Type 0 where
  pub emitted : (behind : List Behind) → goes old nodes behind ≡ goes new stop behind

-- the beginning of a block, a loop, or an `if` without `else`
pub record Opens (piece : Nodes → Nodes → Nodes) (old new : Written) : Type 0 where
  pub opened : (inner k : Nodes) (behind : List Behind) → goes old (piece inner k) behind ≡ goes new inner (ends k ∷ behind)

-- the beginning of an `if` with `else`
pub record OpensArms (t : Option ValType) (old new : Written) : Type 0 where
  pub opened : (arm other k : Nodes) (behind : List Behind) → goes old (choose 0 t arm (Some 0) other 0 k) behind ≡ goes new arm (alternates other k ∷ behind)

-- `else`, behind the first arm
pub record Alternates (old new : Written) : Type 0 where
  pub alternated : (other k : Nodes) (behind : List Behind) → goes old stop (alternates other k ∷ behind) ≡ goes new other (ends k ∷ behind)

-- the end of the innermost block
pub record Closes (old new : Written) : Type 0 where
  pub closed : (k : Nodes) (behind : List Behind) → goes old stop (ends k ∷ behind) ≡ goes new k behind
