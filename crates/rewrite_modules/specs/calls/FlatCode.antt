-- The flat body that writes out a tree, each instruction at offset 0, with the targets of its `br_table`s in order.
use Rattle.std.specs.Prelude.{ℕ, ◌+◌, List, [], ◌∷◌, ◌++◌, length, Option, Some, None}
use Rattle.wasm_syntax.specs.declared.instruction.Jump.{Jump as FlatJump}
use Rattle.wasm_syntax.specs.declared.instruction.Jump.TheVariants as flat
use Rattle.wasm_syntax.specs.declared.instruction.Instr.{Instr}
use Rattle.wasm_syntax.specs.declared.instruction.Instr.TheVariants as instrs
use Rattle.wasm_syntax.specs.declared.instruction.Op.{Op}
use Rattle.wasm_syntax.specs.declared.parts.LocalGroup.{LocalGroup}
use Rattle.wasm_syntax.specs.declared.parts.Body.{Body}
use Rattle.wasm_syntax.specs.Tree.{Jump, Unreachable, Br, BrIf, BrTable, Return, Call, CallIndirect, Nodes, stop, basic, jump, block, loop, choose}
use Rattle.rewrite_bodies.specs.calls.Slots.{groups}

abbrev pub targets_in : Nodes → List ℕ
targets_in stop = []
targets_in (basic o i rest) = targets_in rest
targets_in (jump o (BrTable ts d) rest) = ts ++ targets_in rest
targets_in (jump o j rest) = targets_in rest
targets_in (block o t inner end rest) = targets_in inner ++ targets_in rest
targets_in (loop o t inner end rest) = targets_in inner ++ targets_in rest
targets_in (choose o t a else_at b end rest) = targets_in a ++ (targets_in b ++ targets_in rest)

abbrev pub op : Instr → Op
op i = record { at = 0; len = 0; code = i }

abbrev pub else_op : Option ℕ → List Op → List Op
else_op None ops = ops
else_op (Some at) ops = op instrs.Else ∷ ops

-- with so many targets before
abbrev pub flat_jump : ℕ → Jump → FlatJump
flat_jump n Unreachable = flat.Unreachable
flat_jump n (Br l) = flat.Br l
flat_jump n (BrIf l) = flat.BrIf l
flat_jump n (BrTable ts d) = flat.BrTable n (length ts) d
flat_jump n Return = flat.Return
flat_jump n (Call f) = flat.Call f
flat_jump n (CallIndirect t) = flat.CallIndirect t

abbrev pub target_count : Jump → ℕ
target_count (BrTable ts d) = length ts
target_count j = 0

abbrev pub ops_in : ℕ → Nodes → List Op
ops_in n stop = []
ops_in n (basic o i rest) = op (instrs.Basic i) ∷ ops_in n rest
ops_in n (jump o j rest) = op (instrs.Jump (flat_jump n j)) ∷ ops_in (n + target_count j) rest
ops_in n (block o t inner end rest) = op (instrs.Block t) ∷ ops_in n inner ++ (op instrs.End ∷ ops_in (n + length (targets_in inner)) rest)
ops_in n (loop o t inner end rest) = op (instrs.Loop t) ∷ ops_in n inner ++ (op instrs.End ∷ ops_in (n + length (targets_in inner)) rest)
ops_in n (choose o t a else_at b end rest) =
    let na = n + length (targets_in a) in
    op (instrs.If t) ∷ ops_in n a ++ else_op else_at (ops_in na b ++ (op instrs.End ∷ ops_in (na + length (targets_in b)) rest))

abbrev pub body_of : List LocalGroup → Nodes → Body
body_of groups nodes = record { groups = groups; ops = ops_in 0 nodes ++ op instrs.End ∷ []; targets = targets_in nodes; start = 0 }
