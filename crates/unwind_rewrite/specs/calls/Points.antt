-- What holds where the writing of a body stands.
use Rattle.std.specs.Prelude.{Bool, false, nat_le, ◌≡◌, ℕ, suc, ◌<◌, ◌≤◌, ◌+◌, ◌*◌, ◌-◌, List, [], ◌∷◌, length, drop}
use Rattle.wasm_syntax.specs.declared.instruction.Instr.{Instr}
use Rattle.wasm_syntax.specs.declared.instruction.Instr.TheVariants as instrs
use Rattle.wasm_syntax.specs.declared.parts.Body.{Body}
use Rattle.wasm_syntax.specs.Tree.{Nodes, Tree, Item, Placed, placed, write, code_of, Writes}
use Rattle.rewrite_bodies.specs.calls.Slots.{Ctx}
use Rattle.rewrite_bodies.specs.calls.Rewrite.{at_once}
use Rattle.rewrite_code.specs.calls.Writing.{Written}
use Rattle.operand_spill.specs.calls.Walking.{Walking}
use Rattle.operand_spill.specs.calls.Standing.{Due, flat, Passes, Fine, Rewrites, Left}
use Rattle.unwind_rewrite.specs.declared.points.Point.{Point}
use Rattle.unwind_rewrite.specs.declared.points.Point.TheVariants as points
use Rattle.operand_spill.specs.declared.flow.Flow.{Flow}
use Rattle.operand_spill.specs.declared.flow.Flow.TheVariants as flows

-- the code at an index begins with this instruction
abbrev pub Begins : List Placed → ℕ → ℕ → Item → Type 0
Begins code pc at i = drop pc code ≡ placed at i ∷ drop (suc pc) code

-- the list of the instruction at an index ends at another one, whatever is due behind it
abbrev pub EndsAt : List Placed → ℕ → ℕ → Type 0
EndsAt code pc to = (nodes : Nodes) (dues : List Due) → drop pc code ≡ write nodes (flat dues) → drop to code ≡ flat dues

-- behind an instruction: the next one is live, or its list was written
abbrev pub Flows : Ctx → List Placed → Written → Nodes → ℕ → Walking → Written → Flow → Type 0
Flows C code start whole pc w now flows.Next = Rewrites C code start whole (suc pc) w now
Flows C code start whole pc w now flows.Ends = (to : ℕ) → EndsAt code pc to → pc ≤ to → Left C code start whole to w now

-- how many operands the node that this code begins with takes, where it is a basic instruction without a guard
abbrev pub AtOnce : Ctx → List Placed → ℕ → Type 0
AtOnce C code n = (nodes : Nodes) (dues : List Due) → code ≡ write nodes (flat dues) → n ≡ at_once C nodes

-- what a live instruction with this code offset comes to, wherever it stands; the topmost operand passes to what is behind it, or not
abbrev pub Advances : Ctx → Bool → ℕ → Item → Walking → Written → Walking → Written → Flow → Type 0
Advances C passing o i w now w' now' flow =
    (code : List Placed) (start : Written) (whole : Nodes) (pc : ℕ) → Begins code pc o i → Passes C (drop (suc pc) code) passing → Rewrites C code start whole pc w now → Flows C code start whole pc w' now' flow

-- what the `else` or the `end` behind a list comes to, but for the last one
abbrev pub Resumes : Ctx → Bool → Item → Walking → Written → Walking → Written → Type 0
Resumes C passing i w now w' now' =
    (code : List Placed) (start : Written) (whole : Nodes) (pc o : ℕ) → Begins code pc o i → suc pc < length code → Passes C (drop (suc pc) code) passing → Left C code start whole pc w now → Rewrites C code start whole (suc pc) w' now'

-- an instruction that stands behind a list
abbrev pub IsBehind : Instr → Type 0
IsBehind (instrs.Basic i) = ⊥
IsBehind (instrs.Jump j) = ⊥
IsBehind (instrs.Block t) = ⊥
IsBehind (instrs.Loop t) = ⊥
IsBehind (instrs.If t) = ⊥
IsBehind instrs.Else = Unit {0}
IsBehind instrs.End = Unit {0}

-- at a point
abbrev pub Holds : Ctx → List Placed → Written → Nodes → Walking → Written → Point → Type 0
Holds C code start whole w now (points.Live pc) = Rewrites C code start whole pc w now
Holds C code start whole w now (points.Ended pc) = Left C code start whole pc w now

-- at some body's point
abbrev pub Stood : Ctx → List Placed → Walking → Written → Point → Type 0
Stood C code w now p = (start : Written) × (whole : Nodes) × Holds C code start whole w now p

-- how much is left of so many instructions
abbrev pub left_of : ℕ → Point → ℕ
left_of n (points.Live pc) = 2 * (n - pc) + 1
left_of n (points.Ended pc) = 2 * (n - pc)

-- the code of a body
abbrev pub code_in : Body → List Placed
code_in body = code_of body.targets body.ops

-- a body that can be rewritten: it writes out a tree whose operands have room
pub record CanBeWritten (C : Ctx) (body : Body) : Type 0 where
  pub tree : Tree
  pub writes : Writes body.targets body.ops tree
  pub fine : Fine C [] tree.nodes

-- the end of the last list, in front of the instruction with this index, and a point before it
abbrev pub is_last : ℕ → Point → Bool
is_last last (points.Live pc) = false
is_last last (points.Ended pc) = nat_le last pc

abbrev pub BeforeLast : ℕ → Point → Type 0
BeforeLast n (points.Live pc) = Unit {0}
BeforeLast n (points.Ended pc) = pc + 1 < n
