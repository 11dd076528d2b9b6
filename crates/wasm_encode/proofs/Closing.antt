-- What a tree writes out opens and closes blocks as an expression has to: no block is left open, only the last `end` closes the
-- outermost one, and an `else` stands only in an `if` that has none yet.
use Rattle.std.proofs.Common.{◌≡◌, ℕ, suc, true, false, eqb, List, [], ◌∷◌, length, map, refl, sym, subst, arith, Some, None}
use Rattle.wasm_syntax.specs.declared.blocks.BlockKind.{BlockKind}
use Rattle.wasm_syntax.specs.declared.blocks.BlockKind.TheVariants as kinds
use Rattle.wasm_syntax.specs.declared.instruction.Instr.{Instr}
use Rattle.wasm_syntax.specs.declared.instruction.Instr.TheVariants as instr
use Rattle.wasm_syntax.specs.declared.instruction.Op.{Op}
use Rattle.wasm_syntax.specs.Tree.{Nodes, stop, basic, jump, block, loop, choose, Tree, Item, Plain, Goes, Opens, OpensLoop, OpensIf, Else, End, Placed, placed, write, written, code_of, item_of, Writes}
use Rattle.wasm_format.specs.Expressions.{may_stand, open_behind}

-- ---- on the items that trees write out

-- what an item does to the blocks that are open, the innermost of which is b
abbrev Goes_on : BlockKind → List BlockKind → Item → (List BlockKind → Type 0) → Type 0
Goes_on b bs (Plain i) P = P (b ∷ bs)
Goes_on b bs (Goes j) P = P (b ∷ bs)
Goes_on b bs (Opens t) P = P (kinds.Plain ∷ b ∷ bs)
Goes_on b bs (OpensLoop t) P = P (kinds.Loop ∷ b ∷ bs)
Goes_on b bs (OpensIf t) P = P (kinds.Then ∷ b ∷ bs)
Goes_on b bs Else P = (b ≡ kinds.Then) × P (kinds.Plain ∷ bs)
Goes_on b bs End P = P bs

-- The items close all blocks that are open, and end there.
abbrev Closes : List BlockKind → List Placed → Type 0
Closes blocks [] = blocks ≡ []
Closes [] (c ∷ cs) = ⊥
Closes (b ∷ bs) (c ∷ cs) = Goes_on b bs c.code (λ blocks. Closes blocks cs)

closes_nodes : (nodes : Nodes) (b : BlockKind) (bs : List BlockKind) (after : List Placed) → Closes (b ∷ bs) after → Closes (b ∷ bs) (write nodes after)
closes_nodes stop b bs after h = h
closes_nodes (basic at i rest) b bs after h = closes_nodes rest b bs after h
closes_nodes (jump at j rest) b bs after h = closes_nodes rest b bs after h
closes_nodes (block at t body end rest) b bs after h =
    closes_nodes body kinds.Plain (b ∷ bs) (placed end End ∷ write rest after) (closes_nodes rest b bs after h)
closes_nodes (loop at t body end rest) b bs after h =
    closes_nodes body kinds.Loop (b ∷ bs) (placed end End ∷ write rest after) (closes_nodes rest b bs after h)
closes_nodes (choose at t then_arm None else_arm end rest) b bs after h =
    closes_nodes then_arm kinds.Then (b ∷ bs) (write else_arm (placed end End ∷ write rest after)) (closes_nodes else_arm kinds.Then (b ∷ bs) (placed end End ∷ write rest after) (closes_nodes rest b bs after h))
closes_nodes (choose at t then_arm (Some else_at) else_arm end rest) b bs after h =
    closes_nodes then_arm kinds.Then (b ∷ bs) (placed else_at Else ∷ write else_arm (placed end End ∷ write rest after)) (refl, closes_nodes else_arm kinds.Plain (b ∷ bs) (placed end End ∷ write rest after) (closes_nodes rest b bs after h))

closes_tree : (tree : Tree) → Closes (kinds.Plain ∷ []) (written tree)
closes_tree tree = closes_nodes tree.nodes kinds.Plain [] (placed tree.end End ∷ []) refl

-- ---- on instructions

-- The instructions are those of an expression in which these blocks are open.
abbrev pub Ends : List BlockKind → List Instr → Type 0
Ends blocks [] = blocks ≡ []
Ends blocks (i ∷ is) = (eqb (length blocks) 0 ≡ false) × (may_stand blocks i ≡ true) × Ends (open_behind blocks i) is

stands : (ts : List ℕ) (b : BlockKind) (bs : List BlockKind) (i : Instr) (P : List BlockKind → Type 0) → Goes_on b bs (item_of ts i) P → may_stand (b ∷ bs) i ≡ true
stands ts b bs (instr.Basic i) P h = refl
stands ts b bs (instr.Jump j) P h = refl
stands ts b bs (instr.Block t) P h = refl
stands ts b bs (instr.Loop t) P h = refl
stands ts b bs (instr.If t) P h = refl
stands ts b bs instr.Else P h = rw h.0 refl
stands ts b bs instr.End P h = refl

goes_on : (ts : List ℕ) (b : BlockKind) (bs : List BlockKind) (i : Instr) (P : List BlockKind → Type 0) → Goes_on b bs (item_of ts i) P → P (open_behind (b ∷ bs) i)
goes_on ts b bs (instr.Basic i) P h = h
goes_on ts b bs (instr.Jump j) P h = h
goes_on ts b bs (instr.Block t) P h = h
goes_on ts b bs (instr.Loop t) P h = h
goes_on ts b bs (instr.If t) P h = h
goes_on ts b bs instr.Else P h = h.1
goes_on ts b bs instr.End P h = h

some_open : (n : ℕ) → eqb (suc n) 0 ≡ false
some_open n = grind arith

ends : (ts : List ℕ) (ops : List Op) (blocks : List BlockKind) → Closes blocks (code_of ts ops) → Ends blocks (map (λ o. o.code) ops)
ends ts [] blocks h = h
ends ts (o ∷ os) [] h = absurd h
ends ts (o ∷ os) (b ∷ bs) h =
    let P = λ (blocks : List BlockKind). Closes blocks (code_of ts os) in
    (some_open (length bs), stands ts b bs o.code P h, ends ts os (open_behind (b ∷ bs) o.code) (goes_on ts b bs o.code P h))

pub expression_ends : (ts : List ℕ) (ops : List Op) (tree : Tree) → Writes ts ops tree → Ends (kinds.Plain ∷ []) (map (λ o. o.code) ops)
expression_ends ts ops tree w = ends ts ops (kinds.Plain ∷ []) (subst (λ (code : List Placed). Closes (kinds.Plain ∷ []) code) (sym w.out) (closes_tree tree))
