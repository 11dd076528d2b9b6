-- Flat code whose blocks are opened and closed in pairs writes out a tree.
use Rattle.std.proofs.Common.{◌≡◌, ℕ, ◌⊎◌, true, List, [], ◌∷◌, Option, Some, None, refl, ap, ◌∙◌, inl, inr}
use Rattle.wasm_syntax.specs.declared.value.ValType.{ValType}
use Rattle.wasm_syntax.specs.declared.instruction.Basic.{Basic}
use Rattle.wasm_syntax.specs.declared.instruction.Instr.{Instr}
use Rattle.wasm_syntax.specs.declared.instruction.Instr.TheVariants as instr
use Rattle.wasm_syntax.specs.declared.blocks.BlockKind.{BlockKind}
use Rattle.wasm_syntax.specs.declared.blocks.BlockKind.TheVariants.{Plain, Loop, Then}
use Rattle.wasm_syntax.specs.Tree.{Jump, Nodes, stop, basic, jump, block, loop, choose, Tree, Goes, Opens, OpensLoop, OpensIf, Else, End, Placed, placed, write, IsTree, WritesOut, item_of}
use Rattle.wasm_syntax.specs.Tree.{Plain as PlainItem}
use Rattle.wasm_format.specs.Expressions.{may_stand, open_behind}

-- ---- what is still to come, while blocks are open

-- an `end`, and what comes behind it
pub record Ended (C : List Placed → Type 0) (code : List Placed) : Type 0 where
  pub end : ℕ
  pub rest : List Placed
  pub is : code ≡ placed end End ∷ rest
  pub then_ : C rest

-- nodes, and what comes behind them
pub record Arm (T : List Placed → Type 0) (code : List Placed) : Type 0 where
  pub nodes : Nodes
  pub tree : IsTree nodes
  pub tail : List Placed
  pub is : code ≡ write nodes tail
  pub ends : T tail

-- an `else`, the other arm, and what comes behind it
pub record Other (C : List Placed → Type 0) (code : List Placed) : Type 0 where
  pub at : ℕ
  pub rest : List Placed
  pub is : code ≡ placed at Else ∷ rest
  pub arm : Arm (Ended C) rest

-- behind the nodes of a block
abbrev pub Tail : BlockKind → (List Placed → Type 0) → List Placed → Type 0
Tail Plain C code = Ended C code
Tail Loop C code = Ended C code
Tail Then C code = Ended C code ⊎ Other C code

-- The code closes all of these blocks, the innermost first, and ends with the last one.
abbrev pub Closes : List BlockKind → List Placed → Type 0
Closes [] code = code ≡ []
Closes (b ∷ blocks) code = Arm (Tail b (Closes blocks)) code

-- ---- one more instruction in front

behind_basic : (T : List Placed → Type 0) (at : ℕ) (i : Basic) (code : List Placed) → Arm T code → Arm T (placed at (PlainItem i) ∷ code)
behind_basic T at i code a = record { nodes = basic at i a.nodes; tree = a.tree; tail = a.tail; is = ap (λ (t : List Placed). placed at (PlainItem i) ∷ t) a.is; ends = a.ends }

behind_jump : (T : List Placed → Type 0) (at : ℕ) (j : Jump) (code : List Placed) → Arm T code → Arm T (placed at (Goes j) ∷ code)
behind_jump T at j code a = record { nodes = jump at j a.nodes; tree = a.tree; tail = a.tail; is = ap (λ (t : List Placed). placed at (Goes j) ∷ t) a.is; ends = a.ends }

-- the nodes of a block, its `end`, and what comes behind it
closed : (nodes : Nodes) (code tail rest : List Placed) (end : ℕ) → code ≡ write nodes tail → tail ≡ placed end End ∷ rest → code ≡ write nodes (placed end End ∷ rest)
closed nodes code tail rest end is ends = is ∙ ap (write nodes) ends

behind_block : (T : List Placed → Type 0) (at : ℕ) (t : Option ValType) (code : List Placed) → Arm (Ended (Arm T)) code → Arm T (placed at (Opens t) ∷ code)
behind_block T at t code a =
    let e = a.ends in
    let o = e.then_ in
    record {
      nodes = block at t a.nodes e.end o.nodes;
      tree = (a.tree, o.tree);
      tail = o.tail;
      is = ap (λ (c : List Placed). placed at (Opens t) ∷ c) (closed a.nodes code a.tail e.rest e.end a.is e.is ∙ ap (λ (c : List Placed). write a.nodes (placed e.end End ∷ c)) o.is);
      ends = o.ends;
    }

behind_loop : (T : List Placed → Type 0) (at : ℕ) (t : Option ValType) (code : List Placed) → Arm (Ended (Arm T)) code → Arm T (placed at (OpensLoop t) ∷ code)
behind_loop T at t code a =
    let e = a.ends in
    let o = e.then_ in
    record {
      nodes = loop at t a.nodes e.end o.nodes;
      tree = (a.tree, o.tree);
      tail = o.tail;
      is = ap (λ (c : List Placed). placed at (OpensLoop t) ∷ c) (closed a.nodes code a.tail e.rest e.end a.is e.is ∙ ap (λ (c : List Placed). write a.nodes (placed e.end End ∷ c)) o.is);
      ends = o.ends;
    }

behind_then : (T : List Placed → Type 0) (at : ℕ) (t : Option ValType) (code : List Placed) → Arm (Tail Then (Arm T)) code → Arm T (placed at (OpensIf t) ∷ code)
behind_then T at t code a = elim a.ends [
  | inl e ↦
      let o = e.then_ in
      record {
        nodes = choose at t a.nodes None stop e.end o.nodes;
        tree = (a.tree, refl, tt, o.tree);
        tail = o.tail;
        is = ap (λ (c : List Placed). placed at (OpensIf t) ∷ c) (closed a.nodes code a.tail e.rest e.end a.is e.is ∙ ap (λ (c : List Placed). write a.nodes (placed e.end End ∷ c)) o.is);
        ends = o.ends;
      }
  | inr x ↦
      let b = x.arm in
      let e = b.ends in
      let o = e.then_ in
      let other : x.rest ≡ write b.nodes (placed e.end End ∷ write o.nodes o.tail) = closed b.nodes x.rest b.tail e.rest e.end b.is e.is ∙ ap (λ (c : List Placed). write b.nodes (placed e.end End ∷ c)) o.is in
      record {
        nodes = choose at t a.nodes (Some x.at) b.nodes e.end o.nodes;
        tree = (a.tree, tt, b.tree, o.tree);
        tail = o.tail;
        is = ap (λ (c : List Placed). placed at (OpensIf t) ∷ c) (a.is ∙ ap (write a.nodes) x.is ∙ ap (λ (c : List Placed). write a.nodes (placed x.at Else ∷ c)) other);
        ends = o.ends;
      }
]

behind_else : (C : List Placed → Type 0) (at : ℕ) (code : List Placed) → Arm (Ended C) code → Arm (Tail Then C) (placed at Else ∷ code)
behind_else C at code a = record { nodes = stop; tree = tt; tail = placed at Else ∷ code; is = refl; ends = inr (record { at = at; rest = code; is = refl; arm = a }) }

ends_here : (C : List Placed → Type 0) (at : ℕ) (code : List Placed) → C code → Ended C (placed at End ∷ code)
ends_here C at code c = record { end = at; rest = code; is = refl; then_ = c }

behind_end : (b : BlockKind) (C : List Placed → Type 0) (at : ℕ) (code : List Placed) → C code → Arm (Tail b C) (placed at End ∷ code)
behind_end Plain C at code c = record { nodes = stop; tree = tt; tail = placed at End ∷ code; is = refl; ends = ends_here C at code c }
behind_end Loop C at code c = record { nodes = stop; tree = tt; tail = placed at End ∷ code; is = refl; ends = ends_here C at code c }
behind_end Then C at code c = record { nodes = stop; tree = tt; tail = placed at End ∷ code; is = refl; ends = inl (ends_here C at code c) }

pub one_closes : (targets : List ℕ) (b : BlockKind) (blocks : List BlockKind) (at : ℕ) (i : Instr) (code : List Placed) → may_stand (b ∷ blocks) i ≡ true → Closes (open_behind (b ∷ blocks) i) code
    → Closes (b ∷ blocks) (placed at (item_of targets i) ∷ code)
one_closes targets b blocks at (instr.Basic i) code stands c = behind_basic (Tail b (Closes blocks)) at i code c
one_closes targets b blocks at (instr.Jump j) code stands c = behind_jump (Tail b (Closes blocks)) at _ code c
one_closes targets b blocks at (instr.Block t) code stands c = behind_block (Tail b (Closes blocks)) at t code c
one_closes targets b blocks at (instr.Loop t) code stands c = behind_loop (Tail b (Closes blocks)) at t code c
one_closes targets b blocks at (instr.If t) code stands c = behind_then (Tail b (Closes blocks)) at t code c
one_closes targets Plain blocks at instr.Else code stands c = absurd cc
one_closes targets Loop blocks at instr.Else code stands c = absurd cc
one_closes targets Then blocks at instr.Else code stands c = behind_else (Closes blocks) at code c
one_closes targets b blocks at instr.End code stands c = behind_end b (Closes blocks) at code c

-- Code that closes the one block of a body writes out a tree.
pub closed_tree : (code : List Placed) → Closes (Plain ∷ []) code → (tree : Tree) × WritesOut code tree
closed_tree code a =
    let e = a.ends in
    (record { nodes = a.nodes; end = e.end }, record { arms = a.tree; out = closed a.nodes code a.tail e.rest e.end a.is e.is ∙ ap (λ (c : List Placed). write a.nodes (placed e.end End ∷ c)) e.then_ })
