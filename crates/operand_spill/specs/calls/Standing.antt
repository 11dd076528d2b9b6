-- Where a walk stands in a body: which nodes are left of the innermost list, and what is due behind it and behind each list around it.
use Rattle.std.specs.Prelude.{◌≡◌, ℕ, zero, suc, ◌≤◌, Bool, List, [], ◌∷◌, ◌++◌, length, drop, Option, Some, None}
use Rattle.wasm_syntax.specs.Tree.{Nodes, stop, basic, jump, block, loop, choose, Item, Plain, Goes, Opens, OpensLoop, OpensIf, Else, End, Placed, placed, write}
use Rattle.rewrite_bodies.specs.calls.Slots.{Place, Ctx}
use Rattle.rewrite_bodies.specs.calls.Rewrite.{passes, with_result, rewrite}
use Rattle.rewrite_bodies.specs.calls.Typed.{end_gives}
use Rattle.rewrite_bodies.specs.calls.Agreement.{Room}
use Rattle.rewrite_code.specs.calls.Writing.{Written, Behind, ends, alternates, goes}
use Rattle.operand_spill.specs.declared.labels.OpenBlock.{OpenBlock}
use Rattle.operand_spill.specs.calls.Labels.{info}
use Rattle.operand_spill.specs.calls.Walking.{Walking, behind_block}

-- what is due behind the list of an open block: its `end` and the nodes behind it; or its `else`, the second arm, its `end` and the nodes
-- behind it
pub data Due : Type 0 where
  before_end : (end : ℕ) (rest : Nodes) → Due
  before_else : (at : ℕ) (other : Nodes) (end : ℕ) (rest : Nodes) → Due

-- all that is due, written out
abbrev pub flat : List Due → List Placed
flat [] = []
flat (before_end end rest ∷ ds) = placed end End ∷ write rest (flat ds)
flat (before_else at other end rest ∷ ds) = placed at Else ∷ write other (placed end End ∷ write rest (flat ds))

-- ---- dead code

-- behind an instruction in dead code in which so many blocks are open: how many are then, or None where the list ends in front of it
abbrev pub passed : ℕ → Item → Option ℕ
passed depth (Plain i) = Some depth
passed depth (Goes j) = Some depth
passed depth (Opens t) = Some (suc depth)
passed depth (OpensLoop t) = Some (suc depth)
passed depth (OpensIf t) = Some (suc depth)
passed zero Else = None
passed (suc depth) Else = Some (suc depth)
passed zero End = None
passed (suc depth) End = Some depth

abbrev pub skip_by : Option ℕ → List Placed → (ℕ → List Placed) → List Placed
skip_by None here go = here
skip_by (Some depth) here go = go depth

-- the code from the end of the list on
abbrev pub skip : ℕ → List Placed → List Placed
skip depth [] = []
skip depth (x ∷ xs) = skip_by (passed depth x.code) (x ∷ xs) (λ d. skip d xs)

-- ---- the rewriting

-- an `if` without `else` has no second arm, and gives nothing
abbrev pub Armed : Nodes → Type 0
Armed stop = Unit {0}
Armed (basic at i rest) = Armed rest
Armed (jump at j rest) = Armed rest
Armed (block at t inner end rest) = Armed inner × Armed rest
Armed (loop at t inner end rest) = Armed inner × Armed rest
Armed (choose at t a None b end rest) = (t ≡ None) × (b ≡ stop) × Armed a × Armed rest
Armed (choose at t a (Some else_at) b end rest) = Armed a × Armed b × Armed rest

-- whether the topmost operand passes to the node that this code begins with
abbrev pub Passes : Ctx → List Placed → Bool → Type 0
Passes C code passing = (nodes : Nodes) (dues : List Due) → code ≡ write nodes (flat dues) → passing ≡ passes C nodes

-- how many labels are open, with that of the body
abbrev pub depth_in : Walking → ℕ
depth_in w = suc (length w.opens)

-- nodes that can be rewritten over these places
pub record Fine (C : Ctx) (es : List Place) (nodes : Nodes) : Type 0 where
  pub room : Room C es nodes
  pub arms : Armed nodes

-- the end of the body
abbrev pub IsLast : List Due → Type 0
IsLast [] = ⊥
IsLast (before_end end rest ∷ ds) = (rest ≡ stop) × (ds ≡ [])
IsLast (before_else at other end rest ∷ ds) = ⊥

-- what is due behind each open block, and then behind the body, can be rewritten
abbrev pub Around : Ctx → List OpenBlock → List Due → Type 0
Around C [] ds = IsLast ds
Around C (o ∷ os) [] = ⊥
Around C (o ∷ os) (before_end end rest ∷ ds) = Fine C (behind_block o) rest × Around C os ds
Around C (o ∷ os) (before_else at other end rest ∷ ds) = Fine C o.saved other × Fine C (behind_block o) rest × Around C os ds

-- the nodes behind an open block, rewritten
abbrev pub rest_of : Ctx → OpenBlock → List OpenBlock → Nodes → Nodes
rest_of C o os rest = with_result C (end_gives (info o.label)) o.saved (passes C rest) (λ es. rewrite C (suc (length os)) es rest)

-- what is due in the rewritten code behind each open block; the end of the body is written apart
abbrev pub due : Ctx → List OpenBlock → List Due → List Behind
due C [] ds = []
due C (o ∷ os) [] = []
due C (o ∷ os) (before_end end rest ∷ ds) = ends (rest_of C o os rest) ∷ due C os ds
due C (o ∷ os) (before_else at other end rest ∷ ds) =
    alternates (rewrite C (suc (length (o ∷ os))) o.saved other) (rest_of C o os rest) ∷ due C os ds

-- The walk stands in front of these nodes, the last ones of the innermost list, at an index of the code.
pub record Stands (C : Ctx) (code : List Placed) (pc : ℕ) (w : Walking) (nodes : Nodes) (dues : List Due) : Type 0 where
  pub gives : w.gives ≡ C.result
  pub code_is : drop pc code ≡ write nodes (flat dues)
  pub fine : Fine C w.places nodes
  pub around : Around C w.opens dues
  pub shallow : length w.opens ≤ pc

-- The innermost list is left: the walk stands in front of what is due behind it.
pub record Leaves (C : Ctx) (code : List Placed) (pc : ℕ) (w : Walking) (dues : List Due) : Type 0 where
  pub gives : w.gives ≡ C.result
  pub code_is : drop pc code ≡ flat dues
  pub around : Around C w.opens dues
  pub shallow : length w.opens ≤ pc

-- What was written, in front of these nodes and what is due, is the whole in front of nothing.
pub record Comes (C : Ctx) (start : Written) (whole : Nodes) (now : Written) (nodes : Nodes) (opens : List OpenBlock) (dues : List Due) : Type 0 where
  pub comes : (behind : List Behind) → goes start whole behind ≡ goes now nodes (due C opens dues ++ behind)

-- A live point: what was written in front of the rewriting of what is left is the whole.
pub record Rewrites (C : Ctx) (code : List Placed) (start : Written) (whole : Nodes) (pc : ℕ) (w : Walking) (now : Written) : Type 0 where
  pub nodes : Nodes
  pub dues : List Due
  pub stands : Stands C code pc w nodes dues
  pub comes : Comes C start whole now (rewrite C (depth_in w) w.places nodes) w.opens dues

-- The end of a list: its rewriting was written.
pub record Left (C : Ctx) (code : List Placed) (start : Written) (whole : Nodes) (pc : ℕ) (w : Walking) (now : Written) : Type 0 where
  pub dues : List Due
  pub leaves : Leaves C code pc w dues
  pub comes : Comes C start whole now stop w.opens dues
