-- A walk that knows where the operands are: what stands before the instructions that are left.
use Rattle.std.specs.Prelude.{◌≡◌, Bool, true, false, ℕ, suc, ◌+◌, ◌<◌, ◌≤◌, List, [], ◌∷◌, length, drop, Option, None}
use Rattle.wasm_syntax.specs.Tree.{Jump, Nodes, IsTree, Item, Plain, Goes, Opens, OpensLoop, OpensIf, Else, End, Placed, placed, write}
use Rattle.rewrite_bodies.specs.calls.Slots.{Place, Ctx}
use Rattle.operand_spill.specs.declared.labels.OpenBlock.{OpenBlock}
use Rattle.operand_spill.specs.calls.Walking.{Walking, behind_block}
use Rattle.operand_spill.specs.calls.Standing.{Due, before_end, before_else, flat, IsLast}
use Rattle.operand_spill.specs.calls.Before.{dead, live, after_jump}
use Rattle.operand_spill.specs.declared.flow.Flow.{Flow}
use Rattle.operand_spill.specs.declared.flow.Flow.TheVariants.{Next, Ends}

-- the places before each instruction of a body
abbrev pub Places : Type 0
Places = ℕ → Option (List Place)

-- the code at an index begins with this instruction
abbrev pub Starts : List Placed → ℕ → ℕ → Item → Type 0
Starts code pc at i = drop pc code ≡ placed at i ∷ drop (suc pc) code

abbrev pub is_else : Item → Bool
is_else (Plain i) = false
is_else (Goes j) = false
is_else (Opens t) = false
is_else (OpensLoop t) = false
is_else (OpensIf t) = false
is_else Else = true
is_else End = false

-- each open block has what is due behind it, and so has the body
abbrev pub Matched : List OpenBlock → List Due → Type 0
Matched [] ds = IsLast ds
Matched (o ∷ os) [] = ⊥
Matched (o ∷ os) (before_end end rest ∷ ds) = IsTree rest × Matched os ds
Matched (o ∷ os) (before_else at other end rest ∷ ds) = IsTree other × IsTree rest × Matched os ds

-- the places before what is due
abbrev pub after : Ctx → List OpenBlock → List Due → Places
after C [] ds = λ k. None
after C (o ∷ os) [] = λ k. None
after C (o ∷ os) (before_end end rest ∷ ds) = live C (behind_block o) rest (after C os ds)
after C (o ∷ os) (before_else at other end rest ∷ ds) = live C o.saved other (live C (behind_block o) rest (after C os ds))

-- the walk is before a live instruction
pub record Knows (C : Ctx) (code : List Placed) (whole : Places) (pc : ℕ) (w : Walking) : Type 0 where
  pub nodes : Nodes
  pub dues : List Due
  pub code_is : drop pc code ≡ write nodes (flat dues)
  pub trees : IsTree nodes
  pub matched : Matched w.opens dues
  pub places : (k : ℕ) → whole (pc + k) ≡ live C w.places nodes (after C w.opens dues) k

-- the walk is behind an unconditional transfer
pub record Ended (C : Ctx) (code : List Placed) (whole : Places) (pc : ℕ) (w : Walking) : Type 0 where
  pub nodes : Nodes
  pub dues : List Due
  pub code_is : drop pc code ≡ write nodes (flat dues)
  pub trees : IsTree nodes
  pub matched : Matched w.opens dues
  pub places : (k : ℕ) → whole (pc + k) ≡ dead nodes (after C w.opens dues) k

-- the walk is at the `else` or the `end` behind a list
pub record Over (C : Ctx) (code : List Placed) (whole : Places) (pc : ℕ) (w : Walking) : Type 0 where
  pub dues : List Due
  pub code_is : drop pc code ≡ flat dues
  pub matched : Matched w.opens dues
  pub places : (k : ℕ) → whole (suc pc + k) ≡ after C w.opens dues k

-- the walk is before a live instruction, or behind the last one
pub record Proceeds (C : Ctx) (code : List Placed) (whole : Places) (pc : ℕ) (w : Walking) : Type 0 where
  pub here : pc < length code → Knows C code whole pc w
  pub past : length code ≤ pc → (k : ℕ) → whole (pc + k) ≡ None

abbrev pub Flowed : Flow → Ctx → List Placed → Places → ℕ → Walking → Type 0
Flowed Next C code whole pc w = Proceeds C code whole pc w
Flowed Ends C code whole pc w = Ended C code whole pc w

-- what a jump does to the places, and whether the next instruction is run
abbrev pub Jumped : Flow → Ctx → Jump → Walking → Walking → Type 0
Jumped Next C j old new = (new.opens ≡ old.opens) × ((go : List Place → Places) (over : Places) (k : ℕ) → after_jump C j old.places go over k ≡ go new.places k)
Jumped Ends C j old new = (new.opens ≡ old.opens) × ((go : List Place → Places) (over : Places) (k : ℕ) → after_jump C j old.places go over k ≡ over k)

-- the instructions from one up to another are dead
abbrev pub AreDead : Places → ℕ → ℕ → Type 0
AreDead whole from next = (k : ℕ) → from ≤ k → k < next → whole k ≡ None
