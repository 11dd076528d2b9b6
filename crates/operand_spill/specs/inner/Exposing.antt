-- The instructions of a body that need a guard, and the locals that its blocks write, along its flat code.
use Rattle.std.specs.Prelude.{ℕ, zero, suc, ◌-◌, ◌&&◌, ◌||◌, not, List, [], ◌∷◌, ◌++◌, Bool, true, false, Option, Some, None, option_map}
use Rattle.std.specs.Ordering.{nat_cmp}
use Rattle.std.specs.BTreeSet.{BTreeSet, contains}
use Rattle.wasm_syntax.specs.Tree.{Item, Plain, Goes, Opens, OpensLoop, OpensIf, Else, End, Placed}
use Rattle.rewrite_bodies.specs.calls.Slots.{local_written}
use Rattle.rewrite_bodies.specs.calls.Guards.{can_trap}
use Rattle.rewrite_bodies.specs.calls.Facts.{Base, Zero, Local, Copy, Fact, Copies, no_copies, is_local, others, copies_behind, facts_behind, shown, is_answered}
use Rattle.operand_spill.specs.declared.copies.KnownCopy.{KnownCopy}
use Rattle.operand_spill.specs.declared.copies.KnownCopies.{KnownCopies}
use Rattle.operand_spill.specs.declared.facts.KnownFact.{KnownFact}

-- ---- as they are kept

abbrev pub base_of : Option ℕ → Base
base_of None = Zero
base_of (Some x) = Local x

abbrev pub fact : KnownFact → Fact
fact k = record { base = base_of k.local; end = k.end }

abbrev pub made : Option ℕ → ℕ → Fact
made local end = record { base = base_of local; end = end }

abbrev pub copy : KnownCopy → Copy
copy k = record { base = base_of k.local; plus = k.plus }

abbrev pub copies : KnownCopies → Copies
copies k = record { first = option_map copy k.first; second = option_map copy k.second; third = option_map copy k.third }

-- the locals of a set
abbrev pub held : BTreeSet ℕ → ℕ → Bool
held marks x = contains nat_cmp marks x

-- ---- locals that blocks write, inside so many blocks

abbrev pub deeper : Item → ℕ → ℕ
deeper (Opens t) d = suc d
deeper (OpensLoop t) d = suc d
deeper (OpensIf t) d = suc d
deeper End d = d - 1
deeper _ d = d

abbrev pub marked_by : ℕ → Item → ℕ → Bool
marked_by zero i x = false
marked_by (suc d) (Plain i) x = is_local (local_written i) x
marked_by (suc d) _ x = false

abbrev pub marked_along : ℕ → List Placed → ℕ → Bool → Bool
marked_along d [] x b = b
marked_along d (y ∷ code) x b = marked_along (deeper y.code d) code x (b || marked_by d y.code x)

-- ---- what is known before an instruction

pub record Here : Type 0 where
  pub facts : List Fact
  pub copies : Copies
  -- behind each open block, the innermost first
  pub saved : List (List Fact)

abbrev pub here : List Fact → Copies → List (List Fact) → Here
here facts copies saved = record { facts = facts; copies = copies; saved = saved }

abbrev pub latest : List (List Fact) → List Fact
latest [] = []
latest (fs ∷ fss) = fs

abbrev pub older : List (List Fact) → List (List Fact)
older [] = []
older (fs ∷ fss) = fss

-- a block, with all facts that are there; and a loop
abbrev pub entered : (ℕ → Bool) → Here → Here
entered these w = here w.facts no_copies (others these w.facts ∷ w.saved)

abbrev pub begun : (ℕ → Bool) → Here → Here
begun these w = here (others these w.facts) no_copies (others these w.facts ∷ w.saved)

abbrev pub passed : (ℕ → Bool) → Here → Item → Here
passed these w (Plain i) = here (facts_behind i w.copies w.facts) (copies_behind i w.copies) w.saved
passed these w (Goes j) = here w.facts no_copies w.saved
passed these w (Opens t) = entered these w
passed these w (OpensLoop t) = begun these w
passed these w (OpensIf t) = entered these w
passed these w Else = here (latest w.saved) no_copies w.saved
passed these w End = here (latest w.saved) no_copies (older w.saved)

abbrev pub is_exposed : Here → Item → Bool
is_exposed w (Plain i) = can_trap i && not (is_answered (shown i w.copies) w.facts)
is_exposed w _ = false

abbrev pub one_more : Bool → ℕ → List ℕ → List ℕ
one_more true o os = os ++ o ∷ []
one_more false o os = os

abbrev pub exposed_along : (ℕ → Bool) → Here → List Placed → List ℕ → List ℕ
exposed_along these w [] os = os
exposed_along these w (x ∷ code) os = exposed_along these (passed these w x.code) code (one_more (is_exposed w x.code) x.at os)
