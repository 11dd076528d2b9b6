-- The landings that are noted along the code of a body are those of the definition.
use Rattle.std.proofs.Common.{◌⊎◌, inl, inr, ◌≡◌, ℕ, zero, suc, ◌+◌, ◌-◌, ◌<◌, ◌≤◌, nat_lt, List, [], ◌∷◌, length, drop, slice_get, Option, Some, None, Bool, true, refl, sym, ap, ◌∙◌, subst, arith}
use Rattle.wasm_syntax.specs.declared.parts.FuncType.{FuncType}
use Rattle.wasm_syntax.specs.declared.instruction.Op.{Op}
use Rattle.wasm_syntax.specs.Tree.{Jump, Unreachable, Br, BrIf, BrTable, Return, Call, CallIndirect, Nodes, stop, basic, jump, block, loop, choose, Tree, IsTree, Item, Else, End, Placed, placed, write, item_of, code_of, Writes}
use Rattle.wasm_syntax.specs.Module.{type_at}
use Rattle.wasm_syntax.specs.Machine.{result_of}
use Rattle.rewrite_bodies.specs.Numbering.{import_count}
use Rattle.rewrite_bodies.specs.calls.Slots.{Place, Landing, Ctx, less, grown, under, after_plain}
use Rattle.rewrite_bodies.specs.calls.Landings.{landing_at, with_some, landing_call, landings_call, landings_jump, landings_from, part_of}
use Rattle.operand_spill.specs.calls.Walking.{Walking}
use Rattle.operand_spill.specs.calls.Before.{dead, live, after_call, after_jump, before}
use Rattle.operand_spill.specs.inner.Knowing.{Places, Starts, Knows, Proceeds, AreDead}
use Rattle.operand_spill.specs.inner.Noting.{noted_call, noted_jump, noted, gathered}
use Rattle.operand_spill.proofs.Knowing.{knows_here, starts_at}

module _ (C : Ctx) where
  gathered_same : (code : List Placed) (p q : Places) (xs : List Landing) → ((j : ℕ) → p j ≡ q j) → gathered C code p xs ≡ gathered C code q xs
  gathered_same [] p q xs h = refl
  gathered_same (x ∷ code) p q xs h =
      ap (λ o. gathered C code (λ j. p (suc j)) (noted C o x.at x.code xs)) (h 0) ∙ gathered_same code (λ j. p (suc j)) (λ j. q (suc j)) (noted C (q 0) x.at x.code xs) (λ j. h (suc j))

  -- what stands behind a list, `else` or `end`, has no landing
  abbrev Quiet : Item → Type 0
  Quiet e = (o : Option (List Place)) (at : ℕ) (xs : List Landing) → noted C o at e xs ≡ xs

  quiet_end : Quiet End
  quiet_end None at xs = refl
  quiet_end (Some es) at xs = refl

  quiet_else : Quiet Else
  quiet_else None at xs = refl
  quiet_else (Some es) at xs = refl

  -- dead code
  dead_gathers : (nodes : Nodes) (e : Item) (at : ℕ) (more : List Placed) (behind : Places) (xs : List Landing) → IsTree nodes → Quiet e → gathered C (write nodes (placed at e ∷ more)) (dead nodes behind) xs ≡ gathered C more behind xs
  dead_gathers stop e at more behind xs it q = refl
  dead_gathers (basic o i rest) e at more behind xs it q = dead_gathers rest e at more behind xs it q
  dead_gathers (jump o j rest) e at more behind xs it q = dead_gathers rest e at more behind xs it q
  dead_gathers (block o t inner end rest) e at more behind xs it q =
      dead_gathers inner End end (write rest (placed at e ∷ more)) (dead rest behind) xs it.0 quiet_end ∙ dead_gathers rest e at more behind xs it.1 q
  dead_gathers (loop o t inner end rest) e at more behind xs it q =
      dead_gathers inner End end (write rest (placed at e ∷ more)) (dead rest behind) xs it.0 quiet_end ∙ dead_gathers rest e at more behind xs it.1 q
  dead_gathers (choose o t a None b end rest) e at more behind xs it q =
      ap (λ b. gathered C (write a (write b (placed end End ∷ write rest (placed at e ∷ more)))) (dead a (dead rest behind)) xs) it.1
      ∙ dead_gathers a End end (write rest (placed at e ∷ more)) (dead rest behind) xs it.0 quiet_end ∙ dead_gathers rest e at more behind xs it.3 q
  dead_gathers (choose o t a (Some els) b end rest) e at more behind xs it q =
      dead_gathers a Else els (write b (placed end End ∷ write rest (placed at e ∷ more))) (dead b (dead rest behind)) xs it.0 quiet_else
      ∙ dead_gathers b End end (write rest (placed at e ∷ more)) (dead rest behind) xs it.2 quiet_end ∙ dead_gathers rest e at more behind xs it.3 q

  -- what the nodes behind a jump give
  abbrev Rest : Nodes → List Placed → Places → Type 0
  Rest rest code behind = (es : List Place) (xs : List Landing) → gathered C code (live C es rest behind) xs ≡ landings_from C es rest xs

  call_gathers : (p : ℕ) (b : Bool) (o : Option FuncType) (es : List Place) (xs : List Landing) (code : List Placed) (go : List Place → Places) (over : Places) (to : List Place → List Landing → List Landing) (behind : List Landing → List Landing) → ((es' : List Place) (xs' : List Landing) → gathered C code (go es') xs' ≡ behind (to es' xs')) → ((xs' : List Landing) → gathered C code over xs' ≡ behind xs') → gathered C code (after_call o es go over) (noted_call p b o es xs) ≡ behind (landings_call p b o es xs to)
  call_gathers p b None es xs code go over to behind f g = g xs
  call_gathers p b (Some type) es xs code go over to behind f g = f (grown (result_of type) (less (length type.params) es)) (landing_call p b (less (length type.params) es) xs)

  through_gathers : (p : ℕ) (o : Option FuncType) (es : List Place) (xs : List Landing) (code : List Placed) (go : List Place → Places) (over : Places) (to : List Place → List Landing → List Landing) (behind : List Landing → List Landing) → ((es' : List Place) (xs' : List Landing) → gathered C code (go es') xs' ≡ behind (to es' xs')) → ((xs' : List Landing) → gathered C code over xs' ≡ behind xs') → gathered C code (after_call o es go over) xs ≡ behind (landings_call p true o es xs to)
  through_gathers p None es xs code go over to behind f g = g xs
  through_gathers p (Some type) es xs code go over to behind f g = f (grown (result_of type) (less (length type.params) es)) xs

  jump_gathers : (p : ℕ) (j : Jump) (es : List Place) (xs : List Landing) (code : List Placed) (go : List Place → Places) (over : Places) (to : List Place → List Landing → List Landing) (behind : List Landing → List Landing) → ((es' : List Place) (xs' : List Landing) → gathered C code (go es') xs' ≡ behind (to es' xs')) → ((xs' : List Landing) → gathered C code over xs' ≡ behind xs') → gathered C code (after_jump C j es go over) (noted_jump C p j es xs) ≡ behind (landings_jump C p j es xs to)
  jump_gathers p Unreachable es xs code go over to behind f g = g xs
  jump_gathers p (Br l) es xs code go over to behind f g = g xs
  jump_gathers p (BrIf l) es xs code go over to behind f g = f (less 1 es) xs
  jump_gathers p (BrTable ts d) es xs code go over to behind f g = g xs
  jump_gathers p Return es xs code go over to behind f g = g xs
  jump_gathers p (Call h) es xs code go over to behind f g = call_gathers p (nat_lt h (import_count C.source)) (type_at C.source h) es xs code go over to behind f g
  jump_gathers p (CallIndirect t) es xs code go over to behind f g = through_gathers p (slice_get C.source.types t) (less 1 es) xs code go over to behind f g

  -- live code
  live_gathers : (nodes : Nodes) (es : List Place) (e : Item) (at : ℕ) (more : List Placed) (behind : Places) (xs : List Landing) → IsTree nodes → Quiet e → gathered C (write nodes (placed at e ∷ more)) (live C es nodes behind) xs ≡ gathered C more behind (landings_from C es nodes xs)
  live_gathers stop es e at more behind xs it q = ap (gathered C more behind) (q (Some es) at xs)
  live_gathers (basic o i rest) es e at more behind xs it q = live_gathers rest (after_plain C es i) e at more behind (with_some (landing_at C o i es) xs) it q
  live_gathers (jump o j rest) es e at more behind xs it q =
      jump_gathers (part_of C.locals o) j es xs (write rest (placed at e ∷ more)) (λ left. live C left rest behind) (dead rest behind) (λ es' xs'. landings_from C es' rest xs') (gathered C more behind)
      (λ es' xs'. live_gathers rest es' e at more behind xs' it q) (λ xs'. dead_gathers rest e at more behind xs' it q)
  live_gathers (block o t inner end rest) es e at more behind xs it q =
      live_gathers inner (under es) End end (write rest (placed at e ∷ more)) (live C (grown t (under es)) rest behind) xs it.0 quiet_end
      ∙ live_gathers rest (grown t (under es)) e at more behind (landings_from C (under es) inner xs) it.1 q
  live_gathers (loop o t inner end rest) es e at more behind xs it q =
      live_gathers inner (under es) End end (write rest (placed at e ∷ more)) (live C (grown t (under es)) rest behind) xs it.0 quiet_end
      ∙ live_gathers rest (grown t (under es)) e at more behind (landings_from C (under es) inner xs) it.1 q
  live_gathers (choose o t a None b end rest) es e at more behind xs it q =
      let left = under (less 1 es) in
      let xs1 = landings_from C left a xs in
      ap (λ b. gathered C (write a (write b (placed end End ∷ write rest (placed at e ∷ more)))) (live C left a (live C (grown t left) rest behind)) xs) it.1
      ∙ live_gathers a left End end (write rest (placed at e ∷ more)) (live C (grown t left) rest behind) xs it.0 quiet_end
      ∙ live_gathers rest (grown t left) e at more behind xs1 it.3 q
      ∙ ap (λ b. gathered C more behind (landings_from C (grown t left) rest (landings_from C left b xs1))) (sym it.1)
  live_gathers (choose o t a (Some els) b end rest) es e at more behind xs it q =
      let left = under (less 1 es) in
      let xs1 = landings_from C left a xs in
      live_gathers a left Else els (write b (placed end End ∷ write rest (placed at e ∷ more))) (live C left b (live C (grown t left) rest behind)) xs it.0 quiet_else
      ∙ live_gathers b left End end (write rest (placed at e ∷ more)) (live C (grown t left) rest behind) xs1 it.2 quiet_end
      ∙ live_gathers rest (grown t left) e at more behind (landings_from C left b xs1) it.3 q

  -- ---- along the walk

  abbrev pub Gathers : List Placed → Places → ℕ → List Landing → List Landing → Type 0
  Gathers code whole pc found all_ = gathered C (drop pc code) (λ j. whole (pc + j)) found ≡ all_

  one_step : (code : List Placed) (whole : Places) (pc at : ℕ) (i : Item) (xs : List Landing) → Starts code pc at i → gathered C (drop pc code) (λ j. whole (pc + j)) xs ≡ gathered C (drop (suc pc) code) (λ j. whole (suc pc + j)) (noted C (whole pc) at i xs)
  one_step code whole pc at i xs s =
      let here : pc + 0 ≡ pc = omega arith in
      ap (λ z. gathered C z (λ j. whole (pc + j)) xs) s
      ∙ ap (λ n. gathered C (drop (suc pc) code) (λ j. whole (pc + suc j)) (noted C (whole n) at i xs)) here
      ∙ gathered_same (drop (suc pc) code) (λ j. whole (pc + suc j)) (λ j. whole (suc pc + j)) (noted C (whole pc) at i xs) (λ j. let z : pc + suc j ≡ suc pc + j = omega arith in ap whole z)

  -- a live instruction
  pub live_noted : (code : List Placed) (whole : Places) (pc at : ℕ) (i : Item) (w : Walking) (xs all_ : List Landing) → Starts code pc at i → Knows C code whole pc w → Gathers code whole pc xs all_ → Gathers code whole (suc pc) (noted C (Some w.places) at i xs) all_
  live_noted code whole pc at i w xs all_ s k h =
      let here : pc + 0 ≡ pc = omega arith in
      let placed_ : whole pc ≡ Some w.places = ap whole (sym here) ∙ k.places 0 ∙ first_live k.nodes _ in
      ap (λ o. gathered C (drop (suc pc) code) (λ j. whole (suc pc + j)) (noted C o at i xs)) (sym placed_) ∙ sym (one_step code whole pc at i xs s) ∙ h
    where
      first_live : (nodes : Nodes) (behind : Places) → live C w.places nodes behind 0 ≡ Some w.places
      first_live stop behind = refl
      first_live (basic o i rest) behind = refl
      first_live (jump o j rest) behind = refl
      first_live (block o t inner end rest) behind = refl
      first_live (loop o t inner end rest) behind = refl
      first_live (choose o t a None b end rest) behind = refl
      first_live (choose o t a (Some els) b end rest) behind = refl

  -- dead ones
  dead_one : (code : List Placed) (whole : Places) (pc : ℕ) (xs : List Landing) → whole pc ≡ None → gathered C (drop pc code) (λ j. whole (pc + j)) xs ≡ gathered C (drop (suc pc) code) (λ j. whole (suc pc + j)) xs
  dead_one code whole pc xs none = by_code (drop pc code) (drop (suc pc) code) (drop_next code pc)
    where
      drop_next : (code : List Placed) (pc : ℕ) → (drop pc code ≡ [] × drop (suc pc) code ≡ []) ⊎ ((x : Placed) × (drop pc code ≡ x ∷ drop (suc pc) code))
      drop_next [] zero = inl (refl, refl)
      drop_next [] (suc n) = inl (refl, refl)
      drop_next (x ∷ code) zero = inr (x, refl)
      drop_next (x ∷ code) (suc n) = drop_next code n

      by_code : (a b : List Placed) → (a ≡ [] × b ≡ []) ⊎ ((x : Placed) × (a ≡ x ∷ b)) → gathered C a (λ j. whole (pc + j)) xs ≡ gathered C b (λ j. whole (suc pc + j)) xs
      by_code a b (inl h) = ap (λ z. gathered C z (λ j. whole (pc + j)) xs) h.0 ∙ sym (ap (λ z. gathered C z (λ j. whole (suc pc + j)) xs) h.1)
      by_code a b (inr h) =
          let here : pc + 0 ≡ pc = omega arith in
          ap (λ z. gathered C z (λ j. whole (pc + j)) xs) h.1
          ∙ ap (λ o. gathered C b (λ j. whole (pc + suc j)) (noted C o h.0.at h.0.code xs)) (ap whole here ∙ none)
          ∙ gathered_same b (λ j. whole (pc + suc j)) (λ j. whole (suc pc + j)) xs (λ j. let z : pc + suc j ≡ suc pc + j = omega arith in ap whole z)

  pub dead_passed : (code : List Placed) (whole : Places) (n from next : ℕ) (xs all_ : List Landing) → next ≡ from + n → AreDead whole from next → Gathers code whole from xs all_ → Gathers code whole next xs all_
  dead_passed code whole zero from next xs all_ e d h = let z : from ≡ next = omega (arith, e) in subst (λ pc. Gathers code whole pc xs all_) z h
  dead_passed code whole (suc n) from next xs all_ e d h =
      dead_passed code whole n (suc from) next xs all_ (omega (arith, e)) (λ k a b. d k (omega (arith, a)) b) (sym (dead_one code whole from xs (d from (omega arith) (omega (arith, e)))) ∙ h)

  -- at the beginning, and at the end
  pub gathers_begin : (targets : List ℕ) (ops : List Op) (tree : Tree) → Writes targets ops tree → Gathers (code_of targets ops) (before C tree.nodes) 0 [] (landings_from C [] tree.nodes [])
  gathers_begin targets ops tree w =
      gathered_same (code_of targets ops) (λ j. before C tree.nodes (0 + j)) (before C tree.nodes) [] (λ j. let z : 0 + j ≡ j = omega arith in ap (before C tree.nodes) z)
      ∙ ap (λ code. gathered C code (before C tree.nodes) []) w.out
      ∙ live_gathers tree.nodes [] End tree.end [] (λ k. None) [] w.arms quiet_end

  pub gathers_end : (code : List Placed) (whole : Places) (pc : ℕ) (xs all_ : List Landing) → length code ≤ pc → Gathers code whole pc xs all_ → xs ≡ all_
  gathers_end code whole pc xs all_ le h = sym (ap (λ z. gathered C z (λ j. whole (pc + j)) xs) (dropped code pc le)) ∙ h
    where
      dropped : (code : List Placed) (pc : ℕ) → length code ≤ pc → drop pc code ≡ []
      dropped [] zero le = refl
      dropped [] (suc n) le = refl
      dropped (x ∷ code) zero le = absurd (omega (arith, le))
      dropped (x ∷ code) (suc n) le = dropped code n (omega (arith, le))

  -- a turn of the loop
  pub walked : (targets : List ℕ) (ops : List Op) (whole : Places) (pc next : ℕ) (o : Op) (w : Walking) (xs xs' all_ : List Landing) → slice_get ops pc ≡ Some o → pc < length ops → Proceeds C (code_of targets ops) whole pc w → Gathers (code_of targets ops) whole pc xs all_ → xs' ≡ noted C (Some w.places) o.at (item_of targets o.code) xs → pc < next → AreDead whole (pc + 1) next → Gathers (code_of targets ops) whole next xs' all_
  walked targets ops whole pc next o w xs xs' all_ there lt p g noted_ on d =
      let k = knows_here C targets ops whole pc w lt p in
      let one : pc + 1 ≡ suc pc = omega arith in
      let here = live_noted (code_of targets ops) whole pc o.at (item_of targets o.code) w xs all_ (starts_at targets ops pc o there) k g in
      let here' : Gathers (code_of targets ops) whole (suc pc) xs' all_ = subst (λ z. Gathers (code_of targets ops) whole (suc pc) z all_) (sym noted_) here in
      let left : next ≡ suc pc + (next - suc pc) = omega (arith, on) in
      dead_passed (code_of targets ops) whole (next - suc pc) (suc pc) next xs' all_ left (subst (λ n. AreDead whole n next) one d) here'
