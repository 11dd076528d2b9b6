-- The steps of a walk that knows where the operands are.
use Rattle.std.proofs.Common.{◌≡◌, ℕ, zero, suc, ◌+◌, ◌-◌, ◌<◌, ◌≤◌, true, false, Ok, Err, List, [], ◌∷◌, length, drop, slice_get, map, reverse, inl, inr, ⊎_elim, Option, Some, None, refl, sym, ap, subst, ◌∙◌, arith, length-drop}
use Rattle.std.specs.Prelude.{◌⊎◌, IfOk, option_map}
use Rattle.std.proofs.lemmas.Bool.{cases_lt}
use Rattle.std.proofs.lemmas.Option.{slice_get_within, get_or_from_slice_get, slice_get-map}
use Rattle.std.proofs.lemmas.List.{length-map, reverse-reverse}
use Rattle.wasm_laws.proofs.Lists.{get_within}
use Rattle.rewrite_code.specs.declared.place.OperandPlace.{OperandPlace}
use Rattle.rewrite_code.specs.calls.Places.{place, from_top}
use Rattle.wasm_syntax.specs.declared.instruction.Op.{Op}
use Rattle.std.specs.declared.result.Result.{Result}
use Rattle.wasm_syntax.specs.declared.value.ValType.{ValType}
use Rattle.wasm_syntax.specs.declared.instruction.Basic.{Basic}
use Rattle.wasm_syntax.specs.declared.parts.FuncType.{FuncType}
use Rattle.wasm_syntax.specs.declared.module.ModuleParts.{ModuleParts as Module}
use Rattle.wasm_syntax.specs.Machine.{result_of}
use Rattle.wasm_syntax.specs.Module.{type_at}
use Rattle.wasm_syntax.specs.Tree.{Jump, Call, CallIndirect, Nodes, stop, basic, jump, block, loop, choose, Tree, Item, Plain, Goes as JumpGoes, Opens as BlockOpens, OpensLoop, OpensIf, Else, End, IsTree, Placed, placed, else_out, write, Writes, WritesOut, code_of, item_of}
use Rattle.rewrite_bodies.specs.calls.Slots.{Place, Ctx, less, grown, after_plain}
use Rattle.operand_spill.specs.declared.labels.Label.TheVariants as kept
use Rattle.operand_spill.specs.declared.labels.OpenBlock.{OpenBlock}
use Rattle.operand_spill.specs.calls.Walking.{Walking, walking, with_places, opening, behind_block, at_start, alternating_in, alternating, closing_in, closing}
use Rattle.operand_spill.specs.calls.Standing.{Due, before_end, before_else, flat, IsLast}
use Rattle.operand_spill.proofs.Shapes.{Begins, Shape, shape, begins}
use Rattle.operand_spill.specs.calls.Before.{dead, live, after_call, after_jump, before, constant_of, known_among}
use Rattle.operand_spill.specs.declared.flow.Flow.{Flow}
use Rattle.operand_spill.specs.declared.flow.Flow.TheVariants.{Next, Ends}
use Rattle.operand_spill.specs.inner.Knowing.{Places, Matched, after, Knows, Ended, Over, Proceeds, Flowed, Jumped, AreDead, is_else}

-- ---- lengths

-- how many instructions nodes are
count : Nodes → ℕ
count stop = 0
count (basic at i rest) = suc (count rest)
count (jump at j rest) = suc (count rest)
count (block at t inner end rest) = suc (count inner + suc (count rest))
count (loop at t inner end rest) = suc (count inner + suc (count rest))
count (choose at t a None b end rest) = suc (count a + suc (count rest))
count (choose at t a (Some else_at) b end rest) = suc (count a + suc (count b + suc (count rest)))

written : (nodes : Nodes) (xs : List Placed) → IsTree nodes → length (write nodes xs) ≡ count nodes + length xs
unfolding count
written stop xs t = omega arith
written (basic at i rest) xs t = omega (arith, written rest xs t)
written (jump at j rest) xs t = omega (arith, written rest xs t)
written (block at u inner end rest) xs t = omega (arith, written inner (placed end End ∷ write rest xs) t.0, written rest xs t.1)
written (loop at u inner end rest) xs t = omega (arith, written inner (placed end End ∷ write rest xs) t.0, written rest xs t.1)
written (choose at u a None b end rest) xs t =
    let e : length (write b (placed end End ∷ write rest xs)) ≡ suc (length (write rest xs)) = ap (λ n. length (write n (placed end End ∷ write rest xs))) t.1 in
    omega (arith, written a (write b (placed end End ∷ write rest xs)) t.0, e, written rest xs t.3)
written (choose at u a (Some else_at) b end rest) xs t =
    omega (arith, written a (placed else_at Else ∷ write b (placed end End ∷ write rest xs)) t.0, written b (placed end End ∷ write rest xs) t.2, written rest xs t.3)

some_due : (opens : List OpenBlock) (dues : List Due) → Matched opens dues → 1 ≤ length (flat dues)
some_due [] [] m = absurd m
some_due [] (before_end end rest ∷ ds) m = omega arith
some_due [] (before_else at other end rest ∷ ds) m = omega arith
some_due (o ∷ os) [] m = absurd m
some_due (o ∷ os) (before_end end rest ∷ ds) m = omega arith
some_due (o ∷ os) (before_else at other end rest ∷ ds) m = omega arith

-- ---- dead code

at_or_behind : (n k : ℕ) → (k ≤ n) ⊎ ((j : ℕ) × (k ≡ suc n + j))
at_or_behind n zero = inl (omega arith)
at_or_behind zero (suc k) = inr (k, omega arith)
at_or_behind (suc n) (suc k) = ⊎_elim (λ le. inl (omega (arith, le))) (λ j. inr (j.0, omega (arith, j.1))) (at_or_behind n k)

-- behind dead nodes stands what is behind their list
dead_behind : (nodes : Nodes) (behind : Places) (k : ℕ) → dead nodes behind (suc (count nodes) + k) ≡ behind k
unfolding count
dead_behind stop behind k = let e : suc 0 + k ≡ suc k = omega arith in ap (dead stop behind) e
dead_behind (basic at i rest) behind k = let e : suc (suc (count rest)) + k ≡ suc (suc (count rest) + k) = omega arith in ap (dead (basic at i rest) behind) e ∙ dead_behind rest behind k
dead_behind (jump at j rest) behind k = let e : suc (suc (count rest)) + k ≡ suc (suc (count rest) + k) = omega arith in ap (dead (jump at j rest) behind) e ∙ dead_behind rest behind k
dead_behind (block at t inner end rest) behind k =
    let e : suc (suc (count inner + suc (count rest))) + k ≡ suc (suc (count inner) + (suc (count rest) + k)) = omega arith in
    ap (dead (block at t inner end rest) behind) e ∙ dead_behind inner (dead rest behind) (suc (count rest) + k) ∙ dead_behind rest behind k
dead_behind (loop at t inner end rest) behind k =
    let e : suc (suc (count inner + suc (count rest))) + k ≡ suc (suc (count inner) + (suc (count rest) + k)) = omega arith in
    ap (dead (loop at t inner end rest) behind) e ∙ dead_behind inner (dead rest behind) (suc (count rest) + k) ∙ dead_behind rest behind k
dead_behind (choose at t a None b end rest) behind k =
    let e : suc (suc (count a + suc (count rest))) + k ≡ suc (suc (count a) + (suc (count rest) + k)) = omega arith in
    ap (dead (choose at t a None b end rest) behind) e ∙ dead_behind a (dead rest behind) (suc (count rest) + k) ∙ dead_behind rest behind k
dead_behind (choose at t a (Some else_at) b end rest) behind k =
    let e : suc (suc (count a + suc (count b + suc (count rest)))) + k ≡ suc (suc (count a) + (suc (count b) + (suc (count rest) + k))) = omega arith in
    ap (dead (choose at t a (Some else_at) b end rest) behind) e ∙ dead_behind a (dead b (dead rest behind)) (suc (count b) + (suc (count rest) + k))
    ∙ dead_behind b (dead rest behind) (suc (count rest) + k) ∙ dead_behind rest behind k

-- an inner list, and what is behind it, where that is dead as far as the bound
inner_none : (inner : Nodes) (behind : Places) (n k : ℕ) → ((j : ℕ) → j ≤ count inner → dead inner behind j ≡ None) → ((j : ℕ) → j ≤ n → behind j ≡ None) → k ≤ count inner + suc n → dead inner behind k ≡ None
inner_none inner behind n k ih more le =
    ⊎_elim (λ low. ih k low) (λ j. ap (dead inner behind) j.1 ∙ dead_behind inner behind j.0 ∙ more j.0 (omega (arith, le, j.1))) (at_or_behind (count inner) k)

-- dead nodes and the end of their list have none
dead_none : (nodes : Nodes) (behind : Places) (k : ℕ) → k ≤ count nodes → dead nodes behind k ≡ None
unfolding count
dead_none stop behind zero le = refl
dead_none stop behind (suc k) le = absurd (omega (arith, le))
dead_none (basic at i rest) behind zero le = refl
dead_none (basic at i rest) behind (suc k) le = dead_none rest behind k (omega (arith, le))
dead_none (jump at j rest) behind zero le = refl
dead_none (jump at j rest) behind (suc k) le = dead_none rest behind k (omega (arith, le))
dead_none (block at t inner end rest) behind zero le = refl
dead_none (block at t inner end rest) behind (suc k) le =
    inner_none inner (dead rest behind) (count rest) k (λ j l. dead_none inner (dead rest behind) j l) (λ j l. dead_none rest behind j l) (omega (arith, le))
dead_none (loop at t inner end rest) behind zero le = refl
dead_none (loop at t inner end rest) behind (suc k) le =
    inner_none inner (dead rest behind) (count rest) k (λ j l. dead_none inner (dead rest behind) j l) (λ j l. dead_none rest behind j l) (omega (arith, le))
dead_none (choose at t a None b end rest) behind zero le = refl
dead_none (choose at t a None b end rest) behind (suc k) le =
    inner_none a (dead rest behind) (count rest) k (λ j l. dead_none a (dead rest behind) j l) (λ j l. dead_none rest behind j l) (omega (arith, le))
dead_none (choose at t a (Some else_at) b end rest) behind zero le = refl
dead_none (choose at t a (Some else_at) b end rest) behind (suc k) le =
    inner_none a (dead b (dead rest behind)) (count b + suc (count rest)) k (λ j l. dead_none a (dead b (dead rest behind)) j l)
    (λ j l. inner_none b (dead rest behind) (count rest) j (λ i m. dead_none b (dead rest behind) i m) (λ i m. dead_none rest behind i m) l) (omega (arith, le))

-- ---- steps

module _ (C : Ctx) (code : List Placed) (whole : Places) where
  here : (pc : ℕ) (w : Walking) (r : Knows C code whole pc w) (o : ℕ) (i : Item) → Begins code pc o i → Shape o i (drop (suc pc) code) r.nodes r.dues
  here pc w r o i b = shape r.nodes r.dues o i (drop (suc pc) code) (sym b ∙ r.code_is)

  -- the places behind an instruction
  next_place : (pc : ℕ) (w : Walking) (r : Knows C code whole pc w) (nodes : Nodes) (k : ℕ) → r.nodes ≡ nodes → whole (suc pc + k) ≡ live C w.places nodes (after C w.opens r.dues) (suc k)
  next_place pc w r nodes k e =
      let z : suc pc + k ≡ pc + suc k = omega arith in
      ap whole z ∙ r.places (suc k) ∙ ap (λ n. live C w.places n (after C w.opens r.dues) (suc k)) e

  goes : (pc : ℕ) (w : Walking) → Knows C code whole pc w → Proceeds C code whole pc w
  goes pc w r =
      let lt : pc < length code = omega (arith, length-drop pc code, ap length r.code_is, written r.nodes (flat r.dues) r.trees, some_due w.opens r.dues r.matched) in
      record { here = λ l. r; past = λ le. absurd (omega (arith, lt, le)) }

  pub know_basic : (pc : ℕ) (w : Walking) (o : ℕ) (i : Basic) → Begins code pc o (Plain i) → Knows C code whole pc w → Proceeds C code whole (suc pc) (with_places w (after_plain C w.places i))
  know_basic pc w o i b r =
      let h = here pc w r o (Plain i) b in
      goes (suc pc) (with_places w (after_plain C w.places i)) (record {
        nodes = h.0;
        dues = r.dues;
        code_is = h.2;
        trees = let t : IsTree (basic o i h.0) = subst IsTree h.1 r.trees in t;
        matched = r.matched;
        places = λ k. next_place pc w r (basic o i h.0) k h.1;
      })

  pub know_jump : (pc : ℕ) (w new : Walking) (o : ℕ) (j : Jump) → Begins code pc o (JumpGoes j) → new.opens ≡ w.opens →
      ((go : List Place → Places) (over : Places) (k : ℕ) → after_jump C j w.places go over k ≡ go new.places k) → Knows C code whole pc w → Proceeds C code whole (suc pc) new
  know_jump pc w new o j b same e r =
      let h = here pc w r o (JumpGoes j) b in
      goes (suc pc) new (record {
        nodes = h.0;
        dues = r.dues;
        code_is = h.2;
        trees = let t : IsTree (jump o j h.0) = subst IsTree h.1 r.trees in t;
        matched = subst (λ os. Matched os r.dues) (sym same) r.matched;
        places = λ k.
            next_place pc w r (jump o j h.0) k h.1
            ∙ e (λ left. live C left h.0 (after C w.opens r.dues)) (dead h.0 (after C w.opens r.dues)) k
            ∙ ap (λ os. live C new.places h.0 (after C os r.dues) k) (sym same);
      })

  pub jump_ends : (pc : ℕ) (w new : Walking) (o : ℕ) (j : Jump) → Begins code pc o (JumpGoes j) → new.opens ≡ w.opens →
      ((go : List Place → Places) (over : Places) (k : ℕ) → after_jump C j w.places go over k ≡ over k) → Knows C code whole pc w → Ended C code whole (suc pc) new
  jump_ends pc w new o j b same e r =
      let h = here pc w r o (JumpGoes j) b in
      record {
        nodes = h.0;
        dues = r.dues;
        code_is = h.2;
        trees = let t : IsTree (jump o j h.0) = subst IsTree h.1 r.trees in t;
        matched = subst (λ os. Matched os r.dues) (sym same) r.matched;
        places = λ k.
            next_place pc w r (jump o j h.0) k h.1
            ∙ e (λ left. live C left h.0 (after C w.opens r.dues)) (dead h.0 (after C w.opens r.dues)) k
            ∙ ap (λ os. dead h.0 (after C os r.dues) k) (sym same);
      }

  pub know_block : (pc : ℕ) (w : Walking) (o : ℕ) (t : Option ValType) → Begins code pc o (BlockOpens t) → Knows C code whole pc w → Proceeds C code whole (suc pc) (opening (kept.Block t) w)
  know_block pc w o t b r =
      let h = here pc w r o (BlockOpens t) b in
      let trees : IsTree (block o t h.0 h.1 h.2) = subst IsTree h.3 r.trees in
      goes (suc pc) (opening (kept.Block t) w) (record {
        nodes = h.0;
        dues = before_end h.1 h.2 ∷ r.dues;
        code_is = h.4;
        trees = trees.0;
        matched = (trees.1, r.matched);
        places = λ k. next_place pc w r (block o t h.0 h.1 h.2) k h.3;
      })

  pub know_loop : (pc : ℕ) (w : Walking) (o : ℕ) (t : Option ValType) → Begins code pc o (OpensLoop t) → Knows C code whole pc w → Proceeds C code whole (suc pc) (opening (kept.Loop t) w)
  know_loop pc w o t b r =
      let h = here pc w r o (OpensLoop t) b in
      let trees : IsTree (loop o t h.0 h.1 h.2) = subst IsTree h.3 r.trees in
      goes (suc pc) (opening (kept.Loop t) w) (record {
        nodes = h.0;
        dues = before_end h.1 h.2 ∷ r.dues;
        code_is = h.4;
        trees = trees.0;
        matched = (trees.1, r.matched);
        places = λ k. next_place pc w r (loop o t h.0 h.1 h.2) k h.3;
      })

  pub know_if : (pc : ℕ) (w : Walking) (o : ℕ) (t : Option ValType) → Begins code pc o (OpensIf t) → Knows C code whole pc w →
      Proceeds C code whole (suc pc) (opening (kept.Block t) (with_places w (less 1 w.places)))
  know_if pc w o t b r =
      let h = here pc w r o (OpensIf t) b in
      by h.0 h.1 h.2 h.3 h.4 h.6 (subst IsTree h.5 r.trees) (λ k. next_place pc w r (choose o t h.0 h.1 h.2 h.3 h.4) k h.5)
    where
      by : (a : Nodes) (else_at : Option ℕ) (y : Nodes) (end : ℕ) (rest : Nodes) → drop (suc pc) code ≡ write a (else_out else_at (write y (flat (before_end end rest ∷ r.dues)))) → IsTree (choose o t a else_at y end rest) →
          ((k : ℕ) → whole (suc pc + k) ≡ live C w.places (choose o t a else_at y end rest) (after C w.opens r.dues) (suc k)) →
          Proceeds C code whole (suc pc) (opening (kept.Block t) (with_places w (less 1 w.places)))
      by a None y end rest e trees places =
          goes (suc pc) (opening (kept.Block t) (with_places w (less 1 w.places))) (record {
            nodes = a;
            dues = before_end end rest ∷ r.dues;
            code_is = e ∙ ap (λ n. write a (write n (flat (before_end end rest ∷ r.dues)))) trees.1;
            trees = trees.0;
            matched = (trees.3, r.matched);
            places = places;
          })
      by a (Some else_at) y end rest e trees places =
          goes (suc pc) (opening (kept.Block t) (with_places w (less 1 w.places))) (record {
            nodes = a;
            dues = before_else else_at y end rest ∷ r.dues;
            code_is = e;
            trees = trees.0;
            matched = (trees.2, trees.3, r.matched);
            places = places;
          })

  -- ---- the end of a list

  -- a live one
  live_over : (pc : ℕ) (w : Walking) (r : Knows C code whole pc w) → r.nodes ≡ stop → Over C code whole pc w
  live_over pc w r e = record {
    dues = r.dues;
    code_is = r.code_is ∙ ap (λ n. write n (flat r.dues)) e;
    matched = r.matched;
    places = λ k. next_place pc w r stop k e;
  }

  pub else_over : (pc : ℕ) (w : Walking) (o : ℕ) → Begins code pc o Else → Knows C code whole pc w → Over C code whole pc w
  else_over pc w o b r = live_over pc w r (here pc w r o Else b).0

  pub end_over : (pc : ℕ) (w : Walking) (o : ℕ) → Begins code pc o End → Knows C code whole pc w → Over C code whole pc w
  end_over pc w o b r = live_over pc w r (here pc w r o End b).0

  -- a dead one
  to_is : (pc to : ℕ) (w : Walking) (r : Ended C code whole pc w) → drop to code ≡ flat r.dues → pc ≤ to → to ≡ pc + count r.nodes
  to_is pc to w r e le =
      omega (arith, length-drop pc code, length-drop to code, ap length e, ap length r.code_is, written r.nodes (flat r.dues) r.trees, some_due w.opens r.dues r.matched, le)

  pub dead_over : (pc to : ℕ) (w : Walking) (r : Ended C code whole pc w) → drop to code ≡ flat r.dues → pc ≤ to → Over C code whole to w
  dead_over pc to w r e le =
      let n = to_is pc to w r e le in
      record {
        dues = r.dues;
        code_is = e;
        matched = r.matched;
        places = λ k.
            (let z : suc to + k ≡ pc + (suc (count r.nodes) + k) = omega (arith, n) in
            ap whole z ∙ r.places (suc (count r.nodes) + k) ∙ dead_behind r.nodes (after C w.opens r.dues) k);
      }

  pub none_between : (pc to : ℕ) (w : Walking) (r : Ended C code whole pc w) → drop to code ≡ flat r.dues → pc ≤ to → (k : ℕ) → pc ≤ k → k ≤ to → whole k ≡ None
  none_between pc to w r e le k low high =
      let n = to_is pc to w r e le in
      let z : k ≡ pc + (k - pc) = omega (arith, low) in
      ap whole z ∙ r.places (k - pc) ∙ dead_none r.nodes (after C w.opens r.dues) (k - pc) (omega (arith, n, low, high))

  pub over_within : (pc : ℕ) (w : Walking) → Over C code whole pc w → pc < length code
  over_within pc w r = omega (arith, length-drop pc code, ap length r.code_is, some_due w.opens r.dues r.matched)

  pub pass_else : (pc : ℕ) (w : Walking) (o : ℕ) → Begins code pc o Else → Over C code whole pc w → Proceeds C code whole (suc pc) (alternating w)
  pass_else pc w o b r =
      let h = shape stop r.dues o Else (drop (suc pc) code) (sym b ∙ r.code_is) in
      by w.opens r.dues h.1 h.2 h.3 h.4 h.5 h.6 r.matched r.places
    where
      by : (opens : List OpenBlock) (dues : List Due) (other : Nodes) (end : ℕ) (rest : Nodes) (below : List Due) → dues ≡ before_else o other end rest ∷ below →
          drop (suc pc) code ≡ write other (flat (before_end end rest ∷ below)) → Matched opens dues → ((k : ℕ) → whole (suc pc + k) ≡ after C opens dues k) →
          Proceeds C code whole (suc pc) (alternating_in (walking w.gives w.places opens) opens)
      by [] dues other end rest below e k m p = absurd (subst IsLast e m)
      by (x ∷ xs) dues other end rest below d k m p =
          let trees : Matched (x ∷ xs) (before_else o other end rest ∷ below) = subst (Matched (x ∷ xs)) d m in
          goes (suc pc) (walking w.gives x.saved (x ∷ xs)) (record {
            nodes = other;
            dues = before_end end rest ∷ below;
            code_is = k;
            trees = trees.0;
            matched = (trees.1, trees.2);
            places = λ n. p n ∙ ap (λ ds. after C (x ∷ xs) ds n) d;
          })

  pub pass_end : (pc : ℕ) (w : Walking) (o : ℕ) → Begins code pc o End → Over C code whole pc w → Proceeds C code whole (suc pc) (closing w)
  pass_end pc w o b r =
      let h = shape stop r.dues o End (drop (suc pc) code) (sym b ∙ r.code_is) in
      by w.opens r.dues h.1 h.2 h.3 h.4 r.matched r.places
    where
      by : (opens : List OpenBlock) (dues : List Due) (rest : Nodes) (below : List Due) → dues ≡ before_end o rest ∷ below → drop (suc pc) code ≡ write rest (flat below) →
          Matched opens dues → ((k : ℕ) → whole (suc pc + k) ≡ after C opens dues k) → Proceeds C code whole (suc pc) (closing_in (walking w.gives w.places opens) opens)
      by [] dues rest below d k m p =
          let last : (rest ≡ stop) × (below ≡ []) = subst IsLast d m in
          let none : drop (suc pc) code ≡ [] = k ∙ ap (λ n. write n (flat below)) last.0 ∙ ap flat last.1 in
          record { here = λ lt. absurd (omega (arith, lt, length-drop (suc pc) code, ap length none)); past = λ le n. p n }
      by (x ∷ xs) dues rest below d k m p =
          let trees : Matched (x ∷ xs) (before_end o rest ∷ below) = subst (Matched (x ∷ xs)) d m in
          goes (suc pc) (walking w.gives (behind_block x) xs) (record {
            nodes = rest;
            dues = below;
            code_is = k;
            trees = trees.0;
            matched = trees.1;
            places = λ n. p n ∙ ap (λ ds. after C (x ∷ xs) ds n) d;
          })

-- ---- the beginning

pub know_begin : (C : Ctx) (code : List Placed) (tree : Tree) (gives : Option ValType) → WritesOut code tree → Knows C code (before C tree.nodes) 0 (at_start gives)
know_begin C code tree gives writes = record {
  nodes = tree.nodes;
  dues = before_end tree.end stop ∷ [];
  code_is = writes.out;
  trees = writes.arms;
  matched = (refl, refl);
  places = λ k. (let z : 0 + k ≡ k = omega arith in ap (before C tree.nodes) z);
}

-- ---- the code's own steps

module _ (C : Ctx) (code : List Placed) (whole : Places) where
  -- a jump
  pub jump_flows : {E : Type 0} (r : Result Flow E) (pc : ℕ) (w new : Walking) (o : ℕ) (j : Jump) → Begins code pc o (JumpGoes j) → Knows C code whole pc w →
      IfOk r (λ flow. Jumped flow C j w new) → IfOk r (λ flow. Flowed flow C code whole (suc pc) new)
  jump_flows (Ok Next) pc w new o j b k h = know_jump C code whole pc w new o j b h.0 h.1 k
  jump_flows (Ok Ends) pc w new o j b k h = jump_ends C code whole pc w new o j b h.0 h.1 k
  jump_flows (Err e) pc w new o j b k h = tt

  -- the end of a list
  pub crosses_else : (pc : ℕ) (w : Walking) (o : ℕ) (i : Item) → is_else i ≡ true → Begins code pc o i → Over C code whole pc w → Proceeds C code whole (suc pc) (alternating w)
  crosses_else pc w o (Plain x) e b r = absurd (let z : false ≡ true = e in cc)
  crosses_else pc w o (JumpGoes x) e b r = absurd (let z : false ≡ true = e in cc)
  crosses_else pc w o (BlockOpens x) e b r = absurd (let z : false ≡ true = e in cc)
  crosses_else pc w o (OpensLoop x) e b r = absurd (let z : false ≡ true = e in cc)
  crosses_else pc w o (OpensIf x) e b r = absurd (let z : false ≡ true = e in cc)
  crosses_else pc w o Else e b r = pass_else C code whole pc w o b r
  crosses_else pc w o End e b r = absurd (let z : false ≡ true = e in cc)

  over_shape : (pc : ℕ) (w : Walking) (o : ℕ) (i : Item) → Begins code pc o i → (r : Over C code whole pc w) → Shape o i (drop (suc pc) code) stop r.dues
  over_shape pc w o i b r = shape stop r.dues o i (drop (suc pc) code) (sym b ∙ r.code_is)

  pub crosses_end : (pc : ℕ) (w : Walking) (o : ℕ) (i : Item) → is_else i ≡ false → Begins code pc o i → Over C code whole pc w → Proceeds C code whole (suc pc) (closing w)
  crosses_end pc w o (Plain x) e b r = absurd (let h = over_shape pc w o (Plain x) b r in let z : stop ≡ basic o x h.0 = h.1 in cc)
  crosses_end pc w o (JumpGoes x) e b r = absurd (let h = over_shape pc w o (JumpGoes x) b r in let z : stop ≡ jump o x h.0 = h.1 in cc)
  crosses_end pc w o (BlockOpens x) e b r = absurd (let h = over_shape pc w o (BlockOpens x) b r in let z : stop ≡ block o x h.0 h.1 h.2 = h.3 in cc)
  crosses_end pc w o (OpensLoop x) e b r = absurd (let h = over_shape pc w o (OpensLoop x) b r in let z : stop ≡ loop o x h.0 h.1 h.2 = h.3 in cc)
  crosses_end pc w o (OpensIf x) e b r = absurd (let h = over_shape pc w o (OpensIf x) b r in let z : stop ≡ choose o x h.0 h.1 h.2 h.3 h.4 = h.5 in cc)
  crosses_end pc w o Else e b r = absurd (let z : true ≡ false = e in cc)
  crosses_end pc w o End e b r = pass_end C code whole pc w o b r

-- ---- jumps

pub call_next : (C : Ctx) (m : Module) (f : ℕ) (type : FuncType) (old new : Walking) → C.source ≡ m → type_at m f ≡ Some type →
    new ≡ with_places old (grown (result_of type) (less (length type.params) old.places)) → Jumped Next C (Call f) old new
call_next C m f type old new same is e = (
  ap (λ (w : Walking). w.opens) e,
  λ go over k. ap (λ x. after_call (type_at x f) old.places go over k) same ∙ ap (λ q. after_call q old.places go over k) is ∙ ap (λ (w : Walking). go w.places k) (sym e),
)

pub call_ends : (C : Ctx) (m : Module) (f : ℕ) (w : Walking) → C.source ≡ m → type_at m f ≡ None → Jumped Ends C (Call f) w w
call_ends C m f w same is = (refl, λ go over k. ap (λ x. after_call (type_at x f) w.places go over k) same ∙ ap (λ q. after_call q w.places go over k) is)

pub indirect_next : (C : Ctx) (m : Module) (t : ℕ) (type : FuncType) (old mid new : Walking) → C.source ≡ m → slice_get m.types t ≡ Some type → mid ≡ with_places old (less 1 old.places) →
    new ≡ with_places mid (grown (result_of type) (less (length type.params) mid.places)) → Jumped Next C (CallIndirect t) old new
indirect_next C m t type old mid new same is one e = (
  ap (λ (w : Walking). w.opens) e ∙ ap (λ (w : Walking). w.opens) one,
  λ go over k.
      ap (λ (x : Module). after_call (slice_get x.types t) (less 1 old.places) go over k) same ∙ ap (λ q. after_call q (less 1 old.places) go over k) is
      ∙ ap (λ es. go (grown (result_of type) (less (length type.params) es)) k) (sym (ap (λ (w : Walking). w.places) one)) ∙ ap (λ (w : Walking). go w.places k) (sym e),
)

pub indirect_ends : (C : Ctx) (m : Module) (t : ℕ) (old mid : Walking) → C.source ≡ m → slice_get m.types t ≡ None → mid ≡ with_places old (less 1 old.places) → Jumped Ends C (CallIndirect t) old mid
indirect_ends C m t old mid same is one = (
  ap (λ (w : Walking). w.opens) one,
  λ go over k. ap (λ (x : Module). after_call (slice_get x.types t) (less 1 old.places) go over k) same ∙ ap (λ q. after_call q (less 1 old.places) go over k) is,
)

pub know_start : (C : Ctx) (targets : List ℕ) (ops : List Op) (tree : Tree) → Writes targets ops tree → Proceeds C (code_of targets ops) (before C tree.nodes) 0 (at_start None)
know_start C targets ops tree writes = goes C (code_of targets ops) (before C tree.nodes) 0 (at_start None) (know_begin C (code_of targets ops) tree None writes)

pub knows_here : (C : Ctx) (targets : List ℕ) (ops : List Op) (whole : Places) (pc : ℕ) (w : Walking) → pc < length ops → Proceeds C (code_of targets ops) whole pc w → Knows C (code_of targets ops) whole pc w
knows_here C targets ops whole pc w lt p = p.here (omega (arith, lt, length-map ops (λ (o : Op). placed o.at (item_of targets o.code))))

live_here : (C : Ctx) (es : List Place) (nodes : Nodes) (behind : Places) → live C es nodes behind 0 ≡ Some es
live_here C es stop behind = refl
live_here C es (basic at i rest) behind = refl
live_here C es (jump at j rest) behind = refl
live_here C es (block at t inner end rest) behind = refl
live_here C es (loop at t inner end rest) behind = refl
live_here C es (choose at t a None b end rest) behind = refl
live_here C es (choose at t a (Some else_at) b end rest) behind = refl

-- at a live instruction
pub known_here : (C : Ctx) (targets : List ℕ) (ops : List Op) (whole : Places) (pc op : ℕ) (w : Walking) → pc ≡ op → op < length ops → Proceeds C (code_of targets ops) whole pc w → Some w.places ≡ whole op
known_here C targets ops whole pc op w same lt p =
    let k : Knows C (code_of targets ops) whole pc w = knows_here C targets ops whole pc w (omega (arith, same, lt)) p in
    let z : op ≡ pc + 0 = omega (arith, same) in
    sym (ap whole z ∙ k.places 0 ∙ live_here C w.places k.nodes (after C w.opens k.dues))

-- behind the last instruction
pub none_past : (C : Ctx) (targets : List ℕ) (ops : List Op) (whole : Places) (pc op : ℕ) (w : Walking) → length ops ≤ pc → length ops ≤ op → (op < pc → whole op ≡ None) → Proceeds C (code_of targets ops) whole pc w → whole op ≡ None
none_past C targets ops whole pc op w le high dead p = elim (cases_lt op pc) [
  | inl lt ↦ dead lt
  | inr ge ↦
      let past : length (code_of targets ops) ≤ pc = omega (arith, le, length-map ops (λ (o : Op). placed o.at (item_of targets o.code))) in
      let z : op ≡ pc + (op - pc) = omega (arith, ge) in
      ap whole z ∙ p.past past (op - pc)
]

-- through dead code, behind the end of its list
pub leave_next : (C : Ctx) (targets : List ℕ) (ops : List Op) (whole : Places) (from end : ℕ) (w : Walking) (e : Ended C (code_of targets ops) whole from w) →
    drop end (code_of targets ops) ≡ flat e.dues → from ≤ end → AreDead whole from (end + 1)
leave_next C targets ops whole from end w e code_is le = λ k low high. none_between C (code_of targets ops) whole from end w e code_is le k low (omega (arith, high))

-- the instruction that was read
pub starts_at : (targets : List ℕ) (ops : List Op) (pc : ℕ) (o : Op) → slice_get ops pc ≡ Some o → Begins (code_of targets ops) pc o.at (item_of targets o.code)
starts_at targets ops pc o e = begins targets ops pc o (slice_get_within ops pc o e) (sym (get_or_from_slice_get ops pc o o e))

-- there is one at the end of a list
pub end_there : (C : Ctx) (targets : List ℕ) (ops : List Op) (whole : Places) (end : ℕ) (w : Walking) → Over C (code_of targets ops) whole end w → None ≡ slice_get ops end → ⊥
end_there C targets ops whole end w o e =
    let lt : end < length ops = omega (arith, over_within C (code_of targets ops) whole end w o, length-map ops (λ (x : Op). placed x.at (item_of targets x.code))) in
    let x = get_within ops end lt in
    let z : None ≡ Some x.0 = e ∙ x.1 in
    absurd (cc)

-- ---- what is known of an operand

pub known_read : (es : List Place) (xs : List OperandPlace) (n : ℕ) → from_top xs ≡ es → (o : Option OperandPlace) → o ≡ slice_get xs n → known_among (Some es) n ≡ constant_of (option_map place o)
known_read es xs n e o is =
    ap (λ l. constant_of (slice_get (reverse l) n)) (sym e) ∙ ap (λ l. constant_of (slice_get l n)) (reverse-reverse (map place xs)) ∙ ap constant_of (slice_get-map place xs n)
    ∙ ap (λ q. constant_of (option_map place q)) (sym is)
