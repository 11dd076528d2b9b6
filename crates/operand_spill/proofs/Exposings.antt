-- What is noted along the flat code of a body is what the definitions say of its nodes.
use Rattle.std.proofs.Common.{Less, Equal, Greater, get_or, ◌≡◌, ℕ, zero, suc, ◌+◌, ◌-◌, ◌<◌, ◌≤◌, ◌==◌, ◌&&◌, ◌||◌, not, List, [], ◌∷◌, ◌++◌, length, map, drop, Option, Some, None, Bool, true, false, refl, sym, ap, ap₂, ◌∙◌, arith, append_assoc, slice_get}
use Rattle.std.proofs.lemmas.List.{append-nil}
use Rattle.std.proofs.lemmas.Bool.{eqb-true, ltb-true}
use Rattle.std.specs.Ordering.{nat_cmp, is_eq}
use Rattle.std.specs.Prelude.{cond, nat_lt}
use Rattle.std.specs.BTreeSet.{BTreeSet, Updates}
use Rattle.std.specs.BTreeMap.{is_at}
use Rattle.wasm_syntax.specs.declared.value.ValType.{ValType}
use Rattle.wasm_syntax.specs.declared.instruction.Op.{Op}
use Rattle.wasm_syntax.specs.declared.instruction.Basic.{Basic}
use Rattle.wasm_syntax.specs.Tree.{Tree, Nodes, stop, basic, jump, block, loop, choose, Item, Plain, Goes, Opens, OpensLoop, OpensIf, Else, End, Placed, placed, write, IsTree, Writes, code_of, item_of}
use Rattle.rewrite_bodies.specs.calls.Slots.{local_written}
use Rattle.rewrite_bodies.specs.calls.Guards.{can_trap}
use Rattle.rewrite_bodies.specs.calls.Facts.{Base, Zero, Local, is_on, Fact, Copies, no_copies, is_local, written, frail, others, keep_if, copies_behind, facts_behind, shown, is_answered, if_exposed, exposed_from}
use Rattle.operand_spill.specs.inner.Exposing.{base_of, fact, held, deeper, marked_by, marked_along, Here, here, passed, is_exposed, one_more, exposed_along}
use Rattle.operand_spill.specs.declared.facts.KnownFact.{KnownFact}

-- ---- booleans

or_false : (b : Bool) → (b || false) ≡ b
or_false true = refl
or_false false = refl

or_assoc : (a b c : Bool) → ((a || b) || c) ≡ (a || (b || c))
or_assoc true b c = refl
or_assoc false b c = refl

-- ---- locals that blocks write

-- inside so many blocks
abbrev counted : ℕ → Nodes → ℕ → Bool
counted zero nodes x = frail nodes x
counted (suc d) nodes x = written nodes x

-- what stands behind a list, `else` or `end`, marks nothing
abbrev Ends : Item → Type 0
Ends e = (d : ℕ) (x : ℕ) → marked_by d e x ≡ false

ends_end : Ends End
ends_end zero x = refl
ends_end (suc d) x = refl

ends_else : Ends Else
ends_else zero x = refl
ends_else (suc d) x = refl

module _ (x : ℕ) where
  abbrev Along : ℕ → Nodes → Item → ℕ → List Placed → Bool → Type 0
  Along d nodes e at more b = marked_along d (write nodes (placed at e ∷ more)) x b ≡ marked_along (deeper e d) more x (b || counted d nodes x)

  plain_along : (d : ℕ) (o : ℕ) (i : Basic) (rest : Nodes) (e : Item) (at : ℕ) (more : List Placed) (b : Bool) → marked_along d (write rest (placed at e ∷ more)) x (b || marked_by d (Plain i) x) ≡ marked_along (deeper e d) more x ((b || marked_by d (Plain i) x) || counted d rest x) → Along d (basic o i rest) e at more b
  plain_along zero o i rest e at more b h = h ∙ ap (λ z. marked_along (deeper e 0) more x (z || frail rest x)) (or_false b)
  plain_along (suc d) o i rest e at more b h = h ∙ ap (marked_along (deeper e (suc d)) more x) (or_assoc b (is_local (local_written i) x) (written rest x))

  -- an instruction that marks nothing
  skips : (d : ℕ) (b r : Bool) (m : Bool) (e : Item) (more : List Placed) → m ≡ false → marked_along (deeper e d) more x ((b || m) || r) ≡ marked_along (deeper e d) more x (b || r)
  skips d b r m e more h = ap (λ z. marked_along (deeper e d) more x ((b || z) || r)) h ∙ ap (λ z. marked_along (deeper e d) more x (z || r)) (or_false b)

  -- what blocks and what comes behind them give
  join_two : (d : ℕ) (inner rest : Nodes) (o : ℕ) (t : Option ValType) (en : ℕ) (b : Bool) → ((b || written inner x) || counted d rest x) ≡ (b || counted d (block o t inner en rest) x)
  join_two zero inner rest o t en b = or_assoc b (written inner x) (frail rest x)
  join_two (suc d) inner rest o t en b = or_assoc b (written inner x) (written rest x)

  join_three : (d : ℕ) (a c rest : Nodes) (o : ℕ) (t : Option ValType) (ea : Option ℕ) (en : ℕ) (b : Bool) → (((b || written a x) || written c x) || counted d rest x) ≡ (b || counted d (choose o t a ea c en rest) x)
  join_three zero a c rest o t ea en b = or_assoc (b || written a x) (written c x) (frail rest x) ∙ or_assoc b (written a x) (written c x || frail rest x)
  join_three (suc d) a c rest o t ea en b = or_assoc (b || written a x) (written c x) (written rest x) ∙ or_assoc b (written a x) (written c x || written rest x)

  none_at : (d : ℕ) (i : Item) → ((j : Basic) → i ≡ Plain j → ⊥) → marked_by d i x ≡ false
  none_at zero i h = refl
  none_at (suc d) (Plain j) h = absurd (h j refl)
  none_at (suc d) (Goes j) h = refl
  none_at (suc d) (Opens t) h = refl
  none_at (suc d) (OpensLoop t) h = refl
  none_at (suc d) (OpensIf t) h = refl
  none_at (suc d) Else h = refl
  none_at (suc d) End h = refl

  start_with : (d : ℕ) (i : Item) (b : Bool) (code : List Placed) → marked_by d i x ≡ false → marked_along d code x (b || marked_by d i x) ≡ marked_along d code x b
  start_with d i b code h = ap (marked_along d code x) (ap (λ z. b || z) h ∙ or_false b)

  -- behind an end
  back : (d : ℕ) (code : List Placed) (b : Bool) → marked_along (suc d - 1) code x b ≡ marked_along d code x b
  back d code b = let one : suc d - 1 ≡ d = omega arith in ap (λ n. marked_along n code x b) one

  along : (d : ℕ) (nodes : Nodes) (e : Item) (at : ℕ) (more : List Placed) (b : Bool) → IsTree nodes → Ends e → Along d nodes e at more b
  along d stop e at more b it q = ap (λ z. marked_along (deeper e d) more x (b || z)) (q d x) ∙ ap (λ z. marked_along (deeper e d) more x (b || z)) (sym (nothing d))
    where
      nothing : (d : ℕ) → counted d stop x ≡ false
      nothing zero = refl
      nothing (suc d) = refl
  along d (basic o i rest) e at more b it q = plain_along d o i rest e at more b (along d rest e at more (b || marked_by d (Plain i) x) it q)
  along d (jump o j rest) e at more b it q = start_with d (Goes j) b (write rest (placed at e ∷ more)) (none_at d (Goes j) (λ k z. cc)) ∙ along d rest e at more b it q ∙ ap (λ z. marked_along (deeper e d) more x (b || z)) (same d)
    where
      same : (d : ℕ) → counted d rest x ≡ counted d (jump o j rest) x
      same zero = refl
      same (suc d) = refl
  along d (block o t inner end rest) e at more b it q =
      ap (marked_along (suc d) (write inner (placed end End ∷ write rest (placed at e ∷ more))) x) (ap (λ z. b || z) (none_at d (Opens t) (λ k z. cc)) ∙ or_false b)
      ∙ along (suc d) inner End end (write rest (placed at e ∷ more)) b it.0 ends_end ∙ back d (write rest (placed at e ∷ more)) (b || written inner x)
      ∙ along d rest e at more (b || written inner x) it.1 q
      ∙ ap (marked_along (deeper e d) more x) (join_two d inner rest o t end b)
  along d (loop o t inner end rest) e at more b it q =
      ap (marked_along (suc d) (write inner (placed end End ∷ write rest (placed at e ∷ more))) x) (ap (λ z. b || z) (none_at d (OpensLoop t) (λ k z. cc)) ∙ or_false b)
      ∙ along (suc d) inner End end (write rest (placed at e ∷ more)) b it.0 ends_end ∙ back d (write rest (placed at e ∷ more)) (b || written inner x)
      ∙ along d rest e at more (b || written inner x) it.1 q
      ∙ ap (marked_along (deeper e d) more x) (join_loop d)
    where
      join_loop : (d : ℕ) → ((b || written inner x) || counted d rest x) ≡ (b || counted d (loop o t inner end rest) x)
      join_loop zero = or_assoc b (written inner x) (frail rest x)
      join_loop (suc d) = or_assoc b (written inner x) (written rest x)
  along d (choose o t a None c end rest) e at more b it q =
      ap (λ c. marked_along (suc d) (write a (write c (placed end End ∷ write rest (placed at e ∷ more)))) x (b || marked_by d (OpensIf t) x)) it.1
      ∙ ap (marked_along (suc d) (write a (placed end End ∷ write rest (placed at e ∷ more))) x) (ap (λ z. b || z) (none_at d (OpensIf t) (λ k z. cc)) ∙ or_false b)
      ∙ along (suc d) a End end (write rest (placed at e ∷ more)) b it.0 ends_end ∙ back d (write rest (placed at e ∷ more)) (b || written a x)
      ∙ along d rest e at more (b || written a x) it.3 q
      ∙ ap (λ z. marked_along (deeper e d) more x (z || counted d rest x)) (sym (or_false (b || written a x)))
      ∙ ap (λ c. marked_along (deeper e d) more x (((b || written a x) || written c x) || counted d rest x)) (sym it.1)
      ∙ ap (marked_along (deeper e d) more x) (join_three d a c rest o t None end b)
  along d (choose o t a (Some els) c end rest) e at more b it q =
      ap (marked_along (suc d) (write a (placed els Else ∷ write c (placed end End ∷ write rest (placed at e ∷ more)))) x) (ap (λ z. b || z) (none_at d (OpensIf t) (λ k z. cc)) ∙ or_false b)
      ∙ along (suc d) a Else els (write c (placed end End ∷ write rest (placed at e ∷ more))) b it.0 ends_else
      ∙ along (suc d) c End end (write rest (placed at e ∷ more)) (b || written a x) it.2 ends_end ∙ back d (write rest (placed at e ∷ more)) ((b || written a x) || written c x)
      ∙ along d rest e at more ((b || written a x) || written c x) it.3 q
      ∙ ap (marked_along (deeper e d) more x) (join_three d a c rest o t (Some els) end b)

  pub marks_begin : (targets : List ℕ) (ops : List Op) (tree : Tree) → Writes targets ops tree → marked_along 0 (code_of targets ops) x false ≡ frail tree.nodes x
  marks_begin targets ops tree w = ap (λ code. marked_along 0 code x false) w.out ∙ along 0 tree.nodes End tree.end [] false w.arms ends_end

-- ---- what is exposed

abbrev Quiet : Item → Type 0
Quiet e = (w : Here) → is_exposed w e ≡ false

quiet_end : Quiet End
quiet_end w = refl

quiet_else : Quiet Else
quiet_else w = refl

-- what `else` and `end` restore hangs on the open blocks alone
abbrev Restores : Item → Type 0
Restores e = (these : ℕ → Bool) (fs gs : List Fact) (c d : Copies) (saved : List (List Fact)) → passed these (here fs c saved) e ≡ passed these (here gs d saved) e

end_restores : Restores End
end_restores these fs gs c d saved = refl

else_restores : Restores Else
else_restores these fs gs c d saved = refl

exposed_append : (b : Bool) (o : ℕ) (os more : List ℕ) → (one_more b o os ++ more) ≡ (os ++ if_exposed b o more)
exposed_append true o os more = append_assoc os (o ∷ []) more
exposed_append false o os more = refl

module _ (these : ℕ → Bool) where
  abbrev Gives : List Fact → Copies → List (List Fact) → Nodes → Item → ℕ → List Placed → List ℕ → Type 0
  Gives fs c saved nodes e at more os =
      exposed_along these (here fs c saved) (write nodes (placed at e ∷ more)) os ≡ exposed_along these (passed these (here [] no_copies saved) e) more (os ++ exposed_from these fs c nodes)

  two_parts : (w : Here) (more : List Placed) (os a b : List ℕ) → exposed_along these w more ((os ++ a) ++ b) ≡ exposed_along these w more (os ++ (a ++ b))
  two_parts w more os a b = ap (exposed_along these w more) (append_assoc os a b)

  gives : (fs : List Fact) (c : Copies) (saved : List (List Fact)) (nodes : Nodes) (e : Item) (at : ℕ) (more : List Placed) (os : List ℕ) → IsTree nodes → Quiet e → Restores e → Gives fs c saved nodes e at more os
  gives fs c saved stop e at more os it q r =
      ap (λ b. exposed_along these (passed these (here fs c saved) e) more (one_more b at os)) (q (here fs c saved))
      ∙ ap (λ w. exposed_along these w more os) (r these fs [] c no_copies saved)
      ∙ ap (exposed_along these (passed these (here [] no_copies saved) e) more) (sym (append-nil os))
  gives fs c saved (basic o i rest) e at more os it q r =
      let b = can_trap i && not (is_answered (shown i c) fs) in
      gives (facts_behind i c fs) (copies_behind i c) saved rest e at more (one_more b o os) it q r
      ∙ ap (exposed_along these (passed these (here [] no_copies saved) e) more) (exposed_append b o os (exposed_from these (facts_behind i c fs) (copies_behind i c) rest))
  gives fs c saved (jump o j rest) e at more os it q r = gives fs no_copies saved rest e at more os it q r
  gives fs c saved (block o t inner end rest) e at more os it q r =
      let kept = others these fs in
      let a = exposed_from these fs no_copies inner in
      gives fs no_copies (kept ∷ saved) inner End end (write rest (placed at e ∷ more)) os it.0 quiet_end end_restores
      ∙ gives kept no_copies saved rest e at more (os ++ a) it.1 q r
      ∙ two_parts (passed these (here [] no_copies saved) e) more os a (exposed_from these kept no_copies rest)
  gives fs c saved (loop o t inner end rest) e at more os it q r =
      let kept = others these fs in
      let a = exposed_from these kept no_copies inner in
      gives kept no_copies (kept ∷ saved) inner End end (write rest (placed at e ∷ more)) os it.0 quiet_end end_restores
      ∙ gives kept no_copies saved rest e at more (os ++ a) it.1 q r
      ∙ two_parts (passed these (here [] no_copies saved) e) more os a (exposed_from these kept no_copies rest)
  gives fs c saved (choose o t x None y end rest) e at more os it q r =
      let kept = others these fs in
      let a = exposed_from these fs no_copies x in
      let d = exposed_from these kept no_copies rest in
      ap (λ y. exposed_along these (here fs no_copies (kept ∷ saved)) (write x (write y (placed end End ∷ write rest (placed at e ∷ more)))) os) it.1
      ∙ gives fs no_copies (kept ∷ saved) x End end (write rest (placed at e ∷ more)) os it.0 quiet_end end_restores
      ∙ gives kept no_copies saved rest e at more (os ++ a) it.3 q r
      ∙ two_parts (passed these (here [] no_copies saved) e) more os a d
      ∙ ap (λ y. exposed_along these (passed these (here [] no_copies saved) e) more (os ++ (a ++ (exposed_from these kept no_copies y ++ d)))) (sym it.1)
  gives fs c saved (choose o t x (Some els) y end rest) e at more os it q r =
      let kept = others these fs in
      let a = exposed_from these fs no_copies x in
      let b = exposed_from these kept no_copies y in
      let d = exposed_from these kept no_copies rest in
      gives fs no_copies (kept ∷ saved) x Else els (write y (placed end End ∷ write rest (placed at e ∷ more))) os it.0 quiet_else else_restores
      ∙ gives kept no_copies (kept ∷ saved) y End end (write rest (placed at e ∷ more)) (os ++ a) it.2 quiet_end end_restores
      ∙ gives kept no_copies saved rest e at more ((os ++ a) ++ b) it.3 q r
      ∙ two_parts (passed these (here [] no_copies saved) e) more (os ++ a) b d
      ∙ two_parts (passed these (here [] no_copies saved) e) more os a (b ++ d)

  pub exposed_begin : (fs : List Fact) (targets : List ℕ) (ops : List Op) (tree : Tree) → Writes targets ops tree → exposed_along these (here fs no_copies []) (code_of targets ops) [] ≡ exposed_from these fs no_copies tree.nodes
  exposed_begin fs targets ops tree w = ap (λ code. exposed_along these (here fs no_copies []) code []) w.out ∙ gives fs no_copies [] tree.nodes End tree.end [] [] w.arms quiet_end end_restores

-- ---- the same locals

others_same : (f g : ℕ → Bool) → ((x : ℕ) → f x ≡ g x) → f ≡ g
others_same f g h = λ i x. h x i

pub own_exposed : (fs : List Fact) (f g : ℕ → Bool) (nodes : Nodes) → ((x : ℕ) → f x ≡ g x) → exposed_from f fs no_copies nodes ≡ exposed_from g fs no_copies nodes
own_exposed fs f g nodes h = ap (λ t. exposed_from t fs no_copies nodes) (others_same f g h)

-- ---- along the loops

pub begins_with : (targets : List ℕ) (ops : List Op) (pc : ℕ) (o : Op) → slice_get ops pc ≡ Some o → drop pc (code_of targets ops) ≡ placed o.at (item_of targets o.code) ∷ drop (suc pc) (code_of targets ops)
begins_with targets [] pc o e = absurd (cc)
begins_with targets (p ∷ ops) zero o e = let same : p ≡ o = cc in ap (λ z. placed z.at (item_of targets z.code) ∷ code_of targets ops) same
begins_with targets (p ∷ ops) (suc pc) o e = begins_with targets ops pc o e

pub nothing_left : (targets : List ℕ) (ops : List Op) (pc : ℕ) → length ops ≤ pc → drop pc (code_of targets ops) ≡ []
nothing_left targets [] zero le = refl
nothing_left targets [] (suc n) le = refl
nothing_left targets (p ∷ ops) zero le = absurd (omega (arith, le))
nothing_left targets (p ∷ ops) (suc n) le = nothing_left targets ops n (omega (arith, le))

pub exposed_turn : (these : ℕ → Bool) (targets : List ℕ) (ops : List Op) (pc : ℕ) (o : Op) (w w' : Here) (os os' all_ : List ℕ) → slice_get ops pc ≡ Some o → w' ≡ passed these w (item_of targets o.code) → os' ≡ one_more (is_exposed w (item_of targets o.code)) o.at os → exposed_along these w (drop pc (code_of targets ops)) os ≡ all_ → exposed_along these w' (drop (pc + 1) (code_of targets ops)) os' ≡ all_
exposed_turn these targets ops pc o w w' os os' all_ at went found h =
    let one : pc + 1 ≡ suc pc = omega arith in
    ap (λ n. exposed_along these w' (drop n (code_of targets ops)) os') one
    ∙ ap₂ (λ (v : Here) (ps : List ℕ). exposed_along these v (drop (suc pc) (code_of targets ops)) ps) went found
    ∙ sym (ap (λ code. exposed_along these w code os) (begins_with targets ops pc o at)) ∙ h

pub exposed_end : (these : ℕ → Bool) (targets : List ℕ) (ops : List Op) (pc : ℕ) (w : Here) (os all_ : List ℕ) → length ops ≤ pc → exposed_along these w (drop pc (code_of targets ops)) os ≡ all_ → os ≡ all_
exposed_end these targets ops pc w os all_ le h = sym (ap (λ code. exposed_along these w code os) (nothing_left targets ops pc le)) ∙ h

pub marked_turn : (x : ℕ) (targets : List ℕ) (ops : List Op) (pc : ℕ) (o : Op) (d d' : ℕ) (b b' all_ : Bool) → slice_get ops pc ≡ Some o → d' ≡ deeper (item_of targets o.code) d → b' ≡ (b || marked_by d (item_of targets o.code) x) → marked_along d (drop pc (code_of targets ops)) x b ≡ all_ → marked_along d' (drop (pc + 1) (code_of targets ops)) x b' ≡ all_
marked_turn x targets ops pc o d d' b b' all_ at went found h =
    let one : pc + 1 ≡ suc pc = omega arith in
    ap (λ n. marked_along d' (drop n (code_of targets ops)) x b') one
    ∙ ap₂ (λ (e : ℕ) (c : Bool). marked_along e (drop (suc pc) (code_of targets ops)) x c) went found
    ∙ sym (ap (λ code. marked_along d code x b) (begins_with targets ops pc o at)) ∙ h

pub marked_end : (x : ℕ) (targets : List ℕ) (ops : List Op) (pc d : ℕ) (b all_ : Bool) → length ops ≤ pc → marked_along d (drop pc (code_of targets ops)) x b ≡ all_ → b ≡ all_
marked_end x targets ops pc d b all_ le h = sym (ap (λ code. marked_along d code x b) (nothing_left targets ops pc le)) ∙ h

-- ---- a set with one more

at_by : (lt eq : Bool) → (lt ≡ true → eq ≡ false) → is_eq (cond lt Less (cond eq Equal Greater)) ≡ eq
at_by true eq h = sym (h refl)
at_by false true h = refl
at_by false false h = refl

apart : (k x : ℕ) (b : Bool) → (k == x) ≡ b → nat_lt k x ≡ true → b ≡ false
apart k x true e l = absurd (let same : k ≡ x = eqb-true k x e in omega (arith, same, ltb-true k x l))
apart k x false e l = refl

or_cond : (a c : Bool) → cond a true c ≡ (c || a)
or_cond true true = refl
or_cond true false = refl
or_cond false true = refl
or_cond false false = refl

-- whether a key is at a number
pub at_key : (k x : ℕ) → is_at (nat_cmp k) x ≡ (k == x)
at_key k x = at_by (nat_lt k x) (k == x) (λ l. apart k x (k == x) refl l)

pub marks_updated : (m n : BTreeSet ℕ) (k x : ℕ) → Updates nat_cmp m n k true → held n x ≡ (held m x || (k == x))
marks_updated m n k x u =
    u.0 x ∙ ap (λ b. cond b true (held m x)) (at_key k x) ∙ or_cond (k == x) (held m x)

-- ---- facts that are kept

-- those on other locals than none
on_none : (b : Base) → is_on (is_local None) b ≡ false
on_none Zero = refl
on_none (Local x) = refl

pub others_none : (fs : List Fact) → others (is_local None) fs ≡ fs
others_none [] = refl
others_none (f ∷ fs) = ap (λ b. keep_if (not b) f (others (is_local None) fs)) (on_none f.base) ∙ ap (λ z. f ∷ z) (others_none fs)

-- one more that is kept, or not
at_index : (xs : List KnownFact) (i : ℕ) (d : KnownFact) → i < length xs → drop i xs ≡ get_or xs i d ∷ drop (suc i) xs
at_index [] i d lt = absurd (omega (arith, lt))
at_index (x ∷ xs) zero d lt = refl
at_index (x ∷ xs) (suc i) d lt = at_index xs i d (omega (arith, lt))

facts_append : (xs : List KnownFact) (x : KnownFact) → map fact (xs ++ x ∷ []) ≡ map fact xs ++ fact x ∷ []
facts_append [] x = refl
facts_append (y ∷ xs) x = ap (λ z. fact y ∷ z) (facts_append xs x)

pub kept_one : (these : ℕ → Bool) (xs : List KnownFact) (i : ℕ) (d : KnownFact) (old new : List KnownFact) (b : Bool) → i < length xs → b ≡ is_on these (base_of (get_or xs i d).local) → b ≡ false → new ≡ old ++ get_or xs i d ∷ [] → (map fact old ++ others these (map fact (drop i xs))) ≡ others these (map fact xs) → (map fact new ++ others these (map fact (drop (i + 1) xs))) ≡ others these (map fact xs)
kept_one these xs i d old new b lt is no_mark made_ h =
    let x = get_or xs i d in
    let rest = others these (map fact (drop (suc i) xs)) in
    let one : i + 1 ≡ suc i = omega arith in
    let unmarked : is_on these (base_of x.local) ≡ false = sym is ∙ no_mark in
    ap₂ (λ (z : List KnownFact) (n : ℕ). map fact z ++ others these (map fact (drop n xs))) made_ one
    ∙ ap (λ z. z ++ rest) (facts_append old x)
    ∙ append_assoc (map fact old) (fact x ∷ []) rest
    ∙ sym (ap (λ c. map fact old ++ keep_if (not c) (fact x) rest) unmarked)
    ∙ sym (ap (λ z. map fact old ++ others these (map fact z)) (at_index xs i d lt))
    ∙ h

pub dropped_one : (these : ℕ → Bool) (xs : List KnownFact) (i : ℕ) (d : KnownFact) (old new : List KnownFact) (b : Bool) → i < length xs → b ≡ is_on these (base_of (get_or xs i d).local) → b ≡ true → new ≡ old → (map fact old ++ others these (map fact (drop i xs))) ≡ others these (map fact xs) → (map fact new ++ others these (map fact (drop (i + 1) xs))) ≡ others these (map fact xs)
dropped_one these xs i d old new b lt is mark made_ h =
    let x = get_or xs i d in
    let rest = others these (map fact (drop (suc i) xs)) in
    let one : i + 1 ≡ suc i = omega arith in
    let marked : is_on these (base_of x.local) ≡ true = sym is ∙ mark in
    ap₂ (λ (z : List KnownFact) (n : ℕ). map fact z ++ others these (map fact (drop n xs))) made_ one
    ∙ sym (ap (λ c. map fact old ++ keep_if (not c) (fact x) rest) marked)
    ∙ sym (ap (λ z. map fact old ++ others these (map fact z)) (at_index xs i d lt))
    ∙ h
