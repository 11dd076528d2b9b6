-- The live instructions of a body weigh no more than what the weight of a module gives to the instructions of its flat code.
use Rattle.std.proofs.Common.{◌≡◌, ℕ, suc, ◌+◌, ◌≤◌, Bool, true, false, List, [], ◌∷◌, ◌++◌, length, map, reverse, Option, Some, None, refl, sym, ap, ◌∙◌, subst, arith, option_to_list, length-append, take, slice_get}
use Rattle.std.specs.List.{AllByRecursion}
use Rattle.std.proofs.lemmas.List.{length-map, length-reverse, map-append}
use Rattle.std.proofs.Math.Seq.{take-append_seam}
use Rattle.wasm_syntax.specs.declared.blocks.BlockKind.TheVariants as block_kinds
use Rattle.wasm_syntax.specs.declared.value.ValType.{ValType}
use Rattle.wasm_syntax.specs.declared.value.ValType.TheVariants.{I32}
use Rattle.wasm_syntax.specs.declared.instruction.Basic.{Basic}
use Rattle.wasm_syntax.specs.declared.instruction.Instr.{Instr}
use Rattle.wasm_syntax.specs.declared.instruction.Instr.TheVariants as instrs
use Rattle.wasm_syntax.specs.declared.instruction.Op.{Op}
use Rattle.wasm_syntax.specs.declared.parts.FuncType.{FuncType}
use Rattle.wasm_syntax.specs.declared.parts.Body.{Body}
use Rattle.wasm_syntax.specs.Tree.{Unreachable, Br, BrIf, BrTable, Return, Call, CallIndirect, Nodes, stop, basic, jump, block, loop, choose, IsTree, Tree, Item, Plain, Goes, Opens, OpensLoop, OpensIf, Else, End, Placed, placed, else_out, write, item_of, code_of}
use Rattle.wasm_syntax.specs.Module.{Program, IsProgram, defined, function_at, type_at}
use Rattle.wasm_syntax.specs.Effect.{takes}
use Rattle.wasm_syntax.specs.Machine.{result_of}
use Rattle.wasm_syntax.specs.Typing.{Context, BasicTypes, Types, body_context}
use Rattle.wasm_syntax.specs.FlatTyping.{OpenBlock, opened, label_types, inside, FlatTypes, dead_behind, AllLive, all_types, TypesBefore}
use Rattle.wasm_format.specs.Encoding.{encoding}
use Rattle.rewrite_bodies.specs.calls.Slots.{Place, place_type, Ctx, less, pushed, grown, under, result_place, freed, after_plain, ctx_of, slots_of, behind_call}
use Rattle.rewrite_bodies.specs.Numbering.{import_count}
use Rattle.rewrite_bodies.specs.calls.Typed.{original}
use Rattle.rewrite_bodies.specs.calls.Length.{else_length, node_weight, live_weight}
use Rattle.rewrite_bodies.proofs.Sim.{grown-append}
use Rattle.rewrite_bodies.proofs.TypedPieces.{at_labels}
use Rattle.rewrite_bodies.proofs.TypedNodes.{cuts, grown_types, takes_of, own_behind, behind_types, without_types}
use Rattle.rewrite_bodies.proofs.Copies.{Fixed, fixed_under, without_append}
use Rattle.wasm_laws.proofs.FlatBodies.{tree_steps, inside_body}
use Rattle.wasm_laws.proofs.Safe.{Typed, one_result}
use Rattle.wasm_laws.proofs.FlatStatic.{write_append, dead_pass}
use Rattle.rewrite_modules.specs.Weight.{height_at, AreHeights, ops_weight}
use Rattle.rewrite_bodies.specs.Numbering.{extra}
use Rattle.rewrite_modules.proofs.Links.{is_defined, type_is_of}
use Rattle.rewrite_modules.proofs.Heights.{arrow_labels}
use Rattle.wasm_syntax.proofs.Bodies.{tree_there}
use Rattle.rewrite_modules.proofs.CodeLengths.{item_length, item_short}
use Rattle.rewrite_bodies.specs.calls.Length.{long_guard}

-- ---- the weight of flat code, item by item

abbrev item_extra : Item → ℕ
item_extra (Plain i) = long_guard i
item_extra x = 0

abbrev items_weight : (ℕ → ℕ) → ℕ → List Placed → ℕ
items_weight h j [] = 0
items_weight h j (x ∷ xs) = node_weight (item_length x.code) (h j) + item_extra x.code + items_weight h (suc j) xs

instr_extra : (T : List ℕ) (i : Instr) → extra i ≡ item_extra (item_of T i)
instr_extra T (instrs.Basic i) = refl
instr_extra T (instrs.Jump j) = refl
instr_extra T (instrs.Block t) = refl
instr_extra T (instrs.Loop t) = refl
instr_extra T (instrs.If t) = refl
instr_extra T instrs.Else = refl
instr_extra T instrs.End = refl

code_weight : (h : ℕ → ℕ) (T : List ℕ) (j : ℕ) (ops : List Op) → AllByRecursion (λ o. length (encoding T o.code) ≤ o.len) ops → items_weight h j (code_of T ops) ≤ ops_weight h j ops
code_weight h T j [] s = omega arith
code_weight h T j (o ∷ os) s =
    let a = item_short T o.code in
    let b = instr_extra T o.code in
    let c = code_weight h T (suc j) os s.1 in
    omega (arith, a, b, c, s.0)

-- how many items nodes are written as
abbrev size : Nodes → ℕ
size stop = 0
size (basic at i rest) = suc (size rest)
size (jump at j rest) = suc (size rest)
size (block at t inner end rest) = suc (size inner + suc (size rest))
size (loop at t inner end rest) = suc (size inner + suc (size rest))
size (choose at t a ea b end rest) = suc (size a + (else_length ea + (size b + suc (size rest))))

length_else : (ea : Option ℕ) (arm : List Placed) → length (else_out ea arm) ≡ else_length ea + length arm
length_else None arm = omega arith
length_else (Some at) arm = omega arith

length_write : (nodes : Nodes) (after : List Placed) → length (write nodes after) ≡ size nodes + length after
length_write stop after = omega arith
length_write (basic at i rest) after = omega (arith, length_write rest after)
length_write (jump at j rest) after = omega (arith, length_write rest after)
length_write (block at t inner end rest) after = omega (arith, length_write inner (placed end End ∷ write rest after), length_write rest after)
length_write (loop at t inner end rest) after = omega (arith, length_write inner (placed end End ∷ write rest after), length_write rest after)
length_write (choose at t a ea b end rest) after =
    let tail = placed end End ∷ write rest after in
    omega (arith, length_write a (else_out ea (write b tail)), length_else ea (write b tail), length_write b tail, length_write rest after)

module _ (h : ℕ → ℕ) where
  same_weight : (j k : ℕ) (after : List Placed) → k ≡ j → items_weight h k after ≤ items_weight h j after
  same_weight j k after e = subst (λ n. items_weight h n after ≤ items_weight h j after) (sym e) (omega arith)

  skip_else : (ea : Option ℕ) (j k : ℕ) (arm : List Placed) → k ≡ j + else_length ea → items_weight h k arm ≤ items_weight h j (else_out ea arm)
  skip_else None j k arm e = same_weight j k arm (omega (arith, e))
  skip_else (Some at) j k arm e = let a = same_weight (suc j) k arm (omega (arith, e)) in omega (arith, a)

  -- what stands behind nodes weighs no more than with them
  skip : (nodes : Nodes) (j k : ℕ) (after : List Placed) → k ≡ j + size nodes → items_weight h k after ≤ items_weight h j (write nodes after)
  skip stop j k after e = same_weight j k after (omega (arith, e))
  skip (basic at i rest) j k after e = let a = skip rest (suc j) k after (omega (arith, e)) in omega (arith, a)
  skip (jump at i rest) j k after e = let a = skip rest (suc j) k after (omega (arith, e)) in omega (arith, a)
  skip (block at t inner end rest) j k after e =
      let k1 = suc j + size inner in
      let a = skip inner (suc j) k1 (placed end End ∷ write rest after) refl in
      let b = skip rest (suc k1) k after (omega (arith, e)) in
      omega (arith, a, b)
  skip (loop at t inner end rest) j k after e =
      let k1 = suc j + size inner in
      let a = skip inner (suc j) k1 (placed end End ∷ write rest after) refl in
      let b = skip rest (suc k1) k after (omega (arith, e)) in
      omega (arith, a, b)
  skip (choose at t x ea y end rest) j k after e =
      let tail = placed end End ∷ write rest after in
      let k1 = suc j + size x in
      let k2 = k1 + else_length ea in
      let k3 = k2 + size y in
      let a = skip x (suc j) k1 (else_out ea (write y tail)) refl in
      let b = skip_else ea k1 k2 (write y tail) refl in
      let c = skip y k2 k3 tail refl in
      let d = skip rest (suc k3) k after (omega (arith, e)) in
      omega (arith, a, b, c, d)

module _ (C : Ctx) (ret : List ValType) (labs : List (List ValType)) (h : ℕ → ℕ) (one : (f : ℕ) (type : FuncType) → type_at C.source f ≡ Some type → reverse type.results ≡ option_to_list (result_of type)) (one_of : (t : ℕ) (type : FuncType) → slice_get C.source.types t ≡ Some type → reverse type.results ≡ option_to_list (result_of type)) where
  abbrev c : Context
  c = at_labels C.source C.locals ret labs

  -- wherever live flat steps lead, h is the number of operands
  abbrev High : OpenBlock → List OpenBlock → List Bool → ℕ → List Placed → Type 0
  High b bs ds j code = (ps rest : List Placed) (blocks : List OpenBlock) (n : ℕ) → n ≡ j + length ps → code ≡ ps ++ rest → FlatTypes c (b ∷ bs) ps blocks → AllLive (dead_behind (false ∷ ds) ps) → h n ≡ length (all_types blocks)

  here : (b : OpenBlock) (bs : List OpenBlock) (ds : List Bool) (j : ℕ) (code : List Placed) (own js : List Place) → AllLive ds → High b bs ds j code → map place_type own ≡ b.types → map place_type js ≡ all_types bs → h j ≡ length (own ++ js)
  here b bs ds j code own js live high e k =
      let z = high [] code (b ∷ bs) j (omega arith) refl refl (refl, live) in
      omega (arith, z, length-append own js, length-append b.types (all_types bs), ap length e, ap length k, length-map own place_type, length-map js place_type)

  -- what the rest weighs, with others of weight A, is at most B
  abbrev Below : List Place → Nodes → List ValType → ℕ → ℕ → Type 0
  Below js rest between A B = (own : List Place) → map place_type own ≡ between → live_weight C (own ++ js) rest + A ≤ B

  instr_low : (b : OpenBlock) (bs : List OpenBlock) (A B : ℕ) (i : Basic) (own js : List Place) (rest : Nodes) (between : List ValType) → map place_type own ≡ b.types → Fixed js → BasicTypes (inside c (b ∷ bs)) i b.types between → Below js rest between A B → live_weight C (after_plain C (own ++ js) i) rest + A ≤ B
  instr_low b bs A B i own js rest between e f h ih =
      let h1 : BasicTypes (original C []) i (map place_type own) between = record {
        any = h.any;
        arrow_is = h.arrow_is;
        has = sym (arrow_labels C ret (map label_types (b ∷ bs)) h.any i) ∙ h.has;
        above = record { below = h.above.below; takes = e ∙ h.above.takes; gives = h.above.gives };
      } in
      let T = takes_of C [] i own js between h1 in
      let own' = pushed (result_place C (own ++ js) i) (freed i T.own1) in
      subst (λ z. live_weight C z rest + A ≤ B) (sym (own_behind C i own js T.own1 T.left f)) (ih own' (behind_types C (own ++ js) i T.own1 ∙ T.after))

  -- behind operands that are taken, and a result
  call_low : (A B : ℕ) (type : FuncType) (own js : List Place) (rest : Nodes) (between below : List ValType) → reverse type.results ≡ option_to_list (result_of type) → map place_type own ≡ reverse type.params ++ below → between ≡ reverse type.results ++ below → Below js rest between A B → live_weight C (grown (result_of type) (less (length type.params) (own ++ js))) rest + A ≤ B
  call_low A B type own js rest between below ot tk gv ih =
      let r = result_of type in
      let k = cuts (length type.params) own js (reverse type.params) below (length-reverse type.params) tk in
      let conv : grown r (less (length type.params) (own ++ js)) ≡ grown r k.own1 ++ js = ap (grown r) k.left ∙ grown-append r k.own1 js in
      subst (λ z. live_weight C z rest + A ≤ B) (sym conv) (ih (grown r k.own1) (grown_types r k.own1 below k.types ∙ ap (λ z. z ++ below) (sym ot) ∙ sym gv))

  -- the operand on top is taken
  one_less : (own js : List Place) (t : ValType) (below : List ValType) → map place_type own ≡ t ∷ below → (own1 : List Place) × (less 1 (own ++ js) ≡ own1 ++ js) × (map place_type own1 ≡ below)
  one_less [] js t below e = absurd (cc)
  one_less (p ∷ own) js t below e = (own, refl, let z : map place_type own ≡ below = cc in z)

  -- behind a whole node
  behind_high : (node : Nodes) (between : List ValType) (b : OpenBlock) (bs : List OpenBlock) (ds : List Bool) (j k : ℕ) (code : List Placed) → k ≡ j + size node → IsTree node → Types (inside c (b ∷ bs)) node b.types between → ((ps : List Placed) → dead_behind (false ∷ ds) (write node ps) ≡ dead_behind (false ∷ ds) ps) → High b bs ds j (write node code) → High (opened b.kind b.result between) bs ds k code
  behind_high node between b bs ds j k code at it ty dead high ps more blocks n e s ft lv =
      high (write node ps) more blocks n (omega (arith, at, e, length_write node ps)) (ap (write node) s ∙ write_append node ps more) (tree_steps c node b bs between ps blocks it ty ft) (subst AllLive (sym (dead ps)) lv)

  dead_block : (at : ℕ) (t : Option ValType) (inner : Nodes) (end : ℕ) (ds : List Bool) (ps : List Placed) → dead_behind (false ∷ ds) (write (block at t inner end stop) ps) ≡ dead_behind (false ∷ ds) ps
  dead_block at t inner end ds ps = (dead_pass inner false (false ∷ ds) (placed end End ∷ ps)).1

  dead_loop : (at : ℕ) (t : Option ValType) (inner : Nodes) (end : ℕ) (ds : List Bool) (ps : List Placed) → dead_behind (false ∷ ds) (write (loop at t inner end stop) ps) ≡ dead_behind (false ∷ ds) ps
  dead_loop at t inner end ds ps = (dead_pass inner false (false ∷ ds) (placed end End ∷ ps)).1

  dead_arm : (ea : Option ℕ) (y : Nodes) (end : ℕ) (q : Bool) (ds : List Bool) (ps : List Placed) → dead_behind (q ∷ false ∷ ds) (else_out ea (write y (placed end End ∷ ps))) ≡ dead_behind (false ∷ ds) ps
  dead_arm None y end q ds ps = (dead_pass y q (false ∷ ds) (placed end End ∷ ps)).1
  dead_arm (Some at) y end q ds ps = (dead_pass y false (false ∷ ds) (placed end End ∷ ps)).1

  dead_choose : (at : ℕ) (t : Option ValType) (x : Nodes) (ea : Option ℕ) (y : Nodes) (end : ℕ) (ds : List Bool) (ps : List Placed) → dead_behind (false ∷ ds) (write (choose at t x ea y end stop) ps) ≡ dead_behind (false ∷ ds) ps
  dead_choose at t x ea y end ds ps =
      let a = dead_pass x false (false ∷ ds) (else_out ea (write y (placed end End ∷ ps))) in
      a.1 ∙ dead_arm ea y end a.0 ds ps

  outer : (own js : List Place) (types below : List ValType) → map place_type own ≡ types → map place_type js ≡ below → map place_type (own ++ js) ≡ types ++ below
  outer own js types below e k = map-append place_type own js ∙ ap (λ z. z ++ map place_type js) e ∙ ap (λ z. types ++ z) k

  grown_low : (A B : ℕ) (t : Option ValType) (own js : List Place) (rest : Nodes) → live_weight C (grown t own ++ js) rest + A ≤ B → live_weight C (grown t (own ++ js)) rest + A ≤ B
  grown_low A B t own js rest h = subst (λ z. live_weight C z rest + A ≤ B) (sym (grown-append t own js)) h

  weigh : (nodes : Nodes) (b : OpenBlock) (bs : List OpenBlock) (ds : List Bool) (own js : List Place) (after : List ValType) (x0 : Placed) (end_ : List Placed) (j k : ℕ) → item_length x0.code ≡ 1 → k ≡ j + size nodes → IsTree nodes → AllLive ds → Types (inside c (b ∷ bs)) nodes b.types after → map place_type own ≡ b.types → map place_type js ≡ all_types bs → Fixed js → High b bs ds j (write nodes (x0 ∷ end_)) → live_weight C (own ++ js) nodes + items_weight h (suc k) end_ ≤ items_weight h j (write nodes (x0 ∷ end_))
  weigh stop b bs ds own js after x0 end_ j k u ix it live ty e z fx high =
      let low = here b bs ds j _ own js live high e z in
      let same : j ≡ k = omega (arith, ix) in
      subst (λ n. node_weight 1 (length (own ++ js)) + items_weight h (suc n) end_ ≤ node_weight (item_length x0.code) (h j) + item_extra x0.code + items_weight h (suc j) end_) same (omega (arith, low, u))
  weigh (basic at i rest) b bs ds own js after x0 end_ j k u ix it live ty e z fx high =
      let low = here b bs ds j _ own js live high e z in
      let b1 = opened b.kind b.result ty.0 in
      let high1 : High b1 bs ds (suc j) (write rest (x0 ∷ end_)) = λ ps more blocks n d s ft lv. high (placed at (Plain i) ∷ ps) more blocks n (omega (arith, d)) (ap (λ z. placed at (Plain i) ∷ z) s) (b1 ∷ bs, (ty.0, ty.1, refl), ft) lv in
      let r = instr_low b bs (items_weight h (suc k) end_) (items_weight h (suc j) (write rest (x0 ∷ end_))) i own js rest ty.0 e fx ty.1 (λ own' e'. weigh rest b1 bs ds own' js after x0 end_ (suc j) k u (omega (arith, ix)) it live ty.2 e' z fx high1) in
      omega (arith, low, r)
  weigh (jump at Unreachable rest) b bs ds own js after x0 end_ j k u ix it live ty e z fx high =
      let low = here b bs ds j _ own js live high e z in
      let r = skip h rest (suc j) k (x0 ∷ end_) (omega (arith, ix)) in
      omega (arith, low, r)
  weigh (jump at (Br l) rest) b bs ds own js after x0 end_ j k u ix it live ty e z fx high =
      let low = here b bs ds j _ own js live high e z in
      let r = skip h rest (suc j) k (x0 ∷ end_) (omega (arith, ix)) in
      omega (arith, low, r)
  weigh (jump at (BrTable ts d) rest) b bs ds own js after x0 end_ j k u ix it live ty e z fx high =
      let low = here b bs ds j _ own js live high e z in
      let r = skip h rest (suc j) k (x0 ∷ end_) (omega (arith, ix)) in
      omega (arith, low, r)
  weigh (jump at Return rest) b bs ds own js after x0 end_ j k u ix it live ty e z fx high =
      let low = here b bs ds j _ own js live high e z in
      let r = skip h rest (suc j) k (x0 ∷ end_) (omega (arith, ix)) in
      omega (arith, low, r)
  weigh (jump at (BrIf l) rest) b bs ds own js after x0 end_ j k u ix it live ty e z fx high =
      let low = here b bs ds j _ own js live high e z in
      let b1 = opened b.kind b.result ty.0 in
      let A = items_weight h (suc k) end_ in
      let B = items_weight h (suc j) (write rest (x0 ∷ end_)) in
      let high1 : High b1 bs ds (suc j) (write rest (x0 ∷ end_)) = λ ps more blocks n d s ft lv. high (placed at (Goes (BrIf l)) ∷ ps) more blocks n (omega (arith, d)) (ap (λ z. placed at (Goes (BrIf l)) ∷ z) s) (b1 ∷ bs, (ty.0, ty.1, refl), ft) lv in
      let o = one_less own js I32 (ty.1.0 ++ ty.1.2.below) (e ∙ ty.1.2.takes) in
      let r : live_weight C (less 1 (own ++ js)) rest + A ≤ B = subst (λ z. live_weight C z rest + A ≤ B) (sym o.1) (weigh rest b1 bs ds o.0 js after x0 end_ (suc j) k u (omega (arith, ix)) it live ty.2 (o.2 ∙ sym ty.1.2.gives) z fx high1) in
      omega (arith, low, r)
  weigh (jump at (Call f) rest) b bs ds own js after x0 end_ j k u ix it live ty e z fx high =
      let low = here b bs ds j _ own js live high e z in
      let b1 = opened b.kind b.result ty.0 in
      let A = items_weight h (suc k) end_ in
      let B = items_weight h (suc j) (write rest (x0 ∷ end_)) in
      let type = ty.1.0 in
      let high1 : High b1 bs ds (suc j) (write rest (x0 ∷ end_)) = λ ps more blocks n d s ft lv. high (placed at (Goes (Call f)) ∷ ps) more blocks n (omega (arith, d)) (ap (λ z. placed at (Goes (Call f)) ∷ z) s) (b1 ∷ bs, (ty.0, ty.1, refl), ft) lv in
      let r0 = call_low A B type own js rest ty.0 ty.1.2.below (one f type ty.1.1) (e ∙ ty.1.2.takes) ty.1.2.gives (λ own' e'. weigh rest b1 bs ds own' js after x0 end_ (suc j) k u (omega (arith, ix)) it live ty.2 e' z fx high1) in
      let r : behind_call (type_at C.source f) (own ++ js) (λ es'. live_weight C es' rest) + A ≤ B = subst (λ q. behind_call q (own ++ js) (λ es'. live_weight C es' rest) + A ≤ B) (sym ty.1.1) r0 in
      omega (arith, low, r)
  weigh (jump at (CallIndirect t) rest) b bs ds own js after x0 end_ j k u ix it live ty e z fx high =
      let low = here b bs ds j _ own js live high e z in
      let b1 = opened b.kind b.result ty.0 in
      let A = items_weight h (suc k) end_ in
      let B = items_weight h (suc j) (write rest (x0 ∷ end_)) in
      let type = ty.1.0 in
      let high1 : High b1 bs ds (suc j) (write rest (x0 ∷ end_)) = λ ps more blocks n d s ft lv. high (placed at (Goes (CallIndirect t)) ∷ ps) more blocks n (omega (arith, d)) (ap (λ z. placed at (Goes (CallIndirect t)) ∷ z) s) (b1 ∷ bs, (ty.0, ty.1, refl), ft) lv in
      let o = one_less own js I32 (reverse type.params ++ ty.1.3.below) (e ∙ ty.1.3.takes) in
      let r0 = call_low A B type o.0 js rest ty.0 ty.1.3.below (one_of t type ty.1.2) o.2 ty.1.3.gives (λ own' e'. weigh rest b1 bs ds own' js after x0 end_ (suc j) k u (omega (arith, ix)) it live ty.2 e' z fx high1) in
      let r1 : live_weight C (grown (result_of type) (less (length type.params) (less 1 (own ++ js)))) rest + A ≤ B = subst (λ z. live_weight C (grown (result_of type) (less (length type.params) z)) rest + A ≤ B) (sym o.1) r0 in
      let r : behind_call (slice_get C.source.types t) (less 1 (own ++ js)) (λ es'. live_weight C es' rest) + A ≤ B = subst (λ q. behind_call q (less 1 (own ++ js)) (λ es'. live_weight C es' rest) + A ≤ B) (sym ty.1.2) r1 in
      omega (arith, low, r)
  weigh (block at t inner end rest) b bs ds own js after x0 end_ j k u ix it live ty e z fx high =
      let low = here b bs ds j _ own js live high e z in
      let tail = write rest (x0 ∷ end_) in
      let k1 = suc j + size inner in
      let start = opened block_kinds.Plain t [] in
      let high1 : High start (b ∷ bs) (false ∷ ds) (suc j) (write inner (placed end End ∷ tail)) = λ ps more blocks n d s ft lv. high (placed at (Opens t) ∷ ps) more blocks n (omega (arith, d)) (ap (λ z. placed at (Opens t) ∷ z) s) (start ∷ b ∷ bs, refl, ft) lv in
      let u_ = under own in
      let sp : under (own ++ js) ≡ u_ ++ js = without_append (λ x. true) own js fx in
      let eu : map place_type u_ ≡ b.types = without_types (λ x. true) own ∙ e in
      let i = weigh inner start (b ∷ bs) (false ∷ ds) [] (u_ ++ js) (option_to_list t) (placed end End) tail (suc j) k1 refl refl it.0 (refl, live) ty.0 refl (outer u_ js b.types (all_types bs) eu z) (subst Fixed sp (fixed_under (own ++ js))) high1 in
      let between = option_to_list t ++ b.types in
      let high2 = behind_high (block at t inner end stop) between b bs ds j (suc k1) tail (omega arith) (it.0, tt) (ty.0, refl) (λ ps. dead_block at t inner end ds ps) high in
      let r = grown_low (items_weight h (suc k) end_) (items_weight h (suc k1) tail) t u_ js rest (weigh rest (opened b.kind b.result between) bs ds (grown t u_) js after x0 end_ (suc k1) k u (omega (arith, ix)) it.1 live ty.1 (grown_types t u_ b.types eu) z fx high2) in
      let A = items_weight h (suc k) end_ in
      let B = items_weight h (suc k1) tail in
      let D = items_weight h (suc j) (write inner (placed end End ∷ tail)) in
      let both : (live_weight C (u_ ++ js) inner + B ≤ D) × (live_weight C (grown t (u_ ++ js)) rest + A ≤ B) = (i, r) in
      let both1 : (live_weight C (under (own ++ js)) inner + B ≤ D) × (live_weight C (grown t (under (own ++ js))) rest + A ≤ B) = subst (λ z. (live_weight C z inner + B ≤ D) × (live_weight C (grown t z) rest + A ≤ B)) (sym sp) both in
      omega (arith, low, both1.0, both1.1)
  weigh (loop at t inner end rest) b bs ds own js after x0 end_ j k u ix it live ty e z fx high =
      let low = here b bs ds j _ own js live high e z in
      let tail = write rest (x0 ∷ end_) in
      let k1 = suc j + size inner in
      let start = opened block_kinds.Loop t [] in
      let high1 : High start (b ∷ bs) (false ∷ ds) (suc j) (write inner (placed end End ∷ tail)) = λ ps more blocks n d s ft lv. high (placed at (OpensLoop t) ∷ ps) more blocks n (omega (arith, d)) (ap (λ z. placed at (OpensLoop t) ∷ z) s) (start ∷ b ∷ bs, refl, ft) lv in
      let u_ = under own in
      let sp : under (own ++ js) ≡ u_ ++ js = without_append (λ x. true) own js fx in
      let eu : map place_type u_ ≡ b.types = without_types (λ x. true) own ∙ e in
      let i = weigh inner start (b ∷ bs) (false ∷ ds) [] (u_ ++ js) (option_to_list t) (placed end End) tail (suc j) k1 refl refl it.0 (refl, live) ty.0 refl (outer u_ js b.types (all_types bs) eu z) (subst Fixed sp (fixed_under (own ++ js))) high1 in
      let between = option_to_list t ++ b.types in
      let high2 = behind_high (loop at t inner end stop) between b bs ds j (suc k1) tail (omega arith) (it.0, tt) (ty.0, refl) (λ ps. dead_loop at t inner end ds ps) high in
      let r = grown_low (items_weight h (suc k) end_) (items_weight h (suc k1) tail) t u_ js rest (weigh rest (opened b.kind b.result between) bs ds (grown t u_) js after x0 end_ (suc k1) k u (omega (arith, ix)) it.1 live ty.1 (grown_types t u_ b.types eu) z fx high2) in
      let A = items_weight h (suc k) end_ in
      let B = items_weight h (suc k1) tail in
      let D = items_weight h (suc j) (write inner (placed end End ∷ tail)) in
      let both : (live_weight C (u_ ++ js) inner + B ≤ D) × (live_weight C (grown t (u_ ++ js)) rest + A ≤ B) = (i, r) in
      let both1 : (live_weight C (under (own ++ js)) inner + B ≤ D) × (live_weight C (grown t (under (own ++ js))) rest + A ≤ B) = subst (λ z. (live_weight C z inner + B ≤ D) × (live_weight C (grown t z) rest + A ≤ B)) (sym sp) both in
      omega (arith, low, both1.0, both1.1)
  weigh (choose at t x None stop end rest) b bs ds own js after x0 end_ j k u ix it live ty e z fx high =
      let low = here b bs ds j _ own js live high e z in
      let tail = write rest (x0 ∷ end_) in
      let k1 = suc j + size x in
      let o = one_less own js I32 ty.2 (e ∙ ty.3) in
      let u_ = under o.0 in
      let sp : under (less 1 (own ++ js)) ≡ u_ ++ js = ap (λ z. under z) o.1 ∙ without_append (λ x. true) o.0 js fx in
      let eu : map place_type u_ ≡ ty.2 = without_types (λ x. true) o.0 ∙ o.2 in
      let fu : Fixed (u_ ++ js) = subst Fixed sp (fixed_under (less 1 (own ++ js))) in
      let b1 = opened b.kind b.result ty.2 in
      let start = opened block_kinds.Then t [] in
      let out1 : map place_type (u_ ++ js) ≡ ty.2 ++ all_types bs = outer u_ js ty.2 (all_types bs) eu z in
      let high1 : High start (b1 ∷ bs) (false ∷ ds) (suc j) (write x (placed end End ∷ tail)) = λ ps more blocks n d s ft lv. high (placed at (OpensIf t) ∷ ps) more blocks n (omega (arith, d)) (ap (λ z. placed at (OpensIf t) ∷ z) s) (start ∷ b1 ∷ bs, (ty.2, ty.3, refl), ft) lv in
      let px = weigh x start (b1 ∷ bs) (false ∷ ds) [] (u_ ++ js) (option_to_list t) (placed end End) tail (suc j) k1 refl refl it.0 (refl, live) ty.0 refl out1 fu high1 in
      let between = option_to_list t ++ ty.2 in
      let high3 = behind_high (choose at t x None stop end stop) between b bs ds j (suc k1) tail (omega arith) (it.0, it.1, it.2, tt) (ty.0, ty.1, ty.2, ty.3, refl) (λ ps. dead_choose at t x None stop end ds ps) high in
      let A = items_weight h (suc k) end_ in
      let B = items_weight h (suc k1) tail in
      let E = items_weight h (suc j) (write x (placed end End ∷ tail)) in
      let r = grown_low A B t u_ js rest (weigh rest (opened b.kind b.result between) bs ds (grown t u_) js after x0 end_ (suc k1) k u (omega (arith, ix)) it.3 live ty.4 (grown_types t u_ ty.2 eu) z fx high3) in
      let all : (live_weight C (u_ ++ js) x + B ≤ E) × (live_weight C (grown t (u_ ++ js)) rest + A ≤ B) = (px, r) in
      let all1 : (live_weight C (under (less 1 (own ++ js))) x + B ≤ E) × (live_weight C (grown t (under (less 1 (own ++ js)))) rest + A ≤ B) = subst (λ z. (live_weight C z x + B ≤ E) × (live_weight C (grown t z) rest + A ≤ B)) (sym sp) all in
      omega (arith, low, all1.0, all1.1)
  weigh (choose at t x None (basic at1 i1 rest1) end rest) b bs ds own js after x0 end_ j k u ix it live ty e z fx high = absurd (let bad : basic at1 i1 rest1 ≡ stop = it.1 in cc)
  weigh (choose at t x None (jump at1 j1 rest1) end rest) b bs ds own js after x0 end_ j k u ix it live ty e z fx high = absurd (let bad : jump at1 j1 rest1 ≡ stop = it.1 in cc)
  weigh (choose at t x None (block at1 t1 inner1 end1 rest1) end rest) b bs ds own js after x0 end_ j k u ix it live ty e z fx high = absurd (let bad : block at1 t1 inner1 end1 rest1 ≡ stop = it.1 in cc)
  weigh (choose at t x None (loop at1 t1 inner1 end1 rest1) end rest) b bs ds own js after x0 end_ j k u ix it live ty e z fx high = absurd (let bad : loop at1 t1 inner1 end1 rest1 ≡ stop = it.1 in cc)
  weigh (choose at t x None (choose at1 t1 x1 ea1 y1 end1 rest1) end rest) b bs ds own js after x0 end_ j k u ix it live ty e z fx high = absurd (let bad : choose at1 t1 x1 ea1 y1 end1 rest1 ≡ stop = it.1 in cc)
  weigh (choose at t x (Some els) y end rest) b bs ds own js after x0 end_ j k u ix it live ty e z fx high =
      let low = here b bs ds j _ own js live high e z in
      let tail = write rest (x0 ∷ end_) in
      let arm = write y (placed end End ∷ tail) in
      let k1 = suc j + size x in
      let k2 = suc k1 + size y in
      let o = one_less own js I32 ty.2 (e ∙ ty.3) in
      let u_ = under o.0 in
      let sp : under (less 1 (own ++ js)) ≡ u_ ++ js = ap (λ z. under z) o.1 ∙ without_append (λ x. true) o.0 js fx in
      let eu : map place_type u_ ≡ ty.2 = without_types (λ x. true) o.0 ∙ o.2 in
      let fu : Fixed (u_ ++ js) = subst Fixed sp (fixed_under (less 1 (own ++ js))) in
      let b1 = opened b.kind b.result ty.2 in
      let start = opened block_kinds.Then t [] in
      let out1 : map place_type (u_ ++ js) ≡ ty.2 ++ all_types bs = outer u_ js ty.2 (all_types bs) eu z in
      let high1 : High start (b1 ∷ bs) (false ∷ ds) (suc j) (write x (placed els Else ∷ arm)) = λ ps more blocks n d s ft lv. high (placed at (OpensIf t) ∷ ps) more blocks n (omega (arith, d)) (ap (λ z. placed at (OpensIf t) ∷ z) s) (start ∷ b1 ∷ bs, (ty.2, ty.3, refl), ft) lv in
      let px = weigh x start (b1 ∷ bs) (false ∷ ds) [] (u_ ++ js) (option_to_list t) (placed els Else) arm (suc j) k1 refl refl it.0 (refl, live) ty.0 refl out1 fu high1 in
      let plain_ = opened block_kinds.Plain t [] in
      let high2 : High plain_ (b1 ∷ bs) (false ∷ ds) (suc k1) arm = λ ps more blocks n d s ft lv.
      high1 (write x (placed els Else ∷ ps)) more blocks n (omega (arith, d, length_write x (placed els Else ∷ ps))) (ap (λ z. write x (placed els Else ∷ z)) s ∙ write_append x (placed els Else ∷ ps) more)
      (tree_steps c x start (b1 ∷ bs) (option_to_list t) (placed els Else ∷ ps) blocks it.0 ty.0 (plain_ ∷ b1 ∷ bs, (refl, refl, refl), ft))
      (subst AllLive (sym ((dead_pass x false (false ∷ ds) (placed els Else ∷ ps)).1)) lv) in
      let py = weigh y plain_ (b1 ∷ bs) (false ∷ ds) [] (u_ ++ js) (option_to_list t) (placed end End) tail (suc k1) k2 refl refl it.2 (refl, live) ty.1 refl out1 fu high2 in
      let between = option_to_list t ++ ty.2 in
      let high3 = behind_high (choose at t x (Some els) y end stop) between b bs ds j (suc k2) tail (omega arith) (it.0, it.1, it.2, tt) (ty.0, ty.1, ty.2, ty.3, refl) (λ ps. dead_choose at t x (Some els) y end ds ps) high in
      let A = items_weight h (suc k) end_ in
      let B = items_weight h (suc k2) tail in
      let D = items_weight h (suc k1) arm in
      let E = items_weight h (suc j) (write x (placed els Else ∷ arm)) in
      let r = grown_low A B t u_ js rest (weigh rest (opened b.kind b.result between) bs ds (grown t u_) js after x0 end_ (suc k2) k u (omega (arith, ix)) it.3 live ty.4 (grown_types t u_ ty.2 eu) z fx high3) in
      let all : (live_weight C (u_ ++ js) x + D ≤ E) × (live_weight C (u_ ++ js) y + B ≤ D) × (live_weight C (grown t (u_ ++ js)) rest + A ≤ B) = (px, py, r) in
      let all1 : (live_weight C (under (less 1 (own ++ js))) x + D ≤ E) × (live_weight C (under (less 1 (own ++ js))) y + B ≤ D) × (live_weight C (grown t (under (less 1 (own ++ js)))) rest + A ≤ B) = subst (λ z. (live_weight C z x + D ≤ E) × (live_weight C z y + B ≤ D) × (live_weight C (grown t z) rest + A ≤ B)) (sym sp) all in
      omega (arith, low, all1.0, all1.1, all1.2)

-- ---- functions

-- what the rewriting of a function takes is what the weight gives to its instructions
pub body_weighs : (p : Program) → IsProgram p → Typed p → (heights : List (List ℕ)) → AreHeights p.module_ heights → (i : ℕ) (b : Body) (tree : Tree) (type : FuncType) → function_at p (import_count p.module_ + i) ≡ Some (defined b tree type) → AllByRecursion (λ o. length (encoding b.targets o.code) ≤ o.len) b.ops → live_weight (ctx_of p (import_count p.module_ + i) b type (slots_of p (import_count p.module_ + i) b tree type)) [] tree.nodes ≤ ops_weight (height_at heights i) 0 b.ops
body_weighs p write_ typed heights are i b tree type at long =
    let m = p.module_ in
    let f = import_count m + i in
    let d = is_defined p f b tree type at in
    let same : d.number ≡ i = omega (arith, d.number_is) in
    let body_is : slice_get m.bodies i ≡ Some b = subst (λ n. slice_get m.bodies n ≡ Some b) same d.body_is in
    let result = result_of type in
    let gives : reverse type.results ≡ option_to_list result = one_result type.results (typed.few f (defined b tree type) at) in
    let C = ctx_of p f b type (slots_of p f b tree type) in
    let ret = reverse type.results in
    let start = opened block_kinds.Plain result [] in
    let w = tree_there m.bodies p.trees d.number b tree write_ d.body_is d.tree_is in
    let code = code_of b.targets b.ops in
    let ty : type_at m (length m.imports + i) ≡ Some type = type_is_of p f (defined b tree type) at in
    let types1 : Types (inside (body_context m type b) (start ∷ [])) tree.nodes [] (reverse type.results) = subst (λ z. Types z tree.nodes [] (reverse type.results)) (sym (inside_body m type b result gives)) (typed.bodies f b tree type at) in
    let heavy = weigh C ret (ret ∷ []) (height_at heights i) (λ g u e. let fn = typed.functions g u e in one_result u.results (subst (λ q. length q.results ≤ 1) fn.2 (typed.few g fn.0 fn.1))) (λ t u e. one_result u.results (typed.few_types t u e)) tree.nodes start [] [] [] [] (reverse type.results) (placed tree.end End) [] 0 (0 + size tree.nodes) refl refl w.arms tt types1 refl refl tt
    (λ ps rest blocks n e s ft lv.
    let split : code ≡ ps ++ rest = w.out ∙ s in
    let front : take (length ps) code ≡ ps = ap (take (length ps)) split ∙ take-append_seam ps rest in
    let before : TypesBefore m type b (length ps) (reverse (all_types blocks)) = record { result = result; gives = gives; blocks = blocks; leads = subst (λ z. FlatTypes (body_context m type b) (start ∷ []) z blocks) (sym front) ft; live = subst (λ z. AllLive (dead_behind (false ∷ []) z)) (sym front) lv; types_are = refl } in
    let there = are.live i (length ps) type b (reverse (all_types blocks)) body_is ty before in
    let n_is : n ≡ length ps = omega (arith, e) in
    ap (height_at heights i) n_is ∙ there ∙ length-reverse (all_types blocks)) in
    let given = code_weight (height_at heights i) b.targets 0 b.ops long in
    let written_ = ap (items_weight (height_at heights i) 0) w.out in
    omega (arith, heavy, given, written_)
