-- The greatest height of the rewriting's places is that of the operands.
use Rattle.std.proofs.Common.{◌≡◌, ℕ, suc, ◌+◌, ◌≤◌, Bool, true, false, List, [], ◌∷◌, ◌++◌, inl, inr, length, map, reverse, Option, Some, None, refl, sym, ap, ◌∙◌, subst, arith, option_to_list, length-append, take, slice_get}
use Rattle.std.proofs.lemmas.List.{length-map, length-reverse, map-append}
use Rattle.std.proofs.Math.Seq.{take-append_seam}
use Rattle.wasm_syntax.specs.declared.blocks.BlockKind.TheVariants as block_kinds
use Rattle.wasm_syntax.specs.declared.value.ValType.{ValType}
use Rattle.wasm_syntax.specs.declared.value.ValType.TheVariants.{I32}
use Rattle.wasm_syntax.specs.declared.instruction.Basic.{Basic}
use Rattle.wasm_syntax.specs.declared.parts.FuncType.{FuncType}
use Rattle.wasm_syntax.specs.Tree.{Unreachable, Br, BrIf, BrTable, Return, Call, CallIndirect, Nodes, stop, basic, jump, block, loop, choose, IsTree, Plain, Goes, Opens, OpensLoop, OpensIf, Else, End, Placed, placed, else_out, write}
use Rattle.wasm_syntax.specs.Module.{Program, IsProgram, Function, imported, defined, function_at, type_at}
use Rattle.wasm_syntax.specs.Tree.{Tree, code_of}
use Rattle.wasm_syntax.specs.declared.parts.Body.{Body}
use Rattle.wasm_syntax.specs.Effect.{takes}
use Rattle.wasm_syntax.specs.Machine.{result_of}
use Rattle.wasm_syntax.specs.Typing.{Context, arrow, BasicTypes, Types, body_context}
use Rattle.wasm_syntax.specs.FlatTyping.{OpenBlock, opened, label_types, inside, FlatTypes, dead_behind, AllLive, all_types, TypesBefore}
use Rattle.wasm_syntax.specs.Static.{Spot, spot, Live}
use Rattle.rewrite_bodies.specs.calls.Slots.{Place, place_type, Ctx, less, pushed, grown, under, result_place, freed, after_plain, behind_call, peak, ctx_of, slots_of, sizes, most, greatest}
use Rattle.rewrite_bodies.specs.Numbering.{import_count}
use Rattle.rewrite_bodies.specs.calls.Typed.{original}
use Rattle.rewrite_bodies.proofs.Sim.{grown-append}
use Rattle.rewrite_bodies.proofs.TypedPieces.{at_labels}
use Rattle.rewrite_bodies.proofs.TypedNodes.{cuts, grown_types, takes_of, own_behind, behind_types, without_types}
use Rattle.rewrite_bodies.proofs.Copies.{Fixed, fixed_under, without_append}
use Rattle.wasm_laws.proofs.FlatBodies.{tree_steps, inside_body}
use Rattle.wasm_laws.proofs.Safe.{Typed, one_result}
use Rattle.wasm_laws.proofs.FlatStatic.{write_append, dead_pass}
use Rattle.rewrite_modules.specs.Weight.{height_at, AreHeights}
use Rattle.rewrite_modules.proofs.Links.{is_defined, type_is_of}
use Rattle.wasm_syntax.proofs.Bodies.{tree_there}
use Rattle.wasm_syntax.specs.calls.Classes.{TypeSource, DropsAny, SelectsAny, FromLocal, IntoLocal, TeesLocal, FromGlobal, IntoGlobal, OverMemory, OfItself, type_source, source_arrow}
use Rattle.wasm_syntax.proofs.Classes.{arrow_is}

-- what basic instructions take does not hang on labels
pub arrow_labels : (C : Ctx) (ret : List ValType) (labels : List (List ValType)) (t : ValType) (i : Basic) → arrow (at_labels C.source C.locals ret labels) t i ≡ arrow (original C []) t i
arrow_labels C ret labels t i = arrow_is (at_labels C.source C.locals ret labels) t i ∙ by_kind (type_source i) ∙ sym (arrow_is (original C []) t i)
  where
    by_kind : (k : TypeSource) → source_arrow (at_labels C.source C.locals ret labels) t k ≡ source_arrow (original C []) t k
    by_kind DropsAny = refl
    by_kind SelectsAny = refl
    by_kind (FromLocal x) = refl
    by_kind (IntoLocal x) = refl
    by_kind (TeesLocal x) = refl
    by_kind (FromGlobal x) = refl
    by_kind (IntoGlobal x) = refl
    by_kind (OverMemory fits ts given) = refl
    by_kind (OfItself ts given) = refl

-- ---- the greatest height behind an instruction

module _ (C : Ctx) (ret : List ValType) (labels : List (List ValType)) (P : ℕ → Type 0) where
  abbrev c0 : Context
  c0 = at_labels C.source C.locals ret labels

  -- whatever the places with these types
  abbrev pub Below : List Place → Nodes → List ValType → Type 0
  Below js rest between = (own : List Place) → map place_type own ≡ between → P (peak C (own ++ js) rest)

  pub instr_at : (before : List ValType) (i : Basic) (own js : List Place) (rest : Nodes) (between : List ValType) → map place_type own ≡ before → Fixed js → BasicTypes c0 i before between → Below js rest between → P (peak C (after_plain C (own ++ js) i) rest)
  instr_at before i own js rest between e f h ih =
      let h1 : BasicTypes (original C []) i (map place_type own) between = record {
        any = h.any;
        arrow_is = h.arrow_is;
        has = sym (arrow_labels C ret labels h.any i) ∙ h.has;
        above = record { below = h.above.below; takes = e ∙ h.above.takes; gives = h.above.gives };
      } in
      let T = takes_of C [] i own js between h1 in
      let own' = pushed (result_place C (own ++ js) i) (freed i T.own1) in
      subst (λ z. P (peak C z rest)) (sym (own_behind C i own js T.own1 T.left f)) (ih own' (behind_types C (own ++ js) i T.own1 ∙ T.after))

  -- behind operands that are taken, and a result
  pub call_at : (type : FuncType) (own js : List Place) (rest : Nodes) (between below : List ValType) → reverse type.results ≡ option_to_list (result_of type) → map place_type own ≡ reverse type.params ++ below → between ≡ reverse type.results ++ below → Below js rest between → P (peak C (grown (result_of type) (less (length type.params) (own ++ js))) rest)
  call_at type own js rest between below ot tk gv ih =
      let r = result_of type in
      let k = cuts (length type.params) own js (reverse type.params) below (length-reverse type.params) tk in
      let conv : grown r (less (length type.params) (own ++ js)) ≡ grown r k.own1 ++ js = ap (grown r) k.left ∙ grown-append r k.own1 js in
      subst (λ z. P (peak C z rest)) (sym conv) (ih (grown r k.own1) (grown_types r k.own1 below k.types ∙ ap (λ z. z ++ below) (sym ot) ∙ sym gv))

  pub grown_at : (t : Option ValType) (own js : List Place) (rest : Nodes) → P (peak C (grown t own ++ js) rest) → P (peak C (grown t (own ++ js)) rest)
  grown_at t own js rest h = subst (λ z. P (peak C z rest)) (sym (grown-append t own js)) h

-- the operand on top is taken
one_less : (own js : List Place) (t : ValType) (below : List ValType) → map place_type own ≡ t ∷ below → (own1 : List Place) × (less 1 (own ++ js) ≡ own1 ++ js) × (map place_type own1 ≡ below)
one_less [] js t below e = absurd (cc)
one_less (p ∷ own) js t below e = (own, refl, let z : map place_type own ≡ below = cc in z)

module _ (C : Ctx) (ret : List ValType) (labs : List (List ValType)) (N : ℕ) (one : (f : ℕ) (type : FuncType) → type_at C.source f ≡ Some type → reverse type.results ≡ option_to_list (result_of type)) (one_of : (t : ℕ) (type : FuncType) → slice_get C.source.types t ≡ Some type → reverse type.results ≡ option_to_list (result_of type)) where
  abbrev c : Context
  c = at_labels C.source C.locals ret labs

  -- wherever live flat steps lead, there are few operands
  abbrev Few : OpenBlock → List OpenBlock → List Bool → List Placed → Type 0
  Few b bs ds code = (ps rest : List Placed) (blocks : List OpenBlock) → code ≡ ps ++ rest → FlatTypes c (b ∷ bs) ps blocks → AllLive (dead_behind (false ∷ ds) ps) → length (all_types blocks) ≤ N

  here : (b : OpenBlock) (bs : List OpenBlock) (ds : List Bool) (code : List Placed) (own js : List Place) → AllLive ds → Few b bs ds code → map place_type own ≡ b.types → map place_type js ≡ all_types bs → length (own ++ js) ≤ N
  here b bs ds code own js live few e k =
      let h = few [] code (b ∷ bs) refl refl (refl, live) in
      omega (arith, h, length-append own js, length-append b.types (all_types bs), ap length e, ap length k, length-map own place_type, length-map js place_type)

  -- behind a whole node
  behind_few : (node : Nodes) (between : List ValType) (b : OpenBlock) (bs : List OpenBlock) (ds : List Bool) (code : List Placed) → IsTree node → Types (inside c (b ∷ bs)) node b.types between → ((ps : List Placed) → dead_behind (false ∷ ds) (write node ps) ≡ dead_behind (false ∷ ds) ps) → Few b bs ds (write node code) → Few (opened b.kind b.result between) bs ds code
  behind_few node between b bs ds code it ty dead few ps more blocks s ft lv =
      few (write node ps) more blocks (ap (write node) s ∙ write_append node ps more) (tree_steps c node b bs between ps blocks it ty ft) (subst AllLive (sym (dead ps)) lv)

  dead_block : (at : ℕ) (t : Option ValType) (inner : Nodes) (end : ℕ) (ds : List Bool) (ps : List Placed) → dead_behind (false ∷ ds) (write (block at t inner end stop) ps) ≡ dead_behind (false ∷ ds) ps
  dead_block at t inner end ds ps = (dead_pass inner false (false ∷ ds) (placed end End ∷ ps)).1

  dead_loop : (at : ℕ) (t : Option ValType) (inner : Nodes) (end : ℕ) (ds : List Bool) (ps : List Placed) → dead_behind (false ∷ ds) (write (loop at t inner end stop) ps) ≡ dead_behind (false ∷ ds) ps
  dead_loop at t inner end ds ps = (dead_pass inner false (false ∷ ds) (placed end End ∷ ps)).1

  dead_arm : (ea : Option ℕ) (y : Nodes) (end : ℕ) (q : Bool) (ds : List Bool) (ps : List Placed) → dead_behind (q ∷ false ∷ ds) (else_out ea (write y (placed end End ∷ ps))) ≡ dead_behind (false ∷ ds) ps
  dead_arm None y end q ds ps = (dead_pass y q (false ∷ ds) (placed end End ∷ ps)).1
  dead_arm (Some at) y end q ds ps = (dead_pass y false (false ∷ ds) (placed end End ∷ ps)).1

  dead_choose : (at : ℕ) (t : Option ValType) (x : Nodes) (ea : Option ℕ) (y : Nodes) (end : ℕ) (ds : List Bool) (ps : List Placed) → dead_behind (false ∷ ds) (write (choose at t x ea y end stop) ps) ≡ dead_behind (false ∷ ds) ps
  dead_choose at t x ea y end ds ps =
      let a = dead_pass x false (false ∷ ds) (else_out ea (write y (placed end End ∷ ps))) in
      a.1 ∙ dead_arm ea y end a.0 ds ps

  outer : (own js : List Place) (types below : List ValType) → map place_type own ≡ types → map place_type js ≡ below → map place_type (own ++ js) ≡ types ++ below
  outer own js types below e k = map-append place_type own js ∙ ap (λ z. z ++ map place_type js) e ∙ ap (λ z. types ++ z) k

  abbrev Low : ℕ → Type 0
  Low n = n ≤ N

  abbrev inside_of : OpenBlock → List OpenBlock → List (List ValType)
  inside_of b bs = map label_types (b ∷ bs)

  pub peak_low : (nodes : Nodes) (b : OpenBlock) (bs : List OpenBlock) (ds : List Bool) (own js : List Place) (after : List ValType) (end_ : List Placed) → IsTree nodes → AllLive ds → Types (inside c (b ∷ bs)) nodes b.types after → map place_type own ≡ b.types → map place_type js ≡ all_types bs → Fixed js → Few b bs ds (write nodes end_) → peak C (own ++ js) nodes ≤ N
  peak_low stop b bs ds own js after end_ it live ty e k fx few = here b bs ds end_ own js live few e k
  peak_low (basic at i rest) b bs ds own js after end_ it live ty e k fx few =
      let low = here b bs ds _ own js live few e k in
      let b1 = opened b.kind b.result ty.0 in
      let few1 : Few b1 bs ds (write rest end_) = λ ps more blocks s ft lv. few (placed at (Plain i) ∷ ps) more blocks (ap (λ z. placed at (Plain i) ∷ z) s) (b1 ∷ bs, (ty.0, ty.1, refl), ft) lv in
      let r = instr_at C ret (inside_of b bs) Low b.types i own js rest ty.0 e fx ty.1 (λ own' e'. peak_low rest b1 bs ds own' js after end_ it live ty.2 e' k fx few1) in
      omega (arith, low, r)
  peak_low (jump at Unreachable rest) b bs ds own js after end_ it live ty e k fx few = let low = here b bs ds _ own js live few e k in omega (arith, low)
  peak_low (jump at (Br l) rest) b bs ds own js after end_ it live ty e k fx few = let low = here b bs ds _ own js live few e k in omega (arith, low)
  peak_low (jump at (BrTable ts d) rest) b bs ds own js after end_ it live ty e k fx few = let low = here b bs ds _ own js live few e k in omega (arith, low)
  peak_low (jump at Return rest) b bs ds own js after end_ it live ty e k fx few = let low = here b bs ds _ own js live few e k in omega (arith, low)
  peak_low (jump at (BrIf l) rest) b bs ds own js after end_ it live ty e k fx few =
      let low = here b bs ds _ own js live few e k in
      let b1 = opened b.kind b.result ty.0 in
      let few1 : Few b1 bs ds (write rest end_) = λ ps more blocks s ft lv. few (placed at (Goes (BrIf l)) ∷ ps) more blocks (ap (λ z. placed at (Goes (BrIf l)) ∷ z) s) (b1 ∷ bs, (ty.0, ty.1, refl), ft) lv in
      let o = one_less own js I32 (ty.1.0 ++ ty.1.2.below) (e ∙ ty.1.2.takes) in
      let r : peak C (less 1 (own ++ js)) rest ≤ N = subst (λ z. peak C z rest ≤ N) (sym o.1) (peak_low rest b1 bs ds o.0 js after end_ it live ty.2 (o.2 ∙ sym ty.1.2.gives) k fx few1) in
      omega (arith, low, r)
  peak_low (jump at (Call f) rest) b bs ds own js after end_ it live ty e k fx few =
      let low = here b bs ds _ own js live few e k in
      let b1 = opened b.kind b.result ty.0 in
      let type = ty.1.0 in
      let few1 : Few b1 bs ds (write rest end_) = λ ps more blocks s ft lv. few (placed at (Goes (Call f)) ∷ ps) more blocks (ap (λ z. placed at (Goes (Call f)) ∷ z) s) (b1 ∷ bs, (ty.0, ty.1, refl), ft) lv in
      let r0 = call_at C ret (inside_of b bs) Low type own js rest ty.0 ty.1.2.below (one f type ty.1.1) (e ∙ ty.1.2.takes) ty.1.2.gives (λ own' e'. peak_low rest b1 bs ds own' js after end_ it live ty.2 e' k fx few1) in
      let r : behind_call (type_at C.source f) (own ++ js) (λ es'. peak C es' rest) ≤ N = subst (λ q. behind_call q (own ++ js) (λ es'. peak C es' rest) ≤ N) (sym ty.1.1) r0 in
      omega (arith, low, r)
  peak_low (jump at (CallIndirect t) rest) b bs ds own js after end_ it live ty e k fx few =
      let low = here b bs ds _ own js live few e k in
      let b1 = opened b.kind b.result ty.0 in
      let type = ty.1.0 in
      let few1 : Few b1 bs ds (write rest end_) = λ ps more blocks s ft lv. few (placed at (Goes (CallIndirect t)) ∷ ps) more blocks (ap (λ z. placed at (Goes (CallIndirect t)) ∷ z) s) (b1 ∷ bs, (ty.0, ty.1, refl), ft) lv in
      let o = one_less own js I32 (reverse type.params ++ ty.1.3.below) (e ∙ ty.1.3.takes) in
      let r0 = call_at C ret (inside_of b bs) Low type o.0 js rest ty.0 ty.1.3.below (one_of t type ty.1.2) o.2 ty.1.3.gives (λ own' e'. peak_low rest b1 bs ds own' js after end_ it live ty.2 e' k fx few1) in
      let r1 : peak C (grown (result_of type) (less (length type.params) (less 1 (own ++ js)))) rest ≤ N = subst (λ z. peak C (grown (result_of type) (less (length type.params) z)) rest ≤ N) (sym o.1) r0 in
      let r : behind_call (slice_get C.source.types t) (less 1 (own ++ js)) (λ es'. peak C es' rest) ≤ N = subst (λ q. behind_call q (less 1 (own ++ js)) (λ es'. peak C es' rest) ≤ N) (sym ty.1.2) r1 in
      omega (arith, low, r)
  peak_low (block at t inner end rest) b bs ds own js after end_ it live ty e k fx few =
      let low = here b bs ds _ own js live few e k in
      let few1 : Few (opened block_kinds.Plain t []) (b ∷ bs) (false ∷ ds) (write inner (placed end End ∷ write rest end_)) = λ ps more blocks s ft lv. few (placed at (Opens t) ∷ ps) more blocks (ap (λ z. placed at (Opens t) ∷ z) s) (opened block_kinds.Plain t [] ∷ b ∷ bs, refl, ft) lv in
      let u = under own in
      let sp : under (own ++ js) ≡ u ++ js = without_append (λ x. true) own js fx in
      let eu : map place_type u ≡ b.types = without_types (λ x. true) own ∙ e in
      let i = peak_low inner (opened block_kinds.Plain t []) (b ∷ bs) (false ∷ ds) [] (u ++ js) (option_to_list t) (placed end End ∷ write rest end_) it.0 (refl, live) ty.0 refl (outer u js b.types (all_types bs) eu k) (subst Fixed sp (fixed_under (own ++ js))) few1 in
      let between = option_to_list t ++ b.types in
      let few2 = behind_few (block at t inner end stop) between b bs ds (write rest end_) (it.0, tt) (ty.0, refl) (λ ps. dead_block at t inner end ds ps) few in
      let r = grown_at C ret (inside_of b bs) Low t u js rest (peak_low rest (opened b.kind b.result between) bs ds (grown t u) js after end_ it.1 live ty.1 (grown_types t u b.types eu) k fx few2) in
      let both : (peak C (u ++ js) inner ≤ N) × (peak C (grown t (u ++ js)) rest ≤ N) = (i, r) in
      let both1 : (peak C (under (own ++ js)) inner ≤ N) × (peak C (grown t (under (own ++ js))) rest ≤ N) = subst (λ z. (peak C z inner ≤ N) × (peak C (grown t z) rest ≤ N)) (sym sp) both in
      omega (arith, low, both1.0, both1.1)
  peak_low (loop at t inner end rest) b bs ds own js after end_ it live ty e k fx few =
      let low = here b bs ds _ own js live few e k in
      let few1 : Few (opened block_kinds.Loop t []) (b ∷ bs) (false ∷ ds) (write inner (placed end End ∷ write rest end_)) = λ ps more blocks s ft lv. few (placed at (OpensLoop t) ∷ ps) more blocks (ap (λ z. placed at (OpensLoop t) ∷ z) s) (opened block_kinds.Loop t [] ∷ b ∷ bs, refl, ft) lv in
      let u = under own in
      let sp : under (own ++ js) ≡ u ++ js = without_append (λ x. true) own js fx in
      let eu : map place_type u ≡ b.types = without_types (λ x. true) own ∙ e in
      let i = peak_low inner (opened block_kinds.Loop t []) (b ∷ bs) (false ∷ ds) [] (u ++ js) (option_to_list t) (placed end End ∷ write rest end_) it.0 (refl, live) ty.0 refl (outer u js b.types (all_types bs) eu k) (subst Fixed sp (fixed_under (own ++ js))) few1 in
      let between = option_to_list t ++ b.types in
      let few2 = behind_few (loop at t inner end stop) between b bs ds (write rest end_) (it.0, tt) (ty.0, refl) (λ ps. dead_loop at t inner end ds ps) few in
      let r = grown_at C ret (inside_of b bs) Low t u js rest (peak_low rest (opened b.kind b.result between) bs ds (grown t u) js after end_ it.1 live ty.1 (grown_types t u b.types eu) k fx few2) in
      let both : (peak C (u ++ js) inner ≤ N) × (peak C (grown t (u ++ js)) rest ≤ N) = (i, r) in
      let both1 : (peak C (under (own ++ js)) inner ≤ N) × (peak C (grown t (under (own ++ js))) rest ≤ N) = subst (λ z. (peak C z inner ≤ N) × (peak C (grown t z) rest ≤ N)) (sym sp) both in
      omega (arith, low, both1.0, both1.1)
  peak_low (choose at t x None y end rest) b bs ds own js after end_ it live ty e k fx few =
      let low = here b bs ds _ own js live few e k in
      let o = one_less own js I32 ty.2 (e ∙ ty.3) in
      let u = under o.0 in
      let sp : under (less 1 (own ++ js)) ≡ u ++ js = ap (λ z. under z) o.1 ∙ without_append (λ x. true) o.0 js fx in
      let eu : map place_type u ≡ ty.2 = without_types (λ x. true) o.0 ∙ o.2 in
      let fu : Fixed (u ++ js) = subst Fixed sp (fixed_under (less 1 (own ++ js))) in
      let b1 = opened b.kind b.result ty.2 in
      let start = opened block_kinds.Then t [] in
      let out1 : map place_type (u ++ js) ≡ ty.2 ++ all_types bs = outer u js ty.2 (all_types bs) eu k in
      let few1 : Few start (b1 ∷ bs) (false ∷ ds) (write x (else_out None (write y (placed end End ∷ write rest end_)))) = λ ps more blocks s ft lv. few (placed at (OpensIf t) ∷ ps) more blocks (ap (λ z. placed at (OpensIf t) ∷ z) s) (start ∷ b1 ∷ bs, (ty.2, ty.3, refl), ft) lv in
      let px = peak_low x start (b1 ∷ bs) (false ∷ ds) [] (u ++ js) (option_to_list t) (else_out None (write y (placed end End ∷ write rest end_))) it.0 (refl, live) ty.0 refl out1 fu few1 in
      let py0 : length (u ++ js) ≤ N = (let h = few1 [] _ (start ∷ b1 ∷ bs) refl refl (refl, (refl, live)) in omega (arith, h, length-append u js, length-append ty.2 (all_types bs), ap length eu, ap length k, length-map u place_type, length-map js place_type)) in
      let py : peak C (u ++ js) y ≤ N = subst (λ z. peak C (u ++ js) z ≤ N) (sym it.1) py0 in
      let between = option_to_list t ++ ty.2 in
      let few3 = behind_few (choose at t x None y end stop) between b bs ds (write rest end_) (it.0, it.1, it.2, tt) (ty.0, ty.1, ty.2, ty.3, refl) (λ ps. dead_choose at t x None y end ds ps) few in
      let r = grown_at C ret (inside_of b bs) Low t u js rest (peak_low rest (opened b.kind b.result between) bs ds (grown t u) js after end_ it.3 live ty.4 (grown_types t u ty.2 eu) k fx few3) in
      let all : (peak C (u ++ js) x ≤ N) × (peak C (u ++ js) y ≤ N) × (peak C (grown t (u ++ js)) rest ≤ N) = (px, py, r) in
      let all1 : (peak C (under (less 1 (own ++ js))) x ≤ N) × (peak C (under (less 1 (own ++ js))) y ≤ N) × (peak C (grown t (under (less 1 (own ++ js)))) rest ≤ N) = subst (λ z. (peak C z x ≤ N) × (peak C z y ≤ N) × (peak C (grown t z) rest ≤ N)) (sym sp) all in
      omega (arith, low, all1.0, all1.1, all1.2)
  peak_low (choose at t x (Some els) y end rest) b bs ds own js after end_ it live ty e k fx few =
      let low = here b bs ds _ own js live few e k in
      let o = one_less own js I32 ty.2 (e ∙ ty.3) in
      let u = under o.0 in
      let sp : under (less 1 (own ++ js)) ≡ u ++ js = ap (λ z. under z) o.1 ∙ without_append (λ x. true) o.0 js fx in
      let eu : map place_type u ≡ ty.2 = without_types (λ x. true) o.0 ∙ o.2 in
      let fu : Fixed (u ++ js) = subst Fixed sp (fixed_under (less 1 (own ++ js))) in
      let b1 = opened b.kind b.result ty.2 in
      let start = opened block_kinds.Then t [] in
      let out1 : map place_type (u ++ js) ≡ ty.2 ++ all_types bs = outer u js ty.2 (all_types bs) eu k in
      let few1 : Few start (b1 ∷ bs) (false ∷ ds) (write x (else_out (Some els) (write y (placed end End ∷ write rest end_)))) = λ ps more blocks s ft lv. few (placed at (OpensIf t) ∷ ps) more blocks (ap (λ z. placed at (OpensIf t) ∷ z) s) (start ∷ b1 ∷ bs, (ty.2, ty.3, refl), ft) lv in
      let px = peak_low x start (b1 ∷ bs) (false ∷ ds) [] (u ++ js) (option_to_list t) (else_out (Some els) (write y (placed end End ∷ write rest end_))) it.0 (refl, live) ty.0 refl out1 fu few1 in
      let plain_ = opened block_kinds.Plain t [] in
      let few2 : Few plain_ (b1 ∷ bs) (false ∷ ds) (write y (placed end End ∷ write rest end_)) = λ ps more blocks s ft lv.
      few1 (write x (placed els Else ∷ ps)) more blocks (ap (λ z. write x (placed els Else ∷ z)) s ∙ write_append x (placed els Else ∷ ps) more)
      (tree_steps c x start (b1 ∷ bs) (option_to_list t) (placed els Else ∷ ps) blocks it.0 ty.0 (plain_ ∷ b1 ∷ bs, (refl, refl, refl), ft))
      (subst AllLive (sym ((dead_pass x false (false ∷ ds) (placed els Else ∷ ps)).1)) lv) in
      let py = peak_low y plain_ (b1 ∷ bs) (false ∷ ds) [] (u ++ js) (option_to_list t) (placed end End ∷ write rest end_) it.2 (refl, live) ty.1 refl out1 fu few2 in
      let between = option_to_list t ++ ty.2 in
      let few3 = behind_few (choose at t x (Some els) y end stop) between b bs ds (write rest end_) (it.0, it.1, it.2, tt) (ty.0, ty.1, ty.2, ty.3, refl) (λ ps. dead_choose at t x (Some els) y end ds ps) few in
      let r = grown_at C ret (inside_of b bs) Low t u js rest (peak_low rest (opened b.kind b.result between) bs ds (grown t u) js after end_ it.3 live ty.4 (grown_types t u ty.2 eu) k fx few3) in
      let all : (peak C (u ++ js) x ≤ N) × (peak C (u ++ js) y ≤ N) × (peak C (grown t (u ++ js)) rest ≤ N) = (px, py, r) in
      let all1 : (peak C (under (less 1 (own ++ js))) x ≤ N) × (peak C (under (less 1 (own ++ js))) y ≤ N) × (peak C (grown t (under (less 1 (own ++ js)))) rest ≤ N) = subst (λ z. (peak C z x ≤ N) × (peak C z y ≤ N) × (peak C (grown t z) rest ≤ N)) (sym sp) all in
      omega (arith, low, all1.0, all1.1, all1.2)

-- ---- no live spot has more operands

same_types : (own js : List Place) (types below : List ValType) → map place_type own ≡ types → map place_type js ≡ below → map place_type (own ++ js) ≡ types ++ below
same_types own js types below e k = map-append place_type own js ∙ ap (λ z. z ++ map place_type js) e ∙ ap (λ z. types ++ z) k

module _ (C : Ctx) (ret : List ValType) (one : (f : ℕ) (type : FuncType) → type_at C.source f ≡ Some type → reverse type.results ≡ option_to_list (result_of type)) (one_of : (t : ℕ) (type : FuncType) → slice_get C.source.types t ≡ Some type → reverse type.results ≡ option_to_list (result_of type)) where
  abbrev within_labels : List (List ValType) → Context
  within_labels labels = at_labels C.source C.locals ret labels

  height_is : (own js : List Place) (here outside : List ValType) (nodes : Nodes) (s : Spot) → map place_type own ≡ here → map place_type js ≡ outside → s ≡ spot nodes here outside → length s.here + length s.outside ≡ length (own ++ js)
  height_is own js here outside nodes s e k q = omega (arith, ap (λ z. length z.here) q, ap (λ z. length z.outside) q, ap length e, ap length k, length-append own js, length-map own place_type, length-map js place_type)

  pub spot_peak : (labels : List (List ValType)) (nodes : Nodes) (own js : List Place) (here outside : List ValType) (s : Spot) → map place_type own ≡ here → map place_type js ≡ outside → Fixed js → Live (within_labels labels) nodes here outside s → length s.here + length s.outside ≤ peak C (own ++ js) nodes
  spot_peak labels stop own js here outside s e k fx l = omega (arith, height_is own js here outside stop s e k l)
  spot_peak labels (basic o i rest) own js here outside s e k fx (inl q) = omega (arith, height_is own js here outside (basic o i rest) s e k q)
  spot_peak labels (basic o i rest) own js here outside s e k fx (inr l) =
      let n = length s.here + length s.outside in
      let r : n ≤ peak C (after_plain C (own ++ js) i) rest = instr_at C ret labels (λ x. n ≤ x) here i own js rest l.0 e fx l.1 (λ own' e'. spot_peak labels rest own' js l.0 outside s e' k fx l.2) in
      omega (arith, r)
  spot_peak labels (jump o j rest) own js here outside s e k fx (inl q) = omega (arith, height_is own js here outside (jump o j rest) s e k q)
  spot_peak labels (jump o Unreachable rest) own js here outside s e k fx (inr l) = absurd l.1
  spot_peak labels (jump o (Br x) rest) own js here outside s e k fx (inr l) = absurd l.1
  spot_peak labels (jump o (BrTable ts d) rest) own js here outside s e k fx (inr l) = absurd l.1
  spot_peak labels (jump o Return rest) own js here outside s e k fx (inr l) = absurd l.1
  spot_peak labels (jump o (BrIf x) rest) own js here outside s e k fx (inr l) =
      let n = length s.here + length s.outside in
      let a = one_less own js I32 (l.2.0 ++ l.2.2.below) (e ∙ l.2.2.takes) in
      let r0 : n ≤ peak C (a.0 ++ js) rest = spot_peak labels rest a.0 js l.0 outside s (a.2 ∙ sym l.2.2.gives) k fx l.3 in
      let r : n ≤ peak C (less 1 (own ++ js)) rest = subst (λ z. n ≤ peak C z rest) (sym a.1) r0 in
      omega (arith, r)
  spot_peak labels (jump o (Call f) rest) own js here outside s e k fx (inr l) =
      let n = length s.here + length s.outside in
      let type = l.2.0 in
      let r0 : n ≤ peak C (grown (result_of type) (less (length type.params) (own ++ js))) rest = call_at C ret labels (λ x. n ≤ x) type own js rest l.0 l.2.2.below (one f type l.2.1) (e ∙ l.2.2.takes) l.2.2.gives (λ own' e'. spot_peak labels rest own' js l.0 outside s e' k fx l.3) in
      let r : n ≤ behind_call (type_at C.source f) (own ++ js) (λ es'. peak C es' rest) = subst (λ q. n ≤ behind_call q (own ++ js) (λ es'. peak C es' rest)) (sym l.2.1) r0 in
      omega (arith, r)
  spot_peak labels (jump o (CallIndirect t) rest) own js here outside s e k fx (inr l) =
      let n = length s.here + length s.outside in
      let type = l.2.0 in
      let a = one_less own js I32 (reverse type.params ++ l.2.3.below) (e ∙ l.2.3.takes) in
      let r0 : n ≤ peak C (grown (result_of type) (less (length type.params) (a.0 ++ js))) rest = call_at C ret labels (λ x. n ≤ x) type a.0 js rest l.0 l.2.3.below (one_of t type l.2.2) a.2 l.2.3.gives (λ own' e'. spot_peak labels rest own' js l.0 outside s e' k fx l.3) in
      let r1 : n ≤ peak C (grown (result_of type) (less (length type.params) (less 1 (own ++ js)))) rest = subst (λ z. n ≤ peak C (grown (result_of type) (less (length type.params) z)) rest) (sym a.1) r0 in
      let r : n ≤ behind_call (slice_get C.source.types t) (less 1 (own ++ js)) (λ es'. peak C es' rest) = subst (λ q. n ≤ behind_call q (less 1 (own ++ js)) (λ es'. peak C es' rest)) (sym l.2.2) r1 in
      omega (arith, r)
  spot_peak labels (block o t inner end rest) own js here outside s e k fx (inl q) = omega (arith, height_is own js here outside (block o t inner end rest) s e k q)
  spot_peak labels (block o t inner end rest) own js here outside s e k fx (inr (inl l)) =
      let n = length s.here + length s.outside in
      let u = under own in
      let sp : under (own ++ js) ≡ u ++ js = without_append (λ x. true) own js fx in
      let r0 : n ≤ peak C (u ++ js) inner = spot_peak (option_to_list t ∷ labels) inner [] (u ++ js) [] (here ++ outside) s refl (same_types u js here outside (without_types (λ x. true) own ∙ e) k) (subst Fixed sp (fixed_under (own ++ js))) l in
      let r : n ≤ peak C (under (own ++ js)) inner = subst (λ z. n ≤ peak C z inner) (sym sp) r0 in
      omega (arith, r)
  spot_peak labels (block o t inner end rest) own js here outside s e k fx (inr (inr l)) =
      let n = length s.here + length s.outside in
      let u = under own in
      let sp : under (own ++ js) ≡ u ++ js = without_append (λ x. true) own js fx in
      let r0 : n ≤ peak C (grown t (u ++ js)) rest = grown_at C ret labels (λ x. n ≤ x) t u js rest (spot_peak labels rest (grown t u) js (option_to_list t ++ here) outside s (grown_types t u here (without_types (λ x. true) own ∙ e)) k fx l) in
      let r : n ≤ peak C (grown t (under (own ++ js))) rest = subst (λ z. n ≤ peak C (grown t z) rest) (sym sp) r0 in
      omega (arith, r)
  spot_peak labels (loop o t inner end rest) own js here outside s e k fx (inl q) = omega (arith, height_is own js here outside (loop o t inner end rest) s e k q)
  spot_peak labels (loop o t inner end rest) own js here outside s e k fx (inr (inl l)) =
      let n = length s.here + length s.outside in
      let u = under own in
      let sp : under (own ++ js) ≡ u ++ js = without_append (λ x. true) own js fx in
      let r0 : n ≤ peak C (u ++ js) inner = spot_peak ([] ∷ labels) inner [] (u ++ js) [] (here ++ outside) s refl (same_types u js here outside (without_types (λ x. true) own ∙ e) k) (subst Fixed sp (fixed_under (own ++ js))) l in
      let r : n ≤ peak C (under (own ++ js)) inner = subst (λ z. n ≤ peak C z inner) (sym sp) r0 in
      omega (arith, r)
  spot_peak labels (loop o t inner end rest) own js here outside s e k fx (inr (inr l)) =
      let n = length s.here + length s.outside in
      let u = under own in
      let sp : under (own ++ js) ≡ u ++ js = without_append (λ x. true) own js fx in
      let r0 : n ≤ peak C (grown t (u ++ js)) rest = grown_at C ret labels (λ x. n ≤ x) t u js rest (spot_peak labels rest (grown t u) js (option_to_list t ++ here) outside s (grown_types t u here (without_types (λ x. true) own ∙ e)) k fx l) in
      let r : n ≤ peak C (grown t (under (own ++ js))) rest = subst (λ z. n ≤ peak C (grown t z) rest) (sym sp) r0 in
      omega (arith, r)
  spot_peak labels (choose o t x ea y end rest) own js here outside s e k fx (inl q) = omega (arith, height_is own js here outside (choose o t x ea y end rest) s e k q)
  spot_peak labels (choose o t x ea y end rest) own js here outside s e k fx (inr (v, q, inl l)) =
      let n = length s.here + length s.outside in
      let a = one_less own js I32 v (e ∙ q) in
      let u = under a.0 in
      let sp : under (less 1 (own ++ js)) ≡ u ++ js = ap (λ z. under z) a.1 ∙ without_append (λ x. true) a.0 js fx in
      let eu : map place_type u ≡ v = without_types (λ x. true) a.0 ∙ a.2 in
      let r0 : n ≤ peak C (u ++ js) x = spot_peak (option_to_list t ∷ labels) x [] (u ++ js) [] (v ++ outside) s refl (same_types u js v outside eu k) (subst Fixed sp (fixed_under (less 1 (own ++ js)))) l in
      let r : n ≤ peak C (under (less 1 (own ++ js))) x = subst (λ z. n ≤ peak C z x) (sym sp) r0 in
      omega (arith, r)
  spot_peak labels (choose o t x ea y end rest) own js here outside s e k fx (inr (v, q, inr (inl l))) =
      let n = length s.here + length s.outside in
      let a = one_less own js I32 v (e ∙ q) in
      let u = under a.0 in
      let sp : under (less 1 (own ++ js)) ≡ u ++ js = ap (λ z. under z) a.1 ∙ without_append (λ x. true) a.0 js fx in
      let eu : map place_type u ≡ v = without_types (λ x. true) a.0 ∙ a.2 in
      let r0 : n ≤ peak C (u ++ js) y = spot_peak (option_to_list t ∷ labels) y [] (u ++ js) [] (v ++ outside) s refl (same_types u js v outside eu k) (subst Fixed sp (fixed_under (less 1 (own ++ js)))) l in
      let r : n ≤ peak C (under (less 1 (own ++ js))) y = subst (λ z. n ≤ peak C z y) (sym sp) r0 in
      omega (arith, r)
  spot_peak labels (choose o t x ea y end rest) own js here outside s e k fx (inr (v, q, inr (inr l))) =
      let n = length s.here + length s.outside in
      let a = one_less own js I32 v (e ∙ q) in
      let u = under a.0 in
      let sp : under (less 1 (own ++ js)) ≡ u ++ js = ap (λ z. under z) a.1 ∙ without_append (λ x. true) a.0 js fx in
      let eu : map place_type u ≡ v = without_types (λ x. true) a.0 ∙ a.2 in
      let r0 : n ≤ peak C (grown t (u ++ js)) rest = grown_at C ret labels (λ x. n ≤ x) t u js rest (spot_peak labels rest (grown t u) js (option_to_list t ++ v) outside s (grown_types t u v eu) k fx l) in
      let r : n ≤ peak C (grown t (under (less 1 (own ++ js)))) rest = subst (λ z. n ≤ peak C (grown t z) rest) (sym sp) r0 in
      omega (arith, r)

-- ---- functions

module _ (p : Program) (write_ : IsProgram p) (typed : Typed p) (heights : List (List ℕ)) (are : AreHeights p.module_ heights) (N : ℕ) (low : (i op : ℕ) → height_at heights i op ≤ N) where
  slots_low : (f : ℕ) (b : Body) (tree : Tree) (type : FuncType) → function_at p f ≡ Some (defined b tree type) → slots_of p f b tree type ≤ N
  slots_low f b tree type at =
      let m = p.module_ in
      let d = is_defined p f b tree type at in
      let result = result_of type in
      let gives : reverse type.results ≡ option_to_list result = one_result type.results (typed.few f (defined b tree type) at) in
      let C = ctx_of p f b type 0 in
      let ret = reverse type.results in
      let start = opened block_kinds.Plain result [] in
      let w = tree_there m.bodies p.trees d.number b tree write_ d.body_is d.tree_is in
      let code = code_of b.targets b.ops in
      let ty = type_is_of p f (defined b tree type) at in
      let ty1 : type_at m (length m.imports + d.number) ≡ Some type = subst (λ z. type_at m z ≡ Some type) d.number_is ty in
      let types1 : Types (inside (body_context m type b) (start ∷ [])) tree.nodes [] (reverse type.results) = subst (λ z. Types z tree.nodes [] (reverse type.results)) (sym (inside_body m type b result gives)) (typed.bodies f b tree type at) in
      peak_low C ret (ret ∷ []) N (λ g u e. let fn = typed.functions g u e in one_result u.results (subst (λ q. length q.results ≤ 1) fn.2 (typed.few g fn.0 fn.1))) (λ t u e. one_result u.results (typed.few_types t u e)) tree.nodes start [] [] [] [] (reverse type.results) (placed tree.end End ∷ []) w.arms tt types1 refl refl tt
      (λ ps rest blocks s ft lv.
      let split : code ≡ ps ++ rest = w.out ∙ s in
      let front : take (length ps) code ≡ ps = ap (take (length ps)) split ∙ take-append_seam ps rest in
      let before : TypesBefore m type b (length ps) (reverse (all_types blocks)) = record { result = result; gives = gives; blocks = blocks; leads = subst (λ z. FlatTypes (body_context m type b) (start ∷ []) z blocks) (sym front) ft; live = subst (λ z. AllLive (dead_behind (false ∷ []) z)) (sym front) lv; types_are = refl } in
      let h = are.live d.number (length ps) type b (reverse (all_types blocks)) d.body_is ty1 before in
      omega (arith, low d.number (length ps), h, length-reverse (all_types blocks)))

  size_low : (f : ℕ) (q : Option Function) → function_at p f ≡ q → (sizes p f q).1 ≤ N
  size_low f None e = omega arith
  size_low f (Some (imported i type)) e = omega arith
  size_low f (Some (defined b tree type)) e = slots_low f b tree type e

  most_low : (f : ℕ) (bs : List Body) → (most (λ f. sizes p f (function_at p f)) f bs).1 ≤ N
  most_low f [] = omega arith
  most_low f (b ∷ bs) = let x = size_low f (function_at p f) refl in let y = most_low (suc f) bs in omega (arith, x, y)

  pub heights_low : (greatest p).1 ≤ N
  heights_low = most_low (import_count p.module_) p.module_.bodies
