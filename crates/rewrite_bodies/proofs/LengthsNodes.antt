-- The bytes of rewritten nodes and bodies.
use Rattle.rewrite_bodies.proofs.Laid.{same_at, room_landed}
use Rattle.rewrite_bodies.proofs.Charges.{costs_of, charge, charge_at, charge_behind, charge_call, charged, charge_low, all_paid, charge_of}
use Rattle.rewrite_bodies.specs.calls.Landings.{number_in, landing_of, one_kind, with_some, landing_call, landings_call, landings_jump, landings_from, landed, landing_at, needed, part_of}
use Rattle.std.proofs.Common.{◌≡◌, ℕ, zero, suc, ◌==◌, ◌+◌, ◌*◌, ◌≤◌, nat_lt, List, [], ◌∷◌, ◌++◌, length, map, reverse, Option, Some, None, Bool, true, false, refl, sym, ap, ◌∙◌, subst, arith, slice_get, option_map, option_to_list, take, ◌⊎◌, inl, inr}
use Rattle.std.specs.List.{AllByRecursion}
use Rattle.std.proofs.lemmas.List.{length-reverse}
use Rattle.std.proofs.lemmas.Option.{slice_get_within}
use Rattle.wasm_syntax.specs.declared.value.ValType.{ValType}
use Rattle.wasm_syntax.specs.declared.value.ValType.TheVariants.{I32}
use Rattle.wasm_syntax.specs.declared.instruction.Basic.{Basic}
use Rattle.wasm_syntax.specs.declared.instruction.Basic.TheVariants.{LocalGet, LocalSet, GlobalSet, MemoryGrow, Const, Eqz, Binary}
use Rattle.wasm_syntax.specs.declared.parts.FuncType.{FuncType}
use Rattle.wasm_syntax.specs.Tree.{Jump, Unreachable, Br, BrIf, BrTable, Return, Call, CallIndirect, Nodes, stop, basic, jump, block, loop, choose, IsTree}
use Rattle.wasm_syntax.specs.Module.{type_at, function_types, option_then}
use Rattle.wasm_syntax.specs.Effect.{takes}
use Rattle.wasm_syntax.specs.Machine.{result_of, zero_of}
use Rattle.wasm_syntax.specs.Typing.{BasicTypes, JumpTypes, Types}
use Rattle.rewrite_bodies.specs.Numbering.{import_count, mapped, frame_import, flag_of, doubles}
use Rattle.wasm_syntax.specs.Run.{table_min}
use Rattle.wasm_syntax.specs.calls.Classes.{Risky}
use Rattle.int_ops.specs.declared.operators.Binary.TheVariants.{Add}
use Rattle.rewrite_bodies.specs.calls.Slots.{Place, place_type, Ctx, kind_at, offset_at, less, pushed, grown, under, result_place, freed, after_plain, behind_call, Landing, behind_jump, freed_at, local_written, measured, Derivation}
use Rattle.rewrite_bodies.specs.calls.Pieces.{get, set, const, i32, call, if_any, load, keep, store, reload, drops}
use Rattle.rewrite_bodies.specs.calls.Guards.{can_trap, kind, guard, measure, renew_both}
use Rattle.rewrite_bodies.specs.calls.Rewrite.{passes, guarded, tested, free, plain, with_result, after_direct, call_code, helper_of, hand_top, test_flag, test_both, past_shown, indirect_code, control, rewrite, hand_value, hand_locals, zero_result, raise_flag, worked_out, exit_code, body, unwind_kind, checked, hand, hand_carried, landing_code, nested, laid, free_at, grows, lengthened}
use Rattle.rewrite_bodies.specs.calls.Agreement.{FitsIn, Room_call, Room}
use Rattle.rewrite_bodies.specs.calls.Typed.{Info, in_block, in_loop, in_body, original}
use Rattle.rewrite_bodies.specs.calls.Length.{basic_length, jump_length, else_length, code_length, node_weight, live_weight, FewNumbers, BodyShort, long_guard}
use Rattle.rewrite_bodies.proofs.Sim.{grown-append}
use Rattle.rewrite_bodies.proofs.Unwind.{less_shorter}
use Rattle.rewrite_bodies.proofs.TypedNodes.{cuts, grown_types, takes_of, own_behind, behind_types, result_is, without_types, AllFine, all_fine_landed, fine_landings}
use Rattle.rewrite_bodies.proofs.Copies.{Fixed, fixed_under, without_append}
use Rattle.wasm_laws.proofs.Safe.{one_result}
use Rattle.rewrite_bodies.proofs.Lengths.{len_get_own, len_set_own, len_derives, len_const, len_call, len_global_set, len_measure, len_renew_both, len_lengthened, costs_twice, known, known-append, known_parts, known_grown, known_pushed, known_without, length_parts, len_get, len_fetched, len_load, len_hand_value, len_store, len_keep, len_keep_result, len_reload, len_drops, len_spill, len_unwind_kind, len_test_flag, len_test_both, len_guard, len_kind, len_set, len_branch, len_hand, len_landing}
use Rattle.wasm_leb.proofs.Lengths.{ten_bytes}
use Rattle.rewrite_bodies.proofs.Risks.{risk_of, growth, Treated, gets, sets, tees, constant, spills, treated, derived_by}
use Rattle.rewrite_bodies.specs.calls.Facts.{needs, exposed_in}
use Rattle.rewrite_bodies.specs.calls.Derived.{Fitting, taken_type, given_type, derived_for}
use Rattle.rewrite_bodies.proofs.FactLaws.{needs_trap}
use Rattle.rewrite_bodies.proofs.DerivedLaws.{derived_fit, derived_few}

-- so many are there to be taken
taken_all : (n : ℕ) (own js : List Place) (taken below : List ValType) → length taken ≡ n → map place_type own ≡ taken ++ below → n ≤ length (take n (own ++ js))
taken_all zero own js taken below n e = omega arith
taken_all (suc k) own js [] below n e = absurd (omega (arith, n))
taken_all (suc k) [] js (t ∷ ts) below n e = absurd (cc)
taken_all (suc k) (p ∷ own) js (t ∷ ts) below n e =
    let rest : map place_type own ≡ ts ++ below = cc in
    let r = taken_all k own js ts below (omega (arith, n)) rest in
    omega (arith, r)

module _ (C : Ctx) (few : FewNumbers C) where
  -- the rewritten code behind these places takes at most the weight, and twelve bytes more for each operand of its own that is in no slot
  abbrev Short : List Info → List Place → List Place → Nodes → Type 0
  Short ls own js rest = code_length (rewrite C (length ls) (own ++ js) rest) + charged C (own ++ js) rest ≤ live_weight C (own ++ js) rest + 12 * known own

  abbrev Rest : List Info → List Place → Nodes → List ValType → Type 0
  Rest ls js rest between = (own : List Place) → map place_type own ≡ between → Room C (own ++ js) rest → Short ls own js rest

  -- the same, where the places are given by what was taken and added
  abbrev Behind : List Info → List Place → Nodes → ℕ → Type 0
  Behind ls es rest k = code_length (rewrite C (length ls) es rest) + charged C es rest ≤ live_weight C es rest + 12 * k

  behind : (ls : List Info) (own js : List Place) (n : ℕ) (r : Option ValType) (own1 : List Place) (rest : Nodes) (between : List ValType) → less n (own ++ js) ≡ own1 ++ js → map place_type (grown r own1) ≡ between → Room C (grown r (less n (own ++ js))) rest → Rest ls js rest between → (k : ℕ) × (k + known (take n (own ++ js)) ≤ known own) × Behind ls (grown r (less n (own ++ js))) rest k
  behind ls own js n r own1 rest between left ty rm ih =
      let conv : grown r (less n (own ++ js)) ≡ grown r own1 ++ js = ap (grown r) left ∙ grown-append r own1 js in
      let x = ih (grown r own1) ty (subst (λ z. Room C z rest) conv rm) in
      let kg = known_grown r own1 in (
        known own1,
        omega (arith, known_parts n (own ++ js), ap known left, known-append own1 js, known-append own js),
        subst (λ z. Behind ls z rest (known own1)) (sym conv) (subst (λ k. code_length (rewrite C (length ls) (grown r own1 ++ js) rest) + charged C (grown r own1 ++ js) rest ≤ live_weight C (grown r own1 ++ js) rest + 12 * k) kg x),
      )

  checked_short : (q : Option ℕ) (d : ℕ) (es : List Place) (o : ℕ) (i : Basic) (k : Nodes) → Risky i → length es ≤ C.slots → code_length (checked q C d es o (guard C i es) (kind C i es) k) + charge q (landing_of (part_of C.locals o) i es) ≤ 153 + 16 * length es + code_length k
  checked_short None d es o i k r le =
      let a = len_guard C few i r es (tested C d es o (kind C i es) k) le in
      let b = len_kind C few i r es (unwind_kind C d es o) le in
      let c = len_unwind_kind C few d es o le in
      omega (arith, a, b, c)
  checked_short (Some n) d es o i k r le =
      let a = len_landing C few d n o es (guard C i es) (kind C i es) k 83 (λ k. len_guard C few i r es k le) in
      let b = charge_low (part_of C.locals o) (Some n) (one_kind i) es in
      omega (arith, a, b)

  guarded_short : (d : ℕ) (es : List Place) (o : ℕ) (i : Basic) (k : Nodes) (q : Bool) → (q ≡ true → can_trap i ≡ true) → length es ≤ C.slots → code_length (guarded q C d es o i k) + charge_of C (needed q (landing_of (part_of C.locals o) i es)) ≤ 153 + 16 * length es + code_length k
  guarded_short d es o i k false t le = omega arith
  guarded_short d es o i k true t le = checked_short (number_in C.landings (landing_of (part_of C.locals o) i es)) d es o i k (risk_of i (t refl)) le

  freed_as : (i : Basic) → Treated i → (d : ℕ) (es left : List Place) (o : ℕ) (k : Nodes) → length es ≤ C.slots → length left ≤ length es → code_length (guarded (needs C o i) C d es o i (free C i left k)) + charge_at C o i es ≤ 153 + 16 * length es + code_length k
  freed_as i (sets x) d es left o k le ll = let a = len_spill C few (λ y. x == y) left k (omega (arith, le, ll)) in omega (arith, a, ll)
  freed_as i (tees x) d es left o k le ll = let a = len_spill C few (λ y. x == y) left k (omega (arith, le, ll)) in omega (arith, a, ll)
  freed_as i (gets x) d es left o k le ll = guarded_short d es o (LocalGet x) k false (λ e. absurd (cc)) le
  freed_as i (constant v) d es left o k le ll = guarded_short d es o (Const v) k false (λ e. absurd (cc)) le
  freed_as i (spills none no_local given) d es left o k le ll =
      subst (λ (x : Option ℕ). code_length (guarded (needs C o i) C d es o i (free_at C x left k)) + charge_at C o i es ≤ 153 + 16 * length es + code_length k) (sym none) (guarded_short d es o i k (needs C o i) (needs_trap C o i) le)

  freed_short : (d : ℕ) (es left : List Place) (o : ℕ) (i : Basic) (k : Nodes) → length es ≤ C.slots → length left ≤ length es → code_length (guarded (needs C o i) C d es o i (free C i left k)) + charge_at C o i es ≤ 153 + 16 * length es + code_length k
  freed_short d es left o i k le ll = freed_as i (treated i) d es left o k le ll

  -- what changes the length of the memory has no guard
  abbrev LowGrown : ℕ → List Place → List Place → ℕ → Nodes → Basic → Bool → Type 0
  LowGrown d es left o kept i q = code_length (guarded (needs C o i) C d es o i (free C i left (basic 0 i (lengthened q C kept)))) + charge_at C o i es ≤ 153 + 16 * length es + (basic_length i + code_length kept)

  grown_short : (d : ℕ) (es left : List Place) (o : ℕ) (i : Basic) (kept : Nodes) → length es ≤ C.slots → length left ≤ length es → LowGrown d es left o kept i (grows i)
  grown_short d es left o i kept le ll = by_growth (growth i)
    where
      by_growth : (i ≡ MemoryGrow) ⊎ (grows i ≡ false) → LowGrown d es left o kept i (grows i)
      by_growth (inl same) =
          let a = len_lengthened C few true kept in
          let grown : LowGrown d es left o kept MemoryGrow true = omega (arith, a) in
          subst (λ i. LowGrown d es left o kept i (grows i)) (sym same) grown
      by_growth (inr stays) =
          let a = freed_short d es left o i (basic 0 i kept) le ll in
          let same : LowGrown d es left o kept i false = omega (arith, a) in
          subst (LowGrown d es left o kept i) (sym stays) same

  known_freed : (i : Basic) (es : List Place) → known (freed i es) ≤ known es
  known_freed i es = by_local (local_written i)
    where
      by_local : (o : Option ℕ) → known (freed_at o es) ≤ known es
      by_local None = omega arith
      by_local (Some x) = known_without (λ y. x == y) es

  plain_short : (ls : List Info) (i : Basic) (own js : List Place) (o : ℕ) (rest : Nodes) (between : List ValType) → Fixed js → BasicTypes (original C ls) i (map place_type own) between → Room C (own ++ js) (basic o i rest) → Rest ls js rest between → code_length (plain C (length ls) (own ++ js) o i (passes C rest) (λ es'. rewrite C (length ls) es' rest)) + charged C (own ++ js) (basic o i rest) ≤ live_weight C (own ++ js) (basic o i rest) + 12 * known own
  plain_short ls i own js o rest between f h rm ih =
      let es = own ++ js in
      let d = length ls in
      let n = takes i in
      let p = result_place C es i in
      let T = takes_of C ls i own js between h in
      let left = less n es in
      let own2 = pushed p (freed i T.own1) in
      let conv : after_plain C es i ≡ own2 ++ js = own_behind C i own js T.own1 T.left f in
      let k = rewrite C d (after_plain C es i) rest in
      let x : code_length k + charged C (after_plain C es i) rest ≤ live_weight C (after_plain C es i) rest + 12 * known own2 = subst (λ z. code_length (rewrite C d z rest) + charged C z rest ≤ live_weight C z rest + 12 * known own2) (sym conv) (ih own2 (behind_types C es i T.own1 ∙ T.after) (subst (λ z. Room C z rest) conv rm.3)) in
      let less_ : length left ≤ length es = less_shorter n es in
      let kept = keep (passes C rest) C p left k in
      let a = grown_short d es left o i kept rm.0 less_ in
      let b = len_keep C few (passes C rest) p left k (subst (λ z. FitsIn C z left) (sym (result_is C es i)) rm.2) in
      let kp = known_pushed p (freed i T.own1) in
      let kf = known_freed i T.own1 in
      omega (arith, a, b, x, kp, kf, known_parts n es, ap known T.left, known-append T.own1 js, known-append own js)

  -- ---- calls

  abbrev behind_if : ℕ → Bool → List Place → ℕ
  behind_if o true left = 0
  behind_if o false left = charge_behind C (part_of C.locals o) left

  call_charge : (o : ℕ) (q : Bool) (type : FuncType) (es : List Place) → charge_call (part_of C.locals o) q C (Some type) es ≡ behind_if o q (less (length type.params) es)
  call_charge o true type es = refl
  call_charge o false type es = refl

  after_short : (ls : List Info) (q : Bool) (r : Option ValType) (left : List Place) (o : ℕ) (rest : Nodes) → length left ≤ C.slots → FitsIn C r left → code_length (after_direct q C (length ls) r left o (passes C rest) (λ es'. rewrite C (length ls) es' rest)) + behind_if o q left ≤ 94 + 16 * length left + code_length (rewrite C (length ls) (grown r left) rest)
  after_short ls true r left o rest le fit =
      let k = rewrite C (length ls) (grown r left) rest in
      let a = len_keep_result C few (passes C rest) r left (renew_both C k) fit in
      let b = len_renew_both C few k in
      omega (arith, a, b)
  after_short ls false r left o rest le fit =
      let k = measure (measured C) C (rewrite C (length ls) (grown r left) rest) in
      let a = len_keep_result C few (passes C rest) r left (test_flag C (length ls) left o k) fit in
      let b = len_test_flag C few (length ls) left o k le in
      let c = len_measure C few (measured C) (rewrite C (length ls) (grown r left) rest) in
      omega (arith, a, b, c)

  call_short : (ls : List Info) (f : ℕ) (own js : List Place) (o : ℕ) (rest : Nodes) (between : List ValType) → ((type : FuncType) → type_at C.source f ≡ Some type → reverse type.results ≡ option_to_list (result_of type)) → JumpTypes (original C ls) (Call f) (map place_type own) between → Room C (own ++ js) (jump o (Call f) rest) → Rest ls js rest between → code_length (call_code C (length ls) (own ++ js) o f (type_at C.source f) (passes C rest) (λ es'. rewrite C (length ls) es' rest)) + charged C (own ++ js) (jump o (Call f) rest) ≤ live_weight C (own ++ js) (jump o (Call f) rest) + 12 * known own
  call_short ls f own js o rest between one h rm ih =
      let type = h.0 in
      let es = own ++ js in
      let d = length ls in
      let n = length type.params in
      let r = result_of type in
      let left = less n es in
      let ot = one type h.1 in
      let room = subst (λ q. Room_call C q es (λ es'. Room C es' rest)) h.1 rm.1 in
      let c = cuts n own js (reverse type.params) h.2.below (length-reverse type.params) h.2.takes in
      let ty = grown_types r c.own1 h.2.below c.types ∙ ap (λ z. z ++ h.2.below) (sym ot) ∙ sym h.2.gives in
      let x = behind ls own js n r c.own1 rest between c.left ty room.1 ih in
      let q = nat_lt f (import_count C.source) in
      let code = after_direct q C d r left o (passes C rest) (λ es'. rewrite C d es' rest) in
      let low : length left ≤ C.slots = omega (arith, less_shorter n es, rm.0) in
      let b = len_call (mapped C.source f) code in
      let e = after_short ls q r left o rest low room.0 in
      let g = length_parts n es in
      let cc_ = call_charge o q type es in
      let all : code_length (call_code C d es o f (Some type) (passes C rest) (λ es'. rewrite C d es' rest)) + (charge_call (part_of C.locals o) q C (Some type) es + charged C (grown r left) rest) ≤ node_weight (jump_length (Call f)) (length es) + live_weight C (grown r left) rest + 12 * known own = omega (arith, x.1, x.2, b, e, g, cc_) in
      subst (λ y. code_length (call_code C d es o f y (passes C rest) (λ es'. rewrite C d es' rest)) + (charge_call (part_of C.locals o) q C y es + behind_call y es (λ es'. charged C es' rest)) ≤ node_weight (jump_length (Call f)) (length es) + behind_call y es (λ es'. live_weight C es' rest) + 12 * known own) (sym h.1) all

  -- the index of an entry is moved
  len_past : (q : Bool) (k : Nodes) → code_length (past_shown q C k) ≤ 12 + code_length k
  len_past false k = omega arith
  len_past true k = let a = len_const (i32 (table_min C.source.tables)) (basic 0 (Binary I32 Add) k) in omega (arith, a)

  indirect_short : (ls : List Info) (t : ℕ) (own js : List Place) (o : ℕ) (rest : Nodes) (between : List ValType) → ((type : FuncType) → slice_get C.source.types t ≡ Some type → reverse type.results ≡ option_to_list (result_of type)) → JumpTypes (original C ls) (CallIndirect t) (map place_type own) between → Room C (own ++ js) (jump o (CallIndirect t) rest) → Rest ls js rest between → code_length (indirect_code C (length ls) (own ++ js) o t (slice_get C.source.types t) (λ es'. rewrite C (length ls) es' rest)) + charged C (own ++ js) (jump o (CallIndirect t) rest) ≤ live_weight C (own ++ js) (jump o (CallIndirect t) rest) + 12 * known own
  indirect_short ls t [] js o rest between one h rm ih = absurd (let e : [] ≡ I32 ∷ (reverse h.0.params ++ h.3.below) = h.3.takes in cc)
  indirect_short ls t (p ∷ own) js o rest between one h rm ih =
      let type = h.0 in
      let es = own ++ js in
      let d = length ls in
      let n = length type.params in
      let r = result_of type in
      let left = less n es in
      let ot = one type h.2 in
      let e0 : place_type p ∷ map place_type own ≡ I32 ∷ (reverse type.params ++ h.3.below) = h.3.takes in
      let below : map place_type own ≡ reverse type.params ++ h.3.below = cc in
      let room = subst (λ q. Room_call C q es (λ es'. Room C es' rest)) h.2 rm.1.1 in
      let c = cuts n own js (reverse type.params) h.3.below (length-reverse type.params) below in
      let ty = grown_types r c.own1 h.3.below c.types ∙ ap (λ z. z ++ h.3.below) (sym ot) ∙ sym h.3.gives in
      let x = behind ls (p ∷ own) js (suc n) r c.own1 rest between c.left ty room.1 ih in
      let k = rewrite C d (grown r left) rest in
      let kr = reload C r left k in
      let kd = drops (suc n) (renew_both C kr) in
      let T = take (suc n) (p ∷ es) in
      let low : length left ≤ C.slots = omega (arith, less_shorter n es, rm.0) in
      let call_ = jump 0 (CallIndirect t) (store C r left stop) in
      let inner = past_shown (doubles C.source) C call_ in
      let made = load C (suc n) (p ∷ es) inner in
      let both = test_both C d left o (hand_top C (suc n) (p ∷ es) stop) kd in
      let test = basic 0 (Eqz I32) (if_any made both) in
      let a1 = len_fetched C few p (length es) (call (helper_of C t) (set C (kind_at C) (get C (kind_at C) test))) (omega (arith, rm.0)) in
      let a2 = len_call (helper_of C t) (set C (kind_at C) (get C (kind_at C) test)) in
      let a3 = len_set C few (kind_at C) (get C (kind_at C) test) (omega arith) in
      let a4 = len_get C few (kind_at C) test (omega arith) in
      let a5 = len_load C few (suc n) (p ∷ es) inner rm.0 in
      let a12 = len_past (doubles C.source) call_ in
      let a6 = ten_bytes t in
      let a7 = len_store C few r left stop room.0 in
      let a8 = len_test_both C few d (suc n) (p ∷ es) left o kd rm.0 low in
      let a9 = costs_twice T in
      let a10 = len_drops C few (suc n) (renew_both C kr) in
      let a13 = len_renew_both C few kr in
      let a11 = len_reload C few r left k room.0 in
      let g = length_parts (suc n) (p ∷ es) in
      let all_taken : suc n ≤ length T = taken_all (suc n) (p ∷ own) js (I32 ∷ reverse type.params) h.3.below (ap suc (length-reverse type.params)) e0 in
      let all : code_length (indirect_code C d (p ∷ es) o t (Some type) (λ es'. rewrite C d es' rest)) + (0 + charged C (grown r left) rest) ≤ node_weight (jump_length (CallIndirect t)) (length (p ∷ es)) + live_weight C (grown r left) rest + 12 * known (p ∷ own) = omega (arith, x.1, x.2, a1, a2, a3, a4, a5, a6, a7, a8, a9, a10, a11, a12, a13, g, all_taken) in
      subst (λ q. code_length (indirect_code C d (p ∷ es) o t q (λ es'. rewrite C d es' rest)) + (0 + behind_call q es (λ es'. charged C es' rest)) ≤ node_weight (jump_length (CallIndirect t)) (length (p ∷ es)) + behind_call q es (λ es'. live_weight C es' rest) + 12 * known (p ∷ own)) (sym h.2) all

  branch_if_short : (ls : List Info) (l : ℕ) (own js : List Place) (o : ℕ) (rest : Nodes) (between : List ValType) → JumpTypes (original C ls) (BrIf l) (map place_type own) between → Room C (own ++ js) (jump o (BrIf l) rest) → Rest ls js rest between → code_length (jump 0 (BrIf l) (rewrite C (length ls) (less 1 (own ++ js)) rest)) + charged C (own ++ js) (jump o (BrIf l) rest) ≤ live_weight C (own ++ js) (jump o (BrIf l) rest) + 12 * known own
  branch_if_short ls l [] js o rest between h rm ih = absurd (let e : [] ≡ I32 ∷ (h.0 ++ h.2.below) = h.2.takes in cc)
  branch_if_short ls l (p ∷ own) js o rest between h rm ih =
      let e : place_type p ∷ map place_type own ≡ I32 ∷ (h.0 ++ h.2.below) = h.2.takes in
      let below : map place_type own ≡ h.0 ++ h.2.below = cc in
      let x = ih own (below ∙ sym h.2.gives) rm.1 in
      omega (arith, x)

  module _ (one : (f : ℕ) (type : FuncType) → type_at C.source f ≡ Some type → reverse type.results ≡ option_to_list (result_of type)) (one_of : (t : ℕ) (type : FuncType) → slice_get C.source.types t ≡ Some type → reverse type.results ≡ option_to_list (result_of type)) where
    control_short : (ls : List Info) (j : Jump) (own js : List Place) (o : ℕ) (rest : Nodes) (between : List ValType) → JumpTypes (original C ls) j (map place_type own) between → Room C (own ++ js) (jump o j rest) → Rest ls js rest between → code_length (control C (length ls) (own ++ js) o j (passes C rest) (λ es'. rewrite C (length ls) es' rest)) + charged C (own ++ js) (jump o j rest) ≤ live_weight C (own ++ js) (jump o j rest) + 12 * known own
    control_short ls Unreachable own js o rest between h rm ih =
        let arm = unwind_kind C (length ls) (own ++ js) o in
        let a = len_const (i32 1) (tested C (length ls) (own ++ js) o (const (i32 1)) (jump 0 Unreachable stop)) in
        let b = len_const (i32 1) arm in
        let c = len_unwind_kind C few (length ls) (own ++ js) o rm.0 in
        omega (arith, a, b, c)
    control_short ls (Br l) own js o rest between h rm ih = omega arith
    control_short ls (BrIf l) own js o rest between h rm ih = branch_if_short ls l own js o rest between h rm ih
    control_short ls (BrTable ts d) own js o rest between h rm ih = omega arith
    control_short ls Return own js o rest between h rm ih = omega arith
    control_short ls (Call f) own js o rest between h rm ih = call_short ls f own js o rest between (one f) h rm ih
    control_short ls (CallIndirect t) own js o rest between h rm ih = indirect_short ls t own js o rest between (one_of t) h rm ih

    -- behind a block
    block_behind : (ls : List Info) (t : Option ValType) (own js : List Place) (rest : Nodes) (before : List ValType) → map place_type own ≡ before → FitsIn C t (own ++ js) → Room C (grown t (own ++ js)) rest → Rest ls js rest (option_to_list t ++ before) → code_length (with_result C t (own ++ js) (passes C rest) (λ es'. rewrite C (length ls) es' rest)) + charged C (grown t (own ++ js)) rest ≤ 5 + live_weight C (grown t (own ++ js)) rest + 12 * known own
    block_behind ls t own js rest before e fit rm ih =
        let x = behind ls own js 0 t own rest (option_to_list t ++ before) refl (grown_types t own before e) rm ih in
        let a = len_keep_result C few (passes C rest) t (own ++ js) (rewrite C (length ls) (grown t (own ++ js)) rest) fit in
        omega (arith, x.1, x.2, a)

    else_short : (ea : Option ℕ) → else_length (option_map (λ at. 0) ea) ≤ 1
    else_short None = omega arith
    else_short (Some at) = omega arith

    pub rewrite_short : (nodes : Nodes) (ls : List Info) (own js : List Place) (before z : List ValType) → IsTree nodes → Fixed js → map place_type own ≡ before → Room C (own ++ js) nodes → Types (original C ls) nodes before z → Short ls own js nodes
    rewrite_short stop ls own js before z it f e rm ty = omega arith
    rewrite_short (basic o b rest) ls own js before z it f e rm ty =
        plain_short ls b own js o rest ty.0 f (subst (λ x. BasicTypes (original C ls) b x ty.0) (sym e) ty.1) rm (λ own' e' rm'. rewrite_short rest ls own' js ty.0 z it f e' rm' ty.2)
    rewrite_short (jump o j rest) ls own js before z it f e rm ty =
        control_short ls j own js o rest ty.0 (subst (λ x. JumpTypes (original C ls) j x ty.0) (sym e) ty.1) rm (λ own' e' rm'. rewrite_short rest ls own' js ty.0 z it f e' rm' ty.2)
    rewrite_short (block o t inner end rest) ls own js before z it f e rm ty =
        let es = own ++ js in
        let u = under own in
        let sp : under es ≡ u ++ js = without_append (λ x. true) own js f in
        let fu : Fixed (u ++ js) = subst Fixed sp (fixed_under es) in
        let a = rewrite_short inner (in_block t ∷ ls) [] (u ++ js) [] (option_to_list t) it.0 fu refl (subst (λ x. Room C x inner) sp rm.1) ty.0 in
        let b = block_behind ls t u js rest before (without_types (λ x. true) own ∙ e) (subst (FitsIn C t) sp rm.2) (subst (λ x. Room C (grown t x) rest) sp rm.3) (λ own' e' rm'. rewrite_short rest ls own' js (option_to_list t ++ before) z it.1 f e' rm' ty.1) in
        let code = λ (x : List Place). block 0 t (rewrite C (suc (length ls)) x inner) 0 (with_result C t x (passes C rest) (λ es'. rewrite C (length ls) es' rest)) in
        let s = len_spill C few (λ x. true) es (code (under es)) rm.0 in
        let ku = known_without (λ x. true) own in
        let c : code_length (code (under es)) + (charged C (under es) inner + charged C (grown t (under es)) rest) ≤ 8 + live_weight C (under es) inner + live_weight C (grown t (under es)) rest + 12 * known own =
        subst (λ x. code_length (code x) + (charged C x inner + charged C (grown t x) rest) ≤ 8 + live_weight C x inner + live_weight C (grown t x) rest + 12 * known own) (sym sp) (omega (arith, a, b, ku)) in
        omega (arith, s, c)
    rewrite_short (loop o t inner end rest) ls own js before z it f e rm ty =
        let es = own ++ js in
        let u = under own in
        let sp : under es ≡ u ++ js = without_append (λ x. true) own js f in
        let fu : Fixed (u ++ js) = subst Fixed sp (fixed_under es) in
        let a = rewrite_short inner (in_loop t ∷ ls) [] (u ++ js) [] (option_to_list t) it.0 fu refl (subst (λ x. Room C x inner) sp rm.1) ty.0 in
        let b = block_behind ls t u js rest before (without_types (λ x. true) own ∙ e) (subst (FitsIn C t) sp rm.2) (subst (λ x. Room C (grown t x) rest) sp rm.3) (λ own' e' rm'. rewrite_short rest ls own' js (option_to_list t ++ before) z it.1 f e' rm' ty.1) in
        let code = λ (x : List Place). loop 0 t (rewrite C (suc (length ls)) x inner) 0 (with_result C t x (passes C rest) (λ es'. rewrite C (length ls) es' rest)) in
        let s = len_spill C few (λ x. true) es (code (under es)) rm.0 in
        let ku = known_without (λ x. true) own in
        let c : code_length (code (under es)) + (charged C (under es) inner + charged C (grown t (under es)) rest) ≤ 8 + live_weight C (under es) inner + live_weight C (grown t (under es)) rest + 12 * known own =
        subst (λ x. code_length (code x) + (charged C x inner + charged C (grown t x) rest) ≤ 8 + live_weight C x inner + live_weight C (grown t x) rest + 12 * known own) (sym sp) (omega (arith, a, b, ku)) in
        omega (arith, s, c)
    rewrite_short (choose o t x ea y end rest) ls [] js before z it f e rm ty = absurd (let q : [] ≡ I32 ∷ ty.2 = e ∙ ty.3 in cc)
    rewrite_short (choose o t x None y end rest) ls (p ∷ own) js before z it f e rm ty =
        let q : place_type p ∷ map place_type own ≡ I32 ∷ ty.2 = e ∙ ty.3 in
        let below : map place_type own ≡ ty.2 = cc in
        let es = own ++ js in
        let d = length ls in
        let u = under own in
        let sp : under es ≡ u ++ js = without_append (λ x. true) own js f in
        let fu : Fixed (u ++ js) = subst Fixed sp (fixed_under es) in
        let low : length es ≤ C.slots = omega (arith, rm.0) in
        let a = rewrite_short x (in_block t ∷ ls) [] (u ++ js) [] (option_to_list t) it.0 fu refl (subst (λ v. Room C v x) sp rm.1) ty.0 in
        let c = block_behind ls t u js rest ty.2 (without_types (λ x. true) own ∙ below) (subst (FitsIn C t) sp rm.3) (subst (λ v. Room C (grown t v) rest) sp rm.4) (λ own' e' rm'. rewrite_short rest ls own' js (option_to_list t ++ ty.2) z it.3 f e' rm' ty.4) in
        let code = λ (n : Nodes) (v : List Place). choose 0 t (rewrite C (suc d) v x) None (rewrite C (suc d) v n) 0 (with_result C t v (passes C rest) (λ es'. rewrite C d es' rest)) in
        let s = len_spill C few (λ x. true) es (code y (under es)) low in
        let ku = known_without (λ x. true) own in
        let g0 : code_length (code stop (under es)) + (charged C (under es) x + charged C (under es) stop + charged C (grown t (under es)) rest) ≤ 8 + live_weight C (under es) x + live_weight C (grown t (under es)) rest + 12 * known own =
        subst (λ v. code_length (code stop v) + (charged C v x + charged C v stop + charged C (grown t v) rest) ≤ 8 + live_weight C v x + live_weight C (grown t v) rest + 12 * known own) (sym sp) (omega (arith, a, c, ku)) in
        let g : code_length (code y (under es)) + (charged C (under es) x + charged C (under es) y + charged C (grown t (under es)) rest) ≤ 8 + live_weight C (under es) x + live_weight C (grown t (under es)) rest + 12 * known own =
        subst (λ n. code_length (code n (under es)) + (charged C (under es) x + charged C (under es) n + charged C (grown t (under es)) rest) ≤ 8 + live_weight C (under es) x + live_weight C (grown t (under es)) rest + 12 * known own) (sym it.1) g0 in
        let one_ = known-append (p ∷ []) own in
        omega (arith, s, g, one_)
    rewrite_short (choose o t x (Some els) y end rest) ls (p ∷ own) js before z it f e rm ty =
        let q : place_type p ∷ map place_type own ≡ I32 ∷ ty.2 = e ∙ ty.3 in
        let below : map place_type own ≡ ty.2 = cc in
        let es = own ++ js in
        let d = length ls in
        let u = under own in
        let sp : under es ≡ u ++ js = without_append (λ x. true) own js f in
        let fu : Fixed (u ++ js) = subst Fixed sp (fixed_under es) in
        let low : length es ≤ C.slots = omega (arith, rm.0) in
        let a = rewrite_short x (in_block t ∷ ls) [] (u ++ js) [] (option_to_list t) it.0 fu refl (subst (λ v. Room C v x) sp rm.1) ty.0 in
        let b = rewrite_short y (in_block t ∷ ls) [] (u ++ js) [] (option_to_list t) it.2 fu refl (subst (λ v. Room C v y) sp rm.2) ty.1 in
        let c = block_behind ls t u js rest ty.2 (without_types (λ x. true) own ∙ below) (subst (FitsIn C t) sp rm.3) (subst (λ v. Room C (grown t v) rest) sp rm.4) (λ own' e' rm'. rewrite_short rest ls own' js (option_to_list t ++ ty.2) z it.3 f e' rm' ty.4) in
        let code = λ (v : List Place). choose 0 t (rewrite C (suc d) v x) (Some 0) (rewrite C (suc d) v y) 0 (with_result C t v (passes C rest) (λ es'. rewrite C d es' rest)) in
        let s = len_spill C few (λ x. true) es (code (under es)) low in
        let ku = known_without (λ x. true) own in
        let g : code_length (code (under es)) + (charged C (under es) x + charged C (under es) y + charged C (grown t (under es)) rest) ≤ 9 + live_weight C (under es) x + live_weight C (under es) y + live_weight C (grown t (under es)) rest + 12 * known own =
        subst (λ v. code_length (code v) + (charged C v x + charged C v y + charged C (grown t v) rest) ≤ 9 + live_weight C v x + live_weight C v y + live_weight C (grown t v) rest + 12 * known own) (sym sp) (omega (arith, a, b, c, ku)) in
        let one_ = known-append (p ∷ []) own in
        omega (arith, s, g, one_)

    -- ---- bodies

    locals_short : (x : ℕ) (ts : List ValType) (k : Nodes) → x + length ts ≤ length C.locals → code_length (hand_locals C x ts k) ≤ 10 * length ts + code_length k
    locals_short x [] k le = omega arith
    locals_short x (t ∷ ts) k le =
        let rest = hand_locals C (suc x) ts k in
        let a = len_get_own C few x (hand_value C t rest) (omega (arith, le)) in
        let b = len_hand_value C few t rest in
        let c = locals_short (suc x) ts k (omega (arith, le)) in
        omega (arith, a, b, c)

    derivations_short : (ds : List Derivation) (k : Nodes) → AllByRecursion (Fitting C.locals) ds → code_length (worked_out ds k) ≤ 16 * length ds + code_length k
    derivations_short [] k fit = omega arith
    derivations_short (d ∷ ds) k fit =
        let rest = worked_out ds k in
        let k2 = basic 0 (LocalSet d.made) rest in
        let k1 = basic 0 d.instruction k2 in
        let a = len_get_own C few d.left (basic 0 (LocalGet d.right) k1) (slice_get_within C.locals d.left (taken_type d.instruction) fit.0.left) in
        let b = len_get_own C few d.right k1 (slice_get_within C.locals d.right (taken_type d.instruction) fit.0.right) in
        let c = len_derives d.instruction k2 (derived_by d.instruction fit.0.derives) in
        let e = len_set_own C few d.made rest (slice_get_within C.locals d.made (given_type d.instruction) fit.0.made) in
        let f = derivations_short ds k fit.1 in
        omega (arith, a, b, c, e, f)

    zero_short : (r : Option ValType) → code_length (zero_result r (jump 0 Return stop)) ≤ 12
    zero_short None = omega arith
    zero_short (Some t) = let a = len_const (zero_of t) (jump 0 Return stop) in omega (arith, a)

    -- of the sixteen bytes of a local ten are used, so that three locals leave enough for one that is worked out
    abbrev FewDerived : Type 0
    FewDerived = AllByRecursion (Fitting C.locals) C.derivations × (3 * length C.derivations ≤ length C.locals)

    exit_short : FewDerived → code_length (exit_code C) ≤ 16 * length C.locals + 86
    exit_short derived =
        let k9 = zero_result C.result (jump 0 Return stop) in
        let k7 = raise_flag C k9 in
        let k6 = const (i32 (length C.locals)) (call (frame_import C.source) k7) in
        let k5 = get C (offset_at C) k6 in
        let k4 = const (i32 C.index) k5 in
        let a = locals_short 0 C.locals (get C (kind_at C) k4) (omega arith) in
        let w = derivations_short C.derivations (hand_locals C 0 C.locals (get C (kind_at C) k4)) derived.0 in
        let b = len_get C few (kind_at C) k4 (omega arith) in
        let c = len_const (i32 C.index) k5 in
        let d = len_get C few (offset_at C) k6 (omega arith) in
        let e = len_const (i32 (length C.locals)) (call (frame_import C.source) k7) in
        let f = len_call (frame_import C.source) k7 in
        let g = len_const (i32 1) (basic 0 (GlobalSet (flag_of C.source)) k9) in
        let h = len_global_set (flag_of C.source) k9 in
        let i = zero_short C.result in
        omega (arith, a, b, c, d, e, f, g, h, i, w, derived.1)

    carried_short : (r : Option ValType) (k : Nodes) → code_length (hand_carried C r k) ≤ 5 + code_length k
    carried_short None k = omega arith
    carried_short (Some t) k = len_hand_value C few t k

    landing_short : (n : ℕ) (x : Landing) → length x.places ≤ C.slots → code_length (landing_code C n x) ≤ 32 + 16 * length x.places
    landing_short n x le =
        let k2 = hand_carried C x.carried (jump 0 (Br n) stop) in
        let k1 = hand C x.places k2 in
        let a = len_const (i32 x.kind) (set C (kind_at C) k1) in
        let b = len_set C few (kind_at C) k1 (omega arith) in
        let c = len_hand C few x.places k2 le in
        let d = carried_short x.carried (jump 0 (Br n) stop) in
        let e = len_branch n in
        omega (arith, a, b, c, d, e)

    nested_short : (xs : List Landing) (inner : Nodes) → AllFine C xs → code_length (nested C xs inner) ≤ costs_of xs + code_length inner
    nested_short [] inner h = omega arith
    nested_short (x ∷ xs) inner h =
        let a = nested_short xs (block 0 x.carried inner 0 (landing_code C (length xs) x)) h.1 in
        let b = landing_short (length xs) x h.0.0 in
        omega (arith, a, b)

    pub laid_short : (nodes : Nodes) → AllFine C C.landings → FewDerived → landings_from C [] nodes [] ≡ C.landings → IsTree nodes → Room C [] nodes → Types (original C (in_body C.result ∷ [])) nodes [] (option_to_list C.result) → code_length (laid C nodes) ≤ live_weight C [] nodes + (192 + 16 * length C.locals)
    laid_short nodes fine derived all it rm ty =
        let a = rewrite_short nodes (in_body C.result ∷ []) [] [] [] (option_to_list C.result) it tt refl rm ty in
        let b = nested_short C.landings (block 0 C.result (rewrite C 1 [] nodes) 0 (jump 0 Return stop)) fine in
        let c = all_paid C nodes all in
        let inner = nested C C.landings (block 0 C.result (rewrite C 1 [] nodes) 0 (jump 0 Return stop)) in
        let d = len_measure C few (measured C) (block 0 None inner 0 (exit_code C)) in
        omega (arith, a, b, c, d, exit_short derived)

type_in : (C : Ctx) (f : ℕ) (type : FuncType) → type_at C.source f ≡ Some type → (t : ℕ) × (slice_get C.source.types t ≡ Some type)
type_in C f type e = inside (slice_get (function_types C.source) f) e
  where
    inside : (o : Option ℕ) → option_then o (λ t. slice_get C.source.types t) ≡ Some type → (t : ℕ) × (slice_get C.source.types t ≡ Some type)
    inside None e = absurd (cc)
    inside (Some t) e = (t, e)

-- the landings do not depend on what landings are known
module _ (C : Ctx) (ys : List Landing) (ds : List Derivation) where
  same_called : (p : ℕ) (b : Bool) (o : Option FuncType) (es : List Place) (xs : List Landing) (go go' : List Place → List Landing → List Landing) → ((es' : List Place) (xs' : List Landing) → go es' xs' ≡ go' es' xs') → landings_call p b o es xs go ≡ landings_call p b o es xs go'
  same_called p b None es xs go go' f = refl
  same_called p b (Some type) es xs go go' f = f (grown (result_of type) (less (length type.params) es)) (landing_call p b (less (length type.params) es) xs)

  same_jump : (p : ℕ) (j : Jump) (es : List Place) (xs : List Landing) (go go' : List Place → List Landing → List Landing) → ((es' : List Place) (xs' : List Landing) → go es' xs' ≡ go' es' xs') → landings_jump C p j es xs go ≡ landings_jump (landed C C.exposed ys ds) p j es xs go'
  same_jump p Unreachable es xs go go' f = refl
  same_jump p (Br l) es xs go go' f = refl
  same_jump p (BrIf l) es xs go go' f = f (less 1 es) xs
  same_jump p (BrTable ts d) es xs go go' f = refl
  same_jump p Return es xs go go' f = refl
  same_jump p (Call g) es xs go go' f = same_called p (nat_lt g (import_count C.source)) (type_at C.source g) es xs go go' f
  same_jump p (CallIndirect t) es xs go go' f = same_called p true (slice_get C.source.types t) (less 1 es) xs go go' f

  same_landings : (es : List Place) (nodes : Nodes) (xs : List Landing) → landings_from C es nodes xs ≡ landings_from (landed C C.exposed ys ds) es nodes xs
  same_landings es stop xs = refl
  same_landings es (basic o i rest) xs =
      same_landings (after_plain C es i) rest (with_some (landing_at C o i es) xs) ∙ ap (λ z. landings_from (landed C C.exposed ys ds) z rest (with_some (landing_at C o i es) xs)) (same_at C C.exposed ys ds es i).1
  same_landings es (jump o j rest) xs = same_jump (part_of C.locals o) j es xs (λ es' xs'. landings_from C es' rest xs') (λ es' xs'. landings_from (landed C C.exposed ys ds) es' rest xs') (λ es' xs'. same_landings es' rest xs')
  same_landings es (block o t inner end rest) xs =
      same_landings (grown t (under es)) rest (landings_from C (under es) inner xs) ∙ ap (landings_from (landed C C.exposed ys ds) (grown t (under es)) rest) (same_landings (under es) inner xs)
  same_landings es (loop o t inner end rest) xs =
      same_landings (grown t (under es)) rest (landings_from C (under es) inner xs) ∙ ap (landings_from (landed C C.exposed ys ds) (grown t (under es)) rest) (same_landings (under es) inner xs)
  same_landings es (choose o t a ea b end rest) xs =
      let left = under (less 1 es) in
      same_landings (grown t left) rest (landings_from C left b (landings_from C left a xs))
      ∙ ap (landings_from (landed C C.exposed ys ds) (grown t left) rest) (same_landings left b (landings_from C left a xs) ∙ ap (landings_from (landed C C.exposed ys ds) left b) (same_landings left a xs))

-- nor does the weight on what is exposed
module _ (C : Ctx) (os : List ℕ) (ys : List Landing) (ds : List Derivation) where
  same_behind : (o : Option FuncType) (es : List Place) (go go' : List Place → ℕ) → ((es' : List Place) → go es' ≡ go' es') → behind_call o es go ≡ behind_call o es go'
  same_behind None es go go' f = refl
  same_behind (Some type) es go go' f = f (grown (result_of type) (less (length type.params) es))

  same_weights : (j : Jump) (es : List Place) (go go' : List Place → ℕ) → ((es' : List Place) → go es' ≡ go' es') → behind_jump C j es go ≡ behind_jump (landed C os ys ds) j es go'
  same_weights Unreachable es go go' f = refl
  same_weights (Br l) es go go' f = refl
  same_weights (BrIf l) es go go' f = f (less 1 es)
  same_weights (BrTable ts d) es go go' f = refl
  same_weights Return es go go' f = refl
  same_weights (Call g) es go go' f = same_behind (type_at C.source g) es go go' f
  same_weights (CallIndirect t) es go go' f = same_behind (slice_get C.source.types t) (less 1 es) go go' f

  same_weight : (es : List Place) (nodes : Nodes) → live_weight C es nodes ≡ live_weight (landed C os ys ds) es nodes
  same_weight es stop = refl
  same_weight es (basic o i rest) =
      ap (λ z. node_weight (basic_length i) (length es) + long_guard i + z) (same_weight (after_plain C es i) rest ∙ ap (λ z. live_weight (landed C os ys ds) z rest) (same_at C os ys ds es i).1)
  same_weight es (jump o j rest) = ap (λ z. node_weight (jump_length j) (length es) + z) (same_weights j es (λ es'. live_weight C es' rest) (λ es'. live_weight (landed C os ys ds) es' rest) (λ es'. same_weight es' rest))
  same_weight es (block o t inner end rest) = let a = same_weight (under es) inner in let b = same_weight (grown t (under es)) rest in omega (arith, a, b)
  same_weight es (loop o t inner end rest) = let a = same_weight (under es) inner in let b = same_weight (grown t (under es)) rest in omega (arith, a, b)
  same_weight es (choose o t a None b end rest) =
      let left = under (less 1 es) in let x = same_weight left a in let z = same_weight (grown t left) rest in omega (arith, x, z)
  same_weight es (choose o t a (Some at) b end rest) =
      let left = under (less 1 es) in let x = same_weight left a in let y = same_weight left b in let z = same_weight (grown t left) rest in omega (arith, x, y, z)

pub bodies_short : (C : Ctx) → BodyShort C
bodies_short C nodes few results it rm ty =
    let of = λ (t : ℕ) (type : FuncType) (e : slice_get C.source.types t ≡ Some type). one_result type.results (results t type e) in
    let os = exposed_in C.source.memories nodes in
    let C1 = landed C os [] [] in
    let xs = landings_from C1 [] nodes [] in
    let ds = derived_for C.source C.index C.locals nodes in
    let derived : AllByRecursion (Fitting C.locals) ds × (3 * length ds ≤ length C.locals) = (derived_fit C.source C.index C.locals nodes, derived_few C.source C.index C.locals nodes) in
    let D = landed C os xs ds in
    let few' : FewNumbers D = record { locals = few.locals; imports = few.imports } in
    let a : code_length (body C nodes) ≤ live_weight D [] nodes + (192 + 16 * length C.locals) = laid_short D few' (λ f type e. let t = type_in C f type e in of t.0 type t.1) of nodes (all_fine_landed C1 os xs ds xs (fine_landings C1 [] nodes [] tt (room_landed C os [] [] [] nodes rm) tt)) derived (sym (same_landings C1 xs ds [] nodes [])) it (room_landed C os xs ds [] nodes rm) ty in
    subst (λ w. code_length (body C nodes) ≤ w + (192 + 16 * length C.locals)) (sym (same_weight C os xs ds [] nodes)) a
