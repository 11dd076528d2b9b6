-- An `if` without `else` has an empty second arm, in rewritten code too.
use Rattle.rewrite_bodies.specs.calls.Landings.{number_of, number_in, landing_of, landing_behind, with_landings, part_of}
use Rattle.std.proofs.Common.{◌≡◌, ℕ, zero, suc, ◌+◌, List, [], ◌∷◌, length, Option, Some, None, Bool, true, false, nat_lt, if◌then◌else◌, ◌==◌, refl, ap, slice_get, option_map, ◌/◌}
use Rattle.wasm_syntax.specs.declared.value.ValType.{ValType}
use Rattle.wasm_syntax.specs.declared.parts.Limits.{Limits}
use Rattle.wasm_syntax.specs.declared.instruction.Basic.{Basic}
use Rattle.wasm_syntax.specs.declared.parts.FuncType.{FuncType}
use Rattle.wasm_syntax.specs.declared.module.ModuleParts.{ModuleParts as Module}
use Rattle.wasm_syntax.specs.Tree.{Jump, Unreachable, Br, BrIf, BrTable, Return, Call, CallIndirect, Nodes, stop, basic, jump, block, loop, choose, IsTree, HasElse}
use Rattle.wasm_syntax.specs.Module.{type_at}
use Rattle.wasm_syntax.specs.Effect.{takes}
use Rattle.wasm_syntax.specs.Machine.{result_of}
use Rattle.rewrite_modules.specs.calls.Bare.{bare_nodes}
use Rattle.wasm_syntax.specs.Access.{load_bits, store_bits}
use Rattle.int_ops.specs.declared.operators.Binary.{Binary as BinaryOp}
use Rattle.int_ops.specs.declared.operators.Binary.TheVariants.{Add, And, Or}
use Rattle.int_ops.specs.declared.operators.Compare.TheVariants.{Eq, GtS}
use Rattle.wasm_syntax.specs.declared.instruction.Convert.TheVariants.{ExtendU}
use Rattle.wasm_syntax.specs.declared.instruction.Basic.TheVariants.{Select, LocalGet, Eqz, Compare, Binary, Convert}
use Rattle.wasm_syntax.specs.declared.value.ValType.TheVariants.{I32, I64}
use Rattle.wasm_syntax.specs.Sizes.{parameter_count}
use Rattle.rewrite_bodies.specs.Numbering.{import_count, mapped, frame_import, global_types, doubles}
use Rattle.rewrite_bodies.specs.calls.Slots.{Place, place_type, Ctx, slot, kind_at, offset_at, less, grown, under, result_place, after_plain, Spilled, Known, Copied, Landing, local_written, measured, Derivation}
use Rattle.rewrite_bodies.specs.calls.Pieces.{get, set, const, i32, call, if_any, fetch, load, keep_slot, keep, store, reload, spill_one, spill, drops}
use Rattle.rewrite_bodies.specs.calls.Guards.{least, minus_one, guard_zero, guard_signed, past_end, beyond_word, out_test, guard_memory, range_test, guard, can_trap, kind, helper, renewed, measure, renew_both}
use Rattle.rewrite_bodies.specs.calls.Rewrite.{hand_value, hand, hand_top, to_exit, unwind, test_flag, test_both, unwind_kind, tested, guarded, passes, free, plain, with_result, after_call, after_direct, call_code, helper_of, past_shown, indirect_code, control, rewrite, hand_locals, zero_result, raise_flag, exit_code, body, checked, get_flag, hand_carried, landing_code, nested, laid, free_at, grows, lengthened, blocks, worked_out}
use Rattle.rewrite_modules.specs.calls.Wrappers.{get_all, tell_globals, after_wrapped, wrapper}
use Rattle.rewrite_modules.specs.calls.FlatCode.{op}
use Rattle.rewrite_bodies.proofs.Risks.{risk_of}
use Rattle.wasm_syntax.specs.calls.Classes.{Divider, by_div_s, by_div_u, by_rem_s, by_rem_u, Risky, risky_binary, risky_load, risky_store, risky_copy, risky_fill}
use Rattle.rewrite_bodies.specs.calls.Facts.{needs}
use Rattle.rewrite_bodies.proofs.FactLaws.{needs_trap}

-- the length of the memory is set
tree_renewed : (ls : List Limits) (src : Module) (k : Nodes) → IsTree k → IsTree (renewed ls src k)
tree_renewed [] src k tk = tk
tree_renewed (l ∷ ls) src k tk = tk

module _ (C : Ctx) where
  tree_fetch : (e : Place) (h : ℕ) (k : Nodes) → IsTree k → IsTree (fetch C e h k)
  tree_fetch (Spilled t) h k tk = tk
  tree_fetch (Known v) h k tk = tk
  tree_fetch (Copied t x) h k tk = tk

  tree_load : (m : ℕ) (es : List Place) (k : Nodes) → IsTree k → IsTree (load C m es k)
  tree_load zero es k tk = tk
  tree_load (suc m) [] k tk = tk
  tree_load (suc m) (e ∷ es) k tk = tree_load m es (fetch C e (length es) k) (tree_fetch e (length es) k tk)

  tree_store : (t : Option ValType) (es : List Place) (k : Nodes) → IsTree k → IsTree (store C t es k)
  tree_store None es k tk = tk
  tree_store (Some t) es k tk = tk

  tree_keep_slot : (pass : Bool) (t : ValType) (es : List Place) (k : Nodes) → IsTree k → IsTree (keep_slot pass C t es k)
  tree_keep_slot true t es k tk = tk
  tree_keep_slot false t es k tk = tk

  tree_keep : (pass : Bool) (q : Option Place) (es : List Place) (k : Nodes) → IsTree k → IsTree (keep pass C q es k)
  tree_keep pass None es k tk = tk
  tree_keep pass (Some (Spilled t)) es k tk = tree_keep_slot pass t es k tk
  tree_keep pass (Some (Known v)) es k tk = tk
  tree_keep pass (Some (Copied t x)) es k tk = tk

  tree_reload : (t : Option ValType) (es : List Place) (k : Nodes) → IsTree k → IsTree (reload C t es k)
  tree_reload None es k tk = tk
  tree_reload (Some t) es k tk = tk

  tree_drops : (m : ℕ) (k : Nodes) → IsTree k → IsTree (drops m k)
  tree_drops zero k tk = tk
  tree_drops (suc m) k tk = tree_drops m k tk

  tree_if : (q : Bool) (a b : Nodes) → IsTree a → IsTree b → IsTree (if q then a else b)
  tree_if true a b x y = x
  tree_if false a b x y = y

  tree_spill_one : (these : ℕ → Bool) (e : Place) (h : ℕ) (k : Nodes) → IsTree k → IsTree (spill_one C these e h k)
  tree_spill_one these (Spilled t) h k tk = tk
  tree_spill_one these (Known v) h k tk = tk
  tree_spill_one these (Copied t x) h k tk = tree_if (these x) (basic 0 (LocalGet x) (set C (slot C.slots t h) k)) k tk tk

  tree_spill : (these : ℕ → Bool) (es : List Place) (k : Nodes) → IsTree k → IsTree (spill C these es k)
  tree_spill these [] k tk = tk
  tree_spill these (e ∷ es) k tk = tree_spill these es (spill_one C these e (length es) k) (tree_spill_one these e (length es) k tk)

  tree_hand : (es : List Place) (k : Nodes) → IsTree k → IsTree (hand C es k)
  tree_hand [] k tk = tk
  tree_hand (e ∷ es) k tk = tree_hand es (fetch C e (length es) (hand_value C (place_type e) k)) (tree_fetch e (length es) (hand_value C (place_type e) k) tk)

  tree_unwind : (ls : ℕ) (es : List Place) (o : ℕ) → IsTree (unwind C ls es o)
  tree_unwind ls es o = tree_hand es (to_exit C ls) tt

  tree_tested : (ls : ℕ) (es : List Place) (o : ℕ) (says_kind : Nodes → Nodes) (k : Nodes) → ((arm : Nodes) → IsTree arm → IsTree (says_kind arm)) → IsTree k → IsTree (tested C ls es o says_kind k)
  tree_tested ls es o says_kind k says tk = (says (unwind_kind C ls es o) (tree_unwind ls es o), refl, tt, tk)

  tree_checked : (q : Option ℕ) (ls : ℕ) (es : List Place) (o : ℕ) (test says_kind : Nodes → Nodes) (k : Nodes) → ((k : Nodes) → IsTree k → IsTree (test k)) → ((arm : Nodes) → IsTree arm → IsTree (says_kind arm)) → IsTree k → IsTree (checked q C ls es o test says_kind k)
  tree_checked None ls es o test says_kind k tests says tk = tests (tested C ls es o says_kind k) (tree_tested ls es o says_kind k says tk)
  tree_checked (Some n) ls es o test says_kind k tests says tk = tests (jump 0 (BrIf (ls + n)) k) tk

  tree_flag : (ls : ℕ) (es : List Place) (o : ℕ) (k : Nodes) → IsTree k → IsTree (test_flag C ls es o k)
  tree_flag ls es o k tk = tree_checked (number_of (landing_behind (part_of C.locals o) es) C.landings) ls es o (get_flag C) (const (i32 0)) k (λ k w. w) (λ arm w. w) tk

  -- ---- guards

  tree_zero : (t : ValType) (b : Place) (h : ℕ) (k : Nodes) → IsTree k → IsTree (guard_zero C t b h k)
  tree_zero t b h k tk = tree_fetch b h (basic 0 (Eqz t) k) tk

  tree_signed : (t : ValType) (b a : Place) (h : ℕ) (k : Nodes) → IsTree k → IsTree (guard_signed C t b a h k)
  tree_signed t b a h k tk =
      let k5 = basic 0 (Binary I32 Or) k in
      let k3 = const (minus_one t) (basic 0 (Compare t Eq) (basic 0 (Binary I32 And) (guard_zero C t b (suc h) k5))) in
      tree_fetch a h (const (least t) (basic 0 (Compare t Eq) (fetch C b (suc h) k3))) (tree_fetch b (suc h) k3 (tree_zero t b (suc h) k5 tk))

  tree_memory : (a : Place) (h n : ℕ) (k : Nodes) → IsTree k → IsTree (guard_memory C a h n k)
  tree_memory a h n k tk = tree_fetch a h (out_test C n k) (tree_beyond (n == 4) tk)
    where
      tree_beyond : (q : Bool) → IsTree k → IsTree (beyond_word q n (basic 0 (Compare I64 GtS) k))
      tree_beyond true t = t
      tree_beyond false t = t

  tree_range : (a : Place) (h : ℕ) (n : Place) (hn : ℕ) (k : Nodes) → IsTree k → IsTree (range_test C a h n hn k)
  tree_range a h n hn k tk =
      let k2 = basic 0 (Convert ExtendU) (basic 0 (Binary I64 Add) (past_end C k)) in
      tree_fetch a h (basic 0 (Convert ExtendU) (fetch C n hn k2)) (tree_fetch n hn k2 tk)

  tree_kind_division : (op : BinaryOp) → Divider op → (t : ValType) (es : List Place) (k : Nodes) → IsTree k → IsTree (kind C (Binary t op) es k)
  tree_kind_division op by_div_s t [] k tk = tk
  tree_kind_division op by_div_s t (b ∷ []) k tk = tk
  tree_kind_division op by_div_s t (b ∷ a ∷ es) k tk = tree_zero t b (suc (length es)) (basic 0 Select k) tk
  tree_kind_division op by_div_u t es k tk = tk
  tree_kind_division op by_rem_s t es k tk = tk
  tree_kind_division op by_rem_u t es k tk = tk

  tree_kind : (i : Basic) → Risky i → (es : List Place) (k : Nodes) → IsTree k → IsTree (kind C i es k)
  tree_kind i (risky_binary t op by) es k tk = tree_kind_division op by t es k tk
  tree_kind i (risky_load l al of) es k tk = tk
  tree_kind i (risky_store l al of) es k tk = tk
  tree_kind i risky_copy es k tk = tk
  tree_kind i risky_fill es k tk = tk

  tree_division : (op : BinaryOp) → Divider op → (t : ValType) (es : List Place) (k : Nodes) → IsTree k → IsTree (guard C (Binary t op) es k)
  tree_division op by_div_s t [] k tk = tk
  tree_division op by_div_s t (b ∷ []) k tk = tk
  tree_division op by_div_s t (b ∷ a ∷ es) k tk = tree_signed t b a (length es) k tk
  tree_division op by_div_u t [] k tk = tk
  tree_division op by_div_u t (b ∷ []) k tk = tk
  tree_division op by_div_u t (b ∷ a ∷ es) k tk = tree_zero t b (suc (length es)) k tk
  tree_division op by_rem_s t [] k tk = tk
  tree_division op by_rem_s t (b ∷ []) k tk = tk
  tree_division op by_rem_s t (b ∷ a ∷ es) k tk = tree_zero t b (suc (length es)) k tk
  tree_division op by_rem_u t [] k tk = tk
  tree_division op by_rem_u t (b ∷ []) k tk = tk
  tree_division op by_rem_u t (b ∷ a ∷ es) k tk = tree_zero t b (suc (length es)) k tk

  tree_guard : (i : Basic) → Risky i → (es : List Place) (k : Nodes) → IsTree k → IsTree (guard C i es k)
  tree_guard i (risky_binary t op by) es k tk = tree_division op by t es k tk
  tree_guard i (risky_load t align o) [] k tk = tk
  tree_guard i (risky_load t align o) (a ∷ es) k tk = tree_memory a (length es) (o + load_bits t / 8) k tk
  tree_guard i (risky_store t align o) [] k tk = tk
  tree_guard i (risky_store t align o) (v ∷ []) k tk = tk
  tree_guard i (risky_store t align o) (v ∷ a ∷ es) k tk = tree_memory a (length es) (o + store_bits t / 8) k tk
  tree_guard i risky_copy [] k tk = tk
  tree_guard i risky_copy (n ∷ []) k tk = tk
  tree_guard i risky_copy (n ∷ from ∷ []) k tk = tk
  tree_guard i risky_copy (n ∷ from ∷ to ∷ es) k tk =
      let h = length es in
      let k2 = basic 0 (Binary I32 Or) k in
      tree_range from (suc h) n (suc (suc h)) (range_test C to h n (suc (suc h)) k2) (tree_range to h n (suc (suc h)) k2 tk)
  tree_guard i risky_fill [] k tk = tk
  tree_guard i risky_fill (n ∷ []) k tk = tk
  tree_guard i risky_fill (n ∷ byte ∷ []) k tk = tk
  tree_guard i risky_fill (n ∷ byte ∷ to ∷ es) k tk = tree_range to (length es) n (suc (suc (length es))) k tk

  tree_guarded : (q : Bool) (ls : ℕ) (es : List Place) (o : ℕ) (i : Basic) (k : Nodes) → (q ≡ true → can_trap i ≡ true) → IsTree k → IsTree (guarded q C ls es o i k)
  tree_guarded false ls es o i k t tk = tk
  tree_guarded true ls es o i k t tk =
      tree_checked (number_in C.landings (landing_of (part_of C.locals o) i es)) ls es o (guard C i es) (kind C i es) k (λ k w. tree_guard i (risk_of i (t refl)) es k w) (λ arm w. tree_kind i (risk_of i (t refl)) es arm w) tk

  -- ---- instructions

  abbrev Goes : (List Place → Nodes) → Type 0
  Goes go = (es : List Place) → IsTree (go es)

  tree_free : (o : Option ℕ) (es : List Place) (k : Nodes) → IsTree k → IsTree (free_at C o es k)
  tree_free None es k tk = tk
  tree_free (Some x) es k tk = tree_spill (λ y. x == y) es k tk

  tree_measure : (q : Bool) (k : Nodes) → IsTree k → IsTree (measure q C k)
  tree_measure false k tk = tk
  tree_measure true k tk = tk

  tree_both_set : (k : Nodes) → IsTree k → IsTree (renew_both C k)
  tree_both_set k tk = tree_renewed C.source.memories C.source (measure (measured C) C k) (tree_measure (measured C) k tk)

  tree_lengthened : (q : Bool) (k : Nodes) → IsTree k → IsTree (lengthened q C k)
  tree_lengthened false k tk = tk
  tree_lengthened true k tk = tree_measure (measured C) k tk

  tree_plain : (ls : ℕ) (es : List Place) (o : ℕ) (i : Basic) (pass : Bool) (go : List Place → Nodes) → Goes go → IsTree (plain C ls es o i pass go)
  tree_plain ls es o i pass go h =
      let left = less (takes i) es in
      let k1 = go (after_plain C es i) in
      let kept = keep pass C (result_place C es i) left k1 in
      let k2 = basic 0 i (lengthened (grows i) C kept) in
      tree_guarded (needs C o i) ls es o i (free C i left k2) (needs_trap C o i) (tree_free (local_written i) left k2 (tree_lengthened (grows i) kept (tree_keep pass (result_place C es i) left k1 (h (after_plain C es i)))))

  -- ---- control

  tree_hand_top : (m : ℕ) (es : List Place) (k : Nodes) → IsTree k → IsTree (hand_top C m es k)
  tree_hand_top zero es k tk = tk
  tree_hand_top (suc m) [] k tk = tk
  tree_hand_top (suc m) (e ∷ es) k tk = tree_hand_top m es (fetch C e (length es) (hand_value C (place_type e) k)) (tree_fetch e (length es) (hand_value C (place_type e) k) tk)

  tree_both : (ls : ℕ) (es : List Place) (o : ℕ) (others k : Nodes) → IsTree others → IsTree k → IsTree (test_both C ls es o others k)
  tree_both ls es o others k to tk = (tree_hand es (get C (kind_at C) (if_any others (to_exit C ls))) (to, refl, tt, tt), refl, tt, tk)

  tree_result : (r : Option ValType) (es : List Place) (pass : Bool) (go : List Place → Nodes) → Goes go → IsTree (with_result C r es pass go)
  tree_result r es pass go h = tree_keep pass (option_map Spilled r) es (go (grown r es)) (h (grown r es))

  tree_after : (ls : ℕ) (r : Option ValType) (es : List Place) (o : ℕ) (pass : Bool) (go : List Place → Nodes) → Goes go → IsTree (after_call C ls r es o pass go)
  tree_after ls r es o pass go h = tree_result r es pass (λ es'. test_flag C ls es o (measure (measured C) C (go es'))) (λ es'. tree_flag ls es o (measure (measured C) C (go es')) (tree_measure (measured C) (go es') (h es')))

  tree_direct : (q : Bool) (ls : ℕ) (r : Option ValType) (es : List Place) (o : ℕ) (pass : Bool) (go : List Place → Nodes) → Goes go → IsTree (after_direct q C ls r es o pass go)
  tree_direct true ls r es o pass go h = tree_result r es pass (λ es'. renew_both C (go es')) (λ es'. tree_both_set (go es') (h es'))
  tree_direct false ls r es o pass go h = tree_after ls r es o pass go h

  tree_call : (q : Option FuncType) (ls : ℕ) (es : List Place) (o f : ℕ) (pass : Bool) (go : List Place → Nodes) → Goes go → IsTree (call_code C ls es o f q pass go)
  tree_call None ls es o f pass go h = tt
  tree_call (Some type) ls es o f pass go h = tree_direct (nat_lt f (import_count C.source)) ls (result_of type) (less (length type.params) es) o pass go h

  tree_past : (q : Bool) (k : Nodes) → IsTree k → IsTree (past_shown q C k)
  tree_past false k h = h
  tree_past true k h = h

  tree_indirect : (q : Option FuncType) (ls : ℕ) (es : List Place) (o t : ℕ) (go : List Place → Nodes) → Goes go → IsTree (indirect_code C ls es o t q go)
  tree_indirect None ls es o t go h = tt
  tree_indirect (Some type) ls [] o t go h = tt
  tree_indirect (Some type) ls (i ∷ es) o t go h =
      let n = length type.params in
      let left = less n es in
      let r = result_of type in
      let others = hand_top C (suc n) (i ∷ es) stop in
      let loaded = reload C r left (go (grown r left)) in
      let back = renew_both C loaded in
      let next_ = drops (suc n) back in
      let call_ = jump 0 (CallIndirect t) (store C r left stop) in
      let inner = past_shown (doubles C.source) C call_ in
      let k1 = set C (kind_at C) (get C (kind_at C) (basic 0 (Eqz I32) (if_any (load C (suc n) (i ∷ es) inner) (test_both C ls left o others next_)))) in
      let tree_back = tree_drops (suc n) back (tree_both_set loaded (tree_reload r left (go (grown r left)) (h (grown r left)))) in
      tree_fetch i (length es) (call (helper_of C t) k1) (tree_load (suc n) (i ∷ es) inner (tree_past (doubles C.source) call_ (tree_store r left stop tt)), refl, tt, tree_both ls left o others next_ (tree_hand_top (suc n) (i ∷ es) stop tt) tree_back)

  tree_control : (j : Jump) (ls : ℕ) (es : List Place) (o : ℕ) (pass : Bool) (go : List Place → Nodes) → Goes go → IsTree (control C ls es o j pass go)
  tree_control Unreachable ls es o pass go h = tree_tested ls es o (const (i32 1)) (jump 0 Unreachable stop) (λ arm w. w) tt
  tree_control (Br l) ls es o pass go h = tt
  tree_control (BrIf l) ls es o pass go h = h (less 1 es)
  tree_control (BrTable ts d) ls es o pass go h = tt
  tree_control Return ls es o pass go h = tt
  tree_control (Call f) ls es o pass go h = tree_call (type_at C.source f) ls es o f pass go h
  tree_control (CallIndirect t) ls es o pass go h = tree_indirect (slice_get C.source.types t) ls es o t go h

  -- ---- the nodes

  no_else : (ea : Option ℕ) (ls : ℕ) (es : List Place) (b : Nodes) → HasElse ea b → HasElse (option_map (λ at. 0) ea) (rewrite C ls es b)
  no_else None ls es b h = ap (rewrite C ls es) h
  no_else (Some at) ls es b h = tt

  pub tree_rewrite : (nodes : Nodes) (ls : ℕ) (es : List Place) → IsTree nodes → IsTree (rewrite C ls es nodes)
  tree_rewrite stop ls es it = tt
  tree_rewrite (basic o i rest) ls es it = tree_plain ls es o i (passes C rest) (λ es'. rewrite C ls es' rest) (λ es'. tree_rewrite rest ls es' it)
  tree_rewrite (jump o j rest) ls es it = tree_control j ls es o (passes C rest) (λ es'. rewrite C ls es' rest) (λ es'. tree_rewrite rest ls es' it)
  tree_rewrite (block o t inner en rest) ls es it =
      tree_spill (λ x. true) es (block 0 t (rewrite C (suc ls) (under es) inner) 0 (with_result C t (under es) (passes C rest) (λ es'. rewrite C ls es' rest)))
      (tree_rewrite inner (suc ls) (under es) it.0, tree_result t (under es) (passes C rest) (λ es'. rewrite C ls es' rest) (λ es'. tree_rewrite rest ls es' it.1))
  tree_rewrite (loop o t inner en rest) ls es it =
      tree_spill (λ x. true) es (loop 0 t (rewrite C (suc ls) (under es) inner) 0 (with_result C t (under es) (passes C rest) (λ es'. rewrite C ls es' rest)))
      (tree_rewrite inner (suc ls) (under es) it.0, tree_result t (under es) (passes C rest) (λ es'. rewrite C ls es' rest) (λ es'. tree_rewrite rest ls es' it.1))
  tree_rewrite (choose o t a ea b en rest) ls es it =
      let left = under (less 1 es) in
      tree_spill (λ x. true) (less 1 es)
      (choose 0 t (rewrite C (suc ls) left a) (option_map (λ at. 0) ea) (rewrite C (suc ls) left b) 0 (with_result C t left (passes C rest) (λ es'. rewrite C ls es' rest)))
      (tree_rewrite a (suc ls) left it.0, no_else ea (suc ls) left b it.1, tree_rewrite b (suc ls) left it.2, tree_result t left (passes C rest) (λ es'. rewrite C ls es' rest) (λ es'. tree_rewrite rest ls es' it.3))

  -- ---- the exit

  tree_locals : (x : ℕ) (ts : List ValType) (k : Nodes) → IsTree k → IsTree (hand_locals C x ts k)
  tree_locals x [] k tk = tk
  tree_locals x (t ∷ ts) k tk = tree_locals (suc x) ts k tk

  tree_worked : (ds : List Derivation) (k : Nodes) → IsTree k → IsTree (worked_out ds k)
  tree_worked [] k tk = tk
  tree_worked (d ∷ ds) k tk = tree_worked ds k tk

  tree_zero_result : (r : Option ValType) (k : Nodes) → IsTree k → IsTree (zero_result r k)
  tree_zero_result None k tk = tk
  tree_zero_result (Some t) k tk = tk

  tree_exit : IsTree (exit_code C)
  tree_exit =
      let k9 = zero_result C.result (jump 0 Return stop) in
      let handed = get C (kind_at C) (const (i32 C.index) (get C (offset_at C) (const (i32 (length C.locals)) (call (frame_import C.source) (raise_flag C k9))))) in
      tree_worked C.derivations (hand_locals C 0 C.locals handed) (tree_locals 0 C.locals handed (tree_zero_result C.result (jump 0 Return stop) tt))

  tree_landing : (n : ℕ) (x : Landing) → IsTree (landing_code C n x)
  tree_landing n x = tree_hand x.places (hand_carried C x.carried (jump 0 (Br n) stop)) (carried x.carried)
    where
      carried : (r : Option ValType) → IsTree (hand_carried C r (jump 0 (Br n) stop))
      carried None = tt
      carried (Some t) = tt

  tree_nested : (xs : List Landing) (inner : Nodes) → IsTree inner → IsTree (nested C xs inner)
  tree_nested [] inner h = h
  tree_nested (x ∷ xs) inner h = tree_nested xs (block 0 x.carried inner 0 (landing_code C (length xs) x)) (h, tree_landing (length xs) x)

  tree_laid : (nodes : Nodes) → IsTree nodes → IsTree (laid C nodes)
  tree_laid nodes it = tree_measure (measured C) (blocks C nodes) (tree_nested C.landings (block 0 C.result (rewrite C 1 [] nodes) 0 (jump 0 Return stop)) (tree_rewrite nodes 1 [] it, tt), tree_exit)

pub tree_body : (C : Ctx) (nodes : Nodes) → IsTree nodes → IsTree (body C nodes)
tree_body C nodes it = tree_laid (with_landings C nodes) nodes it

-- ---- wrappers and helpers

tree_get : (x n : ℕ) (k : Nodes) → IsTree k → IsTree (get_all x n k)
tree_get x zero k tk = tk
tree_get x (suc n) k tk = tree_get (suc x) n k tk

tree_globals : (m : Module) (x : ℕ) (ts : List ValType) (k : Nodes) → IsTree k → IsTree (tell_globals m x ts k)
tree_globals m x [] k tk = tk
tree_globals m x (t ∷ ts) k tk = tree_globals m (suc x) ts k tk

pub tree_wrapper : (m : Module) (f : ℕ) → IsTree (wrapper m f)
tree_wrapper m f =
    let n = parameter_count (type_at m f) in
    let k = call (mapped m f) (after_wrapped m) in
    tree_renewed m.memories m (get_all 0 n k) (tree_get 0 n k (tree_globals m 0 (global_types m) _ tt, refl, tt, tt))

pub tree_helper : (m : Module) (t : ℕ) → IsTree (helper m t)
tree_helper m t = ((((tt, tt), tt), tt), tt)

-- ---- without offsets

else_bare : (ea : Option ℕ) (b : Nodes) → HasElse ea b → HasElse (option_map (λ at. 0) ea) (bare_nodes b)
else_bare None b h = ap bare_nodes h
else_bare (Some at) b h = tt

pub tree_bare : (nodes : Nodes) → IsTree nodes → IsTree (bare_nodes nodes)
tree_bare stop h = tt
tree_bare (basic at i rest) h = tree_bare rest h
tree_bare (jump at j rest) h = tree_bare rest h
tree_bare (block at t body end rest) h = (tree_bare body h.0, tree_bare rest h.1)
tree_bare (loop at t body end rest) h = (tree_bare body h.0, tree_bare rest h.1)
tree_bare (choose at t a ea b end rest) h = (tree_bare a h.0, else_bare ea b h.1, tree_bare b h.2, tree_bare rest h.3)
