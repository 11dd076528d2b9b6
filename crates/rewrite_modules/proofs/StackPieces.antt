-- Rewritten bodies, wrappers and helpers hold few operands.
use Rattle.rewrite_bodies.proofs.Laid.{room_landed}
use Rattle.rewrite_bodies.specs.calls.Landings.{number_of, number_in, landing_of, landing_behind, landings_from, landed, part_of}
use Rattle.std.proofs.Common.{◌≡◌, ℕ, zero, suc, ◌+◌, ◌*◌, ◌-◌, ◌/◌, ◌≤◌, nat_lt, if◌then◌else◌, ◌==◌, Bool, true, false, List, [], ◌∷◌, ◌++◌, length, length-append, map, reverse, Option, Some, None, refl, sym, ap, ◌∙◌, subst, arith, slice_get, option_map, option_to_list}
use Rattle.std.specs.List.{AllByRecursion}
use Rattle.std.proofs.lemmas.List.{length-reverse, length-map}
use Rattle.int_ops.specs.declared.operators.Binary.{Binary as BinaryOp}
use Rattle.int_ops.specs.declared.operators.Binary.TheVariants.{Add, And, Or, Shl, Sub}
use Rattle.int_ops.specs.declared.operators.Compare.TheVariants.{Eq, GtU, GtS}
use Rattle.wasm_syntax.specs.declared.instruction.Convert.TheVariants.{ExtendU}
use Rattle.wasm_syntax.specs.declared.value.ValType.{ValType}
use Rattle.wasm_syntax.specs.declared.parts.Limits.{Limits}
use Rattle.wasm_syntax.specs.declared.value.ValType.TheVariants.{I32, I64}
use Rattle.wasm_syntax.specs.declared.value.Value.{Value}
use Rattle.wasm_syntax.specs.declared.value.Value.TheVariants as values
use Rattle.wasm_syntax.specs.declared.instruction.Basic.{Basic}
use Rattle.wasm_syntax.specs.declared.instruction.Basic.TheVariants.{Drop, Select, LocalGet, LocalSet, LocalTee, GlobalGet, GlobalSet, MemorySize, Const, Eqz, Compare, Binary, Convert}
use Rattle.wasm_syntax.specs.declared.parts.FuncType.{FuncType}
use Rattle.wasm_syntax.specs.declared.module.ModuleParts.{ModuleParts as Module}
use Rattle.wasm_syntax.specs.Access.{load_bits, store_bits}
use Rattle.wasm_syntax.specs.Tree.{Unreachable, Br, BrIf, BrTable, Return, Call, CallIndirect, Nodes, stop, basic, jump, block, loop, choose}
use Rattle.wasm_syntax.specs.Module.{type_at}
use Rattle.wasm_syntax.specs.Effect.{takes}
use Rattle.wasm_syntax.specs.Machine.{result_of}
use Rattle.wasm_syntax.specs.Typing.{BasicTypes, JumpTypes, Types}
use Rattle.wasm_syntax.specs.Run.{table_min}
use Rattle.rewrite_bodies.specs.Numbering.{import_count, mapped, value_import, frame_import, flag_of, value_type, frame_type, doubles}
use Rattle.rewrite_bodies.specs.calls.Slots.{Place, Spilled, Known, Copied, place_type, Ctx, slot, kind_at, offset_at, less, pushed, grown, uncopied, under, result_type, result_place, freed, after_plain, Landing, local_written, length_at, measured, Derivation}
use Rattle.rewrite_bodies.specs.calls.Pieces.{get, set, const, i32, call, if_any, fetch, load, keep_slot, keep, store, reload, spill_one, spill, drops}
use Rattle.rewrite_bodies.specs.calls.Guards.{guard, can_trap, least, minus_one, less_word, past_end, beyond_word, out_test, range_test, guard_zero, guard_signed, guard_memory, kind, helper, helper_type, length_of, get_length, set_length, renewed, measure, renew_both}
use Rattle.rewrite_bodies.specs.calls.Rewrite.{hand_value, hand, hand_top, to_exit, unwind, test_flag, hand_left, test_both, unwind_kind, tested, guarded, passes, free, plain, with_result, after_direct, call_code, helper_of, past_shown, indirect_code, rewrite, hand_locals, raise_flag, zero_result, exit_code, body, checked, get_flag, hand_carried, landing_code, nested, laid, free_at, grows, lengthened, blocks, worked_out}
use Rattle.rewrite_bodies.specs.calls.Typed.{Info, in_block, in_loop, in_body, Offers, original}
use Rattle.rewrite_bodies.specs.calls.Agreement.{Room_call, Room}
use Rattle.rewrite_bodies.proofs.Sim.{grown-append}
use Rattle.rewrite_bodies.proofs.Copies.{Fixed, fixed_under, without_append}
use Rattle.rewrite_bodies.proofs.TypedNodes.{cuts, result_is, grown_types, takes_of, own_behind, behind_types, after_types, without_types, offers_landed}
use Rattle.rewrite_modules.proofs.Stacks.{gives_count, gives_len, Under_call, Under, fewer}
use Rattle.rewrite_bodies.proofs.Risks.{risk_of, Deriving, compares, combines, derived_by}
use Rattle.wasm_syntax.specs.calls.Classes.{Divider, by_div_s, by_div_u, by_rem_s, by_rem_u, Risky, risky_binary, risky_load, risky_store, risky_copy, risky_fill}
use Rattle.rewrite_bodies.specs.calls.Facts.{needs, exposed_in}
use Rattle.rewrite_bodies.proofs.FactLaws.{needs_trap}
use Rattle.rewrite_bodies.specs.calls.Derived.{Fitting, derived_for}
use Rattle.rewrite_bodies.proofs.DerivedLaws.{derived_fit}

-- the length of the memory is set, with two operands more
module _ (m : Module) (N : ℕ) where
  one_under : (h : ℕ) (i : Basic) (h1 : ℕ) (k : Nodes) → h ≤ N → gives_count i + (h - takes i) ≤ h1 → Under m N h1 k → Under m N h (basic 0 i k)
  one_under h i h1 k le e u = (le, fewer m N k h1 (gives_count i + (h - takes i)) e u)

  set_under : (src : Module) (b : ℕ) (k : Nodes) → b + 2 ≤ N → Under m N b k → Under m N b (set_length src k)
  set_under src b k r u =
      let k1 = basic 0 (GlobalSet (length_of src)) k in
      let u1 : Under m N (suc b) k1 = one_under (suc b) (GlobalSet (length_of src)) b k (omega (arith, r)) (omega arith) u in
      let k6 = basic 0 (Binary I64 Sub) k1 in
      let u6 : Under m N (suc (suc b)) k6 = one_under (suc (suc b)) (Binary I64 Sub) (suc b) k1 (omega (arith, r)) (omega arith) u1 in
      let k5 = const (values.I64 4) k6 in
      let u5 : Under m N (suc b) k5 = one_under (suc b) (Const (values.I64 4)) (suc (suc b)) k6 (omega (arith, r)) (omega arith) u6 in
      let k2 = basic 0 (Binary I64 Shl) k5 in
      let u2 : Under m N (suc (suc b)) k2 = one_under (suc (suc b)) (Binary I64 Shl) (suc b) k5 (omega (arith, r)) (omega arith) u5 in
      let k3 = const (values.I64 16) k2 in
      let u3 : Under m N (suc b) k3 = one_under (suc b) (Const (values.I64 16)) (suc (suc b)) k2 (omega (arith, r)) (omega arith) u2 in
      let k4 = basic 0 (Convert ExtendU) k3 in
      let u4 : Under m N (suc b) k4 = one_under (suc b) (Convert ExtendU) (suc b) k3 (omega (arith, r)) (omega arith) u3 in
      one_under b MemorySize (suc b) k4 (omega (arith, r)) (omega arith) u4

  pub renewed_under : (ls : List Limits) (src : Module) (b : ℕ) (k : Nodes) → b + 2 ≤ N → Under m N b k → Under m N b (renewed ls src k)
  renewed_under [] src b k r u = u
  renewed_under (l ∷ ls) src b k r u = set_under src b k r u

  -- and read
  measure_under : (q : Bool) (C : Ctx) (b : ℕ) (k : Nodes) → b + 2 ≤ N → Under m N b k → Under m N b (measure q C k)
  measure_under false C b k r u = u
  measure_under true C b k r u =
      let k1 = set C (length_at C) k in
      let u1 : Under m N (suc b) k1 = one_under (suc b) (LocalSet (length C.locals + length_at C)) b k (omega (arith, r)) (omega arith) u in
      one_under b (GlobalGet (length_of C.source)) (suc b) k1 (omega (arith, r)) (omega arith) u1

  both_under : (C : Ctx) (b : ℕ) (k : Nodes) → b + 2 ≤ N → Under m N b k → Under m N b (renew_both C k)
  both_under C b k r u = renewed_under C.source.memories C.source b (measure (measured C) C k) r (measure_under (measured C) C b k r u)

  lengthened_under : (q : Bool) (C : Ctx) (b : ℕ) (k : Nodes) → b + 2 ≤ N → Under m N b k → Under m N b (lengthened q C k)
  lengthened_under false C b k r u = u
  lengthened_under true C b k r u = set_under C.source b (measure (measured C) C k) r (measure_under (measured C) C b k r u)

at_most_one : {A : Type 0} (o : Option A) → length (option_to_list o) ≤ 1
at_most_one None = omega arith
at_most_one (Some x) = omega arith

-- the operands of the original are on the stack, and those of a call through the table once more
module _ (C : Ctx) (m : Module) (locals : List ValType) (off : Offers C m locals) (N : ℕ) (room : 2 * C.slots + 16 ≤ N) where
  abbrev U : ℕ → Nodes → Type 0
  U h nodes = Under m N h nodes

  -- so many more have room
  abbrev Roomy : ℕ → Type 0
  Roomy b = b + 16 ≤ N

  u_basic : (h : ℕ) (i : Basic) (h1 : ℕ) (k : Nodes) → h ≤ N → gives_count i + (h - takes i) ≤ h1 → U h1 k → U h (basic 0 i k)
  u_basic h i h1 k le e u = (le, fewer m N k h1 (gives_count i + (h - takes i)) e u)

  u_get : (h x : ℕ) (k : Nodes) → h ≤ N → U (suc h) k → U h (get C x k)
  u_get h x k le u = u_basic h (LocalGet (length C.locals + x)) (suc h) k le (omega arith) u

  u_set : (h x : ℕ) (k : Nodes) → suc h ≤ N → U h k → U (suc h) (set C x k)
  u_set h x k le u = u_basic (suc h) (LocalSet (length C.locals + x)) h k le (omega arith) u

  u_const : (h : ℕ) (v : Value) (k : Nodes) → h ≤ N → U (suc h) k → U h (const v k)
  u_const h v k le u = u_basic h (Const v) (suc h) k le (omega arith) u

  u_fetch : (h : ℕ) (e : Place) (x : ℕ) (k : Nodes) → h ≤ N → U (suc h) k → U h (fetch C e x k)
  u_fetch h (Spilled t) x k le u = u_get h (slot C.slots t x) k le u
  u_fetch h (Known v) x k le u = u_const h v k le u
  u_fetch h (Copied t y) x k le u = u_basic h (LocalGet y) (suc h) k le (omega arith) u

  u_load : (n : ℕ) (es : List Place) (h : ℕ) (k : Nodes) → n + h ≤ N → U (n + h) k → U h (load C n es k)
  u_load zero es h k le u = fewer m N k (0 + h) h (omega arith) u
  u_load (suc n) [] h k le u = fewer m N k (suc n + h) h (omega arith) u
  u_load (suc n) (e ∷ es) h k le u =
      u_load n es h (fetch C e (length es) k) (omega (arith, le)) (u_fetch (n + h) e (length es) k (omega (arith, le)) (fewer m N k (suc n + h) (suc (n + h)) (omega arith) u))

  u_store : (b : ℕ) (r : Option ValType) (es : List Place) (k : Nodes) → suc b ≤ N → U b k → U (length (option_to_list r) + b) (store C r es k)
  u_store b None es k le u = fewer m N k b (0 + b) (omega arith) u
  u_store b (Some t) es k le u = fewer m N (set C (slot C.slots t (length es)) k) (suc b) (1 + b) (omega arith) (u_set b (slot C.slots t (length es)) k le u)

  u_reload : (b : ℕ) (r : Option ValType) (es : List Place) (k : Nodes) → suc b ≤ N → U (length (option_to_list r) + b) k → U b (reload C r es k)
  u_reload b None es k le u = fewer m N k (0 + b) b (omega arith) u
  u_reload b (Some t) es k le u = u_get b (slot C.slots t (length es)) k (omega (arith, le)) (fewer m N k (1 + b) (suc b) (omega arith) u)

  u_tee : (pass : Bool) (b : ℕ) (t : ValType) (es : List Place) (k : Nodes) → suc b ≤ N → U (suc b) k → U (suc b) (keep_slot pass C t es k)
  u_tee true b t es k le u = u
  u_tee false b t es k le u = u_basic (suc b) (LocalTee (length C.locals + slot C.slots t (length es))) (suc b) k le (omega arith) u

  u_one : (pass : Bool) (b : ℕ) (e : Place) (es : List Place) (k : Nodes) → suc b ≤ N → U (suc b) k → U (suc b) (keep pass C (Some e) es k)
  u_one pass b (Spilled t) es k le u = u_tee pass b t es k le u
  u_one pass b (Known v) es k le u = u
  u_one pass b (Copied t x) es k le u = u

  u_keep : (pass : Bool) (b : ℕ) (p : Option Place) (es : List Place) (k : Nodes) → suc b ≤ N → U (length (option_to_list (option_map place_type p)) + b) k → U (length (option_to_list (option_map place_type p)) + b) (keep pass C p es k)
  u_keep pass b None es k le u = u
  u_keep pass b (Some e) es k le u = fewer m N (keep pass C (Some e) es k) (suc b) (1 + b) (omega arith) (u_one pass b e es k le (fewer m N k (1 + b) (suc b) (omega arith) u))

  u_drops : (b n : ℕ) (k : Nodes) → n + b ≤ N → U b k → U (n + b) (drops n k)
  u_drops b zero k le u = fewer m N k b (0 + b) (omega arith) u
  u_drops b (suc n) k le u = u_basic (suc n + b) Drop (n + b) (drops n k) le (omega arith) (u_drops b n k (omega (arith, le)) u)

  u_one_spilled : (b : ℕ) (q : Bool) (t : ValType) (x h : ℕ) (k : Nodes) → suc b ≤ N → U b k → U b (if q then basic 0 (LocalGet x) (set C (slot C.slots t h) k) else k)
  u_one_spilled b true t x h k le u = u_basic b (LocalGet x) (suc b) (set C (slot C.slots t h) k) (omega (arith, le)) (omega arith) (u_set b (slot C.slots t h) k le u)
  u_one_spilled b false t x h k le u = u

  u_spill_one : (b : ℕ) (these : ℕ → Bool) (e : Place) (h : ℕ) (k : Nodes) → suc b ≤ N → U b k → U b (spill_one C these e h k)
  u_spill_one b these (Spilled t) h k le u = u
  u_spill_one b these (Known v) h k le u = u
  u_spill_one b these (Copied t x) h k le u = u_one_spilled b (these x) t x h k le u

  u_spill : (b : ℕ) (these : ℕ → Bool) (es : List Place) (k : Nodes) → suc b ≤ N → U b k → U b (spill C these es k)
  u_spill b these [] k le u = u
  u_spill b these (e ∷ es) k le u = u_spill b these es (spill_one C these e (length es) k) le (u_spill_one b these e (length es) k le u)

  -- ---- handing over

  -- a call of a function of this type
  u_call : (h : ℕ) (f : ℕ) (type : FuncType) (h1 : ℕ) (k : Nodes) → type_at m f ≡ Some type → h ≤ N → length type.results + (h - length type.params) ≤ h1 → U h1 k → U h (call f k)
  u_call h f type h1 k e le less_ u = (le, subst (λ q. Under_call q h (λ j. Under m N j k)) (sym e) (fewer m N k h1 (length type.results + (h - length type.params)) less_ u))

  u_value : (b : ℕ) (t : ValType) (k : Nodes) → suc b ≤ N → U b k → U (suc b) (hand_value C t k)
  u_value b t k le u = u_call (suc b) (value_import C.source t) (value_type t) b k (off.values t) le (omega arith) u

  u_hand : (b : ℕ) (es : List Place) (k : Nodes) → suc b ≤ N → U b k → U b (hand C es k)
  u_hand b [] k le u = u
  u_hand b (e ∷ es) k le u =
      u_hand b es (fetch C e (length es) (hand_value C (place_type e) k)) le
      (u_fetch b e (length es) (hand_value C (place_type e) k) (omega (arith, le)) (u_value b (place_type e) k le u))

  u_hand_top : (b n : ℕ) (es : List Place) (k : Nodes) → suc b ≤ N → U b k → U b (hand_top C n es k)
  u_hand_top b zero es k le u = u
  u_hand_top b (suc n) [] k le u = u
  u_hand_top b (suc n) (e ∷ es) k le u =
      u_hand_top b n es (fetch C e (length es) (hand_value C (place_type e) k)) le
      (u_fetch b e (length es) (hand_value C (place_type e) k) (omega (arith, le)) (u_value b (place_type e) k le u))

  u_exit : (b d : ℕ) → b ≤ N → U b (to_exit C d)
  u_exit b d le = (le, tt)

  u_if : (b : ℕ) (a k : Nodes) → suc b ≤ N → U b a → U b k → U (suc b) (if_any a k)
  u_if b a k le ua u = (le, fewer m N a b (suc b - 1) (omega arith) ua, omega (arith, le), fewer m N k b (0 + (suc b - 1)) (omega arith) u)

  u_unwind : (b d : ℕ) (es : List Place) (o : ℕ) → suc b ≤ N → U b (unwind C d es o)
  u_unwind b d es o le =
      u_const b (i32 o) (set C (offset_at C) (hand C es (to_exit C d))) (omega (arith, le))
      (u_set b (offset_at C) (hand C es (to_exit C d)) le (u_hand b es (to_exit C d) le (u_exit b d (omega (arith, le)))))

  u_unwind_kind : (b d : ℕ) (es : List Place) (o : ℕ) → suc b ≤ N → U (suc b) (unwind_kind C d es o)
  u_unwind_kind b d es o le = u_set b (kind_at C) (unwind C d es o) le (u_unwind b d es o le)

  u_tested : (b d : ℕ) (es : List Place) (o : ℕ) (says_kind : Nodes → Nodes) (k : Nodes) → suc b ≤ N → ((arm : Nodes) → U (suc b) arm → U b (says_kind arm)) → U b k → U (suc b) (tested C d es o says_kind k)
  u_tested b d es o says_kind k le says u = u_if b (says_kind (unwind_kind C d es o)) k le (says (unwind_kind C d es o) (u_unwind_kind b d es o le)) u

  u_checked : (b d : ℕ) (es : List Place) (o : ℕ) (q : Option ℕ) (test says_kind : Nodes → Nodes) (k : Nodes) → suc b ≤ N → ((k : Nodes) → U (suc b) k → U b (test k)) → ((arm : Nodes) → U (suc b) arm → U b (says_kind arm)) → U b k → U b (checked q C d es o test says_kind k)
  u_checked b d es o None test says_kind k le tests says u = tests (tested C d es o says_kind k) (u_tested b d es o says_kind k le says u)
  u_checked b d es o (Some n) test says_kind k le tests says u =
      let go = jump 0 (BrIf (d + n)) k in
      let ug : U (suc b) go = (omega (arith, le), fewer m N k b (suc b - 1) (omega arith) u) in
      u_const b (i32 o) (set C (offset_at C) (test go)) (omega (arith, le)) (u_set b (offset_at C) (test go) le (tests go ug))

  u_get_flag : (b : ℕ) (k : Nodes) → suc b ≤ N → U (suc b) k → U b (get_flag C k)
  u_get_flag b k le u = u_basic b (GlobalGet (flag_of C.source)) (suc b) k (omega (arith, le)) (omega arith) u

  u_flag : (b d : ℕ) (es : List Place) (o : ℕ) (k : Nodes) → suc b ≤ N → U b k → U b (test_flag C d es o k)
  u_flag b d es o k le u = u_checked b d es o (number_of (landing_behind (part_of C.locals o) es) C.landings) (get_flag C) (const (i32 0)) k le (λ k w. u_get_flag b k le w) (λ arm w. u_const b (i32 0) arm (omega (arith, le)) w) u

  u_both : (b d : ℕ) (es : List Place) (o : ℕ) (others k : Nodes) → Roomy b → U b others → U b k → U b (test_both C d es o others k)
  u_both b d es o others k r uo u =
      let more = get C (kind_at C) (if_any others (to_exit C d)) in
      let um : U b more = u_get b (kind_at C) (if_any others (to_exit C d)) (omega (arith, r)) (u_if b others (to_exit C d) (omega (arith, r)) uo (u_exit b d (omega (arith, r)))) in
      let arm = const (i32 o) (set C (offset_at C) (hand_left C d es others)) in
      let ua : U b arm = u_const b (i32 o) (set C (offset_at C) (hand_left C d es others)) (omega (arith, r)) (u_set b (offset_at C) (hand_left C d es others) (omega (arith, r)) (u_hand b es more (omega (arith, r)) um)) in
      let u1 : U (suc b) (if_any arm k) = u_if b arm k (omega (arith, r)) ua u in
      let u2 : U (suc (suc b)) (basic 0 (Binary I32 Or) (if_any arm k)) = u_basic (suc (suc b)) (Binary I32 Or) (suc b) (if_any arm k) (omega (arith, r)) (omega arith) u1 in
      let u3 = u_basic (suc b) (GlobalGet (flag_of C.source)) (suc (suc b)) (basic 0 (Binary I32 Or) (if_any arm k)) (omega (arith, r)) (omega arith) u2 in
      u_get b (kind_at C) (basic 0 (GlobalGet (flag_of C.source)) (basic 0 (Binary I32 Or) (if_any arm k))) (omega (arith, r)) u3

  -- ---- guards, above so many

  u_zero : (b : ℕ) (t : ValType) (x : Place) (h : ℕ) (k : Nodes) → suc b ≤ N → U (suc b) k → U b (guard_zero C t x h k)
  u_zero b t x h k le u = u_fetch b x h (basic 0 (Eqz t) k) (omega (arith, le)) (u_basic (suc b) (Eqz t) (suc b) k le (omega arith) u)

  u_signed : (b : ℕ) → Roomy b → (t : ValType) (x a : Place) (h : ℕ) (k : Nodes) → U (suc b) k → U b (guard_signed C t x a h k)
  u_signed b r t x a h k u =
      let k0 = basic 0 (Binary I32 Or) k in
      let u0 : U (suc (suc b)) k0 = u_basic (suc (suc b)) (Binary I32 Or) (suc b) k (omega (arith, r)) (omega arith) u in
      let k1 = guard_zero C t x (suc h) k0 in
      let u1 : U (suc b) k1 = u_zero (suc b) t x (suc h) k0 (omega (arith, r)) u0 in
      let k2 = basic 0 (Binary I32 And) k1 in
      let u2 : U (suc (suc b)) k2 = u_basic (suc (suc b)) (Binary I32 And) (suc b) k1 (omega (arith, r)) (omega arith) u1 in
      let k3 = basic 0 (Compare t Eq) k2 in
      let u3 : U (suc (suc (suc b))) k3 = u_basic (suc (suc (suc b))) (Compare t Eq) (suc (suc b)) k2 (omega (arith, r)) (omega arith) u2 in
      let k4 = const (minus_one t) k3 in
      let u4 : U (suc (suc b)) k4 = u_const (suc (suc b)) (minus_one t) k3 (omega (arith, r)) u3 in
      let k5 = fetch C x (suc h) k4 in
      let u5 : U (suc b) k5 = u_fetch (suc b) x (suc h) k4 (omega (arith, r)) u4 in
      let k6 = basic 0 (Compare t Eq) k5 in
      let u6 : U (suc (suc b)) k6 = u_basic (suc (suc b)) (Compare t Eq) (suc b) k5 (omega (arith, r)) (omega arith) u5 in
      u_fetch b a h (const (least t) k6) (omega (arith, r)) (u_const (suc b) (least t) k6 (omega (arith, r)) u6)

  u_length : (b : ℕ) → b ≤ N → (k : Nodes) → U (suc b) k → U b (get_length C k)
  u_length b r k u = u_get b (length_at C) k r u

  u_past : (b : ℕ) → b + 8 ≤ N → (k : Nodes) → U (suc b) k → U (suc b) (past_end C k)
  u_past b r k u =
      let k1 = basic 0 (Compare I64 GtU) k in
      let u1 : U (suc (suc b)) k1 = u_basic (suc (suc b)) (Compare I64 GtU) (suc b) k (omega (arith, r)) (omega arith) u in
      let k2 = basic 0 (Binary I64 Add) k1 in
      let u2 : U (suc (suc (suc b))) k2 = u_basic (suc (suc (suc b))) (Binary I64 Add) (suc (suc b)) k1 (omega (arith, r)) (omega arith) u1 in
      let k3 = const (values.I64 4) k2 in
      u_length (suc b) (omega (arith, r)) k3 (u_const (suc (suc b)) (values.I64 4) k2 (omega (arith, r)) u2)

  -- so many bytes in place of four
  u_beyond : (q : Bool) (b : ℕ) → b + 8 ≤ N → (n : ℕ) (k : Nodes) → U (suc (suc b)) k → U (suc (suc b)) (beyond_word q n k)
  u_beyond true b r n k u = u
  u_beyond false b r n k u =
      let k2 = basic 0 (Binary I64 Sub) k in
      let u2 : U (suc (suc (suc b))) k2 = u_basic (suc (suc (suc b))) (Binary I64 Sub) (suc (suc b)) k (omega (arith, r)) (omega arith) u in
      u_const (suc (suc b)) (values.I64 (less_word n)) k2 (omega (arith, r)) u2

  u_memory : (b : ℕ) → Roomy b → (a : Place) (h n : ℕ) (k : Nodes) → U (suc b) k → U b (guard_memory C a h n k)
  u_memory b r a h n k u =
      let k1 = basic 0 (Compare I64 GtS) k in
      let u1 : U (suc (suc b)) k1 = u_basic (suc (suc b)) (Compare I64 GtS) (suc b) k (omega (arith, r)) (omega arith) u in
      let k3 = beyond_word (n == 4) n k1 in
      let u3 : U (suc (suc b)) k3 = u_beyond (n == 4) b (omega (arith, r)) n k1 u1 in
      let u4 : U (suc b) (get_length C k3) = u_length (suc b) (omega (arith, r)) k3 u3 in
      u_fetch b a h (out_test C n k) (omega (arith, r)) (u_basic (suc b) (Convert ExtendU) (suc b) (get_length C k3) (omega (arith, r)) (omega arith) u4)

  u_range : (b : ℕ) → b + 12 ≤ N → (a : Place) (h : ℕ) (n : Place) (hn : ℕ) (k : Nodes) → U (suc b) k → U b (range_test C a h n hn k)
  u_range b r a h n hn k u =
      let k1 = basic 0 (Binary I64 Add) (past_end C k) in
      let u1 : U (suc (suc b)) k1 = u_basic (suc (suc b)) (Binary I64 Add) (suc b) (past_end C k) (omega (arith, r)) (omega arith) (u_past b (omega (arith, r)) k u) in
      let k2 = basic 0 (Convert ExtendU) k1 in
      let u2 : U (suc (suc b)) k2 = u_basic (suc (suc b)) (Convert ExtendU) (suc (suc b)) k1 (omega (arith, r)) (omega arith) u1 in
      let k3 = fetch C n hn k2 in
      let u3 : U (suc b) k3 = u_fetch (suc b) n hn k2 (omega (arith, r)) u2 in
      u_fetch b a h (basic 0 (Convert ExtendU) k3) (omega (arith, r)) (u_basic (suc b) (Convert ExtendU) (suc b) k3 (omega (arith, r)) (omega arith) u3)

  u_kind_division : (b : ℕ) → Roomy b → (op : BinaryOp) → Divider op → (t : ValType) (es : List Place) (k : Nodes) → U (suc b) k → U b (kind C (Binary t op) es k)
  u_kind_division b r op by_div_s t [] k u = u_const b (i32 2) k (omega (arith, r)) u
  u_kind_division b r op by_div_s t (x ∷ []) k u = u_const b (i32 2) k (omega (arith, r)) u
  u_kind_division b r op by_div_s t (x ∷ a ∷ es) k u =
      let k1 = basic 0 Select k in
      let u1 : U (suc (suc (suc b))) k1 = u_basic (suc (suc (suc b))) Select (suc b) k (omega (arith, r)) (omega arith) u in
      let k2 = guard_zero C t x (suc (length es)) k1 in
      let u2 : U (suc (suc b)) k2 = u_zero (suc (suc b)) t x (suc (length es)) k1 (omega (arith, r)) u1 in
      u_const b (i32 2) (const (i32 3) k2) (omega (arith, r)) (u_const (suc b) (i32 3) k2 (omega (arith, r)) u2)
  u_kind_division b r op by_div_u t es k u = u_const b (i32 2) k (omega (arith, r)) u
  u_kind_division b r op by_rem_s t es k u = u_const b (i32 2) k (omega (arith, r)) u
  u_kind_division b r op by_rem_u t es k u = u_const b (i32 2) k (omega (arith, r)) u

  u_kind : (b : ℕ) → Roomy b → (i : Basic) → Risky i → (es : List Place) (k : Nodes) → U (suc b) k → U b (kind C i es k)
  u_kind b r i (risky_binary t op by) es k u = u_kind_division b r op by t es k u
  u_kind b r i (risky_load l al o) es k u = u_const b (i32 4) k (omega (arith, r)) u
  u_kind b r i (risky_store l al o) es k u = u_const b (i32 4) k (omega (arith, r)) u
  u_kind b r i risky_copy es k u = u_const b (i32 4) k (omega (arith, r)) u
  u_kind b r i risky_fill es k u = u_const b (i32 4) k (omega (arith, r)) u

  -- no guard
  u_none : (b : ℕ) (k : Nodes) → Roomy b → U (suc b) k → U b (const (i32 0) k)
  u_none b k r u = u_const b (i32 0) k (omega (arith, r)) u

  u_division : (b : ℕ) → Roomy b → (op : BinaryOp) → Divider op → (t : ValType) (es : List Place) (k : Nodes) → U (suc b) k → U b (guard C (Binary t op) es k)
  u_division b r op by_div_s t [] k u = u_none b k r u
  u_division b r op by_div_s t (x ∷ []) k u = u_none b k r u
  u_division b r op by_div_s t (x ∷ a ∷ es) k u = u_signed b r t x a (length es) k u
  u_division b r op by_div_u t [] k u = u_none b k r u
  u_division b r op by_div_u t (x ∷ []) k u = u_none b k r u
  u_division b r op by_div_u t (x ∷ a ∷ es) k u = u_zero b t x (suc (length es)) k (omega (arith, r)) u
  u_division b r op by_rem_s t [] k u = u_none b k r u
  u_division b r op by_rem_s t (x ∷ []) k u = u_none b k r u
  u_division b r op by_rem_s t (x ∷ a ∷ es) k u = u_zero b t x (suc (length es)) k (omega (arith, r)) u
  u_division b r op by_rem_u t [] k u = u_none b k r u
  u_division b r op by_rem_u t (x ∷ []) k u = u_none b k r u
  u_division b r op by_rem_u t (x ∷ a ∷ es) k u = u_zero b t x (suc (length es)) k (omega (arith, r)) u

  u_guard : (b : ℕ) → Roomy b → (i : Basic) → Risky i → (es : List Place) (k : Nodes) → U (suc b) k → U b (guard C i es k)
  u_guard b r i (risky_binary t op by) es k u = u_division b r op by t es k u
  u_guard b r i (risky_load t align o) [] k u = u_none b k r u
  u_guard b r i (risky_load t align o) (a ∷ es) k u = u_memory b r a (length es) (o + load_bits t / 8) k u
  u_guard b r i (risky_store t align o) [] k u = u_none b k r u
  u_guard b r i (risky_store t align o) (v ∷ []) k u = u_none b k r u
  u_guard b r i (risky_store t align o) (v ∷ a ∷ es) k u = u_memory b r a (length es) (o + store_bits t / 8) k u
  u_guard b r i risky_copy [] k u = u_none b k r u
  u_guard b r i risky_copy (n ∷ []) k u = u_none b k r u
  u_guard b r i risky_copy (n ∷ from ∷ []) k u = u_none b k r u
  u_guard b r i risky_copy (n ∷ from ∷ to ∷ es) k u =
      let h = length es in
      let k1 = basic 0 (Binary I32 Or) k in
      let u1 : U (suc (suc b)) k1 = u_basic (suc (suc b)) (Binary I32 Or) (suc b) k (omega (arith, r)) (omega arith) u in
      let k2 = range_test C to h n (suc (suc h)) k1 in
      let u2 : U (suc b) k2 = u_range (suc b) (omega (arith, r)) to h n (suc (suc h)) k1 u1 in
      u_range b (omega (arith, r)) from (suc h) n (suc (suc h)) k2 u2
  u_guard b r i risky_fill [] k u = u_none b k r u
  u_guard b r i risky_fill (n ∷ []) k u = u_none b k r u
  u_guard b r i risky_fill (n ∷ byte ∷ []) k u = u_none b k r u
  u_guard b r i risky_fill (n ∷ byte ∷ to ∷ es) k u = u_range b (omega (arith, r)) to (length es) n (suc (suc (length es))) k u

  u_guarded : (b : ℕ) → Roomy b → (q : Bool) (d : ℕ) (es : List Place) (o : ℕ) (i : Basic) (k : Nodes) → (q ≡ true → can_trap i ≡ true) → U b k → U b (guarded q C d es o i k)
  u_guarded b r false d es o i k t u = u
  u_guarded b r true d es o i k t u =
      u_checked b d es o (number_in C.landings (landing_of (part_of C.locals o) i es)) (guard C i es) (kind C i es) k (omega (arith, r)) (λ k w. u_guard b r i (risk_of i (t refl)) es k w) (λ arm w. u_kind b r i (risk_of i (t refl)) es arm w) u

  -- ---- instructions

  u_free : (b : ℕ) → Roomy b → (o : Option ℕ) (es : List Place) (k : Nodes) → U b k → U b (free_at C o es k)
  u_free b r None es k u = u
  u_free b r (Some x) es k u = u_spill b (λ y. x == y) es k (omega (arith, r)) u

  -- of places with room
  roomy : (es : List Place) → length es ≤ C.slots → Roomy (length es)
  roomy es le = omega (arith, le, room)

  less_minus : (n : ℕ) (es : List Place) → length (less n es) ≡ length es - n
  less_minus zero es = omega arith
  less_minus (suc n) [] = omega arith
  less_minus (suc n) (e ∷ es) = omega (arith, less_minus n es)

  abbrev Rest : List Info → List Place → Nodes → List ValType → Type 0
  Rest ls js rest between = (own : List Place) → map place_type own ≡ between → Room C (own ++ js) rest → U (length (own ++ js)) (rewrite C (length ls) (own ++ js) rest)

  -- so many are there
  there : (own js : List Place) (taken below : List ValType) → map place_type own ≡ taken ++ below → length taken ≤ length (own ++ js)
  there own js taken below e = omega (arith, ap length e, length-append taken below, length-map own place_type, length-append own js)

  u_plain : (ls : List Info) (i : Basic) (own js : List Place) (o : ℕ) (rest : Nodes) (between : List ValType) → Fixed js → BasicTypes (original C ls) i (map place_type own) between → Room C (own ++ js) (basic o i rest) → Rest ls js rest between → U (length (own ++ js)) (plain C (length ls) (own ++ js) o i (passes C rest) (λ es'. rewrite C (length ls) es' rest))
  u_plain ls i own js o rest between f h rm ih =
      let es = own ++ js in
      let b = length es in
      let d = length ls in
      let p = result_place C es i in
      let T = takes_of C ls i own js between h in
      let left = less (takes i) es in
      let own2 = pushed p (freed i T.own1) in
      let conv : after_plain C es i ≡ own2 ++ js = own_behind C i own js T.own1 T.left f in
      let k = rewrite C d (after_plain C es i) rest in
      let k1 : U (length (after_plain C es i)) k = subst (λ z. U (length z) (rewrite C d z rest)) (sym conv) (ih own2 (behind_types C es i T.own1 ∙ T.after) (subst (λ z. Room C z rest) conv rm.3)) in
      let rp : length (option_to_list (option_map place_type p)) ≡ gives_count i = ap (λ z. length (option_to_list z)) (result_is C es i) ∙ ap length (sym T.gives) ∙ gives_len (original C ls) i h.any h.arrow_is h.has in
      let count : length (after_plain C es i) ≡ length (option_to_list (result_type C es i)) + length left = sym (length-map (after_plain C es i) place_type) ∙ ap length (after_types C es i) ∙ length-append (option_to_list (result_type C es i)) (map place_type left) ∙ ap (λ z. length (option_to_list (result_type C es i)) + z) (length-map left place_type) in
      let same : length (option_to_list (result_type C es i)) ≡ gives_count i = ap length (sym T.gives) ∙ gives_len (original C ls) i h.any h.arrow_is h.has in
      let code = keep (passes C rest) C p left k in
      let r = roomy es rm.0 in
      let lm = less_minus (takes i) es in
      let k2 : U (length (option_to_list (option_map place_type p)) + length left) code = u_keep (passes C rest) (length left) p left k (omega (arith, r, lm)) (fewer m N k (length (after_plain C es i)) (length (option_to_list (option_map place_type p)) + length left) (omega (arith, rp, count, same)) k1) in
      let behind = lengthened (grows i) C code in
      let few = at_most_one (option_map place_type p) in
      let k2b : U (length (option_to_list (option_map place_type p)) + length left) behind = lengthened_under m N (grows i) C (length (option_to_list (option_map place_type p)) + length left) code (omega (arith, r, lm, few)) k2 in
      let k3 : U b (basic 0 i behind) = u_basic b i (length (option_to_list (option_map place_type p)) + length left) behind (omega (arith, r)) (omega (arith, rp, lm)) k2b in
      u_guarded b r (needs C o i) d es o i (free C i left (basic 0 i behind)) (needs_trap C o i) (u_free b r (local_written i) left (basic 0 i behind) k3)

  -- ---- calls

  u_result : (pass : Bool) (r : Option ValType) (es : List Place) (k : Nodes) → suc (length es) ≤ N → U (length (grown r es)) k → U (length (option_to_list r) + length es) (keep pass C (option_map Spilled r) es k)
  u_result pass None es k le u = fewer m N k (length es) (0 + length es) (omega arith) u
  u_result pass (Some t) es k le u = fewer m N (keep pass C (Some (Spilled t)) es k) (suc (length es)) (1 + length es) (omega arith) (u_tee pass (length es) t es k le u)

  grown_little : (r : Option ValType) (es : List Place) → length (grown r es) ≤ suc (length es)
  grown_little None es = omega arith
  grown_little (Some t) es = omega arith

  u_after : (q : Bool) (d : ℕ) (r : Option ValType) (es : List Place) (o : ℕ) (rest : Nodes) → length es + 3 ≤ N → U (length (grown r es)) (rewrite C d (grown r es) rest) → U (length (option_to_list r) + length es) (after_direct q C d r es o (passes C rest) (λ es'. rewrite C d es' rest))
  u_after true d r es o rest le u =
      let k = rewrite C d (grown r es) rest in
      u_result (passes C rest) r es (renew_both C k) (omega (arith, le)) (both_under m N C (length (grown r es)) k (omega (arith, le, grown_little r es)) u)
  u_after false d r es o rest le u =
      let k = rewrite C d (grown r es) rest in
      let km = measure (measured C) C k in
      let r2 : length (grown r es) + 2 ≤ N = omega (arith, le, grown_little r es) in
      u_result (passes C rest) r es (test_flag C d es o km) (omega (arith, le)) (u_flag (length (grown r es)) d es o km (omega (arith, r2)) (measure_under m N (measured C) C (length (grown r es)) k r2 u))

  -- what is left behind a call
  abbrev Left : FuncType → List Info → List Place → Nodes → Type 0
  Left type ls es rest = let z = grown (result_of type) (less (length type.params) es) in U (length z) (rewrite C (length ls) z rest)

  u_left : (type : FuncType) (ls : List Info) (own js : List Place) (rest : Nodes) (between below : List ValType) → reverse type.results ≡ option_to_list (result_of type) → map place_type own ≡ reverse type.params ++ below → between ≡ reverse type.results ++ below → Room C (grown (result_of type) (less (length type.params) (own ++ js))) rest → Rest ls js rest between → Left type ls (own ++ js) rest
  u_left type ls own js rest between below one e gives rm ih =
      let r = result_of type in
      let c = cuts (length type.params) own js (reverse type.params) below (length-reverse type.params) e in
      let conv : grown r (less (length type.params) (own ++ js)) ≡ grown r c.own1 ++ js = ap (grown r) c.left ∙ grown-append r c.own1 js in
      subst (λ z. U (length z) (rewrite C (length ls) z rest)) (sym conv) (ih (grown r c.own1) (grown_types r c.own1 below c.types ∙ ap (λ z. z ++ below) (sym one) ∙ sym gives) (subst (λ z. Room C z rest) conv rm))

  results_len : (type : FuncType) → reverse type.results ≡ option_to_list (result_of type) → length type.results ≡ length (option_to_list (result_of type))
  results_len type one = sym (length-reverse type.results) ∙ ap length one

  u_calls : (ls : List Info) (f : ℕ) (own js : List Place) (o : ℕ) (rest : Nodes) (between : List ValType) → JumpTypes (original C ls) (Call f) (map place_type own) between → Room C (own ++ js) (jump o (Call f) rest) → Rest ls js rest between → U (length (own ++ js)) (call_code C (length ls) (own ++ js) o f (type_at C.source f) (passes C rest) (λ es'. rewrite C (length ls) es' rest))
  u_calls ls f own js o rest between h rm ih =
      let type = h.0 in
      let es = own ++ js in
      let n = length type.params in
      let r = result_of type in
      let left = less n es in
      let one = off.one_result f type h.1 in
      let q = nat_lt f (import_count C.source) in
      let fit = roomy es rm.0 in
      let lm = less_minus n es in
      let rm1 = subst (λ q. Room_call C q es (λ es'. Room C es' rest)) h.1 rm.1 in
      let code = after_direct q C (length ls) r left o (passes C rest) (λ es'. rewrite C (length ls) es' rest) in
      let k1 : U (length (option_to_list r) + length left) code = u_after q (length ls) r left o rest (omega (arith, fit, lm)) (u_left type ls own js rest between h.2.below one h.2.takes h.2.gives rm1.1 ih) in
      let k2 : U (length es) (call (mapped C.source f) code) = u_call (length es) (mapped C.source f) type (length (option_to_list r) + length left) code (off.functions f type h.1) (omega (arith, fit)) (omega (arith, results_len type one, lm)) k1 in
      subst (λ q. U (length es) (call_code C (length ls) es o f q (passes C rest) (λ es'. rewrite C (length ls) es' rest))) (sym h.1) k2

  -- the index of an entry is moved, above so many
  u_moved : (h : ℕ) (q : Bool) (k : Nodes) → suc (suc h) ≤ N → U (suc h) k → U (suc h) (past_shown q C k)
  u_moved h false k le u = u
  u_moved h true k le u = u_const (suc h) (i32 (table_min C.source.tables)) (basic 0 (Binary I32 Add) k) (omega (arith, le)) (u_basic (suc (suc h)) (Binary I32 Add) (suc h) k le (omega arith) u)

  u_indirect : (ls : List Info) (t : ℕ) (own js : List Place) (o : ℕ) (rest : Nodes) (between : List ValType) → JumpTypes (original C ls) (CallIndirect t) (map place_type own) between → Room C (own ++ js) (jump o (CallIndirect t) rest) → Rest ls js rest between → U (length (own ++ js)) (indirect_code C (length ls) (own ++ js) o t (slice_get C.source.types t) (λ es'. rewrite C (length ls) es' rest))
  u_indirect ls t [] js o rest between h rm ih = absurd (let e : [] ≡ I32 ∷ (reverse h.0.params ++ h.3.below) = h.3.takes in cc)
  u_indirect ls t (p ∷ own) js o rest between h rm ih =
      let type = h.0 in
      let es = own ++ js in
      let b = suc (length es) in
      let d = length ls in
      let n = length type.params in
      let r = result_of type in
      let left = less n es in
      let one = off.one_result_of t type h.2 in
      let e : place_type p ∷ map place_type own ≡ I32 ∷ (reverse type.params ++ h.3.below) = h.3.takes in
      let tk : map place_type own ≡ reverse type.params ++ h.3.below = cc in
      let enough : n ≤ length es = omega (arith, there own js (reverse type.params) h.3.below tk, length-reverse type.params) in
      let fit = roomy (p ∷ es) rm.0 in
      let twice : suc n + b ≤ N = omega (arith, enough, rm.0, room) in
      let lm = less_minus n es in
      let rm1 = subst (λ q. Room_call C q es (λ es'. Room C es' rest)) h.2 rm.1.1 in
      let next_ = rewrite C d (grown r left) rest in
      let u_next : U (length (grown r left)) next_ = u_left type ls own js rest between h.3.below one tk h.3.gives rm1.1 ih in
      let grown_len : length (grown r left) ≡ length (option_to_list r) + length left = grown_count r left in
      let loaded = reload C r left next_ in
      let back = renew_both C loaded in
      let u_loaded : U (length left) loaded = u_reload (length left) r left next_ (omega (arith, fit, lm)) (fewer m N next_ (length (grown r left)) (length (option_to_list r) + length left) (omega (arith, grown_len)) u_next) in
      let u_back : U (length left) back = both_under m N C (length left) loaded (omega (arith, fit, lm)) u_loaded in
      let u_drop : U b (drops (suc n) back) = fewer m N (drops (suc n) back) (suc n + length left) b (omega (arith, lm, enough)) (u_drops (length left) (suc n) back (omega (arith, lm, enough, fit)) u_back) in
      let others = hand_top C (suc n) (p ∷ es) stop in
      let call_ = jump 0 (CallIndirect t) (store C r left stop) in
      let inner = past_shown (doubles C.source) C call_ in
      let stored : U (length (option_to_list r) + b) (store C r left stop) = u_store b r left stop (omega (arith, fit)) (omega (arith, fit)) in
      let lower : U (length type.results + (suc n + b - 1 - n)) (store C r left stop) = fewer m N (store C r left stop) (length (option_to_list r) + b) (length type.results + (suc n + b - 1 - n)) (omega (arith, results_len type one)) stored in
      let u_call_ : U (suc n + b) call_ = (twice, subst (λ q. Under_call q (suc n + b - 1) (λ j. Under m N j (store C r left stop))) (sym (off.types t type h.2)) lower) in
      let u_past : U (suc (n + b)) inner = u_moved (n + b) (doubles C.source) call_ (omega (arith, enough, rm.0, room)) (fewer m N call_ (suc n + b) (suc (n + b)) (omega arith) u_call_) in
      let u_inner : U (suc n + b) inner = fewer m N inner (suc (n + b)) (suc n + b) (omega arith) u_past in
      let arm : U b (load C (suc n) (p ∷ es) inner) = u_load (suc n) (p ∷ es) b inner twice u_inner in
      let both : U b (test_both C d left o others (drops (suc n) back)) = u_both b d left o others (drops (suc n) back) fit (u_hand_top b (suc n) (p ∷ es) stop (omega (arith, fit)) (omega (arith, fit))) u_drop in
      let tested_ = if_any (load C (suc n) (p ∷ es) inner) (test_both C d left o others (drops (suc n) back)) in
      let u1 : U (suc b) tested_ = u_if b (load C (suc n) (p ∷ es) inner) (test_both C d left o others (drops (suc n) back)) (omega (arith, fit)) arm both in
      let u2 : U (suc b) (basic 0 (Eqz I32) tested_) = u_basic (suc b) (Eqz I32) (suc b) tested_ (omega (arith, fit)) (omega arith) u1 in
      let tail = set C (kind_at C) (get C (kind_at C) (basic 0 (Eqz I32) tested_)) in
      let u3 : U (suc b) tail = u_set b (kind_at C) (get C (kind_at C) (basic 0 (Eqz I32) tested_)) (omega (arith, fit)) (u_get b (kind_at C) (basic 0 (Eqz I32) tested_) (omega (arith, fit)) u2) in
      let called : U (suc b) (call (helper_of C t) tail) = u_call (suc b) (helper_of C t) helper_type (suc b) tail (off.helpers t rm.1.0) (omega (arith, fit)) (omega arith) u3 in
      let all : U b (indirect_code C d (p ∷ es) o t (Some type) (λ es'. rewrite C d es' rest)) = u_fetch b p (length es) (call (helper_of C t) tail) (omega (arith, fit)) called in
      subst (λ q. U b (indirect_code C d (p ∷ es) o t q (λ es'. rewrite C d es' rest))) (sym h.2) all
    where
      grown_count : (r : Option ValType) (es : List Place) → length (grown r es) ≡ length (option_to_list r) + length es
      grown_count None es = omega arith
      grown_count (Some t) es = omega arith

  -- ---- the nodes

  u_branch_if : (ls : List Info) (l : ℕ) (own js : List Place) (o : ℕ) (rest : Nodes) (between : List ValType) → JumpTypes (original C ls) (BrIf l) (map place_type own) between → Room C (own ++ js) (jump o (BrIf l) rest) → Rest ls js rest between → U (length (own ++ js)) (jump 0 (BrIf l) (rewrite C (length ls) (less 1 (own ++ js)) rest))
  u_branch_if ls l [] js o rest between h rm ih = absurd (let e : [] ≡ I32 ∷ (h.0 ++ h.2.below) = h.2.takes in cc)
  u_branch_if ls l (p ∷ own) js o rest between h rm ih =
      let e : place_type p ∷ map place_type own ≡ I32 ∷ (h.0 ++ h.2.below) = h.2.takes in
      let below : map place_type own ≡ h.0 ++ h.2.below = cc in
      let es = own ++ js in
      (omega (arith, rm.0, room), fewer m N (rewrite C (length ls) es rest) (length es) (suc (length es) - 1) (omega arith) (ih own (below ∙ sym h.2.gives) rm.1))

  u_behind : (ls : List Info) (t : Option ValType) (own js : List Place) (rest : Nodes) (before : List ValType) → map place_type own ≡ before → suc (length (own ++ js)) ≤ N → Room C (grown t (own ++ js)) rest → Rest ls js rest (option_to_list t ++ before) → U (length (option_to_list t) + length (own ++ js)) (with_result C t (own ++ js) (passes C rest) (λ es'. rewrite C (length ls) es' rest))
  u_behind ls t own js rest before e le rm ih =
      let conv = grown-append t own js in
      let u = subst (λ z. U (length z) (rewrite C (length ls) z rest)) (sym conv) (ih (grown t own) (grown_types t own before e) (subst (λ z. Room C z rest) conv rm)) in
      u_result (passes C rest) t (own ++ js) (rewrite C (length ls) (grown t (own ++ js)) rest) le u

  u_rewrite : (nodes : Nodes) (ls : List Info) (own js : List Place) (before after : List ValType) → map place_type own ≡ before → Fixed js → Room C (own ++ js) nodes → Types (original C ls) nodes before after → U (length (own ++ js)) (rewrite C (length ls) (own ++ js) nodes)
  u_rewrite stop ls own js before after e f rm ty = omega (arith, rm, room)
  u_rewrite (basic o i rest) ls own js before after e f rm ty =
      u_plain ls i own js o rest ty.0 f (subst (λ z. BasicTypes (original C ls) i z ty.0) (sym e) ty.1) rm (λ own' e' rm'. u_rewrite rest ls own' js ty.0 after e' f rm' ty.2)
  u_rewrite (jump o Unreachable rest) ls own js before after e f rm ty =
      let b = length (own ++ js) in
      let r = roomy (own ++ js) rm.0 in
      let k : U b (jump 0 Unreachable stop) = (omega (arith, r), tt) in
      u_const b (i32 1) (tested C (length ls) (own ++ js) o (const (i32 1)) (jump 0 Unreachable stop)) (omega (arith, r))
      (u_tested b (length ls) (own ++ js) o (const (i32 1)) (jump 0 Unreachable stop) (omega (arith, r)) (λ arm w. u_const b (i32 1) arm (omega (arith, r)) w) k)
  u_rewrite (jump o (Br l) rest) ls own js before after e f rm ty = (omega (arith, rm.0, room), tt)
  u_rewrite (jump o (BrIf l) rest) ls own js before after e f rm ty =
      u_branch_if ls l own js o rest ty.0 (subst (λ z. JumpTypes (original C ls) (BrIf l) z ty.0) (sym e) ty.1) rm (λ own' e' rm'. u_rewrite rest ls own' js ty.0 after e' f rm' ty.2)
  u_rewrite (jump o (BrTable ts d) rest) ls own js before after e f rm ty = (omega (arith, rm.0, room), tt)
  u_rewrite (jump o Return rest) ls own js before after e f rm ty = (omega (arith, rm.0, room), tt)
  u_rewrite (jump o (Call g) rest) ls own js before after e f rm ty =
      u_calls ls g own js o rest ty.0 (subst (λ z. JumpTypes (original C ls) (Call g) z ty.0) (sym e) ty.1) rm (λ own' e' rm'. u_rewrite rest ls own' js ty.0 after e' f rm' ty.2)
  u_rewrite (jump o (CallIndirect t) rest) ls own js before after e f rm ty =
      u_indirect ls t own js o rest ty.0 (subst (λ z. JumpTypes (original C ls) (CallIndirect t) z ty.0) (sym e) ty.1) rm (λ own' e' rm'. u_rewrite rest ls own' js ty.0 after e' f rm' ty.2)
  u_rewrite (block o t inner end rest) ls own js before after e f rm ty =
      let es = own ++ js in
      let d = length ls in
      let u = under own in
      let sp : under es ≡ u ++ js = without_append (λ x. true) own js f in
      let fu : Fixed (u ++ js) = subst Fixed sp (fixed_under es) in
      let len : length (u ++ js) ≡ length es = ap length (sym sp) ∙ length-map es (uncopied (λ x. true)) in
      let r = roomy es rm.0 in
      let a : U (length (u ++ js)) (rewrite C (suc d) (u ++ js) inner) = u_rewrite inner (in_block t ∷ ls) [] (u ++ js) [] (option_to_list t) refl fu (subst (λ z. Room C z inner) sp rm.1) ty.0 in
      let c : U (length (option_to_list t) + length (u ++ js)) (with_result C t (u ++ js) (passes C rest) (λ es'. rewrite C d es' rest)) = u_behind ls t u js rest before (without_types (λ x. true) own ∙ e) (omega (arith, len, r)) (subst (λ z. Room C (grown t z) rest) sp rm.3) (λ own' e' rm'. u_rewrite rest ls own' js (option_to_list t ++ before) after e' f rm' ty.1) in
      let code = λ (z : List Place). block 0 t (rewrite C (suc d) z inner) 0 (with_result C t z (passes C rest) (λ es'. rewrite C d es' rest)) in
      let k : U (length (u ++ js)) (code (u ++ js)) = (omega (arith, len, r), a, c) in
      let k1 : U (length es) (code (u ++ js)) = fewer m N (code (u ++ js)) (length (u ++ js)) (length es) (omega (arith, len)) k in
      u_spill (length es) (λ x. true) es (code (under es)) (omega (arith, r)) (subst (λ z. U (length es) (code z)) (sym sp) k1)
  u_rewrite (loop o t inner end rest) ls own js before after e f rm ty =
      let es = own ++ js in
      let d = length ls in
      let u = under own in
      let sp : under es ≡ u ++ js = without_append (λ x. true) own js f in
      let fu : Fixed (u ++ js) = subst Fixed sp (fixed_under es) in
      let len : length (u ++ js) ≡ length es = ap length (sym sp) ∙ length-map es (uncopied (λ x. true)) in
      let r = roomy es rm.0 in
      let a : U (length (u ++ js)) (rewrite C (suc d) (u ++ js) inner) = u_rewrite inner (in_loop t ∷ ls) [] (u ++ js) [] (option_to_list t) refl fu (subst (λ z. Room C z inner) sp rm.1) ty.0 in
      let c : U (length (option_to_list t) + length (u ++ js)) (with_result C t (u ++ js) (passes C rest) (λ es'. rewrite C d es' rest)) = u_behind ls t u js rest before (without_types (λ x. true) own ∙ e) (omega (arith, len, r)) (subst (λ z. Room C (grown t z) rest) sp rm.3) (λ own' e' rm'. u_rewrite rest ls own' js (option_to_list t ++ before) after e' f rm' ty.1) in
      let code = λ (z : List Place). loop 0 t (rewrite C (suc d) z inner) 0 (with_result C t z (passes C rest) (λ es'. rewrite C d es' rest)) in
      let k : U (length (u ++ js)) (code (u ++ js)) = (omega (arith, len, r), a, c) in
      let k1 : U (length es) (code (u ++ js)) = fewer m N (code (u ++ js)) (length (u ++ js)) (length es) (omega (arith, len)) k in
      u_spill (length es) (λ x. true) es (code (under es)) (omega (arith, r)) (subst (λ z. U (length es) (code z)) (sym sp) k1)
  u_rewrite (choose o t x ea y end rest) ls [] js before after e f rm ty = absurd (let z : [] ≡ I32 ∷ ty.2 = e ∙ ty.3 in cc)
  u_rewrite (choose o t x ea y end rest) ls (p ∷ own) js before after e f rm ty =
      let z : place_type p ∷ map place_type own ≡ I32 ∷ ty.2 = e ∙ ty.3 in
      let below : map place_type own ≡ ty.2 = cc in
      let es = own ++ js in
      let d = length ls in
      let u = under own in
      let sp : under es ≡ u ++ js = without_append (λ x. true) own js f in
      let fu : Fixed (u ++ js) = subst Fixed sp (fixed_under es) in
      let len : length (u ++ js) ≡ length es = ap length (sym sp) ∙ length-map es (uncopied (λ x. true)) in
      let r = roomy (p ∷ es) rm.0 in
      let a : U (length (u ++ js)) (rewrite C (suc d) (u ++ js) x) = u_rewrite x (in_block t ∷ ls) [] (u ++ js) [] (option_to_list t) refl fu (subst (λ z. Room C z x) sp rm.1) ty.0 in
      let b : U (length (u ++ js)) (rewrite C (suc d) (u ++ js) y) = u_rewrite y (in_block t ∷ ls) [] (u ++ js) [] (option_to_list t) refl fu (subst (λ z. Room C z y) sp rm.2) ty.1 in
      let c : U (length (option_to_list t) + length (u ++ js)) (with_result C t (u ++ js) (passes C rest) (λ es'. rewrite C d es' rest)) = u_behind ls t u js rest ty.2 (without_types (λ x. true) own ∙ below) (omega (arith, len, r)) (subst (λ z. Room C (grown t z) rest) sp rm.4) (λ own' e' rm'. u_rewrite rest ls own' js (option_to_list t ++ ty.2) after e' f rm' ty.4) in
      let code = λ (z : List Place). choose 0 t (rewrite C (suc d) z x) (option_map (λ at. 0) ea) (rewrite C (suc d) z y) 0 (with_result C t z (passes C rest) (λ es'. rewrite C d es' rest)) in
      let n1 = suc (length es) - 1 in
      let k : U (suc (length es)) (code (u ++ js)) = (
        omega (arith, r),
        fewer m N (rewrite C (suc d) (u ++ js) x) (length (u ++ js)) n1 (omega (arith, len)) a,
        fewer m N (rewrite C (suc d) (u ++ js) y) (length (u ++ js)) n1 (omega (arith, len)) b,
        fewer m N (with_result C t (u ++ js) (passes C rest) (λ es'. rewrite C d es' rest)) (length (option_to_list t) + length (u ++ js)) (length (option_to_list t) + n1) (omega (arith, len)) c,
      ) in
      u_spill (suc (length es)) (λ x. true) es (code (under es)) (omega (arith, r)) (subst (λ z. U (suc (length es)) (code z)) (sym sp) k)

  -- ---- bodies

  u_locals : (x : ℕ) (ts : List ValType) (k : Nodes) → U 0 k → U 0 (hand_locals C x ts k)
  u_locals x [] k u = u
  u_locals x (t ∷ ts) k u = (omega arith, u_value 0 t (hand_locals C (suc x) ts k) (omega (arith, room)) (u_locals (suc x) ts k u))

  -- at most two operands
  u_derives : (i : Basic) (k : Nodes) → Deriving i → U 1 k → U 2 (basic 0 i k)
  u_derives i k (compares t op) u = u_basic 2 i 1 k (omega (arith, room)) (omega arith) u
  u_derives i k (combines t op) u = u_basic 2 i 1 k (omega (arith, room)) (omega arith) u

  u_worked : (ds : List Derivation) (k : Nodes) → AllByRecursion (Fitting C.locals) ds → U 0 k → U 0 (worked_out ds k)
  u_worked [] k fit u = u
  u_worked (d ∷ ds) k fit u =
      let rest = worked_out ds k in
      let k2 = basic 0 (LocalSet d.made) rest in
      let k1 = basic 0 d.instruction k2 in
      let u3 : U 1 k2 = u_basic 1 (LocalSet d.made) 0 rest (omega (arith, room)) (omega arith) (u_worked ds k fit.1 u) in
      let u2 : U 2 k1 = u_derives d.instruction k2 (derived_by d.instruction fit.0.derives) u3 in
      let u1 : U 1 (basic 0 (LocalGet d.right) k1) = u_basic 1 (LocalGet d.right) 2 k1 (omega (arith, room)) (omega arith) u2 in
      u_basic 0 (LocalGet d.left) 1 (basic 0 (LocalGet d.right) k1) (omega arith) (omega arith) u1

  u_zero_result : (r : Option ValType) → U 0 (zero_result r (jump 0 Return stop))
  u_zero_result None = (omega arith, tt)
  u_zero_result (Some t) = (omega arith, (omega (arith, room), tt))

  u_exit_code : AllByRecursion (Fitting C.locals) C.derivations → U 0 (exit_code C)
  u_exit_code fit =
      let raised = raise_flag C (zero_result C.result (jump 0 Return stop)) in
      let u : U 0 raised = (omega arith, (omega (arith, room), u_zero_result C.result)) in
      let called : U 4 (call (frame_import C.source) raised) = u_call 4 (frame_import C.source) frame_type 0 raised off.frames (omega (arith, room)) (omega arith) u in
      let handed = get C (kind_at C) (const (i32 C.index) (get C (offset_at C) (const (i32 (length C.locals)) (call (frame_import C.source) raised)))) in
      u_worked C.derivations (hand_locals C 0 C.locals handed) fit (u_locals 0 C.locals handed (omega arith, (omega (arith, room), (omega (arith, room), (omega (arith, room), called)))))

  u_returned : (r : Option ValType) → U (length (option_to_list r)) (jump 0 Return stop)
  u_returned None = (omega arith, tt)
  u_returned (Some t) = (omega (arith, room), tt)

  -- ---- landings

  u_out : (b n : ℕ) → b ≤ N → U b (jump 0 (Br n) stop)
  u_out b n le = (le, tt)

  u_landing : (n : ℕ) (x : Landing) → U (length (option_to_list x.carried)) (landing_code C n x)
  u_landing n x = above x.carried
    where
      above : (r : Option ValType) → U (length (option_to_list r)) (const (i32 x.kind) (set C (kind_at C) (hand C x.places (hand_carried C r (jump 0 (Br n) stop)))))
      above None =
          let k = hand C x.places (jump 0 (Br n) stop) in
          u_const 0 (i32 x.kind) (set C (kind_at C) k) (omega arith) (u_set 0 (kind_at C) k (omega (arith, room)) (u_hand 0 x.places (jump 0 (Br n) stop) (omega (arith, room)) (u_out 0 n (omega arith))))
      above (Some t) =
          let out = hand_value C t (jump 0 (Br n) stop) in
          let k = hand C x.places out in
          u_const 1 (i32 x.kind) (set C (kind_at C) k) (omega (arith, room)) (u_set 1 (kind_at C) k (omega (arith, room)) (u_hand 1 x.places out (omega (arith, room)) (u_value 0 t (jump 0 (Br n) stop) (omega (arith, room)) (u_out 0 n (omega arith)))))

  u_nested : (xs : List Landing) (inner : Nodes) → U 0 inner → U 0 (nested C xs inner)
  u_nested [] inner u = u
  u_nested (x ∷ xs) inner u =
      let c = length (option_to_list x.carried) in
      let k = landing_code C (length xs) x in
      u_nested xs (block 0 x.carried inner 0 k) (omega arith, u, fewer m N k c (c + 0) (omega arith) (u_landing (length xs) x))

  u_laid : (nodes : Nodes) → AllByRecursion (Fitting C.locals) C.derivations → Room C [] nodes → Types (original C (in_body C.result ∷ [])) nodes [] (option_to_list C.result) → U 0 (laid C nodes)
  u_laid nodes fit rm ty =
      let a = u_rewrite nodes (in_body C.result ∷ []) [] [] [] (option_to_list C.result) refl tt rm ty in
      let core = block 0 C.result (rewrite C 1 [] nodes) 0 (jump 0 Return stop) in
      let u : U 0 (blocks C nodes) = (omega arith, u_nested C.landings core (omega arith, a, fewer m N (jump 0 Return stop) (length (option_to_list C.result)) (length (option_to_list C.result) + 0) (omega arith) (u_returned C.result)), u_exit_code fit) in
      measure_under m N (measured C) C 0 (blocks C nodes) (omega (arith, room)) u

pub u_body : (C : Ctx) (m : Module) (locals : List ValType) → Offers C m locals → (N : ℕ) → 2 * C.slots + 16 ≤ N → (nodes : Nodes) → Room C [] nodes → Types (original C (in_body C.result ∷ [])) nodes [] (option_to_list C.result) → Under m N 0 (body C nodes)
u_body C m locals off N room nodes rm ty =
    let os = exposed_in C.source.memories nodes in
    let xs = landings_from (landed C os [] []) [] nodes [] in
    let ds = derived_for C.source C.index C.locals nodes in
    u_laid (landed C os xs ds) m locals (offers_landed C m locals os xs ds off) N room nodes (derived_fit C.source C.index C.locals nodes) (room_landed C os xs ds [] nodes rm) ty

-- ---- helpers

module _ (m : Module) (N : ℕ) (room : 16 ≤ N) where
  says_under : (kind : ℕ) → Under m N 0 (const (i32 kind) (jump 0 Return stop))
  says_under kind = (omega arith, (omega (arith, room), tt))

  pub helper_under : (source : Module) (t : ℕ) → Under m N 0 (helper source t)
  helper_under source t = (omega arith, (omega arith, (omega arith, (omega arith, (omega arith, (omega (arith, room), tt)), says_under 0), says_under 5), says_under 6), says_under 7)
