-- How deep blocks are nested in rewritten code.
use Rattle.rewrite_bodies.proofs.Laid.{few_landings}
use Rattle.rewrite_bodies.specs.calls.Landings.{number_of, number_in, landing_of, landing_behind, with_landings, landed, part_of}
use Rattle.std.proofs.Common.{◌≡◌, ℕ, zero, suc, ◌+◌, List, [], ◌∷◌, length, Option, Some, None, Bool, true, false, nat_lt, if◌then◌else◌, ◌==◌, refl, ap, slice_get, option_map, ◌/◌, ◌-◌, ◌≤◌, max, map, ◌∙◌, arith, subst}
use Rattle.wasm_syntax.specs.declared.value.ValType.{ValType}
use Rattle.wasm_syntax.specs.declared.parts.Limits.{Limits}
use Rattle.wasm_syntax.specs.declared.instruction.Basic.{Basic}
use Rattle.wasm_syntax.specs.declared.parts.FuncType.{FuncType}
use Rattle.wasm_syntax.specs.declared.module.ModuleParts.{ModuleParts as Module}
use Rattle.wasm_syntax.specs.Tree.{Jump, Unreachable, Br, BrIf, BrTable, Return, Call, CallIndirect, Nodes, stop, basic, jump, block, loop, choose, Plain, Goes, Opens, OpensLoop, OpensIf, Else, End, Item, Placed, placed, else_out, write, written, item_of, code_of}
use Rattle.wasm_syntax.specs.Module.{type_at}
use Rattle.wasm_syntax.specs.Effect.{takes}
use Rattle.wasm_syntax.specs.Machine.{result_of}
use Rattle.rewrite_modules.specs.calls.Bare.{bare_nodes}
use Rattle.wasm_syntax.specs.Access.{load_bits, store_bits}
use Rattle.int_ops.specs.declared.operators.Binary.{Binary as BinaryOp}
use Rattle.int_ops.specs.declared.operators.Binary.TheVariants.{Add, And, Or}
use Rattle.int_ops.specs.declared.operators.Compare.TheVariants.{Eq, GtS}
use Rattle.wasm_syntax.specs.declared.instruction.Convert.TheVariants.{ExtendU}
use Rattle.wasm_syntax.specs.declared.instruction.Basic.TheVariants.{Select, LocalGet, Eqz, Compare, Binary, Convert}
use Rattle.wasm_syntax.specs.declared.value.ValType.TheVariants.{I32, I64}
use Rattle.rewrite_bodies.specs.Numbering.{import_count, mapped, frame_import, global_types, doubles}
use Rattle.rewrite_bodies.specs.calls.Slots.{Place, place_type, Ctx, slot, kind_at, offset_at, less, grown, under, result_place, after_plain, Spilled, Known, Copied, Landing, local_written, measured, Derivation}
use Rattle.rewrite_bodies.specs.calls.Pieces.{get, set, const, i32, call, if_any, fetch, load, keep_slot, keep, store, reload, spill_one, spill, drops}
use Rattle.rewrite_bodies.specs.calls.Guards.{least, minus_one, guard_zero, guard_signed, past_end, beyond_word, out_test, guard_memory, range_test, guard, can_trap, kind, helper, renewed, measure, renew_both}
use Rattle.rewrite_bodies.specs.calls.Rewrite.{hand_value, hand, hand_top, to_exit, unwind, test_flag, test_both, unwind_kind, tested, guarded, passes, free, plain, with_result, after_call, after_direct, call_code, helper_of, past_shown, indirect_code, control, rewrite, hand_locals, zero_result, raise_flag, exit_code, body, checked, get_flag, hand_carried, landing_code, nested, laid, free_at, grows, lengthened, blocks, worked_out}
use Rattle.rewrite_modules.specs.calls.Wrappers.{get_all, tell_globals, after_wrapped, wrapper}
use Rattle.wasm_syntax.specs.declared.instruction.Instr.{Instr}
use Rattle.wasm_syntax.specs.declared.instruction.Instr.TheVariants as instrs
use Rattle.wasm_syntax.specs.declared.instruction.Op.{Op}
use Rattle.wasm_syntax.specs.declared.parts.Body.{Body}
use Rattle.wasm_syntax.specs.declared.parts.LocalGroup.{LocalGroup}
use Rattle.wasm_syntax.specs.Tree.{Tree}
use Rattle.wasm_syntax.specs.Sizes.{depth_behind, deepest, nesting, parameter_count}
use Rattle.rewrite_modules.specs.calls.FlatCode.{body_of}
use Rattle.rewrite_modules.proofs.FlatOut.{body_out}
use Rattle.rewrite_bodies.proofs.Risks.{risk_of}
use Rattle.wasm_syntax.specs.calls.Classes.{Divider, by_div_s, by_div_u, by_rem_s, by_rem_u, Risky, risky_binary, risky_load, risky_store, risky_copy, risky_fill}
use Rattle.rewrite_bodies.specs.calls.Facts.{needs, exposed_in}
use Rattle.rewrite_bodies.proofs.FactLaws.{needs_trap}

-- at most so many blocks are open at once inside the nodes
abbrev pub Low : ℕ → Nodes → Type 0
Low n stop = Unit {0}
Low n (basic at i rest) = Low n rest
Low n (jump at j rest) = Low n rest
Low zero (block at t inner end rest) = ⊥
Low (suc n) (block at t inner end rest) = Low n inner × Low (suc n) rest
Low zero (loop at t inner end rest) = ⊥
Low (suc n) (loop at t inner end rest) = Low n inner × Low (suc n) rest
Low zero (choose at t a else_at b end rest) = ⊥
Low (suc n) (choose at t a else_at b end rest) = Low n a × Low n b × Low (suc n) rest

-- ---- the flat code

abbrev open_behind : ℕ → Item → ℕ
open_behind k (Plain i) = k
open_behind k (Goes j) = k
open_behind k (Opens t) = suc k
open_behind k (OpensLoop t) = suc k
open_behind k (OpensIf t) = suc k
open_behind k Else = k
open_behind k End = k - 1

abbrev most_open : ℕ → List Placed → ℕ
most_open k [] = k
most_open k (x ∷ xs) = max k (most_open (open_behind k x.code) xs)

same_open : (T : List ℕ) (k : ℕ) (i : Instr) → depth_behind k i ≡ open_behind k (item_of T i)
same_open T k (instrs.Basic i) = refl
same_open T k (instrs.Jump j) = refl
same_open T k (instrs.Block t) = refl
same_open T k (instrs.Loop t) = refl
same_open T k (instrs.If t) = refl
same_open T k instrs.Else = refl
same_open T k instrs.End = refl

pub same_most : (T : List ℕ) (k : ℕ) (ops : List Op) → deepest k (map (λ o. o.code) ops) ≡ most_open k (code_of T ops)
same_most T k [] = refl
same_most T k (o ∷ ops) = ap (max k) (ap (λ z. deepest z (map (λ o. o.code) ops)) (same_open T k o.code) ∙ same_most T (open_behind k (item_of T o.code)) ops)

at_least : (k : ℕ) (xs : List Placed) → k ≤ most_open k xs
at_least k [] = omega arith
at_least k (x ∷ xs) = omega arith

-- what is open at most, from the flat code
pub low_of : (nodes : Nodes) (after : List Placed) (k d : ℕ) → most_open k (write nodes after) ≤ k + d → Low d nodes × (most_open k after ≤ k + d)
low_of stop after k d h = (tt, h)
low_of (basic at i rest) after k d h = low_of rest after k d (omega (arith, h))
low_of (jump at j rest) after k d h = low_of rest after k d (omega (arith, h))
low_of (block at t inner end rest) after k zero h = absurd (omega (arith, h, at_least (suc k) (write inner (placed end End ∷ write rest after))))
low_of (block at t inner end rest) after k (suc d) h =
    let a = low_of inner (placed end End ∷ write rest after) (suc k) d (omega (arith, h)) in
    let z : suc k - 1 ≡ k = omega arith in
    let e = ap (λ j. most_open j (write rest after)) z in
    let b = low_of rest after k (suc d) (omega (arith, a.1, e)) in
    ((a.0, b.0), b.1)
low_of (loop at t inner end rest) after k zero h = absurd (omega (arith, h, at_least (suc k) (write inner (placed end End ∷ write rest after))))
low_of (loop at t inner end rest) after k (suc d) h =
    let a = low_of inner (placed end End ∷ write rest after) (suc k) d (omega (arith, h)) in
    let z : suc k - 1 ≡ k = omega arith in
    let e = ap (λ j. most_open j (write rest after)) z in
    let b = low_of rest after k (suc d) (omega (arith, a.1, e)) in
    ((a.0, b.0), b.1)
low_of (choose at t x ea y end rest) after k zero h = absurd (omega (arith, h, at_least (suc k) (write x (else_out ea (write y (placed end End ∷ write rest after))))))
low_of (choose at t x ea y end rest) after k (suc d) h =
    let a = low_of x (else_out ea (write y (placed end End ∷ write rest after))) (suc k) d (omega (arith, h)) in
    let b = low_of y (placed end End ∷ write rest after) (suc k) d (behind ea a.1) in
    let z : suc k - 1 ≡ k = omega arith in
    let e = ap (λ j. most_open j (write rest after)) z in
    let c = low_of rest after k (suc d) (omega (arith, b.1, e)) in
    ((a.0, b.0, c.0), c.1)
  where
    behind : (ea : Option ℕ) → most_open (suc k) (else_out ea (write y (placed end End ∷ write rest after))) ≤ suc k + d → most_open (suc k) (write y (placed end End ∷ write rest after)) ≤ suc k + d
    behind None h = h
    behind (Some at) h = omega (arith, h)

-- and back
pub low_out : (nodes : Nodes) (after : List Placed) (k d : ℕ) → Low d nodes → most_open k after ≤ k + d → most_open k (write nodes after) ≤ k + d
low_out stop after k d h le = le
low_out (basic at i rest) after k d h le = omega (arith, low_out rest after k d h le)
low_out (jump at j rest) after k d h le = omega (arith, low_out rest after k d h le)
low_out (block at t inner end rest) after k zero h le = absurd h
low_out (block at t inner end rest) after k (suc d) h le =
    let z : suc k - 1 ≡ k = omega arith in
    let e = ap (λ j. most_open j (write rest after)) z in
    let r = low_out rest after k (suc d) h.1 le in
    let a = low_out inner (placed end End ∷ write rest after) (suc k) d h.0 (omega (arith, e, r)) in
    omega (arith, a)
low_out (loop at t inner end rest) after k zero h le = absurd h
low_out (loop at t inner end rest) after k (suc d) h le =
    let z : suc k - 1 ≡ k = omega arith in
    let e = ap (λ j. most_open j (write rest after)) z in
    let r = low_out rest after k (suc d) h.1 le in
    let a = low_out inner (placed end End ∷ write rest after) (suc k) d h.0 (omega (arith, e, r)) in
    omega (arith, a)
low_out (choose at t x ea y end rest) after k zero h le = absurd h
low_out (choose at t x ea y end rest) after k (suc d) h le =
    let z : suc k - 1 ≡ k = omega arith in
    let e = ap (λ j. most_open j (write rest after)) z in
    let r = low_out rest after k (suc d) h.2 le in
    let b = low_out y (placed end End ∷ write rest after) (suc k) d h.1 (omega (arith, e, r)) in
    let a = low_out x (else_out ea (write y (placed end End ∷ write rest after))) (suc k) d h.0 (behind ea b) in
    omega (arith, a)
  where
    behind : (ea : Option ℕ) → most_open (suc k) (write y (placed end End ∷ write rest after)) ≤ suc k + d → most_open (suc k) (else_out ea (write y (placed end End ∷ write rest after))) ≤ suc k + d
    behind None h = h
    behind (Some at) h = omega (arith, h)

low_bare : (d : ℕ) (nodes : Nodes) → Low d nodes → Low d (bare_nodes nodes)
low_bare d stop h = tt
low_bare d (basic at i rest) h = low_bare d rest h
low_bare d (jump at j rest) h = low_bare d rest h
low_bare zero (block at t inner end rest) h = absurd h
low_bare (suc d) (block at t inner end rest) h = (low_bare d inner h.0, low_bare (suc d) rest h.1)
low_bare zero (loop at t inner end rest) h = absurd h
low_bare (suc d) (loop at t inner end rest) h = (low_bare d inner h.0, low_bare (suc d) rest h.1)
low_bare zero (choose at t a ea b end rest) h = absurd h
low_bare (suc d) (choose at t a ea b end rest) h = (low_bare d a h.0, low_bare d b h.1, low_bare (suc d) rest h.2)

-- of a body with few open blocks, and back
pub body_low : (body : Body) (tree : Tree) (d : ℕ) → code_of body.targets body.ops ≡ written tree → nesting body ≤ d → Low d tree.nodes
body_low body tree d out le = (low_of tree.nodes (placed tree.end End ∷ []) 0 d (omega (arith, le, same_most body.targets 0 body.ops, ap (most_open 0) out))).0

pub low_nesting : (groups : List LocalGroup) (nodes : Nodes) (d : ℕ) → Low d nodes → nesting (body_of groups nodes) ≤ d
low_nesting groups nodes d h =
    let b = body_of groups nodes in
    let last : most_open 0 (placed 0 End ∷ []) ≤ 0 + d = omega arith in
    let m = low_out (bare_nodes nodes) (placed 0 End ∷ []) 0 d (low_bare d nodes h) last in
    omega (arith, m, same_most b.targets 0 b.ops, ap (most_open 0) (body_out groups nodes))

-- ---- rewritten code

-- the length of the memory is set
low_renewed : (lv : ℕ) (ls : List Limits) (src : Module) (k : Nodes) → Low lv k → Low lv (renewed ls src k)
low_renewed lv [] src k tk = tk
low_renewed lv (l ∷ ls) src k tk = tk

module _ (C : Ctx) where
  low_fetch : (lv : ℕ) (e : Place) (h : ℕ) (k : Nodes) → Low lv k → Low lv (fetch C e h k)
  low_fetch lv (Spilled t) h k tk = tk
  low_fetch lv (Known v) h k tk = tk
  low_fetch lv (Copied t x) h k tk = tk

  low_load : (lv : ℕ) (m : ℕ) (es : List Place) (k : Nodes) → Low lv k → Low lv (load C m es k)
  low_load lv zero es k tk = tk
  low_load lv (suc m) [] k tk = tk
  low_load lv (suc m) (e ∷ es) k tk = low_load lv m es (fetch C e (length es) k) (low_fetch lv e (length es) k tk)

  low_store : (lv : ℕ) (t : Option ValType) (es : List Place) (k : Nodes) → Low lv k → Low lv (store C t es k)
  low_store lv None es k tk = tk
  low_store lv (Some t) es k tk = tk

  low_keep_slot : (lv : ℕ) (pass : Bool) (t : ValType) (es : List Place) (k : Nodes) → Low lv k → Low lv (keep_slot pass C t es k)
  low_keep_slot lv true t es k tk = tk
  low_keep_slot lv false t es k tk = tk

  low_keep : (lv : ℕ) (pass : Bool) (q : Option Place) (es : List Place) (k : Nodes) → Low lv k → Low lv (keep pass C q es k)
  low_keep lv pass None es k tk = tk
  low_keep lv pass (Some (Spilled t)) es k tk = low_keep_slot lv pass t es k tk
  low_keep lv pass (Some (Known v)) es k tk = tk
  low_keep lv pass (Some (Copied t x)) es k tk = tk

  low_reload : (lv : ℕ) (t : Option ValType) (es : List Place) (k : Nodes) → Low lv k → Low lv (reload C t es k)
  low_reload lv None es k tk = tk
  low_reload lv (Some t) es k tk = tk

  low_drops : (lv : ℕ) (m : ℕ) (k : Nodes) → Low lv k → Low lv (drops m k)
  low_drops lv zero k tk = tk
  low_drops lv (suc m) k tk = low_drops lv m k tk

  low_if : (lv : ℕ) (q : Bool) (a b : Nodes) → Low lv a → Low lv b → Low lv (if q then a else b)
  low_if lv true a b x y = x
  low_if lv false a b x y = y

  low_spill_one : (lv : ℕ) (these : ℕ → Bool) (e : Place) (h : ℕ) (k : Nodes) → Low lv k → Low lv (spill_one C these e h k)
  low_spill_one lv these (Spilled t) h k tk = tk
  low_spill_one lv these (Known v) h k tk = tk
  low_spill_one lv these (Copied t x) h k tk = low_if lv (these x) (basic 0 (LocalGet x) (set C (slot C.slots t h) k)) k tk tk

  low_spill : (lv : ℕ) (these : ℕ → Bool) (es : List Place) (k : Nodes) → Low lv k → Low lv (spill C these es k)
  low_spill lv these [] k tk = tk
  low_spill lv these (e ∷ es) k tk = low_spill lv these es (spill_one C these e (length es) k) (low_spill_one lv these e (length es) k tk)

  low_hand : (lv : ℕ) (es : List Place) (k : Nodes) → Low lv k → Low lv (hand C es k)
  low_hand lv [] k tk = tk
  low_hand lv (e ∷ es) k tk = low_hand lv es (fetch C e (length es) (hand_value C (place_type e) k)) (low_fetch lv e (length es) (hand_value C (place_type e) k) tk)

  low_unwind : (lv : ℕ) (ls : ℕ) (es : List Place) (o : ℕ) → Low lv (unwind C ls es o)
  low_unwind lv ls es o = low_hand lv es (to_exit C ls) tt

  low_tested : (d : ℕ) (ls : ℕ) (es : List Place) (o : ℕ) (says_kind : Nodes → Nodes) (k : Nodes) → ((arm : Nodes) → Low (suc d) arm → Low (suc d) (says_kind arm)) → Low (suc (suc d)) k → Low (suc (suc d)) (tested C ls es o says_kind k)
  low_tested d ls es o says_kind k says tk = (says (unwind_kind C ls es o) (low_unwind (suc d) ls es o), tt, tk)

  low_checked : (d : ℕ) (q : Option ℕ) (ls : ℕ) (es : List Place) (o : ℕ) (test says_kind : Nodes → Nodes) (k : Nodes) → ((k : Nodes) → Low (suc (suc d)) k → Low (suc (suc d)) (test k)) → ((arm : Nodes) → Low (suc d) arm → Low (suc d) (says_kind arm)) → Low (suc (suc d)) k → Low (suc (suc d)) (checked q C ls es o test says_kind k)
  low_checked d None ls es o test says_kind k tests says tk = tests (tested C ls es o says_kind k) (low_tested d ls es o says_kind k says tk)
  low_checked d (Some n) ls es o test says_kind k tests says tk = tests (jump 0 (BrIf (ls + n)) k) tk

  low_flag : (d : ℕ) (ls : ℕ) (es : List Place) (o : ℕ) (k : Nodes) → Low (suc (suc d)) k → Low (suc (suc d)) (test_flag C ls es o k)
  low_flag d ls es o k tk = low_checked d (number_of (landing_behind (part_of C.locals o) es) C.landings) ls es o (get_flag C) (const (i32 0)) k (λ k w. w) (λ arm w. w) tk

  -- ---- guards

  low_zero : (lv : ℕ) (t : ValType) (b : Place) (h : ℕ) (k : Nodes) → Low lv k → Low lv (guard_zero C t b h k)
  low_zero lv t b h k tk = low_fetch lv b h (basic 0 (Eqz t) k) tk

  low_signed : (lv : ℕ) (t : ValType) (b a : Place) (h : ℕ) (k : Nodes) → Low lv k → Low lv (guard_signed C t b a h k)
  low_signed lv t b a h k tk =
      let k5 = basic 0 (Binary I32 Or) k in
      let k3 = const (minus_one t) (basic 0 (Compare t Eq) (basic 0 (Binary I32 And) (guard_zero C t b (suc h) k5))) in
      low_fetch lv a h (const (least t) (basic 0 (Compare t Eq) (fetch C b (suc h) k3))) (low_fetch lv b (suc h) k3 (low_zero lv t b (suc h) k5 tk))

  low_memory : (lv : ℕ) (a : Place) (h n : ℕ) (k : Nodes) → Low lv k → Low lv (guard_memory C a h n k)
  low_memory lv a h n k tk = low_fetch lv a h (out_test C n k) (low_beyond (n == 4) tk)
    where
      low_beyond : (q : Bool) → Low lv k → Low lv (beyond_word q n (basic 0 (Compare I64 GtS) k))
      low_beyond true t = t
      low_beyond false t = t

  low_range : (lv : ℕ) (a : Place) (h : ℕ) (n : Place) (hn : ℕ) (k : Nodes) → Low lv k → Low lv (range_test C a h n hn k)
  low_range lv a h n hn k tk =
      let k2 = basic 0 (Convert ExtendU) (basic 0 (Binary I64 Add) (past_end C k)) in
      low_fetch lv a h (basic 0 (Convert ExtendU) (fetch C n hn k2)) (low_fetch lv n hn k2 tk)

  low_kind_division : (lv : ℕ) (op : BinaryOp) → Divider op → (t : ValType) (es : List Place) (k : Nodes) → Low lv k → Low lv (kind C (Binary t op) es k)
  low_kind_division lv op by_div_s t [] k tk = tk
  low_kind_division lv op by_div_s t (b ∷ []) k tk = tk
  low_kind_division lv op by_div_s t (b ∷ a ∷ es) k tk = low_zero lv t b (suc (length es)) (basic 0 Select k) tk
  low_kind_division lv op by_div_u t es k tk = tk
  low_kind_division lv op by_rem_s t es k tk = tk
  low_kind_division lv op by_rem_u t es k tk = tk

  low_kind : (lv : ℕ) (i : Basic) → Risky i → (es : List Place) (k : Nodes) → Low lv k → Low lv (kind C i es k)
  low_kind lv i (risky_binary t op by) es k tk = low_kind_division lv op by t es k tk
  low_kind lv i (risky_load l al of) es k tk = tk
  low_kind lv i (risky_store l al of) es k tk = tk
  low_kind lv i risky_copy es k tk = tk
  low_kind lv i risky_fill es k tk = tk

  low_division : (lv : ℕ) (op : BinaryOp) → Divider op → (t : ValType) (es : List Place) (k : Nodes) → Low lv k → Low lv (guard C (Binary t op) es k)
  low_division lv op by_div_s t [] k tk = tk
  low_division lv op by_div_s t (b ∷ []) k tk = tk
  low_division lv op by_div_s t (b ∷ a ∷ es) k tk = low_signed lv t b a (length es) k tk
  low_division lv op by_div_u t [] k tk = tk
  low_division lv op by_div_u t (b ∷ []) k tk = tk
  low_division lv op by_div_u t (b ∷ a ∷ es) k tk = low_zero lv t b (suc (length es)) k tk
  low_division lv op by_rem_s t [] k tk = tk
  low_division lv op by_rem_s t (b ∷ []) k tk = tk
  low_division lv op by_rem_s t (b ∷ a ∷ es) k tk = low_zero lv t b (suc (length es)) k tk
  low_division lv op by_rem_u t [] k tk = tk
  low_division lv op by_rem_u t (b ∷ []) k tk = tk
  low_division lv op by_rem_u t (b ∷ a ∷ es) k tk = low_zero lv t b (suc (length es)) k tk

  low_guard : (lv : ℕ) (i : Basic) → Risky i → (es : List Place) (k : Nodes) → Low lv k → Low lv (guard C i es k)
  low_guard lv i (risky_binary t op by) es k tk = low_division lv op by t es k tk
  low_guard lv i (risky_load t align o) [] k tk = tk
  low_guard lv i (risky_load t align o) (a ∷ es) k tk = low_memory lv a (length es) (o + load_bits t / 8) k tk
  low_guard lv i (risky_store t align o) [] k tk = tk
  low_guard lv i (risky_store t align o) (v ∷ []) k tk = tk
  low_guard lv i (risky_store t align o) (v ∷ a ∷ es) k tk = low_memory lv a (length es) (o + store_bits t / 8) k tk
  low_guard lv i risky_copy [] k tk = tk
  low_guard lv i risky_copy (n ∷ []) k tk = tk
  low_guard lv i risky_copy (n ∷ from ∷ []) k tk = tk
  low_guard lv i risky_copy (n ∷ from ∷ to ∷ es) k tk =
      let h = length es in
      let k2 = basic 0 (Binary I32 Or) k in
      low_range lv from (suc h) n (suc (suc h)) (range_test C to h n (suc (suc h)) k2) (low_range lv to h n (suc (suc h)) k2 tk)
  low_guard lv i risky_fill [] k tk = tk
  low_guard lv i risky_fill (n ∷ []) k tk = tk
  low_guard lv i risky_fill (n ∷ byte ∷ []) k tk = tk
  low_guard lv i risky_fill (n ∷ byte ∷ to ∷ es) k tk = low_range lv to (length es) n (suc (suc (length es))) k tk

  low_guarded : (d : ℕ) (q : Bool) (ls : ℕ) (es : List Place) (o : ℕ) (i : Basic) (k : Nodes) → (q ≡ true → can_trap i ≡ true) → Low (suc (suc d)) k → Low (suc (suc d)) (guarded q C ls es o i k)
  low_guarded d false ls es o i k t tk = tk
  low_guarded d true ls es o i k t tk =
      low_checked d (number_in C.landings (landing_of (part_of C.locals o) i es)) ls es o (guard C i es) (kind C i es) k (λ k w. low_guard (suc (suc d)) i (risk_of i (t refl)) es k w) (λ arm w. low_kind (suc d) i (risk_of i (t refl)) es arm w) tk

  -- ---- instructions

  abbrev AllLow : ℕ → (List Place → Nodes) → Type 0
  AllLow d go = (es : List Place) → Low (suc (suc d)) (go es)

  low_free : (lv : ℕ) (o : Option ℕ) (es : List Place) (k : Nodes) → Low lv k → Low lv (free_at C o es k)
  low_free lv None es k tk = tk
  low_free lv (Some x) es k tk = low_spill lv (λ y. x == y) es k tk

  low_measure : (lv : ℕ) (q : Bool) (k : Nodes) → Low lv k → Low lv (measure q C k)
  low_measure lv false k tk = tk
  low_measure lv true k tk = tk

  low_both_set : (lv : ℕ) (k : Nodes) → Low lv k → Low lv (renew_both C k)
  low_both_set lv k tk = low_renewed lv C.source.memories C.source (measure (measured C) C k) (low_measure lv (measured C) k tk)

  low_lengthened : (lv : ℕ) (q : Bool) (k : Nodes) → Low lv k → Low lv (lengthened q C k)
  low_lengthened lv false k tk = tk
  low_lengthened lv true k tk = low_measure lv (measured C) k tk

  low_plain : (d : ℕ) (ls : ℕ) (es : List Place) (o : ℕ) (i : Basic) (pass : Bool) (go : List Place → Nodes) → AllLow d go → Low (suc (suc d)) (plain C ls es o i pass go)
  low_plain d ls es o i pass go h =
      let left = less (takes i) es in
      let k1 = go (after_plain C es i) in
      let kept = keep pass C (result_place C es i) left k1 in
      let k2 = basic 0 i (lengthened (grows i) C kept) in
      low_guarded d (needs C o i) ls es o i (free C i left k2) (needs_trap C o i) (low_free (suc (suc d)) (local_written i) left k2 (low_lengthened (suc (suc d)) (grows i) kept (low_keep (suc (suc d)) pass (result_place C es i) left k1 (h (after_plain C es i)))))

  -- ---- control

  low_hand_top : (lv : ℕ) (m : ℕ) (es : List Place) (k : Nodes) → Low lv k → Low lv (hand_top C m es k)
  low_hand_top lv zero es k tk = tk
  low_hand_top lv (suc m) [] k tk = tk
  low_hand_top lv (suc m) (e ∷ es) k tk = low_hand_top lv m es (fetch C e (length es) (hand_value C (place_type e) k)) (low_fetch lv e (length es) (hand_value C (place_type e) k) tk)

  low_both : (d : ℕ) (ls : ℕ) (es : List Place) (o : ℕ) (others k : Nodes) → Low d others → Low (suc (suc d)) k → Low (suc (suc d)) (test_both C ls es o others k)
  low_both d ls es o others k to tk = (low_hand (suc d) es (get C (kind_at C) (if_any others (to_exit C ls))) (to, tt, tt), tt, tk)

  low_result : (d : ℕ) (r : Option ValType) (es : List Place) (pass : Bool) (go : List Place → Nodes) → AllLow d go → Low (suc (suc d)) (with_result C r es pass go)
  low_result d r es pass go h = low_keep (suc (suc d)) pass (option_map Spilled r) es (go (grown r es)) (h (grown r es))

  low_after : (d : ℕ) (ls : ℕ) (r : Option ValType) (es : List Place) (o : ℕ) (pass : Bool) (go : List Place → Nodes) → AllLow d go → Low (suc (suc d)) (after_call C ls r es o pass go)
  low_after d ls r es o pass go h = low_result d r es pass (λ es'. test_flag C ls es o (measure (measured C) C (go es'))) (λ es'. low_flag d ls es o (measure (measured C) C (go es')) (low_measure (suc (suc d)) (measured C) (go es') (h es')))

  low_direct : (d : ℕ) (q : Bool) (ls : ℕ) (r : Option ValType) (es : List Place) (o : ℕ) (pass : Bool) (go : List Place → Nodes) → AllLow d go → Low (suc (suc d)) (after_direct q C ls r es o pass go)
  low_direct d true ls r es o pass go h = low_result d r es pass (λ es'. renew_both C (go es')) (λ es'. low_both_set (suc (suc d)) (go es') (h es'))
  low_direct d false ls r es o pass go h = low_after d ls r es o pass go h

  low_call : (d : ℕ) (q : Option FuncType) (ls : ℕ) (es : List Place) (o f : ℕ) (pass : Bool) (go : List Place → Nodes) → AllLow d go → Low (suc (suc d)) (call_code C ls es o f q pass go)
  low_call d None ls es o f pass go h = tt
  low_call d (Some type) ls es o f pass go h = low_direct d (nat_lt f (import_count C.source)) ls (result_of type) (less (length type.params) es) o pass go h

  low_past : (d : ℕ) (q : Bool) (k : Nodes) → Low d k → Low d (past_shown q C k)
  low_past d false k h = h
  low_past d true k h = h

  low_indirect : (d : ℕ) (q : Option FuncType) (ls : ℕ) (es : List Place) (o t : ℕ) (go : List Place → Nodes) → AllLow d go → Low (suc (suc d)) (indirect_code C ls es o t q go)
  low_indirect d None ls es o t go h = tt
  low_indirect d (Some type) ls [] o t go h = tt
  low_indirect d (Some type) ls (i ∷ es) o t go h =
      let n = length type.params in
      let left = less n es in
      let r = result_of type in
      let others = hand_top C (suc n) (i ∷ es) stop in
      let loaded = reload C r left (go (grown r left)) in
      let back = renew_both C loaded in
      let next_ = drops (suc n) back in
      let call_ = jump 0 (CallIndirect t) (store C r left stop) in
      let inner = past_shown (doubles C.source) C call_ in
      let k1 = set C (kind_at C) (get C (kind_at C) (basic 0 (Eqz I32) (if_any (load C (suc n) (i ∷ es) inner) (test_both C ls left o others next_)))) in
      let low_back = low_drops (suc (suc d)) (suc n) back (low_both_set (suc (suc d)) loaded (low_reload (suc (suc d)) r left (go (grown r left)) (h (grown r left)))) in
      low_fetch (suc (suc d)) i (length es) (call (helper_of C t) k1)
      (low_load (suc d) (suc n) (i ∷ es) inner (low_past (suc d) (doubles C.source) call_ (low_store (suc d) r left stop tt)), tt, low_both d ls left o others next_ (low_hand_top d (suc n) (i ∷ es) stop tt) low_back)

  low_control : (d : ℕ) (j : Jump) (ls : ℕ) (es : List Place) (o : ℕ) (pass : Bool) (go : List Place → Nodes) → AllLow d go → Low (suc (suc d)) (control C ls es o j pass go)
  low_control d Unreachable ls es o pass go h = low_tested d ls es o (const (i32 1)) (jump 0 Unreachable stop) (λ arm w. w) tt
  low_control d (Br l) ls es o pass go h = tt
  low_control d (BrIf l) ls es o pass go h = h (less 1 es)
  low_control d (BrTable ts default) ls es o pass go h = tt
  low_control d Return ls es o pass go h = tt
  low_control d (Call f) ls es o pass go h = low_call d (type_at C.source f) ls es o f pass go h
  low_control d (CallIndirect t) ls es o pass go h = low_indirect d (slice_get C.source.types t) ls es o t go h

  -- ---- the nodes

  low_rewrite : (d : ℕ) (nodes : Nodes) (ls : ℕ) (es : List Place) → Low d nodes → Low (suc (suc d)) (rewrite C ls es nodes)
  low_rewrite d stop ls es h = tt
  low_rewrite d (basic o i rest) ls es h = low_plain d ls es o i (passes C rest) (λ es'. rewrite C ls es' rest) (λ es'. low_rewrite d rest ls es' h)
  low_rewrite d (jump o j rest) ls es h = low_control d j ls es o (passes C rest) (λ es'. rewrite C ls es' rest) (λ es'. low_rewrite d rest ls es' h)
  low_rewrite zero (block o t inner en rest) ls es h = absurd h
  low_rewrite (suc d) (block o t inner en rest) ls es h =
      low_spill (suc (suc (suc d))) (λ x. true) es (block 0 t (rewrite C (suc ls) (under es) inner) 0 (with_result C t (under es) (passes C rest) (λ es'. rewrite C ls es' rest)))
      (low_rewrite d inner (suc ls) (under es) h.0, low_result (suc d) t (under es) (passes C rest) (λ es'. rewrite C ls es' rest) (λ es'. low_rewrite (suc d) rest ls es' h.1))
  low_rewrite zero (loop o t inner en rest) ls es h = absurd h
  low_rewrite (suc d) (loop o t inner en rest) ls es h =
      low_spill (suc (suc (suc d))) (λ x. true) es (loop 0 t (rewrite C (suc ls) (under es) inner) 0 (with_result C t (under es) (passes C rest) (λ es'. rewrite C ls es' rest)))
      (low_rewrite d inner (suc ls) (under es) h.0, low_result (suc d) t (under es) (passes C rest) (λ es'. rewrite C ls es' rest) (λ es'. low_rewrite (suc d) rest ls es' h.1))
  low_rewrite zero (choose o t a ea b en rest) ls es h = absurd h
  low_rewrite (suc d) (choose o t a ea b en rest) ls es h =
      let left = under (less 1 es) in
      low_spill (suc (suc (suc d))) (λ x. true) (less 1 es)
      (choose 0 t (rewrite C (suc ls) left a) (option_map (λ at. 0) ea) (rewrite C (suc ls) left b) 0 (with_result C t left (passes C rest) (λ es'. rewrite C ls es' rest)))
      (low_rewrite d a (suc ls) left h.0, low_rewrite d b (suc ls) left h.1, low_result (suc d) t left (passes C rest) (λ es'. rewrite C ls es' rest) (λ es'. low_rewrite (suc d) rest ls es' h.2))

  -- ---- the exit

  low_locals : (lv : ℕ) (x : ℕ) (ts : List ValType) (k : Nodes) → Low lv k → Low lv (hand_locals C x ts k)
  low_locals lv x [] k tk = tk
  low_locals lv x (t ∷ ts) k tk = low_locals lv (suc x) ts k tk

  low_worked : (lv : ℕ) (ds : List Derivation) (k : Nodes) → Low lv k → Low lv (worked_out ds k)
  low_worked lv [] k tk = tk
  low_worked lv (d ∷ ds) k tk = low_worked lv ds k tk

  low_zero_result : (lv : ℕ) (r : Option ValType) (k : Nodes) → Low lv k → Low lv (zero_result r k)
  low_zero_result lv None k tk = tk
  low_zero_result lv (Some t) k tk = tk

  low_exit : (lv : ℕ) → Low lv (exit_code C)
  low_exit lv =
      let k9 = zero_result C.result (jump 0 Return stop) in
      let handed = get C (kind_at C) (const (i32 C.index) (get C (offset_at C) (const (i32 (length C.locals)) (call (frame_import C.source) (raise_flag C k9))))) in
      low_worked lv C.derivations (hand_locals C 0 C.locals handed) (low_locals lv 0 C.locals handed (low_zero_result lv C.result (jump 0 Return stop) tt))

  low_landing : (lv n : ℕ) (x : Landing) → Low lv (landing_code C n x)
  low_landing lv n x = low_hand lv x.places (hand_carried C x.carried (jump 0 (Br n) stop)) (carried x.carried)
    where
      carried : (r : Option ValType) → Low lv (hand_carried C r (jump 0 (Br n) stop))
      carried None = tt
      carried (Some t) = tt

  -- each landing has a block
  low_nested : (xs : List Landing) (lv t : ℕ) (inner : Nodes) → t ≡ length xs + lv → Low lv inner → Low t (nested C xs inner)
  low_nested [] lv t inner e h = let z : lv ≡ t = omega (arith, e) in subst (λ n. Low n inner) z h
  low_nested (x ∷ xs) lv t inner e h = low_nested xs (suc lv) t (block 0 x.carried inner 0 (landing_code C (length xs) x)) (omega (arith, e)) (h, low_landing (suc lv) (length xs) x)

  low_laid : (d : ℕ) (nodes : Nodes) → Low d nodes → Low (suc (length C.landings + suc (suc (suc d)))) (laid C nodes)
  low_laid d nodes h =
      low_measure (suc (length C.landings + suc (suc (suc d)))) (measured C) (blocks C nodes)
      (low_nested C.landings (suc (suc (suc d))) (length C.landings + suc (suc (suc d))) (block 0 C.result (rewrite C 1 [] nodes) 0 (jump 0 Return stop)) refl (low_rewrite d nodes 1 [] h, tt), low_exit (suc (length C.landings + suc (suc (suc d)))))

-- within more blocks
low_more : (nodes : Nodes) (a b : ℕ) → a ≤ b → Low a nodes → Low b nodes
low_more stop a b le h = tt
low_more (basic at i rest) a b le h = low_more rest a b le h
low_more (jump at j rest) a b le h = low_more rest a b le h
low_more (block at t inner end rest) zero b le h = absurd h
low_more (block at t inner end rest) (suc a) zero le h = absurd (omega (arith, le))
low_more (block at t inner end rest) (suc a) (suc b) le h = (low_more inner a b (omega (arith, le)) h.0, low_more rest (suc a) (suc b) le h.1)
low_more (loop at t inner end rest) zero b le h = absurd h
low_more (loop at t inner end rest) (suc a) zero le h = absurd (omega (arith, le))
low_more (loop at t inner end rest) (suc a) (suc b) le h = (low_more inner a b (omega (arith, le)) h.0, low_more rest (suc a) (suc b) le h.1)
low_more (choose at t x ea y end rest) zero b le h = absurd h
low_more (choose at t x ea y end rest) (suc a) zero le h = absurd (omega (arith, le))
low_more (choose at t x ea y end rest) (suc a) (suc b) le h = (low_more x a b (omega (arith, le)) h.0, low_more y a b (omega (arith, le)) h.1, low_more rest (suc a) (suc b) le h.2)

pub low_body : (C : Ctx) (d : ℕ) (nodes : Nodes) → Low d nodes → Low (24 + d) (body C nodes)
low_body C d nodes h =
    let D = with_landings C nodes in
    let few = few_landings (landed C (exposed_in C.source.memories nodes) [] []) [] nodes [] (omega arith) in
    low_more (body C nodes) (suc (length D.landings + suc (suc (suc d)))) (24 + d) (omega (arith, few)) (low_laid D d nodes h)

-- ---- wrappers and helpers

low_get : (lv : ℕ) (x n : ℕ) (k : Nodes) → Low lv k → Low lv (get_all x n k)
low_get lv x zero k tk = tk
low_get lv x (suc n) k tk = low_get lv (suc x) n k tk

low_globals : (lv : ℕ) (m : Module) (x : ℕ) (ts : List ValType) (k : Nodes) → Low lv k → Low lv (tell_globals m x ts k)
low_globals lv m x [] k tk = tk
low_globals lv m x (t ∷ ts) k tk = low_globals lv m (suc x) ts k tk

pub low_wrapper : (lv : ℕ) (m : Module) (f : ℕ) → Low (suc lv) (wrapper m f)
low_wrapper lv m f =
    let n = parameter_count (type_at m f) in
    let k = call (mapped m f) (after_wrapped m) in
    low_renewed (suc lv) m.memories m (get_all 0 n k) (low_get (suc lv) 0 n k (low_globals lv m 0 (global_types m) _ tt, tt, tt))

pub low_helper : (lv : ℕ) (m : Module) (t : ℕ) → Low (suc (suc (suc (suc lv)))) (helper m t)
low_helper lv m t = ((((tt, tt), tt), tt), tt)
