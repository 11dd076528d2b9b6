-- The bytes of rewritten code.
use Rattle.rewrite_bodies.proofs.Charges.{charge, charge_behind}
use Rattle.rewrite_bodies.specs.calls.Landings.{number_of, landing_behind, part_of}
use Rattle.std.proofs.Common.{◌≡◌, ℕ, zero, suc, ◌+◌, ◌*◌, ◌/◌, ◌%◌, ◌^◌, ◌<◌, ◌≤◌, ◌==◌, nat_lt, List, [], ◌∷◌, ◌++◌, length, Option, Some, None, option_map, Bool, true, false, refl, arith, take, if◌then◌else◌}
use Rattle.std.specs.Int.{w32, w64, cast_signed}
use Rattle.std.proofs.lemmas.Bool.{ltb-false}
use Rattle.std.proofs.Math.Nat.{div-lt_iff_lt-mul}
use Rattle.wasm_leb.specs.Writing.{unsigned_groups, unsigned_bytes, signed_groups, signed_bytes}
use Rattle.wasm_syntax.specs.declared.value.ValType.{ValType}
use Rattle.wasm_syntax.specs.declared.value.ValType.TheVariants.{I32, I64}
use Rattle.wasm_syntax.specs.declared.value.Value.{Value}
use Rattle.wasm_syntax.specs.declared.value.Value.TheVariants as values
use Rattle.int_ops.specs.declared.operators.Binary.{Binary as BinaryOp}
use Rattle.int_ops.specs.declared.operators.Binary.TheVariants.{Add, And, Or, Shl, Sub}
use Rattle.int_ops.specs.declared.operators.Compare.TheVariants.{Eq, GtU, GtS}
use Rattle.wasm_syntax.specs.declared.instruction.Convert.TheVariants.{ExtendU}
use Rattle.wasm_syntax.specs.declared.instruction.Basic.{Basic}
use Rattle.wasm_syntax.specs.declared.instruction.Basic.TheVariants.{Select, LocalGet, LocalSet, LocalTee, GlobalGet, GlobalSet, Eqz, Compare, Binary, Convert}
use Rattle.wasm_syntax.specs.declared.parts.Limits.{Limits}
use Rattle.wasm_syntax.specs.declared.module.ModuleParts.{ModuleParts as Module}
use Rattle.wasm_syntax.specs.Access.{load_bits, store_bits}
use Rattle.wasm_syntax.specs.Tree.{Br, Nodes, stop, basic, jump, BrIf}
use Rattle.rewrite_bodies.specs.Numbering.{import_count, flag_of}
use Rattle.rewrite_bodies.specs.calls.Slots.{Place, Spilled, Known, Copied, place_type, Ctx, slot, kind_at, offset_at, less, pushed, grown, without, length_at, measured}
use Rattle.rewrite_bodies.specs.calls.Pieces.{get, set, const, i32, call, if_any, fetch, load, keep_slot, keep, store, reload, spill_one, spill, drops}
use Rattle.rewrite_bodies.specs.calls.Guards.{less_word, least, minus_one, guard_zero, guard_signed, past_end, beyond_word, out_test, guard_memory, range_test, guard_copy, guard_fill, guard, kind_signed, kind, length_of, get_length, set_length, renewed, measure, renew_both}
use Rattle.rewrite_bodies.specs.calls.Rewrite.{hand_value, hand, hand_top, to_exit, unwind, unwind_kind, hand_left, test_flag, test_both, checked, get_flag, lengthened}
use Rattle.rewrite_bodies.specs.calls.Agreement.{FitsIn}
use Rattle.rewrite_bodies.specs.calls.Length.{code_length, FewNumbers}
use Rattle.wasm_leb.proofs.Lengths.{ten_bytes, ten_signed}
use Rattle.rewrite_bodies.proofs.Risks.{Deriving, compares, combines}
use Rattle.wasm_syntax.specs.calls.Classes.{Divider, by_div_s, by_div_u, by_rem_s, by_rem_u, Risky, risky_binary, risky_load, risky_store, risky_copy, risky_fill}

-- ---- numbers

-- so many groups of seven bits
abbrev groups_hold : ℕ → ℕ
groups_hold zero = 128
groups_hold (suc b) = groups_hold b * 128

unsigned_few : (b k n : ℕ) → b ≤ k → n < groups_hold b → length (unsigned_groups k n) ≤ suc b
unfolding unsigned_groups
unsigned_few zero zero n le lt = omega arith
unsigned_few zero (suc k) n le lt = by_test (nat_lt n 128) refl
  where
    by_test : (q : Bool) → nat_lt n 128 ≡ q → length (if q then n ∷ [] else (n % 128 + 128) ∷ unsigned_groups k (n / 128)) ≤ 1
    by_test true e = omega arith
    by_test false e = absurd (let z = ltb-false n 128 e in omega (arith, z, lt))
unsigned_few (suc b) zero n le lt = absurd (omega (arith, le))
unsigned_few (suc b) (suc k) n le lt = by_test (nat_lt n 128) (unsigned_few b k (n / 128) (omega (arith, le)) ((div-lt_iff_lt-mul {k = 128} {x = n} {y = groups_hold b} (omega arith)).1 lt))
  where
    by_test : (q : Bool) → length (unsigned_groups k (n / 128)) ≤ suc b → length (if q then n ∷ [] else (n % 128 + 128) ∷ unsigned_groups k (n / 128)) ≤ suc (suc b)
    by_test true r = omega arith
    by_test false r = omega (arith, r)

four_bytes : (n : ℕ) → n < 2 ^ 28 → length (unsigned_bytes n) ≤ 4
unfolding unsigned_bytes
four_bytes n lt = unsigned_few 3 9 n (omega arith) lt

pub len_const : (v : Value) (k : Nodes) → code_length (const v k) ≤ 11 + code_length k
len_const (values.I32 n) k = let s = ten_signed (cast_signed w32 n) in omega (arith, s)
len_const (values.I64 n) k = let s = ten_signed (cast_signed w64 n) in omega (arith, s)

pub len_call : (f : ℕ) (k : Nodes) → code_length (call f k) ≤ 11 + code_length k
len_call f k = let s = ten_bytes f in omega (arith, s)

pub len_global_get : (x : ℕ) (k : Nodes) → code_length (basic 0 (GlobalGet x) k) ≤ 11 + code_length k
len_global_get x k = let s = ten_bytes x in omega (arith, s)

pub len_global_set : (x : ℕ) (k : Nodes) → code_length (basic 0 (GlobalSet x) k) ≤ 11 + code_length k
len_global_set x k = let s = ten_bytes x in omega (arith, s)

-- the global of the length is set, behind what may have changed it
len_sixteen : (k : Nodes) → code_length (const (values.I64 16) k) ≡ 2 + code_length k
unfolding signed_bytes signed_groups
len_sixteen k = refl

len_four : (k : Nodes) → code_length (const (values.I64 4) k) ≡ 2 + code_length k
unfolding signed_bytes signed_groups
len_four k = refl

pub len_set_length : (src : Module) (k : Nodes) → code_length (set_length src k) ≤ 20 + code_length k
len_set_length src k =
    let k1 = basic 0 (GlobalSet (length_of src)) k in
    let k2 = basic 0 (Binary I64 Sub) k1 in
    let k3 = const (values.I64 4) k2 in
    let a = len_global_set (length_of src) k in
    let b = len_sixteen (basic 0 (Binary I64 Shl) k3) in
    let c = len_four k2 in
    omega (arith, a, b, c)

pub len_renewed : (ls : List Limits) (src : Module) (k : Nodes) → code_length (renewed ls src k) ≤ 20 + code_length k
len_renewed [] src k = omega arith
len_renewed (l ∷ ls) src k = len_set_length src k

pub len_derives : (i : Basic) (k : Nodes) → Deriving i → code_length (basic 0 i k) ≡ 1 + code_length k
len_derives i k (compares t op) = refl
len_derives i k (combines t op) = refl

pub len_branch : (l : ℕ) → code_length (jump 0 (Br l) stop) ≤ 11
len_branch l = let s = ten_bytes l in omega (arith, s)

-- ---- places

-- the bytes that fetch an operand
abbrev pub cost : Place → ℕ
cost (Spilled t) = 5
cost (Known v) = 11
cost (Copied t x) = 11

abbrev pub costs : List Place → ℕ
costs [] = 0
costs (e ∷ es) = cost e + costs es

-- how many are in no slot
abbrev pub one_known : Place → ℕ
one_known (Spilled t) = 0
one_known (Known v) = 1
one_known (Copied t x) = 1

abbrev pub known : List Place → ℕ
known [] = 0
known (e ∷ es) = one_known e + known es

cost_most : (e : Place) → cost e ≤ 11
cost_most (Spilled t) = omega arith
cost_most (Known v) = omega arith
cost_most (Copied t x) = omega arith

pub costs_most : (es : List Place) → costs es ≤ 11 * length es
costs_most [] = omega arith
costs_most (e ∷ es) = let a = cost_most e in let b = costs_most es in omega (arith, a, b)

-- fetched twice, handed over once and dropped
pub costs_twice : (es : List Place) → 2 * costs es + 6 * length es ≤ 16 * length es + 12 * known es
costs_twice [] = omega arith
costs_twice (e ∷ es) = by e (costs_twice es)
  where
    by : (e : Place) → 2 * costs es + 6 * length es ≤ 16 * length es + 12 * known es → 2 * (cost e + costs es) + 6 * suc (length es) ≤ 16 * suc (length es) + 12 * (one_known e + known es)
    by (Spilled t) h = omega (arith, h)
    by (Known v) h = omega (arith, h)
    by (Copied t x) h = omega (arith, h)

pub known-append : (a b : List Place) → known (a ++ b) ≡ known a + known b
known-append [] b = omega arith
known-append (e ∷ a) b = omega (arith, known-append a b)

pub known_parts : (n : ℕ) (es : List Place) → known (take n es) + known (less n es) ≡ known es
known_parts zero es = omega arith
known_parts (suc n) [] = omega arith
known_parts (suc n) (e ∷ es) = omega (arith, known_parts n es)

pub length_parts : (n : ℕ) (es : List Place) → length (take n es) + length (less n es) ≡ length es
length_parts zero es = omega arith
length_parts (suc n) [] = omega arith
length_parts (suc n) (e ∷ es) = omega (arith, length_parts n es)

pub length_taken : (n : ℕ) (es : List Place) → length (take n es) ≤ n
length_taken zero es = omega arith
length_taken (suc n) [] = omega arith
length_taken (suc n) (e ∷ es) = omega (arith, length_taken n es)

pub known_grown : (t : Option ValType) (es : List Place) → known (grown t es) ≡ known es
known_grown None es = refl
known_grown (Some t) es = omega arith

pub known_pushed : (p : Option Place) (es : List Place) → known (pushed p es) ≤ 1 + known es
known_pushed None es = omega arith
known_pushed (Some (Spilled t)) es = omega arith
known_pushed (Some (Known v)) es = omega arith
known_pushed (Some (Copied t x)) es = omega arith

pub known_without : (these : ℕ → Bool) (es : List Place) → known (without these es) ≤ known es
known_without these [] = omega arith
known_without these (Spilled t ∷ es) = let z = known_without these es in omega (arith, z)
known_without these (Known v ∷ es) = let z = known_without these es in omega (arith, z)
known_without these (Copied t x ∷ es) = let a = one_less (these x) in let z = known_without these es in omega (arith, a, z)
  where
    one_less : (q : Bool) → one_known (if q then Spilled t else Copied t x) ≤ 1
    one_less true = omega arith
    one_less false = omega arith

module _ (C : Ctx) (few : FewNumbers C) where
  local_four : (x : ℕ) → x < 2 * C.slots + 5 → length (unsigned_bytes (length C.locals + x)) ≤ 4
  local_four x lt = four_bytes (length C.locals + x) (omega (arith, few.locals, lt))

  -- a local of the original
  pub len_get_own : (x : ℕ) (k : Nodes) → x < length C.locals → code_length (basic 0 (LocalGet x) k) ≤ 5 + code_length k
  len_get_own x k lt = let s = four_bytes x (omega (arith, few.locals, lt)) in omega (arith, s)

  pub len_set_own : (x : ℕ) (k : Nodes) → x < length C.locals → code_length (basic 0 (LocalSet x) k) ≤ 5 + code_length k
  len_set_own x k lt = let s = four_bytes x (omega (arith, few.locals, lt)) in omega (arith, s)

  pub len_get : (x : ℕ) (k : Nodes) → x < 2 * C.slots + 5 → code_length (get C x k) ≤ 5 + code_length k
  len_get x k lt = let s = local_four x lt in omega (arith, s)

  pub len_set : (x : ℕ) (k : Nodes) → x < 2 * C.slots + 5 → code_length (set C x k) ≤ 5 + code_length k
  len_set x k lt = let s = local_four x lt in omega (arith, s)

  -- the length is read
  pub len_measure : (q : Bool) (k : Nodes) → code_length (measure q C k) ≤ 16 + code_length k
  len_measure false k = omega arith
  len_measure true k =
      let a = len_global_get (length_of C.source) (set C (length_at C) k) in
      let b = len_set (length_at C) k (omega arith) in
      omega (arith, a, b)

  pub len_renew_both : (k : Nodes) → code_length (renew_both C k) ≤ 36 + code_length k
  len_renew_both k =
      let a = len_renewed C.source.memories C.source (measure (measured C) C k) in
      let b = len_measure (measured C) k in
      omega (arith, a, b)

  pub len_lengthened : (q : Bool) (k : Nodes) → code_length (lengthened q C k) ≤ 36 + code_length k
  len_lengthened false k = omega arith
  len_lengthened true k =
      let a = len_set_length C.source (measure (measured C) C k) in
      let b = len_measure (measured C) k in
      omega (arith, a, b)

  slot_low : (t : ValType) (h : ℕ) → h ≤ C.slots → slot C.slots t h < 2 * C.slots + 5
  slot_low I32 h le = omega (arith, le)
  slot_low I64 h le = omega (arith, le)

  len_own : (x : ℕ) (k : Nodes) → code_length (basic 0 (LocalGet x) k) ≤ 11 + code_length k
  len_own x k = let s = ten_bytes x in omega (arith, s)

  pub len_fetch : (e : Place) (h : ℕ) (k : Nodes) → h ≤ C.slots → code_length (fetch C e h k) ≤ cost e + code_length k
  len_fetch (Spilled t) h k le = len_get (slot C.slots t h) k (slot_low t h le)
  len_fetch (Known v) h k le = len_const v k
  len_fetch (Copied t x) h k le = len_own x k

  pub len_fetched : (e : Place) (h : ℕ) (k : Nodes) → h ≤ C.slots → code_length (fetch C e h k) ≤ 11 + code_length k
  len_fetched e h k le = let a = len_fetch e h k le in let b = cost_most e in omega (arith, a, b)

  pub len_load : (n : ℕ) (es : List Place) (k : Nodes) → length es ≤ C.slots → code_length (load C n es k) ≤ costs (take n es) + code_length k
  len_load zero es k le = omega arith
  len_load (suc n) [] k le = omega arith
  len_load (suc n) (e ∷ es) k le =
      let a = len_load n es (fetch C e (length es) k) (omega (arith, le)) in
      let b = len_fetch e (length es) k (omega (arith, le)) in
      omega (arith, a, b)

  pub len_hand_value : (t : ValType) (k : Nodes) → code_length (hand_value C t k) ≤ 5 + code_length k
  len_hand_value I32 k = let s = four_bytes (import_count C.source + 0) (omega (arith, few.imports)) in omega (arith, s)
  len_hand_value I64 k = let s = four_bytes (import_count C.source + 1) (omega (arith, few.imports)) in omega (arith, s)

  pub len_hand : (es : List Place) (k : Nodes) → length es ≤ C.slots → code_length (hand C es k) ≤ 16 * length es + code_length k
  len_hand [] k le = omega arith
  len_hand (e ∷ es) k le =
      let a = len_hand es (fetch C e (length es) (hand_value C (place_type e) k)) (omega (arith, le)) in
      let b = len_fetched e (length es) (hand_value C (place_type e) k) (omega (arith, le)) in
      let c = len_hand_value (place_type e) k in
      omega (arith, a, b, c)

  len_hand_top : (n : ℕ) (es : List Place) (k : Nodes) → length es ≤ C.slots → code_length (hand_top C n es k) ≤ costs (take n es) + 5 * length (take n es) + code_length k
  len_hand_top zero es k le = omega arith
  len_hand_top (suc n) [] k le = omega arith
  len_hand_top (suc n) (e ∷ es) k le =
      let a = len_hand_top n es (fetch C e (length es) (hand_value C (place_type e) k)) (omega (arith, le)) in
      let b = len_fetch e (length es) (hand_value C (place_type e) k) (omega (arith, le)) in
      let c = len_hand_value (place_type e) k in
      omega (arith, a, b, c)

  pub len_store : (r : Option ValType) (es : List Place) (k : Nodes) → FitsIn C r es → code_length (store C r es k) ≤ 5 + code_length k
  len_store None es k fit = omega arith
  len_store (Some t) es k fit = len_set (slot C.slots t (length es)) k (slot_low t (length es) (omega (arith, fit)))

  len_tee : (x : ℕ) (k : Nodes) → x < 2 * C.slots + 5 → code_length (basic 0 (LocalTee (length C.locals + x)) k) ≤ 5 + code_length k
  len_tee x k lt = let s = local_four x lt in omega (arith, s)

  len_keep_slot : (q : Bool) (t : ValType) (es : List Place) (k : Nodes) → FitsIn C (Some t) es → code_length (keep_slot q C t es k) ≤ 5 + code_length k
  len_keep_slot true t es k fit = omega arith
  len_keep_slot false t es k fit = len_tee (slot C.slots t (length es)) k (slot_low t (length es) (omega (arith, fit)))

  pub len_keep : (q : Bool) (p : Option Place) (es : List Place) (k : Nodes) → FitsIn C (option_map place_type p) es → code_length (keep q C p es k) ≤ 5 + code_length k
  len_keep q None es k fit = omega arith
  len_keep q (Some (Spilled t)) es k fit = len_keep_slot q t es k fit
  len_keep q (Some (Known v)) es k fit = omega arith
  len_keep q (Some (Copied t x)) es k fit = omega arith

  pub len_keep_result : (q : Bool) (r : Option ValType) (es : List Place) (k : Nodes) → FitsIn C r es → code_length (keep q C (option_map Spilled r) es k) ≤ 5 + code_length k
  len_keep_result q None es k fit = omega arith
  len_keep_result q (Some t) es k fit = len_keep_slot q t es k fit

  pub len_reload : (r : Option ValType) (es : List Place) (k : Nodes) → FitsIn C r es → code_length (reload C r es k) ≤ 5 + code_length k
  len_reload None es k fit = omega arith
  len_reload (Some t) es k fit = len_get (slot C.slots t (length es)) k (slot_low t (length es) (omega (arith, fit)))

  pub len_drops : (n : ℕ) (k : Nodes) → code_length (drops n k) ≤ n + code_length k
  len_drops zero k = omega arith
  len_drops (suc n) k = let a = len_drops n k in omega (arith, a)

  len_spill_if : (q : Bool) (t : ValType) (x h : ℕ) (k : Nodes) → h ≤ C.slots → code_length (if q then basic 0 (LocalGet x) (set C (slot C.slots t h) k) else k) ≤ 16 + code_length k
  len_spill_if true t x h k le = let a = len_own x (set C (slot C.slots t h) k) in let b = len_set (slot C.slots t h) k (slot_low t h le) in omega (arith, a, b)
  len_spill_if false t x h k le = omega arith

  len_spill_one : (these : ℕ → Bool) (e : Place) (h : ℕ) (k : Nodes) → h ≤ C.slots → code_length (spill_one C these e h k) ≤ 16 + code_length k
  len_spill_one these (Spilled t) h k le = omega arith
  len_spill_one these (Known v) h k le = omega arith
  len_spill_one these (Copied t x) h k le = len_spill_if (these x) t x h k le

  pub len_spill : (these : ℕ → Bool) (es : List Place) (k : Nodes) → length es ≤ C.slots → code_length (spill C these es k) ≤ 16 * length es + code_length k
  len_spill these [] k le = omega arith
  len_spill these (e ∷ es) k le =
      let a = len_spill these es (spill_one C these e (length es) k) (omega (arith, le)) in
      let b = len_spill_one these e (length es) k (omega (arith, le)) in
      omega (arith, a, b)

  len_exit : (ls : ℕ) → code_length (to_exit C ls) ≤ 11
  len_exit ls = len_branch (suc (ls + length C.landings))

  len_unwind : (ls : ℕ) (es : List Place) (o : ℕ) → length es ≤ C.slots → code_length (unwind C ls es o) ≤ 27 + 16 * length es
  len_unwind ls es o le =
      let a = len_const (i32 o) (set C (offset_at C) (hand C es (to_exit C ls))) in
      let b = len_set (offset_at C) (hand C es (to_exit C ls)) (omega arith) in
      let c = len_hand es (to_exit C ls) le in
      let d = len_exit ls in
      omega (arith, a, b, c, d)

  pub len_unwind_kind : (ls : ℕ) (es : List Place) (o : ℕ) → length es ≤ C.slots → code_length (unwind_kind C ls es o) ≤ 32 + 16 * length es
  len_unwind_kind ls es o le =
      let a = len_set (kind_at C) (unwind C ls es o) (omega arith) in
      let b = len_unwind ls es o le in
      omega (arith, a, b)

  -- a guard that goes to a landing, and the landing
  pub len_landing : (ls n o : ℕ) (es : List Place) (test says_kind : Nodes → Nodes) (k : Nodes) (size : ℕ) → ((k : Nodes) → code_length (test k) ≤ size + code_length k) → code_length (checked (Some n) C ls es o test says_kind k) ≤ 27 + size + code_length k
  len_landing ls n o es test says_kind k size h =
      let go = jump 0 (BrIf (ls + n)) k in
      let a = len_const (i32 o) (set C (offset_at C) (test go)) in
      let b = len_set (offset_at C) (test go) (omega arith) in
      let c = h go in
      let d = ten_bytes (ls + n) in
      omega (arith, a, b, c, d)

  pub len_test_flag : (ls : ℕ) (es : List Place) (o : ℕ) (k : Nodes) → length es ≤ C.slots → code_length (test_flag C ls es o k) + charge_behind C (part_of C.locals o) es ≤ 73 + 16 * length es + code_length k
  len_test_flag ls es o k le = by_number (number_of (landing_behind (part_of C.locals o) es) C.landings)
    where
      by_number : (q : Option ℕ) → code_length (checked q C ls es o (get_flag C) (const (i32 0)) k) + charge q (Some (landing_behind (part_of C.locals o) es)) ≤ 73 + 16 * length es + code_length k
      by_number None =
          let arm = set C (kind_at C) (unwind C ls es o) in
          let a = len_global_get (flag_of C.source) (if_any (const (i32 0) arm) k) in
          let b = len_const (i32 0) arm in
          let c = len_set (kind_at C) (unwind C ls es o) (omega arith) in
          let d = len_unwind ls es o le in
          omega (arith, a, b, c, d)
      by_number (Some n) =
          let a = len_landing ls n o es (get_flag C) (const (i32 0)) k 11 (λ k. len_global_get (flag_of C.source) k) in
          omega (arith, a)

  pub len_test_both : (ls : ℕ) (n : ℕ) (es left : List Place) (o : ℕ) (k : Nodes) → length es ≤ C.slots → length left ≤ C.slots → code_length (test_both C ls left o (hand_top C n es stop) k) ≤ 60 + 16 * length left + (costs (take n es) + 5 * length (take n es)) + code_length k
  len_test_both ls n es left o k le le1 =
      let others = hand_top C n es stop in
      let inner = get C (kind_at C) (if_any others (to_exit C ls)) in
      let arm = set C (offset_at C) (hand_left C ls left others) in
      let rest = if_any (const (i32 o) arm) k in
      let a = len_get (kind_at C) (basic 0 (GlobalGet (flag_of C.source)) (basic 0 (Binary I32 Or) rest)) (omega arith) in
      let b = len_global_get (flag_of C.source) (basic 0 (Binary I32 Or) rest) in
      let c = len_const (i32 o) arm in
      let d = len_set (offset_at C) (hand_left C ls left others) (omega arith) in
      let e = len_hand left inner le1 in
      let f = len_get (kind_at C) (if_any others (to_exit C ls)) (omega arith) in
      let g = len_hand_top n es stop le in
      let h = len_exit ls in
      omega (arith, a, b, c, d, e, f, g, h)

  -- ---- guards

  len_guard_zero : (t : ValType) (b : Place) (h : ℕ) (k : Nodes) → h ≤ C.slots → code_length (guard_zero C t b h k) ≤ 12 + code_length k
  len_guard_zero t b h k le =
      let x = len_fetched b h (basic 0 (Eqz t) k) le in
      omega (arith, x)

  len_guard_signed : (t : ValType) (b a : Place) (h : ℕ) (k : Nodes) → suc h ≤ C.slots → code_length (guard_signed C t b a h k) ≤ 60 + code_length k
  len_guard_signed t b a h k le =
      let k1 = guard_zero C t b (suc h) (basic 0 (Binary I32 Or) k) in
      let k2 = const (minus_one t) (basic 0 (Compare t Eq) (basic 0 (Binary I32 And) k1)) in
      let k3 = fetch C b (suc h) k2 in
      let k4 = const (least t) (basic 0 (Compare t Eq) k3) in
      let x1 = len_fetched a h k4 (omega (arith, le)) in
      let x2 = len_const (least t) (basic 0 (Compare t Eq) k3) in
      let x3 = len_fetched b (suc h) k2 (omega (arith, le)) in
      let x4 = len_const (minus_one t) (basic 0 (Compare t Eq) (basic 0 (Binary I32 And) k1)) in
      let x5 = len_guard_zero t b (suc h) (basic 0 (Binary I32 Or) k) (omega (arith, le)) in
      omega (arith, x1, x2, x3, x4, x5)

  len_get_length : (k : Nodes) → code_length (get_length C k) ≤ 5 + code_length k
  len_get_length k = len_get (length_at C) k (omega arith)

  len_past_end : (k : Nodes) → code_length (past_end C k) ≤ 16 + code_length k
  len_past_end k =
      let k1 = basic 0 (Binary I64 Add) (basic 0 (Compare I64 GtU) k) in
      let x = len_get_length (const (values.I64 4) k1) in
      omega (arith, x, len_four k1)

  len_beyond : (q : Bool) (n : ℕ) (k : Nodes) → code_length (beyond_word q n k) ≤ 12 + code_length k
  len_beyond true n k = omega arith
  len_beyond false n k = let x = len_const (values.I64 (less_word n)) (basic 0 (Binary I64 Sub) k) in omega (arith, x)

  len_guard_memory : (a : Place) (h n : ℕ) (k : Nodes) → h ≤ C.slots → code_length (guard_memory C a h n k) ≤ 40 + code_length k
  len_guard_memory a h n k le =
      let k1 = basic 0 (Compare I64 GtS) k in
      let x1 = len_fetched a h (out_test C n k) le in
      let x2 = len_beyond (n == 4) n k1 in
      let x3 = len_get_length (beyond_word (n == 4) n k1) in
      omega (arith, x1, x2, x3)

  len_range : (a : Place) (h : ℕ) (n : Place) (hn : ℕ) (k : Nodes) → h ≤ C.slots → hn ≤ C.slots → code_length (range_test C a h n hn k) ≤ 41 + code_length k
  len_range a h n hn k le len =
      let k1 = basic 0 (Convert ExtendU) (basic 0 (Binary I64 Add) (past_end C k)) in
      let x1 = len_fetched a h (basic 0 (Convert ExtendU) (fetch C n hn k1)) le in
      let x2 = len_fetched n hn k1 len in
      let x3 = len_past_end k in
      omega (arith, x1, x2, x3)

  len_guard_copy : (n from to : Place) (h : ℕ) (k : Nodes) → suc (suc h) ≤ C.slots → code_length (guard_copy C n from to h k) ≤ 83 + code_length k
  len_guard_copy n from to h k le =
      let k1 = basic 0 (Binary I32 Or) k in
      let k2 = range_test C to h n (suc (suc h)) k1 in
      let x1 = len_range from (suc h) n (suc (suc h)) k2 (omega (arith, le)) le in
      let x2 = len_range to h n (suc (suc h)) k1 (omega (arith, le)) le in
      omega (arith, x1, x2)

  len_guard_fill : (n to : Place) (h : ℕ) (k : Nodes) → suc (suc h) ≤ C.slots → code_length (guard_fill C n to h k) ≤ 41 + code_length k
  len_guard_fill n to h k le = len_range to h n (suc (suc h)) k (omega (arith, le)) le

  len_none : (k : Nodes) → code_length (const (i32 0) k) ≤ 83 + code_length k
  len_none k = let x = len_const (i32 0) k in omega (arith, x)

  len_division : (op : BinaryOp) → Divider op → (t : ValType) (es : List Place) (k : Nodes) → length es ≤ C.slots → code_length (guard C (Binary t op) es k) ≤ 83 + code_length k
  len_division op by_div_s t [] k le = len_none k
  len_division op by_div_s t (b ∷ []) k le = len_none k
  len_division op by_div_s t (b ∷ a ∷ es) k le = let x = len_guard_signed t b a (length es) k (omega (arith, le)) in omega (arith, x)
  len_division op by_div_u t [] k le = len_none k
  len_division op by_div_u t (b ∷ []) k le = len_none k
  len_division op by_div_u t (b ∷ a ∷ es) k le = let x = len_guard_zero t b (suc (length es)) k (omega (arith, le)) in omega (arith, x)
  len_division op by_rem_s t [] k le = len_none k
  len_division op by_rem_s t (b ∷ []) k le = len_none k
  len_division op by_rem_s t (b ∷ a ∷ es) k le = let x = len_guard_zero t b (suc (length es)) k (omega (arith, le)) in omega (arith, x)
  len_division op by_rem_u t [] k le = len_none k
  len_division op by_rem_u t (b ∷ []) k le = len_none k
  len_division op by_rem_u t (b ∷ a ∷ es) k le = let x = len_guard_zero t b (suc (length es)) k (omega (arith, le)) in omega (arith, x)

  -- ---- kinds of traps

  len_one_kind : (n : ℕ) (k : Nodes) → code_length (const (i32 n) k) ≤ 35 + code_length k
  len_one_kind n k = let x = len_const (i32 n) k in omega (arith, x)

  len_kind_signed : (t : ValType) (b : Place) (h : ℕ) (k : Nodes) → h ≤ C.slots → code_length (kind_signed C t b h k) ≤ 35 + code_length k
  len_kind_signed t b h k le =
      let k1 = guard_zero C t b h (basic 0 Select k) in
      let x1 = len_const (i32 2) (const (i32 3) k1) in
      let x2 = len_const (i32 3) k1 in
      let x3 = len_guard_zero t b h (basic 0 Select k) le in
      omega (arith, x1, x2, x3)

  len_kind_division : (op : BinaryOp) → Divider op → (t : ValType) (es : List Place) (k : Nodes) → length es ≤ C.slots → code_length (kind C (Binary t op) es k) ≤ 35 + code_length k
  len_kind_division op by_div_s t [] k le = len_one_kind 2 k
  len_kind_division op by_div_s t (b ∷ []) k le = len_one_kind 2 k
  len_kind_division op by_div_s t (b ∷ a ∷ es) k le = len_kind_signed t b (suc (length es)) k (omega (arith, le))
  len_kind_division op by_div_u t es k le = len_one_kind 2 k
  len_kind_division op by_rem_s t es k le = len_one_kind 2 k
  len_kind_division op by_rem_u t es k le = len_one_kind 2 k

  pub len_kind : (i : Basic) → Risky i → (es : List Place) (k : Nodes) → length es ≤ C.slots → code_length (kind C i es k) ≤ 35 + code_length k
  len_kind i (risky_binary t op by) es k le = len_kind_division op by t es k le
  len_kind i (risky_load l al o) es k le = len_one_kind 4 k
  len_kind i (risky_store l al o) es k le = len_one_kind 4 k
  len_kind i risky_copy es k le = len_one_kind 4 k
  len_kind i risky_fill es k le = len_one_kind 4 k

  -- ---- guards of instructions

  pub len_guard : (i : Basic) → Risky i → (es : List Place) (k : Nodes) → length es ≤ C.slots → code_length (guard C i es k) ≤ 83 + code_length k
  len_guard i (risky_binary t op by) es k le = len_division op by t es k le
  len_guard i (risky_load l al o) [] k le = len_none k
  len_guard i (risky_load l al o) (a ∷ es) k le = let x = len_guard_memory a (length es) (o + load_bits l / 8) k (omega (arith, le)) in omega (arith, x)
  len_guard i (risky_store l al o) [] k le = len_none k
  len_guard i (risky_store l al o) (v ∷ []) k le = len_none k
  len_guard i (risky_store l al o) (v ∷ a ∷ es) k le = let x = len_guard_memory a (length es) (o + store_bits l / 8) k (omega (arith, le)) in omega (arith, x)
  len_guard i risky_copy [] k le = len_none k
  len_guard i risky_copy (n ∷ []) k le = len_none k
  len_guard i risky_copy (n ∷ from ∷ []) k le = len_none k
  len_guard i risky_fill [] k le = len_none k
  len_guard i risky_fill (n ∷ []) k le = len_none k
  len_guard i risky_fill (n ∷ from ∷ []) k le = len_none k
  len_guard i risky_copy (n ∷ from ∷ to ∷ es) k le = len_guard_copy n from to (length es) k (omega (arith, le))
  len_guard i risky_fill (n ∷ byte ∷ to ∷ es) k le = let x = len_guard_fill n to (length es) k (omega (arith, le)) in omega (arith, x)
