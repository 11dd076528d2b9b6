-- The small pieces of rewritten code are well typed.
use Rattle.rewrite_bodies.specs.calls.Landings.{number_of, landing_behind, part_of}
use Rattle.std.proofs.Common.{◌≡◌, ℕ, zero, suc, ◌+◌, ◌≤◌, ◌==◌, List, [], ◌∷◌, ◌++◌, length, map, reverse, Option, Some, None, refl, sym, ap, ◌∙◌, subst, arith, slice_get, option_map, option_to_list, Bool, true, false, if◌then◌else◌}
use Rattle.std.specs.Prelude.{take}
use Rattle.wasm_syntax.specs.declared.value.ValType.{ValType}
use Rattle.wasm_syntax.specs.declared.value.ValType.TheVariants.{I32, I64}
use Rattle.wasm_syntax.specs.declared.value.Value.{Value}
use Rattle.wasm_syntax.specs.declared.value.Value.TheVariants as values
use Rattle.int_ops.specs.declared.operators.Binary.{Binary as BinaryOp}
use Rattle.int_ops.specs.declared.operators.Binary.TheVariants.{Add, And, Or, Shl, Sub}
use Rattle.int_ops.specs.declared.operators.Compare.TheVariants.{Eq, GtU, GtS}
use Rattle.wasm_syntax.specs.declared.instruction.Convert.TheVariants.{ExtendU}
use Rattle.wasm_syntax.specs.declared.instruction.Basic.{Basic}
use Rattle.wasm_syntax.specs.declared.instruction.Basic.TheVariants.{Drop, Select, LocalGet, LocalSet, LocalTee, GlobalGet, GlobalSet, MemorySize, Const, Eqz, Compare, Binary, Convert}
use Rattle.wasm_syntax.specs.declared.parts.FuncType.{FuncType}
use Rattle.wasm_syntax.specs.declared.parts.Global.{Global}
use Rattle.wasm_syntax.specs.declared.parts.Limits.{Limits}
use Rattle.wasm_syntax.specs.declared.module.ModuleParts.{ModuleParts as Module}
use Rattle.wasm_syntax.specs.Numbers.{type_of, value}
use Rattle.wasm_syntax.specs.Tree.{Br, Nodes, stop, basic, jump, BrIf}
use Rattle.wasm_syntax.specs.Module.{type_at}
use Rattle.wasm_syntax.specs.Typing.{Context, Arrow, ◌⇒◌, arrow, Types}
use Rattle.rewrite_bodies.specs.calls.Slots.{Place, Spilled, Known, Copied, place_type, Ctx, slot, kind_at, offset_at, added, length_at, measured}
use Rattle.rewrite_bodies.specs.Numbering.{value_import, flag_of}
use Rattle.rewrite_bodies.specs.calls.Pieces.{get, set, const, i32, call, if_any, fetch, load, keep_slot, keep, store, reload, spill_one, spill, drops}
use Rattle.rewrite_bodies.specs.calls.Guards.{less_word, guard_zero, guard_signed, past_end, beyond_word, guard_memory, range_test, guard_copy, guard_fill, kind_signed, length_of, measure, get_length, set_length, renewed, renew_both}
use Rattle.rewrite_bodies.specs.calls.Rewrite.{hand_value, hand, hand_top, to_exit, unwind, test_flag, test_both, unwind_kind, tested, checked, get_flag, lengthened}
use Rattle.rewrite_bodies.specs.calls.Agreement.{FitsIn}
use Rattle.rewrite_bodies.specs.calls.Typed.{Own, AllOwn, Offers}
use Rattle.pm_text.proofs.Lists.{get_front}
use Rattle.rewrite_bodies.proofs.Run.{slice_get-append, added_at, added_kind, added_offset, added_length}
use Rattle.rewrite_bodies.specs.calls.Derived.{taken_type, given_type}
use Rattle.rewrite_bodies.proofs.Risks.{Deriving, compares, combines}

-- the nodes take these types to those
pub record Ok (c : Context) (after before : List ValType) (nodes : Nodes) : Type 0 where
  pub typed : Types c nodes before after

pub ok_basic : {c : Context} {z : List ValType} {k : Nodes} (s : List ValType) (i : Basic) (t : ValType) (a : Arrow) → arrow c t i ≡ Some a → Ok c z (a.gives ++ s) k → Ok c z (a.takes ++ s) (basic 0 i k)
ok_basic s i t a e h = record { typed = (a.gives ++ s, record { any = t; arrow_is = a; has = e; above = record { below = s; takes = refl; gives = refl } }, h.typed) }

pub ok_const : {c : Context} {z s : List ValType} {k : Nodes} (v : Value) → Ok c z (type_of v ∷ s) k → Ok c z s (const v k)
ok_const {s = s} v h = ok_basic s (Const v) I32 ([] ⇒ type_of v ∷ []) refl h

pub ok_select : {c : Context} {z s : List ValType} {k : Nodes} (t : ValType) → Ok c z (t ∷ s) k → Ok c z (I32 ∷ t ∷ t ∷ s) (basic 0 Select k)
ok_select {s = s} t h = ok_basic s Select t (I32 ∷ t ∷ t ∷ [] ⇒ t ∷ []) refl h

pub ok_eqz : {c : Context} {z s : List ValType} {k : Nodes} (t : ValType) → Ok c z (I32 ∷ s) k → Ok c z (t ∷ s) (basic 0 (Eqz t) k)
ok_eqz {s = s} t h = ok_basic s (Eqz t) I32 (t ∷ [] ⇒ I32 ∷ []) refl h

pub ok_binary : {c : Context} {z s : List ValType} {k : Nodes} (t : ValType) (op : BinaryOp) → Ok c z (t ∷ s) k → Ok c z (t ∷ t ∷ s) (basic 0 (Binary t op) k)
ok_binary {s = s} t op h = ok_basic s (Binary t op) I32 (t ∷ t ∷ [] ⇒ t ∷ []) refl h

ok_compare : {c : Context} {z s : List ValType} {k : Nodes} (t : ValType) (op : _) → Ok c z (I32 ∷ s) k → Ok c z (t ∷ t ∷ s) (basic 0 (Compare t op) k)
ok_compare {s = s} t op h = ok_basic s (Compare t op) I32 (t ∷ t ∷ [] ⇒ I32 ∷ []) refl h

pub ok_derives : {c : Context} {z s : List ValType} {k : Nodes} (i : Basic) → Deriving i → Ok c z (given_type i ∷ s) k → Ok c z (taken_type i ∷ taken_type i ∷ s) (basic 0 i k)
ok_derives i (compares t op) h = ok_compare t op h
ok_derives i (combines t op) h = ok_binary t op h

ok_extend : {c : Context} {z s : List ValType} {k : Nodes} → Ok c z (I64 ∷ s) k → Ok c z (I32 ∷ s) (basic 0 (Convert ExtendU) k)
ok_extend {s = s} h = ok_basic s (Convert ExtendU) I32 (I32 ∷ [] ⇒ I64 ∷ []) refl h

-- the label outside of these takes nothing
abbrev pub IsExit : ℕ → List (List ValType) → Type 0
IsExit d labels = slice_get labels d ≡ Some []

abbrev pub HasMemory : List Limits → Type 0
HasMemory [] = ⊥
HasMemory (l ∷ ls) = Unit {0}

ok_size : {c : Context} {z s : List ValType} {k : Nodes} → HasMemory c.module_.memories → Ok c z (I32 ∷ s) k → Ok c z s (basic 0 MemorySize k)
ok_size {c = c} {s = s} has h = ok_basic s MemorySize I32 ([] ⇒ I32 ∷ []) (there c.module_.memories has) h
  where
    there : (ls : List Limits) → HasMemory ls → Rattle.wasm_syntax.specs.Typing.if_any ls (Some ([] ⇒ I32 ∷ [])) ≡ Some ([] ⇒ I32 ∷ [])
    there [] has = absurd has
    there (l ∷ ls) has = refl

-- the global of the length, where this is one of an i64 that is written
module _ (src : Module) (g : Global) where
  pub ok_set_length : {c : Context} {z s : List ValType} {k : Nodes} → slice_get c.module_.globals (length_of src) ≡ Some g → g.vtype ≡ I64 → g.mutable ≡ true → HasMemory c.module_.memories → Ok c z s k → Ok c z s (set_length src k)
  ok_set_length {c = c} {s = s} there type written has h =
      let e : arrow c I64 (GlobalSet (length_of src)) ≡ Some (I64 ∷ [] ⇒ []) = rw (there, written, type) refl in
      ok_size has (ok_extend (ok_const (values.I64 16) (ok_binary I64 Shl (ok_const (values.I64 4) (ok_binary I64 Sub (ok_basic s (GlobalSet (length_of src)) I64 (I64 ∷ [] ⇒ []) e h))))))

  pub ok_renewed : {c : Context} {z s : List ValType} {k : Nodes} (ls : List Limits) → c.module_.memories ≡ ls → slice_get c.module_.globals (length_of src) ≡ Some g → g.vtype ≡ I64 → g.mutable ≡ true → Ok c z s k → Ok c z s (renewed ls src k)
  ok_renewed [] e there type written h = h
  ok_renewed (l ∷ ls) e there type written h = ok_set_length there type written (subst HasMemory (sym e) tt) h

-- a context with these labels
abbrev pub at_labels : Module → List ValType → List ValType → List (List ValType) → Context
at_labels m locals returns labels = record { module_ = m; locals = locals; labels = labels; returns = returns }

pub ok_if : {m : Module} {locals returns : List ValType} {labels : List (List ValType)} {z s : List ValType} {a k : Nodes} → Ok (at_labels m locals returns ([] ∷ labels)) [] [] a → Ok (at_labels m locals returns labels) z s k → Ok (at_labels m locals returns labels) z (I32 ∷ s) (if_any a k)
ok_if {s = s} a k = record { typed = (a.typed, refl, s, refl, k.typed) }

pub ok_branch : {m : Module} {locals returns : List ValType} {labels : List (List ValType)} {z s : List ValType} (l : ℕ) → slice_get labels l ≡ Some [] → Ok (at_labels m locals returns labels) z s (jump 0 (Br l) stop)
ok_branch {z = z} {s = s} l e = record { typed = (z, ([], e, record { below = s; takes = refl }), refl) }

pub ok_branch_if : {m : Module} {locals returns : List ValType} {labels : List (List ValType)} {z s : List ValType} {k : Nodes} (l : ℕ) (c below : List ValType) → slice_get labels l ≡ Some c → s ≡ c ++ below → Ok (at_labels m locals returns labels) z s k → Ok (at_labels m locals returns labels) z (I32 ∷ s) (jump 0 (BrIf l) k)
ok_branch_if {s = s} l c below e is h = record { typed = (s, (c, e, record { below = below; takes = ap (λ (x : List ValType). I32 ∷ x) is; gives = is }), h.typed) }

pub ok_call : {m : Module} {locals returns : List ValType} {labels : List (List ValType)} {z : List ValType} {k : Nodes} (s : List ValType) (f : ℕ) (type : FuncType) → type_at m f ≡ Some type → Ok (at_labels m locals returns labels) z (reverse type.results ++ s) k → Ok (at_labels m locals returns labels) z (reverse type.params ++ s) (call f k)
ok_call s f type e h = record { typed = (reverse type.results ++ s, (type, e, record { below = s; takes = refl; gives = refl }), h.typed) }

module _ (C : Ctx) (m : Module) (locals : List ValType) (off : Offers C m locals) (returns : List ValType) where
  abbrev pub at : List (List ValType) → Context
  at labels = at_labels m locals returns labels

  local_is : (x : ℕ) (t : ValType) → slice_get (added C.slots) x ≡ Some t → slice_get locals (length C.locals + x) ≡ Some t
  local_is x t e = ap (λ z. slice_get z (length C.locals + x)) off.locals_are ∙ slice_get-append C.locals (added C.slots) (length C.locals) x refl ∙ e

  pub ok_get : {labels : List (List ValType)} {z s : List ValType} {k : Nodes} (x : ℕ) (t : ValType) → slice_get (added C.slots) x ≡ Some t → Ok (at labels) z (t ∷ s) k → Ok (at labels) z s (get C x k)
  ok_get {s = s} x t e h = ok_basic s (LocalGet (length C.locals + x)) I32 ([] ⇒ t ∷ []) (ap (option_map (λ u. [] ⇒ u ∷ [])) (local_is x t e)) h

  pub ok_set : {labels : List (List ValType)} {z s : List ValType} {k : Nodes} (x : ℕ) (t : ValType) → slice_get (added C.slots) x ≡ Some t → Ok (at labels) z s k → Ok (at labels) z (t ∷ s) (set C x k)
  ok_set {s = s} x t e h = ok_basic s (LocalSet (length C.locals + x)) I32 (t ∷ [] ⇒ []) (ap (option_map (λ u. u ∷ [] ⇒ [])) (local_is x t e)) h

  -- a local of the original
  pub ok_own : {labels : List (List ValType)} {z s : List ValType} {k : Nodes} (x : ℕ) (t : ValType) → slice_get C.locals x ≡ Some t → Ok (at labels) z (t ∷ s) k → Ok (at labels) z s (basic 0 (LocalGet x) k)
  ok_own {s = s} x t e h = ok_basic s (LocalGet x) I32 ([] ⇒ t ∷ []) (ap (λ (ls : List ValType). option_map (λ u. [] ⇒ u ∷ []) (slice_get ls x)) off.locals_are ∙ ap (option_map (λ u. [] ⇒ u ∷ [])) (get_front C.locals (added C.slots) x t e)) h

  pub ok_set_own : {labels : List (List ValType)} {z s : List ValType} {k : Nodes} (x : ℕ) (t : ValType) → slice_get C.locals x ≡ Some t → Ok (at labels) z s k → Ok (at labels) z (t ∷ s) (basic 0 (LocalSet x) k)
  ok_set_own {s = s} x t e h = ok_basic s (LocalSet x) I32 (t ∷ [] ⇒ []) (ap (λ (ls : List ValType). option_map (λ u. u ∷ [] ⇒ []) (slice_get ls x)) off.locals_are ∙ ap (option_map (λ u. u ∷ [] ⇒ [])) (get_front C.locals (added C.slots) x t e)) h

  ok_tee : {labels : List (List ValType)} {z s : List ValType} {k : Nodes} (x : ℕ) (t : ValType) → slice_get (added C.slots) x ≡ Some t → Ok (at labels) z (t ∷ s) k → Ok (at labels) z (t ∷ s) (basic 0 (LocalTee (length C.locals + x)) k)
  ok_tee {s = s} x t e h = ok_basic s (LocalTee (length C.locals + x)) I32 (t ∷ [] ⇒ t ∷ []) (ap (option_map (λ u. u ∷ [] ⇒ u ∷ [])) (local_is x t e)) h

  pub ok_fetch : {labels : List (List ValType)} {z s : List ValType} {k : Nodes} (e : Place) (h : ℕ) → h ≤ C.slots → Own C e → Ok (at labels) z (place_type e ∷ s) k → Ok (at labels) z s (fetch C e h k)
  ok_fetch (Spilled t) h le w k = ok_get (slot C.slots t h) t (added_at C.slots h t le) k
  ok_fetch (Known v) h le w k = ok_const v k
  ok_fetch (Copied t x) h le w k = ok_own x t w k

  pub ok_load : {labels : List (List ValType)} {z s : List ValType} (n : ℕ) (es : List Place) (k : Nodes) → length es ≤ C.slots → AllOwn C es → Ok (at labels) z (map place_type (take n es) ++ s) k → Ok (at labels) z s (load C n es k)
  ok_load zero es k le w h = h
  ok_load (suc n) [] k le w h = h
  ok_load (suc n) (e ∷ es) k le w h = ok_load n es (fetch C e (length es) k) (omega (arith, le)) w.1 (ok_fetch e (length es) (omega (arith, le)) w.0 h)

  pub ok_store : {labels : List (List ValType)} {z s : List ValType} {k : Nodes} (r : Option ValType) (es : List Place) → FitsIn C r es → Ok (at labels) z s k → Ok (at labels) z (option_to_list r ++ s) (store C r es k)
  ok_store None es fit h = h
  ok_store (Some t) es fit h = ok_set (slot C.slots t (length es)) t (added_at C.slots (length es) t (omega (arith, fit))) h

  -- a result is kept, or passes
  ok_keep_slot : {labels : List (List ValType)} {z : List ValType} {k : Nodes} (q : Bool) (s : List ValType) (t : ValType) (es : List Place) → FitsIn C (Some t) es → Ok (at labels) z (t ∷ s) k → Ok (at labels) z (t ∷ s) (keep_slot q C t es k)
  ok_keep_slot true s t es fit h = h
  ok_keep_slot false s t es fit h = ok_tee (slot C.slots t (length es)) t (added_at C.slots (length es) t (omega (arith, fit))) h

  pub ok_keep : {labels : List (List ValType)} {z : List ValType} {k : Nodes} (q : Bool) (s : List ValType) (p : Option Place) (es : List Place) → FitsIn C (option_map place_type p) es → Ok (at labels) z (option_to_list (option_map place_type p) ++ s) k → Ok (at labels) z (option_to_list (option_map place_type p) ++ s) (keep q C p es k)
  ok_keep q s None es fit h = h
  ok_keep q s (Some (Spilled t)) es fit h = ok_keep_slot q s t es fit h
  ok_keep q s (Some (Known v)) es fit h = h
  ok_keep q s (Some (Copied t x)) es fit h = h

  pub ok_keep_result : {labels : List (List ValType)} {z : List ValType} {k : Nodes} (q : Bool) (s : List ValType) (r : Option ValType) (es : List Place) → FitsIn C r es → Ok (at labels) z (option_to_list r ++ s) k → Ok (at labels) z (option_to_list r ++ s) (keep q C (option_map Spilled r) es k)
  ok_keep_result q s None es fit h = h
  ok_keep_result q s (Some t) es fit h = ok_keep_slot q s t es fit h

  pub ok_reload : {labels : List (List ValType)} {z s : List ValType} {k : Nodes} (r : Option ValType) (es : List Place) → FitsIn C r es → Ok (at labels) z (option_to_list r ++ s) k → Ok (at labels) z s (reload C r es k)
  ok_reload None es fit h = h
  ok_reload (Some t) es fit h = ok_get (slot C.slots t (length es)) t (added_at C.slots (length es) t (omega (arith, fit))) h

  pub ok_drops : {labels : List (List ValType)} {z s : List ValType} {k : Nodes} (ts : List ValType) → Ok (at labels) z s k → Ok (at labels) z (ts ++ s) (drops (length ts) k)
  ok_drops [] h = h
  ok_drops {s = s} (t ∷ ts) h = ok_basic (ts ++ s) Drop t (t ∷ [] ⇒ []) refl (ok_drops ts h)

  -- copies go to their slots
  ok_spill_if : {labels : List (List ValType)} {z s : List ValType} {k : Nodes} (q : Bool) (t : ValType) (x h : ℕ) → h ≤ C.slots → slice_get C.locals x ≡ Some t → Ok (at labels) z s k → Ok (at labels) z s (if q then basic 0 (LocalGet x) (set C (slot C.slots t h) k) else k)
  ok_spill_if true t x h le w g = ok_own x t w (ok_set (slot C.slots t h) t (added_at C.slots h t le) g)
  ok_spill_if false t x h le w g = g

  ok_spill_one : {labels : List (List ValType)} {z s : List ValType} {k : Nodes} (these : ℕ → Bool) (e : Place) (h : ℕ) → h ≤ C.slots → Own C e → Ok (at labels) z s k → Ok (at labels) z s (spill_one C these e h k)
  ok_spill_one these (Spilled t) h le w g = g
  ok_spill_one these (Known v) h le w g = g
  ok_spill_one these (Copied t x) h le w g = ok_spill_if (these x) t x h le w g

  pub ok_spill : {labels : List (List ValType)} {z s : List ValType} {k : Nodes} (these : ℕ → Bool) (es : List Place) → length es ≤ C.slots → AllOwn C es → Ok (at labels) z s k → Ok (at labels) z s (spill C these es k)
  ok_spill these [] le w g = g
  ok_spill {labels = labels} {z = z} {s = s} {k = k} these (e ∷ es) le w g = ok_spill {k = spill_one C these e (length es) k} these es (omega (arith, le)) w.1 (ok_spill_one these e (length es) (omega (arith, le)) w.0 g)

  -- ---- handing over

  pub ok_hand_value : {labels : List (List ValType)} {z s : List ValType} {k : Nodes} (t : ValType) → Ok (at labels) z s k → Ok (at labels) z (t ∷ s) (hand_value C t k)
  ok_hand_value {s = s} t h = ok_call s (value_import C.source t) _ (off.values t) h

  pub ok_hand : {labels : List (List ValType)} {z s : List ValType} (es : List Place) (k : Nodes) → length es ≤ C.slots → AllOwn C es → Ok (at labels) z s k → Ok (at labels) z s (hand C es k)
  ok_hand [] k le w h = h
  ok_hand (e ∷ es) k le w h = ok_hand es (fetch C e (length es) (hand_value C (place_type e) k)) (omega (arith, le)) w.1 (ok_fetch e (length es) (omega (arith, le)) w.0 (ok_hand_value (place_type e) h))

  ok_hand_top : {labels : List (List ValType)} {z s : List ValType} (n : ℕ) (es : List Place) (k : Nodes) → length es ≤ C.slots → AllOwn C es → Ok (at labels) z s k → Ok (at labels) z s (hand_top C n es k)
  ok_hand_top zero es k le w h = h
  ok_hand_top (suc n) [] k le w h = h
  ok_hand_top (suc n) (e ∷ es) k le w h = ok_hand_top n es (fetch C e (length es) (hand_value C (place_type e) k)) (omega (arith, le)) w.1 (ok_fetch e (length es) (omega (arith, le)) w.0 (ok_hand_value (place_type e) h))

  ok_stop : {labels : List (List ValType)} → Ok (at labels) [] [] stop
  ok_stop = record { typed = refl }

  -- inside an arm
  ok_exit : {labels : List (List ValType)} {z s : List ValType} (d : ℕ) → IsExit (d + length C.landings) labels → Ok (at ([] ∷ labels)) z s (to_exit C d)
  ok_exit d x = ok_branch (suc (d + length C.landings)) x

  ok_unwind : {labels : List (List ValType)} {s : List ValType} (d : ℕ) (es : List Place) (o : ℕ) → length es ≤ C.slots → AllOwn C es → IsExit (d + length C.landings) labels → Ok (at ([] ∷ labels)) [] s (unwind C d es o)
  ok_unwind d es o le w x = ok_const (i32 o) (ok_set (offset_at C) I32 (added_offset C.slots) (ok_hand es (to_exit C d) le w (ok_exit d x)))

  ok_unwind_kind : {labels : List (List ValType)} {s : List ValType} (d : ℕ) (es : List Place) (o : ℕ) → length es ≤ C.slots → AllOwn C es → IsExit (d + length C.landings) labels → Ok (at ([] ∷ labels)) [] (I32 ∷ s) (unwind_kind C d es o)
  ok_unwind_kind d es o le w x = ok_set (kind_at C) I32 (added_kind C.slots) (ok_unwind d es o le w x)

  -- with a piece that pushes the kind
  pub ok_tested : {labels : List (List ValType)} {z s : List ValType} {k : Nodes} (d : ℕ) (es : List Place) (o : ℕ) (says_kind : Nodes → Nodes) → length es ≤ C.slots → AllOwn C es → IsExit (d + length C.landings) labels → ((arm : Nodes) → Ok (at ([] ∷ labels)) [] (I32 ∷ []) arm → Ok (at ([] ∷ labels)) [] [] (says_kind arm)) → Ok (at labels) z s k → Ok (at labels) z (I32 ∷ s) (tested C d es o says_kind k)
  ok_tested d es o says_kind le w x says h = ok_if (says (unwind_kind C d es o) (ok_unwind_kind d es o le w x)) h

  pub ok_flag : {labels : List (List ValType)} {z s : List ValType} {k : Nodes} → Ok (at labels) z (I32 ∷ s) k → Ok (at labels) z s (basic 0 (GlobalGet (flag_of C.source)) k)
  ok_flag {s = s} h = ok_basic s (GlobalGet (flag_of C.source)) I32 ([] ⇒ I32 ∷ []) (ap (option_map (λ g. [] ⇒ g.vtype ∷ [])) off.flag_there ∙ ap (λ t. Some ([] ⇒ t ∷ [])) off.flag_type) h

  -- the topmost operands come along to a landing
  pub ok_landing : {labels : List (List ValType)} {z s : List ValType} {k : Nodes} (d n o : ℕ) (c below : List ValType) (test says_kind : Nodes → Nodes) (es : List Place) → slice_get labels (d + n) ≡ Some c → s ≡ c ++ below → ((k : Nodes) → Ok (at labels) z (I32 ∷ s) k → Ok (at labels) z s (test k)) → Ok (at labels) z s k → Ok (at labels) z s (checked (Some n) C d es o test says_kind k)
  ok_landing {k = k} d n o c below test says_kind es at_ is tests h =
      ok_const (i32 o) (ok_set (offset_at C) I32 (added_offset C.slots) (tests (jump 0 (BrIf (d + n)) k) (ok_branch_if (d + n) c below at_ is h)))

  pub ok_test_flag : {labels : List (List ValType)} {z s : List ValType} {k : Nodes} (d : ℕ) (es : List Place) (o : ℕ) → length es ≤ C.slots → AllOwn C es → IsExit (d + length C.landings) labels → ((n : ℕ) → number_of (landing_behind (part_of C.locals o) es) C.landings ≡ Some n → slice_get labels (d + n) ≡ Some []) → Ok (at labels) z s k → Ok (at labels) z s (test_flag C d es o k)
  ok_test_flag {labels = labels} {z = z} {s = s} {k = k} d es o le w x lands h = by_number (number_of (landing_behind (part_of C.locals o) es) C.landings) refl
    where
      by_number : (q : Option ℕ) → number_of (landing_behind (part_of C.locals o) es) C.landings ≡ q → Ok (at labels) z s (checked q C d es o (get_flag C) (const (i32 0)) k)
      by_number None is = ok_flag (ok_if (ok_const (i32 0) (ok_set (kind_at C) I32 (added_kind C.slots) (ok_unwind d es o le w x))) h)
      by_number (Some n) is = ok_landing d n o [] s (get_flag C) (const (i32 0)) es (lands n is) refl (λ k g. ok_flag g) h

  pub ok_test_both : {labels : List (List ValType)} {z s : List ValType} {k : Nodes} (d : ℕ) (n : ℕ) (es left : List Place) (o : ℕ) → length es ≤ C.slots → length left ≤ C.slots → AllOwn C es → AllOwn C left → IsExit (d + length C.landings) labels → Ok (at labels) z s k → Ok (at labels) z s (test_both C d left o (hand_top C n es stop) k)
  ok_test_both d n es left o le le1 w w1 x h =
      ok_get (kind_at C) I32 (added_kind C.slots) (ok_flag (ok_binary I32 Or (ok_if
      (ok_const (i32 o) (ok_set (offset_at C) I32 (added_offset C.slots) (ok_hand left _ le1 w1
      (ok_get (kind_at C) I32 (added_kind C.slots) (ok_if (ok_hand_top n es stop le w ok_stop) (ok_exit d x)))))) h)))

  -- ---- guards

  pub ok_guard_zero : {labels : List (List ValType)} {z s : List ValType} {k : Nodes} (t : ValType) (b : Place) (h : ℕ) → h ≤ C.slots → Own C b → place_type b ≡ t → Ok (at labels) z (I32 ∷ s) k → Ok (at labels) z s (guard_zero C t b h k)
  ok_guard_zero {labels = labels} {z = z} {s = s} {k = k} t b h le w e g =
      ok_fetch b h le w (subst (λ u. Ok (at labels) z (u ∷ s) (basic 0 (Eqz t) k)) (sym e) (ok_eqz t g))

  pub ok_kind_signed : {labels : List (List ValType)} {z s : List ValType} {k : Nodes} (t : ValType) (b : Place) (h : ℕ) → h ≤ C.slots → Own C b → place_type b ≡ t → Ok (at labels) z (I32 ∷ s) k → Ok (at labels) z s (kind_signed C t b h k)
  ok_kind_signed t b h le w e g = ok_const (i32 2) (ok_const (i32 3) (ok_guard_zero t b h le w e (ok_select I32 g)))

  type_value : (t : ValType) (n : ℕ) → type_of (value t n) ≡ t
  type_value I32 n = refl
  type_value I64 n = refl

  ok_constant : {labels : List (List ValType)} {z s : List ValType} {k : Nodes} (t : ValType) (n : ℕ) → Ok (at labels) z (t ∷ s) k → Ok (at labels) z s (const (value t n) k)
  ok_constant {labels = labels} {z = z} {s = s} {k = k} t n h = ok_const (value t n) (subst (λ u. Ok (at labels) z (u ∷ s) k) (sym (type_value t n)) h)

  ok_place : {labels : List (List ValType)} {z s : List ValType} {k : Nodes} (e : Place) (t : ValType) (h : ℕ) → h ≤ C.slots → Own C e → place_type e ≡ t → Ok (at labels) z (t ∷ s) k → Ok (at labels) z s (fetch C e h k)
  ok_place {labels = labels} {z = z} {s = s} {k = k} e t h le w q g = ok_fetch e h le w (subst (λ u. Ok (at labels) z (u ∷ s) k) (sym q) g)

  pub ok_guard_signed : {labels : List (List ValType)} {z s : List ValType} {k : Nodes} (t : ValType) (b a : Place) (h : ℕ) → suc h ≤ C.slots → Own C b → Own C a → place_type b ≡ t → place_type a ≡ t → Ok (at labels) z (I32 ∷ s) k → Ok (at labels) z s (guard_signed C t b a h k)
  ok_guard_signed t b a h le wb wa eb ea g =
      ok_place a t h (omega (arith, le)) wa ea (ok_constant t _ (ok_compare t Eq (ok_place b t (suc h) le wb eb (ok_constant t _ (ok_compare t Eq (ok_binary I32 And
      (ok_guard_zero t b (suc h) le wb eb (ok_binary I32 Or g))))))))

  ok_length : {labels : List (List ValType)} {z s : List ValType} {k : Nodes} → Ok (at labels) z (I64 ∷ s) k → Ok (at labels) z s (get_length C k)
  ok_length h = ok_get (length_at C) I64 (added_length C.slots) h

  pub ok_measure : {labels : List (List ValType)} {z s : List ValType} {k : Nodes} (q : Bool) → Ok (at labels) z s k → Ok (at labels) z s (measure q C k)
  ok_measure false h = h
  ok_measure {s = s} true h =
      ok_basic s (GlobalGet (length_of C.source)) I32 ([] ⇒ I64 ∷ []) (ap (option_map (λ g. [] ⇒ g.vtype ∷ [])) off.length_there ∙ ap (λ t. Some ([] ⇒ t ∷ [])) off.length_type)
      (ok_set (length_at C) I64 (added_length C.slots) h)

  -- behind what may have made the memory longer
  pub ok_renew : {labels : List (List ValType)} {z s : List ValType} {k : Nodes} → Ok (at labels) z s k → Ok (at labels) z s (renew_both C k)
  ok_renew h = ok_renewed C.source off.length_ C.source.memories off.memories off.length_there off.length_type off.length_mutable (ok_measure (measured C) h)

  pub ok_lengthened : {labels : List (List ValType)} {z s : List ValType} {k : Nodes} (q : Bool) → (q ≡ true → HasMemory m.memories) → Ok (at labels) z s k → Ok (at labels) z s (lengthened q C k)
  ok_lengthened false has h = h
  ok_lengthened true has h = ok_set_length C.source off.length_ off.length_there off.length_type off.length_mutable (has refl) (ok_measure (measured C) h)

  ok_past_end : {labels : List (List ValType)} {z s : List ValType} {k : Nodes} → Ok (at labels) z (I32 ∷ s) k → Ok (at labels) z (I64 ∷ s) (past_end C k)
  ok_past_end h = ok_length (ok_const (values.I64 4) (ok_binary I64 Add (ok_compare I64 GtU h)))

  ok_beyond : {labels : List (List ValType)} {z s : List ValType} {k : Nodes} (q : Bool) (n : ℕ) → Ok (at labels) z (I64 ∷ s) k → Ok (at labels) z (I64 ∷ s) (beyond_word q n k)
  ok_beyond true n h = h
  ok_beyond false n h = ok_const (values.I64 (less_word n)) (ok_binary I64 Sub h)

  pub ok_guard_memory : {labels : List (List ValType)} {z s : List ValType} {k : Nodes} (a : Place) (h n : ℕ) → h ≤ C.slots → Own C a → place_type a ≡ I32 → Ok (at labels) z (I32 ∷ s) k → Ok (at labels) z s (guard_memory C a h n k)
  ok_guard_memory a h n le w e g =
      ok_place a I32 h le w e (ok_extend (ok_length (ok_beyond (n == 4) n (ok_compare I64 GtS g))))

  ok_range : {labels : List (List ValType)} {z s : List ValType} {k : Nodes} (a : Place) (h : ℕ) (n : Place) (hn : ℕ) → h ≤ C.slots → hn ≤ C.slots → Own C a → Own C n → place_type a ≡ I32 → place_type n ≡ I32 → Ok (at labels) z (I32 ∷ s) k → Ok (at labels) z s (range_test C a h n hn k)
  ok_range a h n hn le len wa wn ea en g = ok_place a I32 h le wa ea (ok_extend (ok_place n I32 hn len wn en (ok_extend (ok_binary I64 Add (ok_past_end g)))))

  pub ok_guard_copy : {labels : List (List ValType)} {z s : List ValType} {k : Nodes} (n from to : Place) (h : ℕ) → suc (suc h) ≤ C.slots → Own C n → Own C from → Own C to → place_type n ≡ I32 → place_type from ≡ I32 → place_type to ≡ I32 → Ok (at labels) z (I32 ∷ s) k → Ok (at labels) z s (guard_copy C n from to h k)
  ok_guard_copy n from to h le wn wf wt en ef et g =
      ok_range from (suc h) n (suc (suc h)) (omega (arith, le)) le wf wn ef en (ok_range to h n (suc (suc h)) (omega (arith, le)) le wt wn et en (ok_binary I32 Or g))

  pub ok_guard_fill : {labels : List (List ValType)} {z s : List ValType} {k : Nodes} (n to : Place) (h : ℕ) → suc (suc h) ≤ C.slots → Own C n → Own C to → place_type n ≡ I32 → place_type to ≡ I32 → Ok (at labels) z (I32 ∷ s) k → Ok (at labels) z s (guard_fill C n to h k)
  ok_guard_fill n to h le wn wt en et g = ok_range to h n (suc (suc h)) (omega (arith, le)) le wt wn et en g
