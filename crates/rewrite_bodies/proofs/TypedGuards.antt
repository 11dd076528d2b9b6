-- The guard of an instruction that is well typed on its operands is well typed.
use Rattle.std.proofs.Common.{◌≡◌, suc, ◌+◌, ◌/◌, ◌≤◌, List, [], ◌∷◌, length, map, Option, Some, true, sym, ap, ◌∙◌, arith}
use Rattle.std.specs.Prelude.{take}
use Rattle.wasm_syntax.specs.declared.value.ValType.{ValType}
use Rattle.wasm_syntax.specs.declared.value.ValType.TheVariants.{I32}
use Rattle.int_ops.specs.declared.operators.Binary.{Binary as BinaryOp}
use Rattle.wasm_syntax.specs.declared.instruction.Basic.{Basic}
use Rattle.wasm_syntax.specs.declared.instruction.Basic.TheVariants.{Load, Store, MemoryCopy, MemoryFill, Binary}
use Rattle.wasm_syntax.specs.declared.parts.Limits.{Limits}
use Rattle.wasm_syntax.specs.declared.module.ModuleParts.{ModuleParts as Module}
use Rattle.wasm_syntax.specs.Access.{load_bits, store_type, store_bits}
use Rattle.wasm_syntax.specs.Tree.{Nodes}
use Rattle.wasm_syntax.specs.Effect.{takes}
use Rattle.wasm_syntax.specs.Typing.{Context, Arrow, arrow}
use Rattle.wasm_syntax.specs.Typing as typing
use Rattle.rewrite_bodies.specs.calls.Slots.{Place, place_type, Ctx}
use Rattle.rewrite_bodies.specs.calls.Guards.{guard, can_trap, divides}
use Rattle.rewrite_bodies.specs.calls.Typed.{Info, AllOwn, Offers, original}
use Rattle.rewrite_bodies.proofs.TypedPieces.{Ok, at_labels, HasMemory, ok_guard_zero, ok_guard_signed, ok_guard_memory, ok_guard_copy, ok_guard_fill}
use Rattle.pm_text.proofs.Lists.{some_is}
use Rattle.wasm_syntax.proofs.Types.{any_found, only_found}
use Rattle.wasm_syntax.specs.calls.Classes.{Divider, by_div_s, by_div_u, by_rem_s, by_rem_u, Risky, risky_binary, risky_load, risky_store, risky_copy, risky_fill}

-- ---- what the arrows take

pub any_has : {B : Type 0} (ls : List Limits) (o : Option B) (b : B) → typing.if_any ls o ≡ Some b → HasMemory ls
any_has [] o b e = absurd (cc)
any_has (l ∷ ls) o b e = tt

pub one_is : {t u : ValType} {ts us : List ValType} → t ∷ ts ≡ u ∷ us → t ≡ u
one_is e = cc

two_is : {t u t1 u1 : ValType} {ts us : List ValType} → t ∷ t1 ∷ ts ≡ u ∷ u1 ∷ us → t1 ≡ u1
two_is e = cc

three_is : {t u t1 u1 t2 u2 : ValType} {ts us : List ValType} → t ∷ t1 ∷ t2 ∷ ts ≡ u ∷ u1 ∷ u2 ∷ us → t2 ≡ u2
three_is e = cc

module _ (C : Ctx) (m : Module) (locals : List ValType) (off : Offers C m locals) (returns : List ValType) (labels : List (List ValType)) (z s : List ValType) (k : Nodes) where
  abbrev at : Context
  at = at_labels m locals returns labels

  -- in front of code that has an i32 more
  abbrev Fits : Basic → List Place → Type 0
  Fits i es = Ok at z (I32 ∷ s) k → Ok at z s (guard C i es k)

  of_division : (op : BinaryOp) → Divider op → (t : ValType) (es : List Place) → length es ≤ C.slots → AllOwn C es → map place_type (take 2 es) ≡ t ∷ t ∷ [] → divides op ≡ true → Fits (Binary t op) es
  of_division op by t [] le w h d g = absurd (cc)
  of_division op by t (b ∷ []) le w h d g = absurd (cc)
  of_division op by_div_s t (b ∷ a ∷ es) le w h d g = ok_guard_signed C m locals off returns t b a (length es) (omega (arith, le)) w.0 w.1.0 (one_is h) (two_is h) g
  of_division op by_div_u t (b ∷ a ∷ es) le w h d g = ok_guard_zero C m locals off returns t b (suc (length es)) (omega (arith, le)) w.0 (one_is h) g
  of_division op by_rem_s t (b ∷ a ∷ es) le w h d g = ok_guard_zero C m locals off returns t b (suc (length es)) (omega (arith, le)) w.0 (one_is h) g
  of_division op by_rem_u t (b ∷ a ∷ es) le w h d g = ok_guard_zero C m locals off returns t b (suc (length es)) (omega (arith, le)) w.0 (one_is h) g

  pub guard_ok : (ls : List Info) (i : Basic) → Risky i → (t : ValType) (a : Arrow) (es : List Place) → length es ≤ C.slots → AllOwn C es → arrow (original C ls) t i ≡ Some a → map place_type (take (takes i) es) ≡ a.takes → can_trap i ≡ true → Fits i es
  guard_ok ls i (risky_binary u op by) t a es le w e h d g = of_division op by u es le w (h ∙ sym (ap (λ z. z.takes) (some_is e))) d g
  guard_ok ls i (risky_load l al o) t a es le w e h d g = load es le w (h ∙ sym (ap (λ z. z.takes) (some_is (only_found _ _ a (any_found C.source.memories _ a e))))) g
    where
      load : (es : List Place) → length es ≤ C.slots → AllOwn C es → map place_type (take 1 es) ≡ I32 ∷ [] → Fits (Load l al o) es
      load [] le w h g = absurd (cc)
      load (p ∷ es) le w h g = ok_guard_memory C m locals off returns p (length es) (o + load_bits l / 8) (omega (arith, le)) w.0 (one_is h) g
  guard_ok ls i (risky_store l al o) t a es le w e h d g = store es le w (h ∙ sym (ap (λ z. z.takes) (some_is (only_found _ _ a (any_found C.source.memories _ a e))))) g
    where
      store : (es : List Place) → length es ≤ C.slots → AllOwn C es → map place_type (take 2 es) ≡ store_type l ∷ I32 ∷ [] → Fits (Store l al o) es
      store [] le w h g = absurd (cc)
      store (v ∷ []) le w h g = absurd (cc)
      store (v ∷ p ∷ es) le w h g = ok_guard_memory C m locals off returns p (length es) (o + store_bits l / 8) (omega (arith, le)) w.1.0 (two_is h) g
  guard_ok ls i risky_copy t a es le w e h d g = copy es le w (h ∙ sym (ap (λ z. z.takes) (some_is (any_found C.source.memories _ a e)))) g
    where
      copy : (es : List Place) → length es ≤ C.slots → AllOwn C es → map place_type (take 3 es) ≡ I32 ∷ I32 ∷ I32 ∷ [] → Fits MemoryCopy es
      copy [] le w h g = absurd (cc)
      copy (n ∷ []) le w h g = absurd (cc)
      copy (n ∷ from ∷ []) le w h g = absurd (cc)
      copy (n ∷ from ∷ to ∷ es) le w h g = ok_guard_copy C m locals off returns n from to (length es) (omega (arith, le)) w.0 w.1.0 w.1.1.0 (one_is h) (two_is h) (three_is h) g
  guard_ok ls i risky_fill t a es le w e h d g = fill es le w (h ∙ sym (ap (λ z. z.takes) (some_is (any_found C.source.memories _ a e)))) g
    where
      fill : (es : List Place) → length es ≤ C.slots → AllOwn C es → map place_type (take 3 es) ≡ I32 ∷ I32 ∷ I32 ∷ [] → Fits MemoryFill es
      fill [] le w h g = absurd (cc)
      fill (n ∷ []) le w h g = absurd (cc)
      fill (n ∷ byte ∷ []) le w h g = absurd (cc)
      fill (n ∷ byte ∷ to ∷ es) le w h g = ok_guard_fill C m locals off returns n to (length es) (omega (arith, le)) w.0 w.1.1.0 (one_is h) (three_is h) g
