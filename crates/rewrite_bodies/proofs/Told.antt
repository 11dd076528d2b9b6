-- The local that has the length of the memory: what is read into it from the global, and what holds then.
use Rattle.std.proofs.Common.{◌≡◌, ℕ, suc, ◌≤◌, List, [], ◌∷◌, ◌++◌, length, Option, Some, None, Bool, ◌≢◌, true, false, refl, sym, ◌∙◌, arith, slice_get, slice_set, length-append}
use Rattle.wasm_syntax.specs.declared.value.ValType.{ValType}
use Rattle.wasm_syntax.specs.declared.value.ValType.TheVariants.{I64}
use Rattle.wasm_syntax.specs.declared.value.Value.{Value}
use Rattle.wasm_syntax.specs.declared.value.Value.TheVariants as values
use Rattle.wasm_syntax.specs.Numbers.{type_of, types}
use Rattle.wasm_syntax.specs.Tree.{Nodes}
use Rattle.wasm_syntax.specs.Host.{World}
use Rattle.wasm_syntax.specs.declared.host.CollectorCall.{CollectorCall}
use Rattle.wasm_syntax.specs.Machine.{Label, Engine, exactly}
use Rattle.wasm_laws.proofs.Progress.{get_type}
use Rattle.rewrite_bodies.specs.calls.Slots.{Place, Ctx, slot, length_at, measured, added}
use Rattle.rewrite_bodies.specs.calls.Pieces.{reload}
use Rattle.rewrite_bodies.specs.calls.Rewrite.{spare}
use Rattle.rewrite_bodies.specs.calls.Agreement.{HoldsBut, awaits, pending, joined, FitsIn, FitsLabels, FitsOpen, HasLength, Runs}
use Rattle.rewrite_bodies.specs.calls.Steps.{To, Shell, st}
use Rattle.rewrite_bodies.proofs.Run.{slice_get-put_same, slice_get-put_other, types-slice_set, added_length, length_no_slot, clear_length, stored, HasPlace, still, weaken, added_get, reload_to}
use Rattle.rewrite_bodies.proofs.Parts.{fits_put}
use Rattle.rewrite_bodies.proofs.Passing.{FitsBut, but_put}

-- the added locals when it was read
abbrev pub remeasured : Bool → Ctx → ℕ → List Value → List Value
remeasured false C n ex = ex
remeasured true C n ex = slice_set ex (length_at C) (values.I64 n)

pub length_there : (C : Ctx) (ex : List Value) → types ex ≡ added C.slots → slice_get (types ex) (length_at C) ≡ Some I64
length_there C ex room = rw room (added_length C.slots)

pub types_told : (q : Bool) (C : Ctx) (n : ℕ) (ex : List Value) → types ex ≡ added C.slots → types (remeasured q C n ex) ≡ types ex
types_told false C n ex room = refl
types_told true C n ex room = types-slice_set ex (length_at C) I64 (values.I64 n) (length_there C ex room) refl

pub has_told : (C : Ctx) (n : ℕ) (ex : List Value) → types ex ≡ added C.slots → HasLength C (remeasured (measured C) C n ex) n
has_told C n ex room = λ q. by_test (measured C) q
  where
    by_test : (b : Bool) → b ≡ true → slice_get (remeasured b C n ex) (length_at C) ≡ Some (values.I64 n)
    by_test false e = absurd (cc)
    by_test true e = slice_get-put_same ex (length_at C) I64 (values.I64 n) (length_there C ex room)

-- some length is there in any case
pub any_length : (C : Ctx) (ex : List Value) → types ex ≡ added C.slots → (n : ℕ) × HasLength C ex n
any_length C ex room = let w = get_type ex (length_at C) I64 (length_there C ex room) in by_value w.0 w.1 w.2
  where
    by_value : (v : Value) → slice_get ex (length_at C) ≡ Some v → type_of v ≡ I64 → (n : ℕ) × HasLength C ex n
    by_value (values.I32 n) at ty = absurd (cc)
    by_value (values.I64 n) at ty = (n, λ q. at)

-- no operand is there
pub fits_told : (q : Bool) (C : Ctx) (l ex : List Value) (n : ℕ) (a : Option ValType) (Ls : List Label) (ss : List (List Place)) → length (joined ss) ≤ suc C.slots → FitsLabels C l ex a Ls ss → FitsLabels C l (remeasured q C n ex) a Ls ss
fits_told false C l ex n a Ls ss low h = h
fits_told true C l ex n a Ls ss low h = fits_put C l ex a Ls ss (length_at C) (values.I64 n) (clear_length C (length (joined ss)) low) h

but_told : (q : Bool) (C : Ctx) (p : ℕ) (l ex : List Value) (n : ℕ) (js es : List Place) (ops : List Value) → length (es ++ js) ≤ suc C.slots → HoldsBut C p l ex js ops es → HoldsBut C p l (remeasured q C n ex) js ops es
but_told false C p l ex n js es ops low h = h
but_told true C p l ex n js es ops low h = but_put C p l ex js es ops (length_at C) (values.I64 n) (clear_length C (length (es ++ js)) low) h

pub over_told : (q : Bool) (C : Ctx) (k : ℕ) (l ex : List Value) (n : ℕ) (a : Option ValType) (L : Label) (Ls : List Label) (e : List Place) (ss : List (List Place)) → length (e ++ joined ss) ≤ suc C.slots → FitsBut C k l ex a L Ls e ss → FitsBut C k l (remeasured q C n ex) a L Ls e ss
over_told q C k l ex n a L Ls e ss low h =
    let inner : length (joined ss) ≤ suc C.slots = omega (arith, low, length-append e (joined ss)) in
    (but_told q C k l ex n (joined ss) e L.operands low h.0, h.1, h.2, h.3, fits_told q C [] ex n (awaits (pending L.kind)) Ls ss inner h.4)

-- whatever length was there before
pub open_told : (C : Ctx) (l ex : List Value) (m n : ℕ) (L : Label) (Ls : List Label) (e : List Place) (ss : List (List Place)) → types ex ≡ added C.slots → length (e ++ joined ss) ≤ C.slots → FitsOpen C l ex (Runs m) (L ∷ Ls) (e ∷ ss) → FitsOpen C l (remeasured (measured C) C n ex) (Runs n) (L ∷ Ls) (e ∷ ss)
open_told C l ex m n L Ls e ss room low h =
    let inner : length (joined ss) ≤ suc C.slots = omega (arith, low, length-append e (joined ss)) in
    (but_told (measured C) C (spare C L.nodes) l ex n (joined ss) e L.operands (omega (arith, low)) h.0, has_told C n ex room, h.2, h.3, fits_told (measured C) C [] ex n (awaits (pending L.kind)) Ls ss inner h.4)

-- a result comes back from its slot
module _ (M : Engine) (C : Ctx) (l : List Value) (size : length C.locals ≡ length l) where
  pub reload_told : {X : Shell} {g : World} {co : List CollectorCall} (q : Bool) (n : ℕ) (ex : List Value) (r : Option ValType) (es : List Place) (vs s : List Value) (k : Nodes) → FitsIn C r es → HasPlace r (λ t. slot C.slots t (length es)) ex → exactly r vs ≡ Some vs →
      To M 0 1 (st X (l ++ remeasured q C n (stored r (λ t. slot C.slots t (length es)) vs ex)) s (reload C r es k) g co) (st X (l ++ remeasured q C n (stored r (λ t. slot C.slots t (length es)) vs ex)) (vs ++ s) k g co)
  reload_told false n ex r es vs s k fit p e = reload_to M C l size ex r es vs s k p e
  reload_told true n ex None es [] s k fit p e = weaken M (still M _) (omega arith) (omega arith)
  reload_told true n ex None es (v ∷ vs) s k fit p e = absurd (cc)
  reload_told true n ex (Some t) es [] s k fit p e = absurd (cc)
  reload_told true n ex (Some t) es (v ∷ []) s k fit p e =
      let i = slot C.slots t (length es) in
      let ne : i ≢ length_at C = λ z. length_no_slot C (length es) t (omega (arith, fit)) (sym z) in
      let there : slice_get (remeasured true C n (slice_set ex i v)) i ≡ Some v = slice_get-put_other (slice_set ex i v) i (length_at C) (values.I64 n) ne ∙ slice_get-put_same ex i t v p in
      weaken M (added_get M C l size (remeasured true C n (slice_set ex i v)) i v there) (omega arith) (omega arith)
  reload_told true n ex (Some t) es (v ∷ w ∷ vs) s k fit p e = absurd (cc)
