-- Pieces with the number that the definition names.
use Rattle.std.proofs.Common.{◌≡◌, ℕ, OnOk, Ok, Err, subst}
use Rattle.std.specs.declared.result.Result.{Result}
use Rattle.wasm_syntax.specs.declared.instruction.Basic.TheVariants.{GlobalGet, GlobalSet}
use Rattle.wasm_syntax.specs.Tree.{Br, basic, jump}
use Rattle.rewrite_bodies.specs.calls.Slots.{Place, Ctx}
use Rattle.rewrite_bodies.specs.calls.Pieces.{get, set, const, i32, call, fetch}
use Rattle.rewrite_code.specs.calls.Writing.{Written, Emits}

-- a fact that does not depend on the answer
pub always : {T E P : Type 0} → (r : Result T E) → P → OnOk r P
always (Ok x) p = p
always (Err e) p = tt

-- ---- a piece with another name of its number

pub get_at : (C : Ctx) {x y : ℕ} {a b : Written} → x ≡ y → Emits (get C x) a b → Emits (get C y) a b
get_at C {a = a} {b = b} e p = subst (λ x. Emits (get C x) a b) e p

pub set_at : (C : Ctx) {x y : ℕ} {a b : Written} → x ≡ y → Emits (set C x) a b → Emits (set C y) a b
set_at C {a = a} {b = b} e p = subst (λ x. Emits (set C x) a b) e p

pub number_at : {x y : ℕ} {a b : Written} → x ≡ y → Emits (const (i32 x)) a b → Emits (const (i32 y)) a b
number_at {a = a} {b = b} e p = subst (λ x. Emits (const (i32 x)) a b) e p

pub call_at : {x y : ℕ} {a b : Written} → x ≡ y → Emits (call x) a b → Emits (call y) a b
call_at {a = a} {b = b} e p = subst (λ x. Emits (call x) a b) e p

pub global_get_at : {x y : ℕ} {a b : Written} → x ≡ y → Emits (basic 0 (GlobalGet x)) a b → Emits (basic 0 (GlobalGet y)) a b
global_get_at {a = a} {b = b} e p = subst (λ x. Emits (basic 0 (GlobalGet x)) a b) e p

pub global_set_at : {x y : ℕ} {a b : Written} → x ≡ y → Emits (basic 0 (GlobalSet x)) a b → Emits (basic 0 (GlobalSet y)) a b
global_set_at {a = a} {b = b} e p = subst (λ x. Emits (basic 0 (GlobalSet x)) a b) e p

pub branch_at : {x y : ℕ} {a b : Written} → x ≡ y → Emits (jump 0 (Br x)) a b → Emits (jump 0 (Br y)) a b
branch_at {a = a} {b = b} e p = subst (λ x. Emits (jump 0 (Br x)) a b) e p

pub fetch_at : (C : Ctx) (p : Place) {x y : ℕ} {a b : Written} → x ≡ y → Emits (fetch C p x) a b → Emits (fetch C p y) a b
fetch_at C p {a = a} {b = b} e q = subst (λ x. Emits (fetch C p x) a b) e q
