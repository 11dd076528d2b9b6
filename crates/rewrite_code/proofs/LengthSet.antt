-- The global and the local of the memory's length are set.
use Rattle.std.proofs.Common.{◌≡◌, ℕ, List, [], ◌∷◌, Bool, true, false, refl, sym, ◌∙◌, subst}
use Rattle.wasm_syntax.specs.declared.instruction.Basic.TheVariants.{GlobalGet, GlobalSet}
use Rattle.wasm_syntax.specs.declared.module.ModuleParts.{ModuleParts as Module}
use Rattle.wasm_syntax.specs.declared.parts.Limits.{Limits}
use Rattle.wasm_syntax.specs.Tree.{basic}
use Rattle.rewrite_bodies.specs.calls.Slots.{Ctx, length_at, measured}
use Rattle.rewrite_bodies.specs.calls.Pieces.{get, set}
use Rattle.rewrite_bodies.specs.calls.Guards.{memory_length, length_of, set_length, set_both, renew, renew_both, renewed, get_length, measure}
use Rattle.rewrite_code.specs.calls.Writing.{Written, Emits}
use Rattle.rewrite_code.proofs.Pieces.{emits_then}
use Rattle.rewrite_code.proofs.Loads.{emits_same}

pub length_set : (m : Module) (x : ℕ) {a b c : Written} → x ≡ length_of m → Emits memory_length a b → Emits (basic 0 (GlobalSet x)) b c → Emits (set_length m) a c
length_set m x {b = b} {c = c} at p q = emits_then p (subst (λ y. Emits (basic 0 (GlobalSet y)) b c) at q)

-- by the memories of the module
pub none_renewed : (m : Module) (ls : List Limits) {a : Written} → ls ≡ [] → Emits (renewed ls m) a a
none_renewed m ls {a} e = subst (λ l. Emits (renewed l m) a a) (sym e) (record { emitted = λ k behind. refl })

pub some_renewed : (m : Module) (ls : List Limits) (l : Limits) (more : List Limits) {a b : Written} → ls ≡ l ∷ more → Emits (set_length m) a b → Emits (renewed ls m) a b
some_renewed m ls l more {a} {b} e p = subst (λ l. Emits (renewed l m) a b) (sym e) p

-- ---- the local

pub length_read : (C : Ctx) (x : ℕ) {a b : Written} → x ≡ length_at C → Emits (get C x) a b → Emits (get_length C) a b
length_read C x {a} {b} at p = subst (λ y. Emits (get C y) a b) at p

pub measures : (C : Ctx) (q : Bool) (y : ℕ) {a b c : Written} → q ≡ measured C → q ≡ true → y ≡ length_at C → Emits (basic 0 (GlobalGet (length_of C.source))) a b → Emits (set C y) b c → Emits (measure (measured C) C) a c
measures C q y {a} {b} {c} is yes_ to p r =
    let two : Emits (set C (length_at C)) b c = subst (λ z. Emits (set C z) b c) to r in
    subst (λ z. Emits (measure z C) a c) (sym yes_ ∙ is) (emits_same (λ k. refl) (emits_then p two))

pub unmeasured : (C : Ctx) (q : Bool) {a : Written} → q ≡ measured C → q ≡ false → Emits (measure (measured C) C) a a
unmeasured C q {a} is no_ = subst (λ z. Emits (measure z C) a a) (sym no_ ∙ is) (record { emitted = λ k behind. refl })

-- ---- both

pub both_set : (C : Ctx) {a b c : Written} → Emits (set_length C.source) a b → Emits (measure (measured C) C) b c → Emits (set_both C) a c
both_set C p q = emits_then p q

pub both_renewed : (C : Ctx) {a b c : Written} → Emits (renew C.source) a b → Emits (measure (measured C) C) b c → Emits (renew_both C) a c
both_renewed C p q = emits_then p q
