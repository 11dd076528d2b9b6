-- How branches, blocks and basic instructions are put together.
use Rattle.std.proofs.Common.{◌≡◌, ℕ, zero, suc, ◌+◌, ◌-◌, List, [], ◌∷◌, length, Bool, Option, Some, None, refl, sym, ap, subst, ◌∙◌, arith}
use Rattle.wasm_syntax.specs.declared.value.ValType.{ValType}
use Rattle.wasm_syntax.specs.Tree.{Unreachable, Nodes, stop, basic, jump, block, choose}
use Rattle.rewrite_bodies.specs.calls.Slots.{Place, Ctx, less, result_place}
use Rattle.rewrite_bodies.specs.calls.Pieces.{const, i32, keep}
use Rattle.rewrite_bodies.specs.calls.Rewrite.{unwind_kind, control, guarded, free, plain, grows, lengthened}
use Rattle.rewrite_code.specs.calls.Writing.{Written, ends, Emits, EmitsLast, Opens, Closes, OpensArms}
use Rattle.rewrite_code.proofs.Pieces.{emits_then, emits_last, emits_stop, emits_within}
use Rattle.rewrite_code.proofs.Loads.{emits_same}
use Rattle.unwind_rewrite.specs.calls.Bodies.{OpensTwo, ClosesWith, OpensBoth, ClosesBefore}
use Rattle.wasm_syntax.specs.declared.instruction.Basic.{Basic}
use Rattle.wasm_syntax.specs.Effect.{takes}
use Rattle.rewrite_bodies.specs.calls.Facts.{needs}

pub trapped : (C : Ctx) (ls : ℕ) (es : List Place) (o : ℕ) (p : Bool) (go : List Place → Nodes) {a b c d e f g : Written} → Emits (const (i32 1)) a b → Opens (λ arm k. choose 0 None arm None stop 0 k) b c → Emits (const (i32 1)) c d →
    EmitsLast (unwind_kind C ls es o) d e → Closes e f → Emits (jump 0 Unreachable) f g → EmitsLast (control C ls es o Unreachable p go) a g
trapped C ls es o pass go p op k u cl r = emits_last p (emits_last (emits_within op (emits_last k u) cl) (emits_stop r))

-- ---- blocks

pub two_opened : {t : Option ValType} {a b c : Written} → Opens (λ inner k. block 0 None inner 0 k) a b → Opens (λ inner k. block 0 t inner 0 k) b c → OpensTwo t a c
two_opened {t} o p = record { opened = λ inner k l behind. o.opened (block 0 t inner 0 k) l behind ∙ p.opened inner k (ends l ∷ behind) }

-- behind a piece
pub one_opened : {P : Nodes → Nodes} {Q : Nodes → Nodes → Nodes} {a b c : Written} → Emits P a b → Opens Q b c → Opens (λ inner k. P (Q inner k)) a c
one_opened {Q = Q} p o = record { opened = λ inner k behind. p.emitted (Q inner k) behind ∙ o.opened inner k behind }

pub both_opened : {P : Nodes → Nodes} {t : Option ValType} {a b c : Written} → Emits P a b → OpensArms t b c → OpensBoth (λ arm other k. P (choose 0 t arm (Some 0) other 0 k)) a c
both_opened {t = t} p o = record { opened = λ arm other k behind. p.emitted (choose 0 t arm (Some 0) other 0 k) behind ∙ o.opened arm other k behind }

pub closed_before : {P : Nodes → Nodes} {a b c : Written} → Closes a b → Emits P b c → ClosesBefore P a c
closed_before {P} c e = record { closed = λ k behind. c.closed (P k) behind ∙ e.emitted k behind }

pub closed_with : (nodes : Nodes) {a b c : Written} → Closes a b → EmitsLast nodes b c → ClosesWith nodes a c
closed_with nodes c e = record { closed = λ behind. c.closed nodes behind ∙ e.emitted behind }

-- ---- instructions

pub less_length : (n : ℕ) (es : List Place) → length (less n es) ≡ length es - n
less_length zero es = omega arith
less_length (suc n) [] = omega arith
less_length (suc n) (e ∷ es) = less_length n es ∙ omega arith

-- what a store asks, at the height of the operands left
pub under_height : (n : ℕ) (es : List Place) (h k : ℕ) → h ≡ length es → k ≡ h - n → length (less n es) ≡ k
under_height n es h k e d = less_length n es ∙ ap (λ h. h - n) (sym e) ∙ sym d

pub put_on : (C : Ctx) (q : Bool) (n : ℕ) (p : Option Place) (es : List Place) (i : Basic) {a b c d e : Written} → Emits (free C i (less n es)) a b → Emits (basic 0 i) b c → Emits (lengthened (grows i) C) c e → Emits (keep q C p (less n es)) e d →
    Emits (λ k. free C i (less n es) (basic 0 i (lengthened (grows i) C (keep q C p (less n es) k)))) a d
put_on C pass n p es i q r l s = emits_then q (emits_then r (emits_then l s))

pub made_plain : (C : Ctx) (q : Bool) (ls : ℕ) (es : List Place) (o : ℕ) (i : Basic) (n : ℕ) (p : Option Place) {a b c : Written} → takes i ≡ n → result_place C es i ≡ p →
    Emits (guarded (needs C o i) C ls es o i) a b → Emits (λ k. free C i (less n es) (basic 0 i (lengthened (grows i) C (keep q C p (less n es) k)))) b c → Emits (λ k. plain C ls es o i q (λ left. k)) a c
made_plain C q ls es o i n p {b = b} {c = c} taken gives g put =
    let one : Emits (λ k. free C i (less n es) (basic 0 i (lengthened (grows i) C (keep q C (result_place C es i) (less n es) k)))) b c = subst (λ p. Emits (λ k. free C i (less n es) (basic 0 i (lengthened (grows i) C (keep q C p (less n es) k)))) b c) (sym gives) put in
    let two : Emits (λ k. free C i (less (takes i) es) (basic 0 i (lengthened (grows i) C (keep q C (result_place C es i) (less (takes i) es) k)))) b c = subst (λ n. Emits (λ k. free C i (less n es) (basic 0 i (lengthened (grows i) C (keep q C (result_place C es i) (less n es) k)))) b c) (sym taken) one in
    emits_same (λ k. refl) (emits_then g two)
