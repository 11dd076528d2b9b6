-- What stays true of the world: a global that can't change has its first value, and the memory has a size that the module allows.
use Rattle.std.proofs.Common.{◌≡◌, ℕ, zero, suc, ◌+◌, ◌*◌, ◌/◌, ◌≤◌, nat_le, min, Bool, true, false, List, [], ◌∷◌, ◌++◌, length, take, drop, replicate, slice_get, slice_set, if◌then◌else◌, Option, Some, None, unwrap_or, refl, sym, ap, subst, ◌∙◌, arith, leb-true, length-append, inl, inr, ⊎_elim}
use Rattle.std.specs.Prelude.{◌⊎◌}
use Rattle.std.proofs.lemmas.List.{length-take-le, length-drop, length-replicate}
use Rattle.wasm_syntax.specs.declared.value.ValType.{ValType}
use Rattle.wasm_syntax.specs.declared.value.Value.{Value}
use Rattle.wasm_syntax.specs.declared.instruction.Basic.{Basic}
use Rattle.wasm_syntax.specs.declared.parts.Limits.{Limits}
use Rattle.wasm_syntax.specs.declared.parts.Global.{Global}
use Rattle.wasm_syntax.specs.declared.module.ModuleParts.{ModuleParts as Module}
use Rattle.wasm_syntax.specs.declared.host.HostCall.{HostCall}
use Rattle.wasm_syntax.specs.declared.host.Write.{Write}
use Rattle.wasm_syntax.specs.declared.host.Reply.{Reply}
use Rattle.wasm_syntax.specs.declared.host.CollectorCall.{CollectorCall}
use Rattle.linear_memory.specs.Memory.{Memory, page_size, put, copy, grow, pages, splice, window}
use Rattle.wasm_syntax.specs.Numbers.{value}
use Rattle.wasm_syntax.specs.Module.{const_value, option_then}
use Rattle.wasm_syntax.specs.Effect.{Effect, gives, fails, unfit, effect, with_globals, with_memory}
use Rattle.wasm_syntax.specs.Host.{World, Answer, replied, told, silent, misfit, answer, told_or, served_by, if_fits, if_written, after_writes, fits_type, collector_of}
use Rattle.wasm_syntax.specs.Typing.{Context, Arrow, arrow}
use Rattle.pm_text.proofs.Lists.{some_is}
use Rattle.wasm_syntax.specs.calls.Classes.{EffectClass, Pure, Dividing, Accessing, SetsLocal, SetsGlobal, effect_class, Accessed, MayWrite, Does, Asks}
use Rattle.wasm_syntax.proofs.Classes.{acts_as_class, asks}

-- ---- what is kept

-- the pages of a memory of these limits
abbrev pub Sized : Limits → Memory → Type 0
Sized l k = (l.min ≤ pages k) × (pages k ≤ k.max) × (k.max ≤ min 4096 (unwrap_or l.max 4096))

abbrev pub SizeKept : List Limits → Option Memory → Type 0
SizeKept [] o = Unit {0}
SizeKept (l ∷ ls) None = Unit {0}
SizeKept (l ∷ ls) (Some k) = Sized l k

abbrev pub FirstKept : List Global → List Value → Type 0
FirstKept gs vs = (i : ℕ) (g : Global) (v : Value) → slice_get gs i ≡ Some g → g.mutable ≡ false → slice_get vs i ≡ Some v → const_value [] g.init.ops ≡ Some v

pub record WorldKept (m : Module) (w : World) : Type 0 where
  pub globals : FirstKept m.globals w.globals
  pub memory : SizeKept m.memories w.memory

-- ---- the memory

sized_as : (l : Limits) (k k' : Memory) → pages k' ≡ pages k → k'.max ≡ k.max → Sized l k → Sized l k'
sized_as l k k' p m h = (omega (arith, p, h.0), omega (arith, p, m, h.1), omega (arith, m, h.2))

size_as : (ls : List Limits) (k k' : Memory) → pages k' ≡ pages k → k'.max ≡ k.max → SizeKept ls (Some k) → SizeKept ls (Some k')
size_as [] k k' p m h = tt
size_as (l ∷ ls) k k' p m h = sized_as l k k' p m h

put_same : (k k' : Memory) (at : ℕ) (new : List ℕ) (q : Bool) → nat_le (at + length new) (length k.bytes) ≡ q → (if q then Some (record k { bytes = splice k.bytes at new }) else None) ≡ Some k' → (length k'.bytes ≡ length k.bytes) × (k'.max ≡ k.max)
put_same k k' at new true q e =
    let z : record k { bytes = splice k.bytes at new } ≡ k' = some_is e in
    let le : at + length new ≤ length k.bytes = leb-true (at + length new) (length k.bytes) q in
    let n : length (splice k.bytes at new) ≡ length k.bytes =
    omega (arith, le, length-append (take at k.bytes ++ new) (drop (at + length new) k.bytes), length-append (take at k.bytes) new, length-drop (at + length new) k.bytes, length-take-le at k.bytes (omega (arith, le))) in
    (ap (λ x. length x.bytes) (sym z) ∙ n, ap (λ x. x.max) (sym z))
put_same k k' at new false q e = absurd (cc)

pub put_sized : (ls : List Limits) (k k' : Memory) (at : ℕ) (new : List ℕ) → put k at new ≡ Some k' → SizeKept ls (Some k) → SizeKept ls (Some k')
put_sized ls k k' at new e h =
    let p = put_same k k' at new (nat_le (at + length new) (length k.bytes)) refl e in
    size_as ls k k' (ap (λ n. n / page_size) p.0) p.1 h

copy_sized : (ls : List Limits) (k k' : Memory) (to from n : ℕ) → copy k to from n ≡ Some k' → SizeKept ls (Some k) → SizeKept ls (Some k')
copy_sized ls k k' to from n e h = by_test (nat_le (from + n) (length k.bytes)) e
  where
    by_test : (q : Bool) → (if q then put k to (window k.bytes from n) else None) ≡ Some k' → SizeKept ls (Some k')
    by_test true e = put_sized ls k k' to (window k.bytes from n) e h
    by_test false e = absurd (cc)

more_pages : (a n : ℕ) → (a + 65536 * n) / 65536 ≡ a / 65536 + n
more_pages a n = omega arith

grow_sized : (ls : List Limits) (k k' : Memory) (n : ℕ) → grow k n ≡ Some k' → SizeKept ls (Some k) → SizeKept ls (Some k')
grow_sized [] k k' n e h = tt
grow_sized (l ∷ ls) k k' n e h = by_test (nat_le (pages k + n) k.max) refl e
  where
    by_test : (q : Bool) → nat_le (pages k + n) k.max ≡ q → (if q then Some (record k { bytes = k.bytes ++ replicate (page_size * n) 0 }) else None) ≡ Some k' → Sized l k'
    by_test true q e =
        let z : record k { bytes = k.bytes ++ replicate (page_size * n) 0 } ≡ k' = some_is e in
        let le : pages k + n ≤ k.max = leb-true (pages k + n) k.max q in
        let len : length (k.bytes ++ replicate (page_size * n) 0) ≡ length k.bytes + 65536 * n = omega (arith, length-append k.bytes (replicate (page_size * n) 0), length-replicate {A = ℕ} (page_size * n) 0) in
        let p : pages k' ≡ pages k + n = ap (λ x. length x.bytes / page_size) (sym z) ∙ ap (λ y. y / page_size) len ∙ more_pages (length k.bytes) n in
        let m : k'.max ≡ k.max = ap (λ x. x.max) (sym z) in
        (omega (arith, p, h.0), omega (arith, p, m, le), omega (arith, m, h.2))
    by_test false q e = absurd (cc)

-- ---- the globals

set_get : (vs : List Value) (x i : ℕ) (v u : Value) → slice_get (slice_set vs x v) i ≡ Some u → (i ≡ x) ⊎ (slice_get vs i ≡ Some u)
set_get [] x i v u e = inr e
set_get (w ∷ vs) zero zero v u e = inl refl
set_get (w ∷ vs) zero (suc i) v u e = inr e
set_get (w ∷ vs) (suc x) zero v u e = inr e
set_get (w ∷ vs) (suc x) (suc i) v u e = ⊎_elim (λ a. inl (ap suc a)) (λ b. inr b) (set_get vs x i v u e)

-- ---- an instruction

abbrev pub EffectKept : Module → Effect → Type 0
EffectKept m (gives w ls vs) = WorldKept m w
EffectKept m (fails kind) = Unit {0}
EffectKept m unfit = Unit {0}

module _ (m : Module) where
  module _ (w : World) (ls : List Value) (kept : WorldKept m w) where
    size_of : (k : Memory) → w.memory ≡ Some k → SizeKept m.memories (Some k)
    size_of k e = subst (SizeKept m.memories) e kept.memory

    new_memory : (k : Memory) → SizeKept m.memories (Some k) → WorldKept m (with_memory w k)
    new_memory k h = record { globals = kept.globals; memory = h }

    new_global : (x : ℕ) (g : Global) (v : Value) → slice_get m.globals x ≡ Some g → g.mutable ≡ true → WorldKept m (with_globals w (slice_set w.globals x v))
    new_global x g v e mu = record { globals = λ i h u f im q. by_place i h u f im (set_get w.globals x i v u q); memory = kept.memory }
      where
        by_place : (i : ℕ) (h : Global) (u : Value) → slice_get m.globals i ≡ Some h → h.mutable ≡ false → (i ≡ x) ⊎ (slice_get w.globals i ≡ Some u) → const_value [] h.init.ops ≡ Some u
        by_place i h u f im (inl p) =
            let same : h ≡ g = some_is (sym f ∙ ap (slice_get m.globals) p ∙ e) in
            let z : true ≡ false = sym mu ∙ ap (λ y. y.mutable) (sym same) ∙ im in
            absurd (cc)
        by_place i h u f im (inr p) = kept.globals i h u f im p

    accessed : (k k' : Memory) → Accessed k k' → SizeKept m.memories (Some k) → SizeKept m.memories (Some k')
    accessed k k' (inl p) h = put_sized m.memories k k' p.0 p.1 p.2 h
    accessed k k' (inr (inl c)) h = copy_sized m.memories k k' c.0 c.1 c.2 c.3 h
    accessed k k' (inr (inr g)) h = grow_sized m.memories k k' g.0 g.1 h

    by_write : (w' : World) → MayWrite w w' → WorldKept m w'
    by_write w' (inl e) = subst (WorldKept m) (sym e) kept
    by_write w' (inr q) = subst (WorldKept m) (sym q.4) (new_memory q.1 (accessed q.0 q.1 q.3 (size_of q.0 q.2)))

    by_class : (c : Context) (k : EffectClass) (e : Effect) → c.module_ ≡ m → Asks k c → Does k w ls e → EffectKept m e
    by_class c k unfit cm a d = tt
    by_class c k (fails kind) cm a d = tt
    by_class c Pure (gives w' ls' vs) cm a d = subst (WorldKept m) (sym d.1) kept
    by_class c Dividing (gives w' ls' vs) cm a d = subst (WorldKept m) (sym d.1) kept
    by_class c Accessing (gives w' ls' vs) cm a d = by_write w' d.1
    by_class c (SetsLocal x) (gives w' ls' vs) cm a d = subst (WorldKept m) (sym d.0) kept
    by_class c (SetsGlobal x) (gives w' ls' vs) cm a d =
        subst (WorldKept m) (sym d.2) (new_global x a.0 d.1 (subst (λ (y : Module). slice_get y.globals x ≡ Some a.0) cm a.1) a.2)

    pub effect_kept : (c : Context) (i : Basic) (t : ValType) (a : Arrow) (vs : List Value) → c.module_ ≡ m → arrow c t i ≡ Some a → EffectKept m (effect i w ls vs)
    effect_kept c i t a vs cm e = by_class c (effect_class i) (effect i w ls vs) cm (asks c t i a e) (acts_as_class w ls i vs)

-- ---- the host

abbrev pub AnswerKept : Module → Answer → Type 0
AnswerKept m (replied w v) = WorldKept m w
AnswerKept m (told k) = Unit {0}
AnswerKept m silent = Unit {0}
AnswerKept m (misfit reply) = Unit {0}

writes_sized : (l : List Limits) (o : Option Memory) (ws : List Write) (o' : Option Memory) → after_writes o ws ≡ Some o' → SizeKept l o → SizeKept l o'
writes_sized l o [] o' e h = subst (SizeKept l) (some_is e) h
writes_sized l None (w ∷ ws) o' e h = absurd (cc)
writes_sized l (Some k) (w ∷ ws) o' e h = by_put (put k w.at w.bytes) refl e (λ k' q e'. writes_sized l (Some k') ws o' e' (put_sized l k k' w.at w.bytes q h))
  where
    by_put : (p : Option Memory) → put k w.at w.bytes ≡ p → option_then p (λ k'. after_writes (Some k') ws) ≡ Some o' → ((k' : Memory) → put k w.at w.bytes ≡ Some k' → after_writes (Some k') ws ≡ Some o' → SizeKept l o') → SizeKept l o'
    by_put None q e ih = absurd (cc)
    by_put (Some k') q e ih = ih k' q e

module _ (m : Module) (call : HostCall) (w : World) (kept : WorldKept m w) where
  written_kept : (reply : Reply) (left : List Reply) (o : Option (Option Memory)) → after_writes w.memory reply.writes ≡ o → AnswerKept m (if_written call reply left w o)
  written_kept reply left None e = tt
  written_kept reply left (Some k) e = record { globals = kept.globals; memory = writes_sized m.memories w.memory reply.writes k e kept.memory }

  fit_kept : (reply : Reply) (left : List Reply) (q : Bool) → AnswerKept m (if_fits call reply left w q)
  fit_kept reply left false = tt
  fit_kept reply left true = written_kept reply left (after_writes w.memory reply.writes) refl

  served_kept : (rs : List Reply) → AnswerKept m (served_by call w rs)
  served_kept [] = tt
  served_kept (reply ∷ left) = fit_kept reply left (fits_type call.result reply.value)

  told_kept : (o : Option CollectorCall) → AnswerKept m (told_or o call w)
  told_kept None = served_kept w.replies
  told_kept (Some k) = tt

  pub answer_kept : (collects : Bool) → AnswerKept m (answer collects m call w)
  answer_kept true = told_kept (collector_of m call)
  answer_kept false = served_kept w.replies
