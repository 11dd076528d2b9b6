-- The algorithm's frames are free exactly where the code is dead, and elsewhere know all their types.
use Rattle.std.proofs.Common.{◌≡◌, List, [], ◌∷◌, reverse, refl, sym, ap, subst, ◌∙◌}
use Rattle.std.specs.Prelude.{Bool, true, false, Option, Some, None, option_map, option_to_list, slice_get}
use Rattle.wasm_syntax.specs.declared.value.ValType.{ValType}
use Rattle.wasm_syntax.specs.declared.value.ValType.TheVariants.{I32}
use Rattle.wasm_syntax.specs.declared.instruction.Basic.{Basic}
use Rattle.wasm_syntax.specs.Tree.{Jump, Unreachable, Br, BrIf, BrTable, Return, Call, CallIndirect, Item, Plain, Goes, Opens, OpensLoop, OpensIf, Else, End}
use Rattle.wasm_syntax.specs.declared.parts.Limits.{Limits}
use Rattle.wasm_syntax.specs.Numbers.{same_type}
use Rattle.wasm_syntax.specs.Module.{type_at, option_then}
use Rattle.wasm_syntax.specs.Tree.{Placed}
use Rattle.wasm_syntax.specs.Typing.{Context, Arrow, ◌⇒◌, arrow, call_arrow}
use Rattle.wasm_syntax.specs.declared.blocks.BlockKind.TheVariants.{Loop, Then}
use Rattle.wasm_syntax.specs.declared.blocks.BlockKind.TheVariants as kinds
use Rattle.validate_body.specs.calls.Frames.{Known, Frame, opening, set_known, pop_type, pop_any, pop, push, pops, pushes, forget, label, emptied}
use Rattle.validate_body.specs.calls.Algorithm.{apply, drop_any, both, select_known, select, step_basic, step_jump, step, run, targets_fit, closed, at_else, may_end, at_end}
use Rattle.wasm_syntax.specs.FlatTyping.{dead_behind_jump, dead_next, dead_behind}
use Rattle.validate_body.specs.calls.Marks.{flags, AllSome, Sure}
use Rattle.validate_body.proofs.Options.{none_is, map_inv, if_inv}
use Rattle.validate_body.proofs.Jumps.{any_sound_inv, drop_inv}
use Rattle.validate_body.proofs.Same.{emptied_inv, else_inv}
use Rattle.pm_text.proofs.Lists.{some_is}
use Rattle.wasm_syntax.proofs.Types.{then_found}
use Rattle.validate_body.proofs.Arrows.{Steps, drops, selects, by_arrow, steps_of}

abbrev pub Kept : List Frame → List Frame → Type 0
Kept fs fs' = (flags fs' ≡ flags fs) × (Sure fs → Sure fs')

kept_then : (fs gs hs : List Frame) → Kept fs gs → Kept gs hs → Kept fs hs
kept_then fs gs hs h k = (k.0 ∙ h.0, λ s. k.1 (h.1 s))

pub true_false : {A : Type 0} → true ≡ false → A
true_false e = absurd (cc)

type_sure : (free : Bool) (ks ls : Known) (t : ValType) → pop_type free ks t ≡ Some ls → (free ≡ false → AllSome ks) → free ≡ false → AllSome ls
type_sure false [] ls t e h f = absurd (none_is e)
type_sure true [] ls t e h f = true_false f
type_sure free (None ∷ ks) ls t e h f = absurd (h f)
type_sure free (Some u ∷ ks) ls t e h f = let i = if_inv (same_type u t) (Some ks) ls e in subst AllSome (some_is i.1) (h f)

abbrev OneSome : Option ValType → Type 0
OneSome None = ⊥
OneSome (Some t) = Unit {0}

any_sure : (free : Bool) (ks : Known) (p : Option ValType × Known) → pop_any free ks ≡ Some p → free ≡ false → AllSome ks → OneSome p.0 × AllSome p.1
any_sure false [] p e f h = absurd (none_is e)
any_sure true [] p e f h = true_false f
any_sure free (None ∷ ks) p e f h = absurd h
any_sure free (Some u ∷ ks) p e f h = let q : (Some u, ks) ≡ p = some_is e in (subst (λ x. OneSome x.0) q tt, subst (λ x. AllSome x.1) q h)

pop_kept : (fs fs' : List Frame) (t : ValType) → pop fs t ≡ Some fs' → Kept fs fs'
pop_kept [] fs' t e = absurd (none_is e)
pop_kept (f ∷ fs) fs' t e =
    let i = map_inv (set_known f fs) (pop_type f.free f.known t) fs' e in
    (sym (ap flags i.2), λ s. subst Sure i.2 (type_sure f.free f.known i.0 t i.1 s.0, s.1))

pops_kept : (fs fs' : List Frame) (ts : List ValType) → pops fs ts ≡ Some fs' → Kept fs fs'
pops_kept fs fs' [] e = let q : fs ≡ fs' = some_is e in (sym (ap flags q), λ s. subst Sure q s)
pops_kept fs fs' (t ∷ ts) e =
    let i = then_found (pop fs t) (λ gs. pops gs ts) fs' e in kept_then fs i.0 fs' (pop_kept fs i.0 t i.1) (pops_kept i.0 fs' ts i.2)

push_kept : (fs : List Frame) (t : ValType) → Kept fs (push fs (Some t))
push_kept [] t = (refl, λ s. s)
push_kept (f ∷ fs) t = (refl, λ s. (s.0, s.1))

pushes_kept : (fs : List Frame) (ts : List ValType) → Kept fs (pushes fs ts)
pushes_kept fs [] = (refl, λ s. s)
pushes_kept fs (t ∷ ts) = kept_then fs (pushes fs ts) (pushes fs (t ∷ ts)) (pushes_kept fs ts) (push_kept (pushes fs ts) t)

apply_kept : (fs fs' : List Frame) (a : Arrow) → apply fs a ≡ Some fs' → Kept fs fs'
apply_kept fs fs' a e =
    let i = map_inv (λ gs. pushes gs a.gives) (pops fs a.takes) fs' e in
    let k = kept_then fs i.0 (pushes i.0 a.gives) (pops_kept fs i.0 a.takes i.1) (pushes_kept i.0 a.gives) in
    subst (Kept fs) i.2 k

drop_kept : (fs fs' : List Frame) → drop_any fs ≡ Some fs' → Kept fs fs'
drop_kept [] fs' e = absurd (none_is e)
drop_kept (f ∷ fs) fs' e =
    let i = drop_inv f fs fs' e in
    (sym (ap flags i.2), λ s. subst Sure i.2 (λ q. (any_sure f.free f.known i.0 i.1 q (s.0 q)).1, s.1))

both_some : (a b k : Option ValType) → both a b ≡ Some k → OneSome a → OneSome k
both_some None b k e o = absurd o
both_some (Some t) None k e o = subst OneSome (some_is e) tt
both_some (Some t) (Some u) k e o = let i = if_inv (same_type t u) (Some (Some t)) k e in subst OneSome (some_is i.1) tt

some_front : (k : Option ValType) (ks : Known) → OneSome k → AllSome ks → AllSome (k ∷ ks)
some_front None ks o h = absurd o
some_front (Some t) ks o h = h

select_sure : (free : Bool) (ks ls : Known) → select_known free ks ≡ Some ls → (free ≡ false → AllSome ks) → free ≡ false → AllSome ls
select_sure free ks ls e h f =
    let i = then_found (pop_type free ks I32) _ ls e in
    let j = then_found (pop_any free i.0) _ ls i.2 in
    let l = then_found (pop_any free j.0.1) _ ls j.2 in
    let m = map_inv (λ k. k ∷ l.0.1) (both j.0.0 l.0.0) ls l.2 in
    let a = any_sure free i.0 j.0 j.1 f (type_sure free ks i.0 I32 i.1 h f) in
    let b = any_sure free j.0.1 l.0 l.1 f a.1 in
    subst AllSome m.2 (some_front m.0 l.0.1 (both_some j.0.0 l.0.0 m.0 m.1 a.0) b.1)

select_kept : (fs fs' : List Frame) → select fs ≡ Some fs' → Kept fs fs'
select_kept [] fs' e = absurd (none_is e)
select_kept (f ∷ fs) fs' e =
    let i = map_inv (set_known f fs) (select_known f.free f.known) fs' e in
    (sym (ap flags i.2), λ s. subst Sure i.2 (select_sure f.free f.known i.0 i.1 s.0, s.1))

arrow_kept : (o : Option Arrow) (fs fs' : List Frame) → option_then o (apply fs) ≡ Some fs' → Kept fs fs'
arrow_kept o fs fs' e = let i = then_found o (apply fs) fs' e in apply_kept fs fs' i.0 i.2

kept_as : (c : Context) (fs fs' : List Frame) (i : Basic) → Steps i → step_basic c fs i ≡ Some fs' → Kept fs fs'
kept_as c fs fs' i drops e = drop_kept fs fs' e
kept_as c fs fs' i selects e = select_kept fs fs' e
kept_as c fs fs' i (by_arrow one goes) e = arrow_kept (arrow c I32 i) fs fs' (sym (goes c fs) ∙ e)

basic_kept : (c : Context) (fs fs' : List Frame) (i : Basic) → step_basic c fs i ≡ Some fs' → Kept fs fs'
basic_kept c fs fs' i e = kept_as c fs fs' i (steps_of i) e

-- ---- jumps

abbrev pub Next : List Frame → List Frame → List Bool → Type 0
Next fs fs' bs = (flags fs' ≡ bs) × (Sure fs → Sure fs')

tail_of : List Bool → List Bool
tail_of [] = []
tail_of (b ∷ bs) = bs

forget_next : (fs mid : List Frame) (b : Bool) (bs : List Bool) → flags mid ≡ b ∷ bs → (Sure fs → Sure mid) → Next fs (forget mid) (true ∷ bs)
unfolding tail_of
forget_next fs [] b bs e s = absurd (cc)
forget_next fs (m ∷ ms) b bs e s = (ap (λ x. true ∷ tail_of x) e, λ k. (λ q. tt, (s k).1))

transfer_next : (f : Frame) (fs fs' : List Frame) (ts : List ValType) → option_map forget (pops (f ∷ fs) ts) ≡ Some fs' → Next (f ∷ fs) fs' (true ∷ flags fs)
transfer_next f fs fs' ts e =
    let i = map_inv forget (pops (f ∷ fs) ts) fs' e in
    let k = pops_kept (f ∷ fs) i.0 ts i.1 in
    subst (λ x. Next (f ∷ fs) x (true ∷ flags fs)) i.2 (forget_next (f ∷ fs) i.0 f.free (flags fs) k.0 k.1)

jump_next : (c : Context) (f : Frame) (fs fs' : List Frame) (j : Jump) → step_jump c (f ∷ fs) j ≡ Some fs' → Next (f ∷ fs) fs' (dead_behind_jump f.free j ∷ flags fs)
jump_next c f fs fs' Unreachable e = transfer_next f fs fs' [] e
jump_next c f fs fs' (Br n) e = let l = then_found (label (f ∷ fs) n) _ fs' e in transfer_next f fs fs' (option_to_list l.0) l.2
jump_next c f fs fs' (BrIf n) e = let l = then_found (label (f ∷ fs) n) _ fs' e in apply_kept (f ∷ fs) fs' (I32 ∷ option_to_list l.0 ⇒ option_to_list l.0) l.2
jump_next c f fs fs' (BrTable targets default) e =
    let l = then_found (label (f ∷ fs) default) _ fs' e in
    let i = if_inv (targets_fit (f ∷ fs) l.0 targets) _ fs' l.2 in
    transfer_next f fs fs' (I32 ∷ option_to_list l.0) i.1
jump_next c f fs fs' Return e = transfer_next f fs fs' c.returns e
jump_next c f fs fs' (Call g) e = let l = then_found (type_at c.module_ g) _ fs' e in apply_kept (f ∷ fs) fs' (call_arrow l.0) l.2
jump_next c f fs fs' (CallIndirect t) e =
    let a = any_sound_inv {A = Limits} c.module_.tables _ fs' e in
    let l = then_found (slice_get c.module_.types t) _ fs' a.1 in
    apply_kept (f ∷ fs) fs' (I32 ∷ reverse l.0.params ⇒ reverse l.0.results) l.2

-- ---- blocks

closed_next : (f : Frame) (fs : List Frame) (p : Frame × List Frame) → closed (f ∷ fs) ≡ Some p → (flags p.1 ≡ flags fs) × (Sure (f ∷ fs) → Sure p.1)
unfolding tail_of
closed_next f fs p e =
    let i = then_found (pops (f ∷ fs) (option_to_list f.result)) emptied p e in
    let m = emptied_inv i.0 p i.2 in
    let k = pops_kept (f ∷ fs) i.0 (option_to_list f.result) i.1 in
    (ap tail_of (sym (ap flags m.0) ∙ k.0), λ s. (subst Sure m.0 (k.1 s)).1)

step_next : (c : Context) (fs fs' : List Frame) (i : Item) → step c fs i ≡ Some fs' → Next fs fs' (dead_next (flags fs) i)
step_next c [] fs' i e = absurd (none_is e)
step_next c (f ∷ fs) fs' (Plain i) e = basic_kept c (f ∷ fs) fs' i e
step_next c (f ∷ fs) fs' (Goes j) e = jump_next c f fs fs' j e
step_next c (f ∷ fs) fs' (Opens t) e = let q : opening kinds.Plain t ∷ f ∷ fs ≡ fs' = some_is e in (sym (ap flags q), λ s. subst Sure q (λ _. tt, s))
step_next c (f ∷ fs) fs' (OpensLoop t) e = let q : opening Loop t ∷ f ∷ fs ≡ fs' = some_is e in (sym (ap flags q), λ s. subst Sure q (λ _. tt, s))
step_next c (f ∷ fs) fs' (OpensIf t) e =
    let i = map_inv (λ gs. opening Then t ∷ gs) (pop (f ∷ fs) I32) fs' e in
    let k = pop_kept (f ∷ fs) i.0 I32 i.1 in
    (sym (ap flags i.2) ∙ ap (λ b. false ∷ b) k.0, λ s. subst Sure i.2 (λ _. tt, k.1 s))
step_next c (f ∷ fs) fs' Else e =
    let i = then_found (closed (f ∷ fs)) (λ p. at_else p.0 p.1 p.0.kind) fs' e in
    let j = else_inv i.0.0 i.0.1 i.0.0.kind fs' i.2 in
    let k = closed_next f fs i.0 i.1 in
    (sym (ap flags j.1) ∙ ap (λ b. false ∷ b) k.0, λ s. subst Sure j.1 (λ _. tt, k.1 s))
step_next c (f ∷ fs) fs' End e =
    let i = then_found (closed (f ∷ fs)) (λ p. at_end p.0 p.1) fs' e in
    let j = if_inv (may_end i.0.0.kind i.0.0.result) (Some (pushes i.0.1 (option_to_list i.0.0.result))) fs' i.2 in
    let k = closed_next f fs i.0 i.1 in
    let q : pushes i.0.1 (option_to_list i.0.0.result) ≡ fs' = some_is j.1 in
    let p = pushes_kept i.0.1 (option_to_list i.0.0.result) in
    (sym (ap flags q) ∙ p.0 ∙ k.0, λ s. subst Sure q (p.1 (k.1 s)))

pub run_next : (c : Context) (ps : List Placed) (fs fs' : List Frame) → run c fs ps ≡ Some fs' → Next fs fs' (dead_behind (flags fs) ps)
run_next c [] fs fs' e = let q : fs ≡ fs' = some_is e in (sym (ap flags q), λ s. subst Sure q s)
run_next c (p ∷ ps) fs fs' e =
    let i = then_found (step c fs p.code) (λ gs. run c gs ps) fs' e in
    let s = step_next c fs i.0 p.code i.1 in
    let r = run_next c ps i.0 fs' i.2 in
    (r.0 ∙ ap (λ b. dead_behind b ps) s.0, λ k. r.1 (s.1 k))
