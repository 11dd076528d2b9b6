-- What a step of the algorithm does to the operands that live code goes on with: it keeps a lower part of them, and adds at most one, which
-- is then the topmost. It adds none where the code behind it is dead.
use Rattle.std.proofs.Common.{◌≡◌, ℕ, ◌≤◌, List, [], ◌∷◌, ◌++◌, length, reverse, refl, sym, ap, subst, ◌∙◌, arith, append_assoc}
use Rattle.std.proofs.lemmas.List.{length-reverse}
use Rattle.std.specs.Prelude.{Bool, true, false, ◌||◌, if◌then◌else◌, Option, Some, None, option_map, option_to_list, slice_get}
use Rattle.wasm_syntax.specs.declared.value.ValType.{ValType}
use Rattle.wasm_syntax.specs.declared.value.ValType.TheVariants.{I32}
use Rattle.wasm_syntax.specs.declared.blocks.BlockKind.{BlockKind}
use Rattle.wasm_syntax.specs.declared.blocks.BlockKind.TheVariants.{Loop, Then}
use Rattle.wasm_syntax.specs.declared.blocks.BlockKind.TheVariants as kinds
use Rattle.wasm_syntax.specs.declared.instruction.Basic.{Basic}
use Rattle.wasm_syntax.specs.declared.parts.FuncType.{FuncType}
use Rattle.wasm_syntax.specs.declared.parts.Limits.{Limits}
use Rattle.wasm_syntax.specs.declared.module.ModuleParts.{ModuleParts as Module}
use Rattle.wasm_syntax.specs.Numbers.{same_type}
use Rattle.wasm_syntax.specs.Module.{type_at, function_types, option_then}
use Rattle.wasm_syntax.specs.Tree.{Jump, Unreachable, Br, BrIf, BrTable, Return, Call, CallIndirect, Item, Plain, Goes, Opens, OpensLoop, OpensIf, Else, End}
use Rattle.wasm_syntax.specs.Typing.{Context, Arrow, ◌⇒◌, arrow, call_arrow}
use Rattle.validate_body.specs.calls.Frames.{Known, Frame, opening, set_known, pop_type, pop_any, pop, push, pops, pushes, forget, label, emptied, operands, any_free}
use Rattle.validate_body.specs.calls.Algorithm.{apply, drop_any, both, select_known, select, step_basic, step_jump, step, targets_fit, closed, at_else, may_end, at_end}
use Rattle.validate_body.proofs.Options.{none_is, map_inv, if_inv}
use Rattle.validate_body.proofs.Jumps.{any_sound_inv, drop_inv}
use Rattle.validate_body.proofs.Same.{emptied_inv, else_inv}
use Rattle.std.proofs.lemmas.Bool.{or_parts}
use Rattle.validate_body.proofs.Flags.{true_false}
use Rattle.pm_text.proofs.Lists.{some_is}
use Rattle.wasm_syntax.proofs.Types.{then_found}
use Rattle.wasm_syntax.proofs.Classes.{gives_one}
use Rattle.validate_body.proofs.Arrows.{Steps, drops, selects, by_arrow, steps_of}

-- the operands under the outermost dead sequence, the topmost first; in live code those of all frames
abbrev pub base : List Frame → Known
base [] = []
base (f ∷ fs) = if f.free || any_free fs then base fs else f.known ++ base fs

-- the one list is the lower part of the other
abbrev pub Below : Known → Known → Type 0
Below low all = (front : Known) × (all ≡ front ++ low)

abbrev pub tail_of : Known → Known
tail_of [] = []
tail_of (k ∷ ks) = ks

-- each type has at most one result
abbrev pub OneResult : Module → Type 0
OneResult m = (t : ℕ) (type : FuncType) → slice_get m.types t ≡ Some type → length type.results ≤ 1

-- ---- lower parts

pub below_self : (ks : Known) → Below ks ks
below_self ks = ([], refl)

pub below_then : (ks ls ms : Known) → Below ls ms → Below ks ls → Below ks ms
below_then ks ls ms h k = (h.0 ++ k.0, h.1 ∙ ap (λ z. h.0 ++ z) k.1 ∙ sym (append_assoc h.0 k.0 ks))

below_more : (ks ls rest : Known) → Below ks ls → Below (ks ++ rest) (ls ++ rest)
below_more ks ls rest h = (h.0, ap (λ z. z ++ rest) h.1 ∙ append_assoc h.0 ks rest)

pub below_tail : (ks : Known) → Below (tail_of ks) ks
below_tail [] = ([], refl)
below_tail (k ∷ ks) = (k ∷ [], refl)

-- ---- in live code, and in dead code

pub base_live : (fs : List Frame) → any_free fs ≡ false → base fs ≡ operands fs
base_live [] e = refl
base_live (f ∷ fs) e = rw e (ap (λ z. f.known ++ z) (base_live fs (or_parts f.free (any_free fs) e).1))

base_out : (f : Frame) (fs : List Frame) → Below (base fs) (base (f ∷ fs))
base_out f fs = by_test (f.free || any_free fs) refl
  where
    by_test : (b : Bool) → (f.free || any_free fs) ≡ b → Below (base fs) (base (f ∷ fs))
    by_test true q = rw q (below_self (base fs))
    by_test false q = rw q ((f.known, refl))

base_set : (f : Frame) (fs : List Frame) (ks : Known) → (f.free ≡ false → Below ks f.known) → Below (base (set_known f fs ks)) (base (f ∷ fs))
base_set f fs ks h = by_test (f.free || any_free fs) refl
  where
    by_test : (b : Bool) → (f.free || any_free fs) ≡ b → Below (base (set_known f fs ks)) (base (f ∷ fs))
    by_test true q = rw q (below_self (base fs))
    by_test false q = rw q (below_more ks f.known (base fs) (h (or_parts f.free (any_free fs) q).0))

base_opened : (kind : BlockKind) (t : Option ValType) (fs : List Frame) → base (opening kind t ∷ fs) ≡ base fs
base_opened kind t fs = by_test (any_free fs) refl
  where
    by_test : (b : Bool) → any_free fs ≡ b → base (opening kind t ∷ fs) ≡ base fs
    by_test true q = rw q refl
    by_test false q = rw q refl

base_forgot : (fs gs : List Frame) → Below (base gs) (base fs) → Below (base (forget gs)) (base fs)
base_forgot fs [] h = h
base_forgot fs (g ∷ gs) h = below_then (base gs) (base (g ∷ gs)) (base fs) h (base_out g gs)

-- ---- operands that are taken

type_below : (free : Bool) (ks ls : Known) (t : ValType) → pop_type free ks t ≡ Some ls → free ≡ false → Below ls ks
type_below false [] ls t e f = absurd (none_is e)
type_below true [] ls t e f = true_false f
type_below free (None ∷ ks) ls t e f = (None ∷ [], ap (λ z. None ∷ z) (some_is e))
type_below free (Some u ∷ ks) ls t e f = let i = if_inv (same_type u t) (Some ks) ls e in (Some u ∷ [], ap (λ z. Some u ∷ z) (some_is i.1))

any_below : (free : Bool) (ks : Known) (p : Option ValType × Known) → pop_any free ks ≡ Some p → free ≡ false → Below p.1 ks
any_below false [] p e f = absurd (none_is e)
any_below true [] p e f = true_false f
any_below free (k ∷ ks) p e f = let q : (k, ks) ≡ p = some_is e in (k ∷ [], ap (λ x. k ∷ x.1) q)

pop_below : (fs fs' : List Frame) (t : ValType) → pop fs t ≡ Some fs' → Below (base fs') (base fs)
pop_below [] fs' t e = absurd (none_is e)
pop_below (f ∷ fs) fs' t e =
    let i = map_inv (set_known f fs) (pop_type f.free f.known t) fs' e in
    subst (λ x. Below (base x) (base (f ∷ fs))) i.2 (base_set f fs i.0 (type_below f.free f.known i.0 t i.1))

pops_below : (fs fs' : List Frame) (ts : List ValType) → pops fs ts ≡ Some fs' → Below (base fs') (base fs)
pops_below fs fs' [] e = subst (λ x. Below (base x) (base fs)) (some_is e) (below_self (base fs))
pops_below fs fs' (t ∷ ts) e =
    let i = then_found (pop fs t) (λ gs. pops gs ts) fs' e in
    below_then (base fs') (base i.0) (base fs) (pop_below fs i.0 t i.1) (pops_below i.0 fs' ts i.2)

-- ---- at most one more

pub record Grows (fs fs' : List Frame) : Type 0 where
  pub dead : any_free fs' ≡ true → Below (base fs') (base fs)
  pub live : Below (tail_of (base fs')) (base fs)

kept_grows : (fs fs' : List Frame) → Below (base fs') (base fs) → Grows fs fs'
kept_grows fs fs' h = record { dead = λ _. h; live = below_then (tail_of (base fs')) (base fs') (base fs) h (below_tail (base fs')) }

push_grows : (fs gs : List Frame) (k : Option ValType) → Below (base gs) (base fs) → Grows fs (push gs k)
push_grows fs [] k h = kept_grows fs [] h
push_grows fs (g ∷ gs) k h = by_test (g.free || any_free gs) refl
  where
    by_test : (b : Bool) → (g.free || any_free gs) ≡ b → Grows fs (push (g ∷ gs) k)
    by_test true q = kept_grows fs (push (g ∷ gs) k) (subst (λ x. Below x (base fs)) (both_free q) h)
      where
        both_free : (g.free || any_free gs) ≡ true → base (g ∷ gs) ≡ base (push (g ∷ gs) k)
        both_free q = rw q refl
    by_test false q = record { dead = λ d. true_false (sym d ∙ q); live = subst (λ x. Below (tail_of x) (base fs)) (on_top q) h }
      where
        on_top : (g.free || any_free gs) ≡ false → k ∷ base (g ∷ gs) ≡ base (push (g ∷ gs) k)
        on_top q = rw q refl

pushes_grows : (fs gs : List Frame) (ts : List ValType) → length ts ≤ 1 → Below (base gs) (base fs) → Grows fs (pushes gs ts)
pushes_grows fs gs [] le h = kept_grows fs gs h
pushes_grows fs gs (t ∷ []) le h = push_grows fs gs (Some t) h
pushes_grows fs gs (t ∷ u ∷ ts) le h = absurd (omega (arith, le))

one_option : (t : Option ValType) → length (option_to_list t) ≤ 1
one_option None = omega arith
one_option (Some t) = omega arith

apply_grows : (fs fs' : List Frame) (a : Arrow) → length a.gives ≤ 1 → apply fs a ≡ Some fs' → Grows fs fs'
apply_grows fs fs' a le e =
    let i = map_inv (λ gs. pushes gs a.gives) (pops fs a.takes) fs' e in
    subst (Grows fs) i.2 (pushes_grows fs i.0 a.gives le (pops_below fs i.0 a.takes i.1))

-- ---- basic instructions

drop_grows : (fs fs' : List Frame) → drop_any fs ≡ Some fs' → Grows fs fs'
drop_grows [] fs' e = absurd (none_is e)
drop_grows (f ∷ fs) fs' e =
    let i = drop_inv f fs fs' e in
    subst (Grows (f ∷ fs)) i.2 (kept_grows (f ∷ fs) (set_known f fs i.0.1) (base_set f fs i.0.1 (any_below f.free f.known i.0 i.1)))

-- what select leaves: a type on a lower part
record Selected (free : Bool) (ks ls : Known) : Type 0 where
  top : Option ValType
  low : Known
  are : top ∷ low ≡ ls
  below : free ≡ false → Below low ks

selected : (free : Bool) (ks ls : Known) → select_known free ks ≡ Some ls → Selected free ks ls
selected free ks ls e =
    let i = then_found (pop_type free ks I32) _ ls e in
    let j = then_found (pop_any free i.0) _ ls i.2 in
    let l = then_found (pop_any free j.0.1) _ ls j.2 in
    let m = map_inv (λ k. k ∷ l.0.1) (both j.0.0 l.0.0) ls l.2 in
    record {
      top = m.0;
      low = l.0.1;
      are = m.2;
      below = λ q. below_then l.0.1 j.0.1 ks (below_then j.0.1 i.0 ks (type_below free ks i.0 I32 i.1 q) (any_below free i.0 j.0 j.1 q)) (any_below free j.0.1 l.0 l.1 q);
    }

select_grows : (fs fs' : List Frame) → select fs ≡ Some fs' → Grows fs fs'
select_grows [] fs' e = absurd (none_is e)
select_grows (f ∷ fs) fs' e =
    let s = map_inv (set_known f fs) (select_known f.free f.known) fs' e in
    by_known s.0 s.2 (selected f.free f.known s.0 s.1)
  where
    by_known : (ls : Known) → set_known f fs ls ≡ fs' → Selected f.free f.known ls → Grows (f ∷ fs) fs'
    by_known ls q h =
        let p : Grows (f ∷ fs) (set_known f fs (h.top ∷ h.low)) = push_grows (f ∷ fs) (set_known f fs h.low) h.top (base_set f fs h.low h.below) in
        subst (λ x. Grows (f ∷ fs) x) (ap (set_known f fs) h.are ∙ q) p

arrow_grows : (c : Context) (i : Basic) (fs fs' : List Frame) → option_then (arrow c I32 i) (apply fs) ≡ Some fs' → Grows fs fs'
arrow_grows c i fs fs' e = let a = then_found (arrow c I32 i) (apply fs) fs' e in apply_grows fs fs' a.0 (gives_one c I32 i a.0 a.1) a.2

grows_as : (c : Context) (fs fs' : List Frame) (i : Basic) → Steps i → step_basic c fs i ≡ Some fs' → Grows fs fs'
grows_as c fs fs' i drops e = drop_grows fs fs' e
grows_as c fs fs' i selects e = select_grows fs fs' e
grows_as c fs fs' i (by_arrow one goes) e = arrow_grows c i fs fs' (sym (goes c fs) ∙ e)

basic_grows : (c : Context) (fs fs' : List Frame) (i : Basic) → step_basic c fs i ≡ Some fs' → Grows fs fs'
basic_grows c fs fs' i e = grows_as c fs fs' i (steps_of i) e

-- ---- jumps

transfer_grows : (fs fs' : List Frame) (ts : List ValType) → option_map forget (pops fs ts) ≡ Some fs' → Grows fs fs'
transfer_grows fs fs' ts e =
    let i = map_inv forget (pops fs ts) fs' e in
    subst (Grows fs) i.2 (kept_grows fs (forget i.0) (base_forgot fs i.0 (pops_below fs i.0 ts i.1)))

one_back : (type : FuncType) → length type.results ≤ 1 → length (reverse type.results) ≤ 1
one_back type le = subst (λ n. n ≤ 1) (sym (length-reverse type.results)) le

jump_grows : (c : Context) (fs fs' : List Frame) (j : Jump) → OneResult c.module_ → step_jump c fs j ≡ Some fs' → Grows fs fs'
jump_grows c fs fs' Unreachable one e = transfer_grows fs fs' [] e
jump_grows c fs fs' (Br n) one e = let l = then_found (label fs n) _ fs' e in transfer_grows fs fs' (option_to_list l.0) l.2
jump_grows c fs fs' (BrIf n) one e = let l = then_found (label fs n) _ fs' e in apply_grows fs fs' (I32 ∷ option_to_list l.0 ⇒ option_to_list l.0) (one_option l.0) l.2
jump_grows c fs fs' (BrTable targets default) one e =
    let l = then_found (label fs default) _ fs' e in
    let i = if_inv (targets_fit fs l.0 targets) _ fs' l.2 in
    transfer_grows fs fs' (I32 ∷ option_to_list l.0) i.1
jump_grows c fs fs' Return one e = transfer_grows fs fs' c.returns e
jump_grows c fs fs' (Call g) one e =
    let l = then_found (type_at c.module_ g) _ fs' e in
    let t = then_found (slice_get (function_types c.module_) g) (λ t. slice_get c.module_.types t) l.0 l.1 in
    apply_grows fs fs' (call_arrow l.0) (one_back l.0 (one t.0 l.0 t.2)) l.2
jump_grows c fs fs' (CallIndirect t) one e =
    let a = any_sound_inv {A = Limits} c.module_.tables _ fs' e in
    let l = then_found (slice_get c.module_.types t) _ fs' a.1 in
    apply_grows fs fs' (I32 ∷ reverse l.0.params ⇒ reverse l.0.results) (one_back l.0 (one t l.0 l.1)) l.2

-- ---- blocks

closed_below : (f : Frame) (fs : List Frame) (p : Frame × List Frame) → closed (f ∷ fs) ≡ Some p → Below (base p.1) (base (f ∷ fs))
closed_below f fs p e =
    let i = then_found (pops (f ∷ fs) (option_to_list f.result)) emptied p e in
    let m = emptied_inv i.0 p i.2 in
    let k : Below (base (p.0 ∷ p.1)) (base (f ∷ fs)) = subst (λ x. Below (base x) (base (f ∷ fs))) m.0 (pops_below (f ∷ fs) i.0 (option_to_list f.result) i.1) in
    below_then (base p.1) (base (p.0 ∷ p.1)) (base (f ∷ fs)) k (base_out p.0 p.1)

opened_grows : (fs gs : List Frame) (kind : BlockKind) (t : Option ValType) → Below (base gs) (base fs) → Grows fs (opening kind t ∷ gs)
opened_grows fs gs kind t h = kept_grows fs (opening kind t ∷ gs) (subst (λ x. Below x (base fs)) (sym (base_opened kind t gs)) h)

pub step_grows : (c : Context) (fs fs' : List Frame) (i : Item) → OneResult c.module_ → step c fs i ≡ Some fs' → Grows fs fs'
step_grows c [] fs' i one e = absurd (none_is e)
step_grows c (f ∷ fs) fs' (Plain i) one e = basic_grows c (f ∷ fs) fs' i e
step_grows c (f ∷ fs) fs' (Goes j) one e = jump_grows c (f ∷ fs) fs' j one e
step_grows c (f ∷ fs) fs' (Opens t) one e = subst (Grows (f ∷ fs)) (some_is e) (opened_grows (f ∷ fs) (f ∷ fs) kinds.Plain t (below_self (base (f ∷ fs))))
step_grows c (f ∷ fs) fs' (OpensLoop t) one e = subst (Grows (f ∷ fs)) (some_is e) (opened_grows (f ∷ fs) (f ∷ fs) Loop t (below_self (base (f ∷ fs))))
step_grows c (f ∷ fs) fs' (OpensIf t) one e =
    let i = map_inv (λ gs. opening Then t ∷ gs) (pop (f ∷ fs) I32) fs' e in
    subst (Grows (f ∷ fs)) i.2 (opened_grows (f ∷ fs) i.0 Then t (pop_below (f ∷ fs) i.0 I32 i.1))
step_grows c (f ∷ fs) fs' Else one e =
    let i = then_found (closed (f ∷ fs)) (λ p. at_else p.0 p.1 p.0.kind) fs' e in
    let j = else_inv i.0.0 i.0.1 i.0.0.kind fs' i.2 in
    subst (Grows (f ∷ fs)) j.1 (opened_grows (f ∷ fs) i.0.1 kinds.Plain i.0.0.result (closed_below f fs i.0 i.1))
step_grows c (f ∷ fs) fs' End one e =
    let i = then_found (closed (f ∷ fs)) (λ p. at_end p.0 p.1) fs' e in
    let j = if_inv (may_end i.0.0.kind i.0.0.result) (Some (pushes i.0.1 (option_to_list i.0.0.result))) fs' i.2 in
    subst (Grows (f ∷ fs)) (some_is j.1) (pushes_grows (f ∷ fs) i.0.1 (option_to_list i.0.0.result) (one_option i.0.0.result) (closed_below f fs i.0 i.1))
