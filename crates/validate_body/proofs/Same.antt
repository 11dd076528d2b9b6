-- The algorithm accepts exactly the well-typed bodies, and goes on exactly through what begins one.
use Rattle.std.proofs.Common.{◌≡◌, List, [], ◌∷◌, ◌++◌, refl, sym, ap, subst, ◌∙◌}
use Rattle.std.proofs.lemmas.List.{append-nil}
use Rattle.std.specs.Prelude.{Bool, true, Option, Some, None, option_to_list}
use Rattle.wasm_syntax.specs.declared.value.ValType.{ValType}
use Rattle.wasm_syntax.specs.declared.value.ValType.TheVariants.{I32}
use Rattle.wasm_syntax.specs.declared.parts.FuncType.{FuncType}
use Rattle.wasm_syntax.specs.declared.parts.Body.{Body}
use Rattle.wasm_syntax.specs.declared.module.ModuleParts.{ModuleParts as Module}
use Rattle.wasm_syntax.specs.Module.{option_then}
use Rattle.wasm_syntax.specs.Tree.{Item, Plain, Goes, Opens, OpensLoop, OpensIf, Else, End, Placed, placed, code_of, Tree, WritesOut, Nodes, stop, basic, jump, block, loop, choose, write, IsTree}
use Rattle.wasm_syntax.specs.Typing.{Context, body_context, IsBody, BeginsBody, open_behind}
use Rattle.wasm_syntax.specs.Valid.{FirstWrong}
use Rattle.wasm_syntax.specs.declared.blocks.BlockKind.{BlockKind}
use Rattle.wasm_syntax.specs.declared.blocks.BlockKind.TheVariants.{Loop, Then}
use Rattle.wasm_syntax.specs.declared.blocks.BlockKind.TheVariants as kinds
use Rattle.validate_body.specs.calls.Frames.{Known, Frame, opening, pop, pops, pushes, is_empty, emptied}
use Rattle.validate_body.specs.calls.Algorithm.{closed, at_else, may_end, at_end, step_open, step, run, start}
use Rattle.validate_body.proofs.Options.{none_is, then_some, map_inv, map_some, if_inv, if_some}
use Rattle.wasm_syntax.specs.FlatTyping.{OpenBlock, opened, given, MayEnd, FlatStep, FlatTypes, body_block}
use Rattle.wasm_laws.proofs.FlatSteps.{opens, opens_steps}
use Rattle.wasm_laws.proofs.FlatBodies.{Gives, body_steps, steps_body, begins_steps, steps_begins}
use Rattle.validate_body.proofs.Fits.{Fits, FitAll, no_below, pop_sound, pop_complete, pops_sound, pops_complete, pushes_sound, pushes_complete, fill_all}
use Rattle.validate_body.proofs.Jumps.{basic_sound, basic_complete, jump_sound, jump_complete, Arrives}
use Rattle.pm_text.proofs.Lists.{some_is}
use Rattle.wasm_syntax.proofs.Types.{then_found}

-- ---- a frame's end

empty_fits : (ks : Known) (free : Bool) → is_empty ks ≡ true → Fits ks free []
empty_fits [] free e = no_below free
empty_fits (k ∷ ks) free e = absurd (cc)

fits_empty : (ks : Known) (free : Bool) → Fits ks free [] → is_empty ks ≡ true
fits_empty [] free h = refl
fits_empty (k ∷ ks) free h = absurd h

pub emptied_inv : (fs : List Frame) (p : Frame × List Frame) → emptied fs ≡ Some p → (fs ≡ p.0 ∷ p.1) × (is_empty p.0.known ≡ true)
emptied_inv [] p e = absurd (none_is e)
emptied_inv (f ∷ fs) p e =
    let i = if_inv (is_empty f.known) (Some (f, fs)) p e in
    let q : (f, fs) ≡ p = some_is i.1 in
    (ap (λ x. x.0 ∷ x.1) q, subst (λ x. is_empty x.0.known ≡ true) q i.0)

closed_sound : (f : Frame) (fs : List Frame) (p : Frame × List Frame) (hs : List OpenBlock) → closed (f ∷ fs) ≡ Some p → FitAll p.1 hs → FitAll (f ∷ fs) (opened p.0.kind p.0.result (option_to_list p.0.result) ∷ hs)
closed_sound f fs p hs e h =
    let i = then_found (pops (f ∷ fs) (option_to_list f.result)) emptied p e in
    let m = emptied_inv i.0 p i.2 in
    let k : FitAll i.0 (opened p.0.kind p.0.result [] ∷ hs) = subst (λ x. FitAll x (opened p.0.kind p.0.result [] ∷ hs)) (sym m.0) ((refl, refl, empty_fits p.0.known p.0.free m.1), h) in
    let s = pops_sound (f ∷ fs) i.0 (option_to_list f.result) (opened p.0.kind p.0.result [] ∷ hs) i.1 k in
    let q : option_to_list f.result ++ [] ≡ option_to_list p.0.result = append-nil (option_to_list f.result) ∙ ap (λ x. option_to_list x) s.0.1 in
    subst (λ x. FitAll (f ∷ fs) (opened p.0.kind p.0.result x ∷ hs)) q s

closed_complete : (f : Frame) (fs : List Frame) (g : OpenBlock) (gs : List OpenBlock) → FitAll (f ∷ fs) (g ∷ gs) → g.types ≡ option_to_list g.result → (p : Frame × List Frame) × (closed (f ∷ fs) ≡ Some p) × (p.0.kind ≡ g.kind) × (p.0.result ≡ g.result) × FitAll p.1 gs
closed_complete f fs g gs h e =
    let q : g.types ≡ option_to_list f.result ++ [] = e ∙ ap (λ x. option_to_list x) (sym h.0.1) ∙ sym (append-nil (option_to_list f.result)) in
    let i = pops_complete (f ∷ fs) (option_to_list f.result) (opened g.kind g.result []) gs (subst (λ x. FitAll (f ∷ fs) (opened g.kind g.result x ∷ gs)) q h) in
    by_rest i.0 i.1 i.2
  where
    by_rest : (ms : List Frame) → pops (f ∷ fs) (option_to_list f.result) ≡ Some ms → FitAll ms (opened g.kind g.result [] ∷ gs) → (p : Frame × List Frame) × (closed (f ∷ fs) ≡ Some p) × (p.0.kind ≡ g.kind) × (p.0.result ≡ g.result) × FitAll p.1 gs
    by_rest [] e k = absurd k
    by_rest (m ∷ ms) e k =
        ((m, ms), then_some (pops (f ∷ fs) (option_to_list f.result)) emptied (m ∷ ms) (m, ms) e (if_some (is_empty m.known) (Some (m, ms)) (m, ms) (fits_empty m.known m.free k.0.2) refl), k.0.0, k.0.1, k.1)

-- ---- one instruction

pub else_inv : (f : Frame) (fs : List Frame) (kind : BlockKind) (fs' : List Frame) → at_else f fs kind ≡ Some fs' → (kind ≡ Then) × (opening kinds.Plain f.result ∷ fs ≡ fs')
else_inv f fs kinds.Plain fs' e = absurd (none_is e)
else_inv f fs Loop fs' e = absurd (none_is e)
else_inv f fs Then fs' e = (refl, some_is e)

end_inv : (kind : BlockKind) (t : Option ValType) → may_end kind t ≡ true → MayEnd kind t
end_inv kinds.Plain t e = tt
end_inv Loop t e = tt
end_inv Then None e = refl
end_inv Then (Some t) e = absurd (cc)

end_some : (kind : BlockKind) (t : Option ValType) → MayEnd kind t → may_end kind t ≡ true
end_some kinds.Plain t e = refl
end_some Loop t e = refl
end_some Then t e = rw e refl

abbrev pub Came : Context → List Frame → Item → List OpenBlock → Type 0
Came c fs i hs = (gs : List OpenBlock) × FitAll fs gs × FlatStep c gs i hs

opened_sound : (kind : BlockKind) (t : Option ValType) (fs : List Frame) (hs : List OpenBlock) → FitAll (opening kind t ∷ fs) hs → (gs : List OpenBlock) × (hs ≡ opened kind t [] ∷ gs) × FitAll fs gs
opened_sound kind t fs [] h = absurd h
opened_sound kind t fs (g ∷ gs) h = (gs, rw (h.0.0, h.0.1, sym h.0.2) refl, h.1)

pub step_sound : (c : Context) (fs fs' : List Frame) (i : Item) (hs : List OpenBlock) → step c fs i ≡ Some fs' → FitAll fs' hs → Came c fs i hs
step_sound c [] fs' i hs e h = absurd (none_is e)
step_sound c (f ∷ fs) fs' (Plain i) hs e h = let s = basic_sound c f fs fs' i hs e h in (s.top ∷ s.outer, s.fits, (s.after, s.types, s.then))
step_sound c (f ∷ fs) fs' (Goes j) hs e h = let s = jump_sound c f fs fs' j hs e h in (s.top ∷ s.outer, s.fits, (s.after, s.types, s.then))
step_sound c (f ∷ fs) fs' (Opens t) hs e h =
    let s = opened_sound kinds.Plain t (f ∷ fs) hs (subst (λ x. FitAll x hs) (sym (some_is e)) h) in by_rest s.0 s.1 s.2
  where
    by_rest : (gs : List OpenBlock) → hs ≡ opened kinds.Plain t [] ∷ gs → FitAll (f ∷ fs) gs → Came c (f ∷ fs) (Opens t) hs
    by_rest [] q k = absurd k
    by_rest (g ∷ gs) q k = (g ∷ gs, k, q)
step_sound c (f ∷ fs) fs' (OpensLoop t) hs e h =
    let s = opened_sound Loop t (f ∷ fs) hs (subst (λ x. FitAll x hs) (sym (some_is e)) h) in by_rest s.0 s.1 s.2
  where
    by_rest : (gs : List OpenBlock) → hs ≡ opened Loop t [] ∷ gs → FitAll (f ∷ fs) gs → Came c (f ∷ fs) (OpensLoop t) hs
    by_rest [] q k = absurd k
    by_rest (g ∷ gs) q k = (g ∷ gs, k, q)
step_sound c (f ∷ fs) fs' (OpensIf t) hs e h =
    let i = map_inv (λ gs. opening Then t ∷ gs) (pop (f ∷ fs) I32) fs' e in
    let s = opened_sound Then t i.0 hs (subst (λ x. FitAll x hs) (sym i.2) h) in
    by_rest s.0 s.1 (pop_sound (f ∷ fs) i.0 I32 s.0 i.1 s.2)
  where
    by_rest : (gs : List OpenBlock) → hs ≡ opened Then t [] ∷ gs → FitAll (f ∷ fs) (given (I32 ∷ []) gs) → Came c (f ∷ fs) (OpensIf t) hs
    by_rest [] q k = absurd k
    by_rest (g ∷ gs) q k = (opened g.kind g.result (I32 ∷ g.types) ∷ gs, k, (g.types, refl, q))
step_sound c (f ∷ fs) fs' Else hs e h =
    let i = then_found (closed (f ∷ fs)) (λ p. at_else p.0 p.1 p.0.kind) fs' e in
    let j = else_inv i.0.0 i.0.1 i.0.0.kind fs' i.2 in
    let s = opened_sound kinds.Plain i.0.0.result i.0.1 hs (subst (λ x. FitAll x hs) (sym j.1) h) in
    (opened i.0.0.kind i.0.0.result (option_to_list i.0.0.result) ∷ s.0, closed_sound f fs i.0 s.0 i.1 s.2, (j.0, refl, s.1))
step_sound c (f ∷ fs) fs' End hs e h =
    let i = then_found (closed (f ∷ fs)) (λ p. at_end p.0 p.1) fs' e in
    let j = if_inv (may_end i.0.0.kind i.0.0.result) (Some (pushes i.0.1 (option_to_list i.0.0.result))) fs' i.2 in
    let s = pushes_sound i.0.1 (option_to_list i.0.0.result) hs (subst (λ x. FitAll x hs) (sym (some_is j.1)) h) in
    (opened i.0.0.kind i.0.0.result (option_to_list i.0.0.result) ∷ s.0, closed_sound f fs i.0 s.0 i.1 s.2, (refl, end_inv i.0.0.kind i.0.0.result j.0, s.1))

open_complete : (c : Context) (f : Frame) (fs : List Frame) (i : Item) (g : OpenBlock) (gs hs : List OpenBlock) → FitAll (f ∷ fs) (g ∷ gs) → FlatStep c (g ∷ gs) i hs → Arrives (step_open c (f ∷ fs) i) hs
open_complete c f fs (Plain i) g gs hs h st = subst (λ x. Arrives (step_open c (f ∷ fs) (Plain i)) x) (sym st.2) (basic_complete c (f ∷ fs) i g gs st.0 h st.1)
open_complete c f fs (Goes j) g gs hs h st = subst (λ x. Arrives (step_open c (f ∷ fs) (Goes j)) x) (sym st.2) (jump_complete c (f ∷ fs) j g gs st.0 h st.1)
open_complete c f fs (Opens t) g gs hs h st =
    subst (λ x. Arrives (step_open c (f ∷ fs) (Opens t)) x) (sym st) (opening kinds.Plain t ∷ f ∷ fs, refl, ((refl, refl, refl), h))
open_complete c f fs (OpensLoop t) g gs hs h st =
    subst (λ x. Arrives (step_open c (f ∷ fs) (OpensLoop t)) x) (sym st) (opening Loop t ∷ f ∷ fs, refl, ((refl, refl, refl), h))
open_complete c f fs (OpensIf t) g gs hs h st =
    let i = pop_complete (f ∷ fs) I32 (opened g.kind g.result st.0) gs (subst (λ x. FitAll (f ∷ fs) (opened g.kind g.result x ∷ gs)) st.1 h) in
    subst (λ x. Arrives (step_open c (f ∷ fs) (OpensIf t)) x) (sym st.2) (opening Then t ∷ i.0, map_some (λ gs. opening Then t ∷ gs) (pop (f ∷ fs) I32) i.0 i.1, ((refl, refl, refl), i.2))
open_complete c f fs Else g gs hs h st =
    let i = closed_complete f fs g gs h st.1 in
    let e : at_else i.0.0 i.0.1 i.0.0.kind ≡ Some (opening kinds.Plain i.0.0.result ∷ i.0.1) = subst (λ x. at_else i.0.0 i.0.1 x ≡ Some (opening kinds.Plain i.0.0.result ∷ i.0.1)) (sym (i.2 ∙ st.0)) refl in
    subst (λ x. Arrives (step_open c (f ∷ fs) Else) x) (sym st.2)
    (opening kinds.Plain i.0.0.result ∷ i.0.1, then_some (closed (f ∷ fs)) (λ p. at_else p.0 p.1 p.0.kind) i.0 (opening kinds.Plain i.0.0.result ∷ i.0.1) i.1 e, ((refl, i.3, refl), i.4))
open_complete c f fs End g gs hs h st =
    let i = closed_complete f fs g gs h st.0 in
    let b : may_end i.0.0.kind i.0.0.result ≡ true = subst (λ x. may_end x i.0.0.result ≡ true) (sym i.2) (subst (λ x. may_end g.kind x ≡ true) (sym i.3) (end_some g.kind g.result st.1)) in
    let r = pushes i.0.1 (option_to_list i.0.0.result) in
    let e : at_end i.0.0 i.0.1 ≡ Some r = if_some (may_end i.0.0.kind i.0.0.result) (Some r) r b refl in
    let k : FitAll r (given (option_to_list i.0.0.result) gs) = pushes_complete i.0.1 (option_to_list i.0.0.result) gs i.4 in
    subst (λ x. Arrives (step_open c (f ∷ fs) End) x) (sym st.2)
    (r, then_some (closed (f ∷ fs)) (λ p. at_end p.0 p.1) i.0 r i.1 e, subst (λ x. FitAll r (given (option_to_list x) gs)) i.3 k)

pub step_complete : (c : Context) (fs : List Frame) (i : Item) (gs hs : List OpenBlock) → FitAll fs gs → FlatStep c gs i hs → Arrives (step c fs i) hs
step_complete c [] i [] hs h st = absurd st
step_complete c [] i (g ∷ gs) hs h st = absurd h
step_complete c (f ∷ fs) i [] hs h st = absurd h
step_complete c (f ∷ fs) i (g ∷ gs) hs h st = open_complete c f fs i g gs hs h st

-- ---- many instructions

pub run_sound : (c : Context) (ps : List Placed) (fs fs' : List Frame) (hs : List OpenBlock) → run c fs ps ≡ Some fs' → FitAll fs' hs → (gs : List OpenBlock) × FitAll fs gs × FlatTypes c gs ps hs
run_sound c [] fs fs' hs e h = (hs, subst (λ x. FitAll x hs) (sym (some_is e)) h, refl)
run_sound c (p ∷ ps) fs fs' hs e h =
    let i = then_found (step c fs p.code) (λ gs. run c gs ps) fs' e in
    let r = run_sound c ps i.0 fs' hs i.2 h in
    let s = step_sound c fs i.0 p.code r.0 i.1 r.1 in
    (s.0, s.1, (r.0, s.2, r.2))

pub run_complete : (c : Context) (ps : List Placed) (fs : List Frame) (gs hs : List OpenBlock) → FitAll fs gs → FlatTypes c gs ps hs → Arrives (run c fs ps) hs
run_complete c [] fs gs hs h st = (fs, refl, subst (λ x. FitAll fs x) st h)
run_complete c (p ∷ ps) fs gs hs h st =
    let i = step_complete c fs p.code gs st.0 h st.1 in
    let r = run_complete c ps i.0 st.0 hs i.2 st.2 in
    (r.0, then_some (step c fs p.code) (λ gs. run c gs ps) i.0 r.0 i.1 r.1, r.2)

-- ---- bodies

pub only_begin : (result : Option ValType) (gs : List OpenBlock) → FitAll (start result) gs → gs ≡ body_block result
only_begin result [] h = absurd h
only_begin result (g ∷ []) h = rw (h.0.0, h.0.1, sym h.0.2) refl
only_begin result (g ∷ g' ∷ gs) h = absurd h.1

none_left : (fs : List Frame) → FitAll fs [] → fs ≡ []
none_left [] h = refl
none_left (f ∷ fs) h = absurd h

pub accepted : (m : Module) (type : FuncType) (body : Body) (result : Option ValType) (code : List Placed) → Gives type result → run (body_context m type body) (start result) code ≡ Some [] → IsBody m type body code
accepted m type body result code g e =
    let r = run_sound (body_context m type body) code (start result) [] [] e tt in
    steps_body m type body result code g (subst (λ x. FlatTypes (body_context m type body) x code []) (only_begin result r.0 r.1) r.2)

pub accepts : (m : Module) (type : FuncType) (body : Body) (result : Option ValType) (code : List Placed) → Gives type result → IsBody m type body code → run (body_context m type body) (start result) code ≡ Some []
accepts m type body result code g h =
    let r = run_complete (body_context m type body) code (start result) (body_block result) [] ((refl, refl, refl), tt) (body_steps m type body result code g h) in
    r.1 ∙ ap (λ x. Some x) (none_left r.0 r.2)

pub began : (m : Module) (type : FuncType) (body : Body) (result : Option ValType) (is : List Placed) (fs : List Frame) → Gives type result → run (body_context m type body) (start result) is ≡ Some fs → BeginsBody m type body is
began m type body result is fs g e =
    let w = fill_all fs in
    let r = run_sound (body_context m type body) is (start result) fs w.0 e w.1 in
    steps_begins m type body result is w.0 g (subst (λ x. FlatTypes (body_context m type body) x is w.0) (only_begin result r.0 r.1) r.2)

pub begins : (m : Module) (type : FuncType) (body : Body) (result : Option ValType) (is : List Placed) → Gives type result → BeginsBody m type body is → (fs : List Frame) × (run (body_context m type body) (start result) is ≡ Some fs)
begins m type body result is g h =
    let s = begins_steps m type body result is g h in
    let r = run_complete (body_context m type body) is (start result) (body_block result) s.0 ((refl, refl, refl), tt) s.1 in
    (r.0, r.1)

-- ---- the first wrong instruction

pub run_append : (c : Context) (ps qs : List Placed) (fs fs' : List Frame) → run c fs ps ≡ Some fs' → run c fs (ps ++ qs) ≡ run c fs' qs
run_append c [] qs fs fs' e = ap (λ x. run c x qs) (some_is e)
run_append c (p ∷ ps) qs fs fs' e =
    let i = then_found (step c fs p.code) (λ gs. run c gs ps) fs' e in
    subst (λ x. option_then x (λ gs. run c gs (ps ++ qs)) ≡ run c fs' qs) (sym i.1) (run_append c ps qs i.0 fs' i.2)

pub wrong_there : (m : Module) (type : FuncType) (body : Body) (result : Option ValType) (before : List Placed) (p : Placed) (after : List Placed) (fs : List Frame) → Gives type result → code_of body.targets body.ops ≡ before ++ p ∷ after → run (body_context m type body) (start result) before ≡ Some fs → step (body_context m type body) fs p.code ≡ None → FirstWrong m type body p.at
wrong_there m type body result before p after fs g split e w = record {
  before = before;
  code = p.code;
  after = after;
  splits = split;
  begins = began m type body result before fs g e;
  wrong = λ h.
      let b = begins m type body result (before ++ p ∷ []) g h in
      let q : run (body_context m type body) fs (p ∷ []) ≡ Some b.0 = sym (run_append (body_context m type body) before (p ∷ []) (start result) fs e) ∙ b.1 in
      let i = then_found (step (body_context m type body) fs p.code) (λ gs. run (body_context m type body) gs []) b.0 q in
      none_is (sym w ∙ i.1);
}

-- ---- the code of a tree leaves nothing open

open_write : (n : Nodes) (os : List BlockKind) (s : List Placed) → IsTree n → open_behind os (write n s) ≡ open_behind os s
open_write stop os s w = refl
open_write (basic at i rest) os s w = open_write rest os s w
open_write (jump at j rest) os s w = open_write rest os s w
open_write (block at t body end rest) os s w = open_write body (kinds.Plain ∷ os) (placed end End ∷ write rest s) w.0 ∙ open_write rest os s w.1
open_write (loop at t body end rest) os s w = open_write body (Loop ∷ os) (placed end End ∷ write rest s) w.0 ∙ open_write rest os s w.1
open_write (choose at t a None b end rest) os s w =
    open_write a (Then ∷ os) (write b (placed end End ∷ write rest s)) w.0
    ∙ open_write b (Then ∷ os) (placed end End ∷ write rest s) w.2
    ∙ open_write rest os s w.3
open_write (choose at t a (Some ea) b end rest) os s w =
    open_write a (Then ∷ os) (placed ea Else ∷ write b (placed end End ∷ write rest s)) w.0
    ∙ open_write b (kinds.Plain ∷ os) (placed end End ∷ write rest s) w.2
    ∙ open_write rest os s w.3

nothing_open : (fs : List Frame) (gs : List OpenBlock) → FitAll fs gs → opens gs ≡ [] → fs ≡ []
nothing_open [] gs h e = refl
nothing_open (f ∷ fs) [] h e = absurd h
nothing_open (f ∷ fs) (g ∷ gs) h e = absurd (cc)

-- where all of a body went, it is well typed
pub went : (m : Module) (type : FuncType) (body : Body) (result : Option ValType) (tree : Tree) (code : List Placed) (fs : List Frame) → Gives type result → WritesOut code tree → run (body_context m type body) (start result) code ≡ Some fs → IsBody m type body code
went m type body result tree code fs g w e =
    let c = body_context m type body in
    let f = fill_all fs in
    let r = run_sound c code (start result) fs f.0 e f.1 in
    let o : opens f.0 ≡ [] =
    opens_steps c code r.0 f.0 r.2 ∙ ap (λ x. open_behind (opens x) code) (only_begin result r.0 r.1) ∙ ap (λ x. open_behind (kinds.Plain ∷ []) x) w.out ∙ open_write tree.nodes (kinds.Plain ∷ []) (placed tree.end End ∷ []) w.arms in
    accepted m type body result code g (subst (λ x. run c (start result) code ≡ Some x) (nothing_open fs f.0 f.1 o) e)
