-- A flat body is that of a well-typed tree exactly where flat steps lead through it.
use Rattle.std.proofs.Common.{◌≡◌, ℕ, List, [], ◌∷◌, ◌++◌, reverse, refl, sym, ap, subst, ◌∙◌}
use Rattle.std.specs.Prelude.{Option, Some, None, option_to_list}
use Rattle.wasm_syntax.specs.declared.blocks.BlockKind.{BlockKind}
use Rattle.wasm_syntax.specs.declared.blocks.BlockKind.TheVariants.{Loop, Then}
use Rattle.wasm_syntax.specs.declared.blocks.BlockKind.TheVariants as kinds
use Rattle.wasm_syntax.specs.declared.value.ValType.{ValType}
use Rattle.wasm_syntax.specs.declared.parts.FuncType.{FuncType}
use Rattle.wasm_syntax.specs.declared.parts.Body.{Body}
use Rattle.wasm_syntax.specs.declared.module.ModuleParts.{ModuleParts as Module}
use Rattle.wasm_syntax.specs.Tree.{Item, Plain, Goes, Opens, OpensLoop, OpensIf, Else, End, Nodes, stop, basic, jump, block, loop, choose, Placed, placed, write, else_out, HasElse, IsTree}
use Rattle.wasm_syntax.specs.Typing.{Context, Types, body_context, IsBody, BeginsBody, closing, closing_of, open_behind}
use Rattle.wasm_syntax.specs.FlatTyping.{OpenBlock, opened, inside, given, MayEnd, FlatStep, FlatTypes, body_block}
use Rattle.wasm_laws.proofs.FlatSteps.{steps_split, steps_join, opens, opens_steps, closes}

-- ---- a tree's steps

pub no_result : (t : Option ValType) → [] ≡ option_to_list t → t ≡ None
no_result None e = refl
no_result (Some t) e = absurd (cc)

pub else_steps : (c : Context) (t : Option ValType) (ea : Option ℕ) (b : Nodes) (end : ℕ) (g : OpenBlock) (gs : List OpenBlock) (after : List ValType) (s : List Placed) (hs : List OpenBlock) →
    HasElse ea b → Types (inside c (opened kinds.Plain t [] ∷ g ∷ gs)) b [] (option_to_list t) →
    ((types : List ValType) → FlatTypes c (opened kinds.Plain t (option_to_list t) ∷ g ∷ gs) (placed end End ∷ s) hs → FlatTypes c (opened kinds.Plain t [] ∷ g ∷ gs) (write b (placed end End ∷ s)) hs) →
    FlatTypes c (given (option_to_list t) (g ∷ gs)) s hs →
    FlatTypes c (opened Then t (option_to_list t) ∷ g ∷ gs) (else_out ea (write b (placed end End ∷ s))) hs
else_steps c t (Some at) b end g gs after s hs he ty w k =
    (opened kinds.Plain t [] ∷ g ∷ gs, (refl, refl, refl), w [] (given (option_to_list t) (g ∷ gs), (refl, tt, refl), k))
else_steps c t None b end g gs after s hs he ty w k =
    let e : t ≡ None = no_result t (subst (λ x. Types (inside c (opened kinds.Plain t [] ∷ g ∷ gs)) x [] (option_to_list t)) he ty) in
    subst (λ x. FlatTypes c (opened Then t (option_to_list t) ∷ g ∷ gs) (write x (placed end End ∷ s)) hs) (sym he) (given (option_to_list t) (g ∷ gs), (refl, e, refl), k)

pub tree_steps : (c : Context) (n : Nodes) (g : OpenBlock) (gs : List OpenBlock) (after : List ValType) (s : List Placed) (hs : List OpenBlock) → IsTree n → Types (inside c (g ∷ gs)) n g.types after → FlatTypes c (opened g.kind g.result after ∷ gs) s hs → FlatTypes c (g ∷ gs) (write n s) hs
tree_steps c stop g gs after s hs w ty k = subst (λ x. FlatTypes c (opened g.kind g.result x ∷ gs) s hs) (sym ty) k
tree_steps c (basic at i rest) g gs after s hs w ty k =
    (opened g.kind g.result ty.0 ∷ gs, (ty.0, ty.1, refl), tree_steps c rest (opened g.kind g.result ty.0) gs after s hs w ty.2 k)
tree_steps c (jump at j rest) g gs after s hs w ty k =
    (opened g.kind g.result ty.0 ∷ gs, (ty.0, ty.1, refl), tree_steps c rest (opened g.kind g.result ty.0) gs after s hs w ty.2 k)
tree_steps c (block at t body end rest) g gs after s hs w ty k = (
  opened kinds.Plain t [] ∷ g ∷ gs,
  refl,
  tree_steps c body (opened kinds.Plain t []) (g ∷ gs) (option_to_list t) (placed end End ∷ write rest s) hs w.0 ty.0
      (given (option_to_list t) (g ∷ gs), (refl, tt, refl), tree_steps c rest (opened g.kind g.result (option_to_list t ++ g.types)) gs after s hs w.1 ty.1 k),
)
tree_steps c (loop at t body end rest) g gs after s hs w ty k = (
  opened Loop t [] ∷ g ∷ gs,
  refl,
  tree_steps c body (opened Loop t []) (g ∷ gs) (option_to_list t) (placed end End ∷ write rest s) hs w.0 ty.0
      (given (option_to_list t) (g ∷ gs), (refl, tt, refl), tree_steps c rest (opened g.kind g.result (option_to_list t ++ g.types)) gs after s hs w.1 ty.1 k),
)
tree_steps c (choose at t a ea b end rest) g gs after s hs w ty k =
    let f = opened g.kind g.result ty.2 in (
      opened Then t [] ∷ f ∷ gs,
      (ty.2, ty.3, refl),
      tree_steps c a (opened Then t []) (f ∷ gs) (option_to_list t) (else_out ea (write b (placed end End ∷ write rest s))) hs w.0 ty.0
          (else_steps c t ea b end f gs after (write rest s) hs w.1 ty.1
          (λ types k'. tree_steps c b (opened kinds.Plain t []) (f ∷ gs) (option_to_list t) (placed end End ∷ write rest s) hs w.2 ty.1 k')
          (tree_steps c rest (opened g.kind g.result (option_to_list t ++ ty.2)) gs after s hs w.3 ty.4 k)),
    )

-- ---- and back: what is still to come completes the frames

-- what stands behind the nodes of a frame
abbrev pub Behind : Context → BlockKind → Option ValType → (List Placed → Type 0) → List Placed → Type 0
Behind c kinds.Plain t K s = (e : ℕ) × (r : List Placed) × (s ≡ placed e End ∷ r) × K r
Behind c Loop t K s = (e : ℕ) × (r : List Placed) × (s ≡ placed e End ∷ r) × K r
Behind c Then t K s =
    (ea : Option ℕ) × (b : Nodes) × (e : ℕ) × (r : List Placed) × HasElse ea b × IsTree b
    × (s ≡ else_out ea (write b (placed e End ∷ r))) × Types c b [] (option_to_list t) × K r

-- ts are types that lie on the first frame's
abbrev pub Completes : Context → List ValType → List OpenBlock → List Placed → Type 0
Completes c ts [] r = r ≡ []
Completes c ts (g ∷ gs) r =
    (n : Nodes) × (s : List Placed) × IsTree n × (r ≡ write n s)
    × Types (inside c (g ∷ gs)) n (ts ++ g.types) (option_to_list g.result)
    × Behind (inside c (g ∷ gs)) g.kind g.result (Completes c (option_to_list g.result) gs) s

completes_given : (c : Context) (ts : List ValType) (gs : List OpenBlock) (r : List Placed) → Completes c [] (given ts gs) r → Completes c ts gs r
completes_given c ts [] r h = h
completes_given c ts (g ∷ gs) r h = h

at_end : (c : Context) (at : ℕ) (kind : BlockKind) (result : Option ValType) (gs : List OpenBlock) (r : List Placed) → MayEnd kind result → Completes c (option_to_list result) gs r → Completes c [] (opened kind result (option_to_list result) ∷ gs) (placed at End ∷ r)
at_end c at kinds.Plain result gs r m h = (stop, placed at End ∷ r, tt, refl, refl, (at, r, refl, h))
at_end c at Loop result gs r m h = (stop, placed at End ∷ r, tt, refl, refl, (at, r, refl, h))
at_end c at Then result gs r m h =
    (stop, placed at End ∷ r, tt, refl, refl, (None, stop, at, r, refl, tt, refl, subst (λ x. [] ≡ option_to_list x) (sym m) refl, h))

completes_step : (c : Context) (at : ℕ) (i : Item) (gs hs : List OpenBlock) (r : List Placed) → FlatStep c gs i hs → Completes c [] hs r → Completes c [] gs (placed at i ∷ r)
completes_step c at i [] hs r st h = absurd st
completes_step c at (Plain i) (g ∷ gs) hs r st h =
    let k = subst (λ x. Completes c [] x r) st.2 h in
    (basic at i k.0, k.1, k.2, ap (λ x. placed at (Plain i) ∷ x) k.3, (st.0, st.1, k.4), k.5)
completes_step c at (Goes j) (g ∷ gs) hs r st h =
    let k = subst (λ x. Completes c [] x r) st.2 h in
    (jump at j k.0, k.1, k.2, ap (λ x. placed at (Goes j) ∷ x) k.3, (st.0, st.1, k.4), k.5)
completes_step c at (Opens t) (g ∷ gs) hs r st h =
    let k = subst (λ x. Completes c [] x r) st h in
    let m = k.5.3 in
    (block at t k.0 k.5.0 m.0, m.1, (k.2, m.2), ap (λ x. placed at (Opens t) ∷ x) (k.3 ∙ ap (write k.0) (k.5.2 ∙ ap (λ x. placed k.5.0 End ∷ x) m.3)), (k.4, m.4), m.5)
completes_step c at (OpensLoop t) (g ∷ gs) hs r st h =
    let k = subst (λ x. Completes c [] x r) st h in
    let m = k.5.3 in
    (loop at t k.0 k.5.0 m.0, m.1, (k.2, m.2), ap (λ x. placed at (OpensLoop t) ∷ x) (k.3 ∙ ap (write k.0) (k.5.2 ∙ ap (λ x. placed k.5.0 End ∷ x) m.3)), (k.4, m.4), m.5)
completes_step c at (OpensIf t) (g ∷ gs) hs r st h =
    let k = subst (λ x. Completes c [] x r) st.2 h in
    let b = k.5 in
    let m = b.8 in (
      choose at t k.0 b.0 b.1 b.2 m.0,
      m.1,
      (k.2, b.4, b.5, m.2),
      ap (λ x. placed at (OpensIf t) ∷ x) (k.3 ∙ ap (write k.0) (b.6 ∙ ap (λ x. else_out b.0 (write b.1 (placed b.2 End ∷ x))) m.3)),
      (k.4, b.7, st.0, st.1, m.4),
      m.5,
    )
completes_step c at Else (g ∷ gs) hs r st h =
    let k = subst (λ x. Completes c [] x r) st.2 h in
    let P : BlockKind → Type 0 = λ x. Completes c [] (opened x g.result g.types ∷ gs) (placed at Else ∷ r) in
    subst P (sym st.0) (
      stop,
      placed at Else ∷ r,
      tt,
      refl,
      st.1,
      (Some at, k.0, k.5.0, k.5.1, tt, k.2, ap (λ x. placed at Else ∷ x) (k.3 ∙ ap (write k.0) k.5.2), k.4, k.5.3),
    )
completes_step c at End (g ∷ gs) hs r st h =
    let k = completes_given c (option_to_list g.result) gs r (subst (λ x. Completes c [] x r) st.2 h) in
    subst (λ x. Completes c [] (opened g.kind g.result x ∷ gs) (placed at End ∷ r)) (sym st.0) (at_end c at g.kind g.result gs r st.1 k)

completes : (c : Context) (r : List Placed) (gs : List OpenBlock) → FlatTypes c gs r [] → Completes c [] gs r
completes c [] gs h = subst (λ x. Completes c [] x []) (sym h) refl
completes c (p ∷ ps) gs h = completes_step c p.at p.code gs h.0 ps h.1 (completes c ps h.0 h.2)

-- ---- bodies

-- a function type that gives at most one value
abbrev pub Gives : FuncType → Option ValType → Type 0
Gives type result = reverse type.results ≡ option_to_list result

pub inside_body : (m : Module) (type : FuncType) (body : Body) (result : Option ValType) → Gives type result → inside (body_context m type body) (body_block result) ≡ body_context m type body
inside_body m type body result g = ap (λ x. record (body_context m type body) { labels = x ∷ [] }) (sym g)

pub body_steps : (m : Module) (type : FuncType) (body : Body) (result : Option ValType) (code : List Placed) → Gives type result → IsBody m type body code → FlatTypes (body_context m type body) (body_block result) code []
body_steps m type body result code g h =
    let c = body_context m type body in
    let ty : Types (inside c (body_block result)) h.tree.nodes [] (option_to_list result) =
    subst (λ x. Types (inside c (body_block result)) h.tree.nodes [] x) g (subst (λ x. Types x h.tree.nodes [] (reverse type.results)) (sym (inside_body m type body result g)) h.typed) in
    subst (λ x. FlatTypes c (body_block result) x []) (sym h.writes.out)
    (tree_steps c h.tree.nodes (opened kinds.Plain result []) [] (option_to_list result) (placed h.tree.end End ∷ []) [] h.writes.arms ty ([], (refl, tt, refl), refl))

pub steps_body : (m : Module) (type : FuncType) (body : Body) (result : Option ValType) (code : List Placed) → Gives type result → FlatTypes (body_context m type body) (body_block result) code [] → IsBody m type body code
steps_body m type body result code g h =
    let c = body_context m type body in
    let k = completes c code (body_block result) h in
    let e = k.5 in
    record {
      tree = record { nodes = k.0; end = e.0 };
      writes = record { arms = k.2; out = k.3 ∙ ap (write k.0) (e.2 ∙ ap (λ x. placed e.0 End ∷ x) e.3) };
      typed = subst (λ x. Types x k.0 [] (reverse type.results)) (inside_body m type body result g) (subst (λ x. Types (inside c (body_block result)) k.0 [] x) (sym g) k.4);
    }

-- instructions begin a well-typed body exactly where steps lead through them
pub begins_steps : (m : Module) (type : FuncType) (body : Body) (result : Option ValType) (is : List Placed) → Gives type result → BeginsBody m type body is → (hs : List OpenBlock) × FlatTypes (body_context m type body) (body_block result) is hs
begins_steps m type body result is g h =
    let s = steps_split (body_context m type body) is (closing_of (open_behind (kinds.Plain ∷ []) is)) (body_block result) [] (body_steps m type body result (closing is) g h) in
    (s.0, s.1)

pub steps_begins : (m : Module) (type : FuncType) (body : Body) (result : Option ValType) (is : List Placed) (hs : List OpenBlock) → Gives type result → FlatTypes (body_context m type body) (body_block result) is hs → BeginsBody m type body is
steps_begins m type body result is hs g h =
    let c = body_context m type body in
    let e : opens hs ≡ open_behind (kinds.Plain ∷ []) is = opens_steps c is (body_block result) hs h in
    let k : FlatTypes c hs (closing_of (open_behind (kinds.Plain ∷ []) is)) [] = subst (λ x. FlatTypes c hs (closing_of x) []) e (closes c hs) in
    steps_body m type body result (closing is) g (steps_join c is (closing_of (open_behind (kinds.Plain ∷ []) is)) (body_block result) hs [] h k)
