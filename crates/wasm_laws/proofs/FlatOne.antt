-- The open blocks before a live instruction are unique, and so are the operand types.
use Rattle.std.proofs.Common.{◌≡◌, ℕ, zero, suc, ◌≤◌, Bool, false, List, [], ◌∷◌, ◌++◌, ⊎_elim, map, length, take, drop, reverse, slice_get, Option, Some, None, refl, sym, ap, ap₂, subst, ◌∙◌, arith}
use Rattle.std.specs.Prelude.{option_to_list}
use Rattle.wasm_syntax.specs.declared.blocks.BlockKind.TheVariants.{Loop, Then}
use Rattle.wasm_syntax.specs.declared.blocks.BlockKind.TheVariants as kinds
use Rattle.wasm_syntax.specs.declared.value.ValType.{ValType}
use Rattle.wasm_syntax.specs.declared.instruction.Op.{Op}
use Rattle.wasm_syntax.specs.declared.parts.FuncType.{FuncType}
use Rattle.wasm_syntax.specs.declared.parts.Body.{Body}
use Rattle.wasm_syntax.specs.declared.module.ModuleParts.{ModuleParts as Module}
use Rattle.wasm_syntax.specs.Module.{InOrder}
use Rattle.wasm_syntax.specs.Tree.{Jump, Unreachable, Br, BrIf, BrTable, Return, Call, CallIndirect, Item, Plain, Goes, Opens, OpensLoop, OpensIf, Else, End, Nodes, stop, basic, jump, block, loop, choose, Placed, placed, write, code_of, item_of}
use Rattle.wasm_syntax.specs.Typing.{Context, Types, BasicTypes, JumpTypes, IsBody, body_context}
use Rattle.wasm_syntax.specs.FlatTyping.{OpenBlock, opened, label_of, label_types, inside, given, FlatStep, FlatTypes, body_block, dead_behind_jump, dead_next, dead_behind, AllLive, BeginsNode, all_types, TypesBefore}
use Rattle.wasm_syntax.specs.Machine.{offset_in}
use Rattle.wasm_syntax.specs.Static.{goes_on, Live, IsNode, LiveAt, Static}
use Rattle.wasm_laws.proofs.Progress.{tail, head}
use Rattle.wasm_laws.proofs.Unique.{one_tree}
use Rattle.wasm_laws.proofs.Live.{basic_one, jump_one, AscendCode, ascend_code}
use Rattle.wasm_laws.proofs.FlatBodies.{inside_body}
use Rattle.wasm_laws.proofs.FlatStatic.{live_front, Spotted, spotted, stands}
use Rattle.pm_text.proofs.Lists.{some_is}
use Rattle.wasm_syntax.proofs.Bodies.{code_at}

-- ---- live blocks agree

-- the same blocks, with the same types where they are live
abbrev Agree : List Bool → List OpenBlock → List OpenBlock → Type 0
Agree [] [] [] = Unit {0}
Agree (d ∷ ds) (a ∷ more) (b ∷ bs) = (a.kind ≡ b.kind) × (a.result ≡ b.result) × (d ≡ false → a.types ≡ b.types) × Agree ds more bs
Agree [] [] (b ∷ bs) = ⊥
Agree [] (a ∷ more) bs = ⊥
Agree (d ∷ ds) [] bs = ⊥
Agree (d ∷ ds) (a ∷ more) [] = ⊥

same_labels : (ds : List Bool) (more bs : List OpenBlock) → Agree ds more bs → map label_types more ≡ map label_types bs
same_labels [] [] [] h = refl
same_labels [] [] (b ∷ bs) h = absurd h
same_labels [] (a ∷ more) bs h = absurd h
same_labels (d ∷ ds) [] bs h = absurd h
same_labels (d ∷ ds) (a ∷ more) [] h = absurd h
same_labels (d ∷ ds) (a ∷ more) (b ∷ bs) h = ap₂ (λ x y. x ∷ y) (ap₂ (λ k r. option_to_list (label_of k r)) h.0 h.1) (same_labels ds more bs h.3)

same_inside : (c : Context) (ds : List Bool) (more bs : List OpenBlock) → Agree ds more bs → inside c more ≡ inside c bs
same_inside c ds more bs h = ap (λ l. record c { labels = l }) (same_labels ds more bs h)

pub goes_live : (j : Jump) (d : Bool) → dead_behind_jump d j ≡ false → goes_on j × (d ≡ false)
goes_live Unreachable d e = absurd (cc)
goes_live (Br n) d e = absurd (cc)
goes_live (BrIf n) d e = (tt, e)
goes_live (BrTable targets default) d e = absurd (cc)
goes_live Return d e = absurd (cc)
goes_live (Call f) d e = (tt, e)
goes_live (CallIndirect t) d e = (tt, e)

at_blocks : (c : Context) (ds : List Bool) (i : Item) (more bs : List OpenBlock) (x y : List OpenBlock) (p q : List OpenBlock) → p ≡ x → q ≡ y → Agree ds x y → Agree ds p q
at_blocks c ds i more bs x y p q e f h = subst (λ z. Agree ds z q) (sym e) (subst (λ z. Agree ds x z) (sym f) h)

given_agree : (ds : List Bool) (more bs : List OpenBlock) (ts us : List ValType) → ts ≡ us → Agree ds more bs → Agree ds (given ts more) (given us bs)
given_agree [] [] [] ts us e h = tt
given_agree [] [] (b ∷ bs) ts us e h = absurd h
given_agree [] (a ∷ more) bs ts us e h = absurd h
given_agree (d ∷ ds) [] bs ts us e h = absurd h
given_agree (d ∷ ds) (a ∷ more) [] ts us e h = absurd h
given_agree (d ∷ ds) (a ∷ more) (b ∷ bs) ts us e h = (h.0, h.1, λ l. ap₂ (λ x y. x ++ y) e (h.2 l), h.3)

agree_step : (c : Context) (i : Item) (ds : List Bool) (more bs p q : List OpenBlock) → Agree ds more bs → FlatStep c more i p → FlatStep c bs i q → Agree (dead_next ds i) p q
agree_step c i [] [] bs p q h s t = absurd s
agree_step c i [] (a ∷ more) bs p q h s t = absurd h
agree_step c i (d ∷ ds) [] bs p q h s t = absurd h
agree_step c i (d ∷ ds) (a ∷ more) [] p q h s t = absurd h
agree_step c (Plain i) (d ∷ ds) (a ∷ more) (b ∷ bs) p q h s t =
    let same : d ≡ false → s.0 ≡ t.0 = λ l. basic_one (inside c (b ∷ bs)) i b.types s.0 t.0 (subst (λ z. BasicTypes (inside c (b ∷ bs)) i z s.0) (h.2 l) (subst (λ z. BasicTypes z i a.types s.0) (same_inside c (d ∷ ds) (a ∷ more) (b ∷ bs) h) s.1)) t.1 in
    at_blocks c (d ∷ ds) (Plain i) more bs (opened a.kind a.result s.0 ∷ more) (opened b.kind b.result t.0 ∷ bs) p q s.2 t.2 (h.0, h.1, same, h.3)
agree_step c (Goes j) (d ∷ ds) (a ∷ more) (b ∷ bs) p q h s t =
    let same : dead_behind_jump d j ≡ false → s.0 ≡ t.0 = λ l. let g = goes_live j d l in jump_one (inside c (b ∷ bs)) j b.types s.0 t.0 g.0 (subst (λ z. JumpTypes (inside c (b ∷ bs)) j z s.0) (h.2 g.1) (subst (λ z. JumpTypes z j a.types s.0) (same_inside c (d ∷ ds) (a ∷ more) (b ∷ bs) h) s.1)) t.1 in
    at_blocks c (dead_behind_jump d j ∷ ds) (Goes j) more bs (opened a.kind a.result s.0 ∷ more) (opened b.kind b.result t.0 ∷ bs) p q s.2 t.2 (h.0, h.1, same, h.3)
agree_step c (Opens r) (d ∷ ds) (a ∷ more) (b ∷ bs) p q h s t =
    at_blocks c (false ∷ d ∷ ds) (Opens r) more bs (opened kinds.Plain r [] ∷ a ∷ more) (opened kinds.Plain r [] ∷ b ∷ bs) p q s t (refl, refl, λ l. refl, h)
agree_step c (OpensLoop r) (d ∷ ds) (a ∷ more) (b ∷ bs) p q h s t =
    at_blocks c (false ∷ d ∷ ds) (OpensLoop r) more bs (opened Loop r [] ∷ a ∷ more) (opened Loop r [] ∷ b ∷ bs) p q s t (refl, refl, λ l. refl, h)
agree_step c (OpensIf r) (d ∷ ds) (a ∷ more) (b ∷ bs) p q h s t =
    let same : d ≡ false → s.0 ≡ t.0 = λ l. ap tail (sym s.1 ∙ h.2 l ∙ t.1) in
    at_blocks c (false ∷ d ∷ ds) (OpensIf r) more bs (opened Then r [] ∷ opened a.kind a.result s.0 ∷ more) (opened Then r [] ∷ opened b.kind b.result t.0 ∷ bs) p q s.2 t.2 (refl, refl, λ l. refl, (h.0, h.1, same, h.3))
agree_step c Else (d ∷ ds) (a ∷ more) (b ∷ bs) p q h s t =
    at_blocks c (false ∷ ds) Else more bs (opened kinds.Plain a.result [] ∷ more) (opened kinds.Plain b.result [] ∷ bs) p q s.2 t.2 (refl, h.1, λ l. refl, h.3)
agree_step c End (d ∷ ds) (a ∷ more) (b ∷ bs) p q h s t =
    at_blocks c ds End more bs (given (option_to_list a.result) more) (given (option_to_list b.result) bs) p q s.2 t.2 (given_agree ds more bs (option_to_list a.result) (option_to_list b.result) (ap option_to_list h.1) h.3)

agree_types : (c : Context) (code : List Placed) (ds : List Bool) (more bs p q : List OpenBlock) → Agree ds more bs → FlatTypes c more code p → FlatTypes c bs code q → Agree (dead_behind ds code) p q
agree_types c [] ds more bs p q h s t = subst (λ z. Agree ds z q) s (subst (λ z. Agree ds more z) t h)
agree_types c (x ∷ code) ds more bs p q h s t = agree_types c code (dead_next ds x.code) s.0 t.0 p q (agree_step c x.code ds more bs s.0 t.0 h s.1 t.1) s.2 t.2

same_types_all : (ds : List Bool) (more bs : List OpenBlock) → AllLive ds → Agree ds more bs → all_types more ≡ all_types bs
same_types_all [] [] [] l h = refl
same_types_all [] [] (b ∷ bs) l h = absurd h
same_types_all [] (a ∷ more) bs l h = absurd h
same_types_all (d ∷ ds) [] bs l h = absurd h
same_types_all (d ∷ ds) (a ∷ more) [] l h = absurd h
same_types_all (d ∷ ds) (a ∷ more) (b ∷ bs) l h = ap₂ (λ x y. x ++ y) (h.2 l.0) (same_types_all ds more bs l.1 h.3)

pub one_result_of : (r s : Option ValType) → option_to_list r ≡ option_to_list s → r ≡ s
one_result_of None None e = refl
one_result_of None (Some t) e = absurd (cc)
one_result_of (Some t) None e = absurd (cc)
one_result_of (Some t) (Some u) e = ap (λ z. Some (head z)) e

-- the operand types before a live instruction of flat code are unique
pub one_before : (m : Module) (type : FuncType) (body : Body) (i : ℕ) (ts us : List ValType) → TypesBefore m type body i ts → TypesBefore m type body i us → ts ≡ us
one_before m type body i ts us h k =
    let r : k.result ≡ h.result = one_result_of k.result h.result (sym k.gives ∙ h.gives) in
    let leads : FlatTypes (body_context m type body) (body_block h.result) (take i (code_of body.targets body.ops)) k.blocks = subst (λ z. FlatTypes (body_context m type body) (body_block z) (take i (code_of body.targets body.ops)) k.blocks) r k.leads in
    let a = agree_types (body_context m type body) (take i (code_of body.targets body.ops)) (false ∷ []) (body_block h.result) (body_block h.result) h.blocks k.blocks (refl, refl, λ l. refl, tt) h.leads leads in
    h.types_are ∙ ap reverse (same_types_all (dead_behind (false ∷ []) (take i (code_of body.targets body.ops))) h.blocks k.blocks h.live a) ∙ sym k.types_are

-- ---- one offset, one instruction

least_at : (lo : ℕ) (ps : List Placed) (i : ℕ) (p : Placed) → AscendCode lo ps → slice_get ps i ≡ Some p → lo ≤ p.at
least_at lo [] i p h e = absurd (cc)
least_at lo (q ∷ ps) zero p h e = subst (λ z. lo ≤ z.at) (some_is e) h.0
least_at lo (q ∷ ps) (suc i) p h e = omega (arith, h.0, least_at (suc q.at) ps i p h.1 e)

same_index : (lo : ℕ) (ps : List Placed) (i j : ℕ) (p q : Placed) → AscendCode lo ps → slice_get ps i ≡ Some p → slice_get ps j ≡ Some q → p.at ≡ q.at → i ≡ j
same_index lo [] i j p q h e f o = absurd (cc)
same_index lo (x ∷ ps) zero zero p q h e f o = refl
same_index lo (x ∷ ps) zero (suc j) p q h e f o =
    let a : x.at ≡ p.at = ap (λ z. z.at) (some_is e) in absurd (omega (arith, a, o, least_at (suc x.at) ps j q h.1 f))
same_index lo (x ∷ ps) (suc i) zero p q h e f o =
    let a : x.at ≡ q.at = ap (λ z. z.at) (some_is f) in absurd (omega (arith, a, o, least_at (suc x.at) ps i p h.1 e))
same_index lo (x ∷ ps) (suc i) (suc j) p q h e f o = ap suc (same_index (suc x.at) ps i j p q h.1 e f o)

take_front : (xs ys : List Placed) → take (length xs) (xs ++ ys) ≡ xs
take_front [] ys = refl
take_front (x ∷ xs) ys = ap (λ z. x ∷ z) (take_front xs ys)

pub get_front_end : (xs ys : List Placed) → slice_get (xs ++ ys) (length xs) ≡ slice_get ys zero
get_front_end [] ys = refl
get_front_end (x ∷ xs) ys = get_front_end xs ys

-- the first item of nodes stands at their offset
first_item : (ns : Nodes) (rest : List Placed) → IsNode ns → (x : Item) × (slice_get (write ns rest) zero ≡ Some (placed (offset_in ns 0) x))
first_item stop rest n = absurd n
first_item (basic at i ns) rest n = (Plain i, refl)
first_item (jump at j ns) rest n = (Goes j, refl)
first_item (block at t body end ns) rest n = (Opens t, refl)
first_item (loop at t body end ns) rest n = (OpensLoop t, refl)
first_item (choose at t a ea b end ns) rest n = (OpensIf t, refl)

-- ---- both ways

module _ (m : Module) (type : FuncType) (body : Body) (result : Option ValType) (gives : reverse type.results ≡ option_to_list result) (order : InOrder body) (is_body : IsBody m type body (code_of body.targets body.ops)) (i : ℕ) (op : Op) (there : slice_get body.ops i ≡ Some op) where
  abbrev c : Context
  c = body_context m type body

  abbrev code : List Placed
  code = code_of body.targets body.ops

  abbrev nodes : Nodes
  nodes = is_body.tree.nodes

  abbrev start : OpenBlock
  start = opened kinds.Plain result []

  abbrev last : List Placed
  last = placed is_body.tree.end End ∷ []

  context_is : inside c (start ∷ []) ≡ c
  context_is = inside_body m type body result gives

  typed : Types (inside c (start ∷ [])) nodes [] (option_to_list result)
  typed = subst (λ x. Types (inside c (start ∷ [])) nodes [] x) gives (subst (λ x. Types x nodes [] (reverse type.results)) (sym context_is) is_body.typed)

  pub to_flat : (ts : List ValType) → Static m type body op.at ts → TypesBefore m type body i ts
  to_flat ts h =
      let s = h.0 in
      let tree : h.1.tree ≡ is_body.tree = one_tree code h.1.tree is_body.tree h.1.writes is_body.writes in
      let live : Live (inside c (start ∷ [])) nodes [] [] s = subst (λ z. Live z nodes [] [] s) (sym context_is) (subst (λ t. Live c t.nodes [] [] s) tree h.1.live) in
      let f = live_front c nodes start [] (option_to_list result) last [] s is_body.writes.arms tt typed live h.1.node in
      let first = first_item s.nodes f.rest h.1.node in
      let split : code ≡ f.front ++ write s.nodes f.rest = is_body.writes.out ∙ f.splits in
      let at_front : slice_get code (length f.front) ≡ Some (placed (offset_in s.nodes 0) first.0) = ap (λ z. slice_get z (length f.front)) split ∙ get_front_end f.front (write s.nodes f.rest) ∙ first.1 in
      let same : i ≡ length f.front = same_index 0 code i (length f.front) (placed op.at (item_of body.targets op.code)) (placed (offset_in s.nodes 0) first.0) (ascend_code body.targets 0 body.ops order.offsets) (code_at body.targets body.ops i op there) at_front (sym h.1.at) in
      let front : f.front ≡ take i code = sym (ap₂ take same split ∙ take_front f.front (write s.nodes f.rest)) in
      record {
        result = result;
        gives = gives;
        blocks = f.inner ∷ f.outer;
        leads = subst (λ z. FlatTypes c (start ∷ []) z (f.inner ∷ f.outer)) front f.leads;
        live = subst (λ z. AllLive (dead_behind (false ∷ []) z)) front f.live;
        types_are = h.2 ∙ ap reverse (ap₂ (λ x y. x ++ y) (sym f.here) (sym f.outside));
      }

  split_code : (ps : List Placed) (j : ℕ) (p : Placed) → slice_get ps j ≡ Some p → ps ≡ take j ps ++ p ∷ drop (suc j) ps
  split_code [] j p e = absurd (cc)
  split_code (q ∷ ps) zero p e = ap (λ z. z ∷ ps) (some_is e)
  split_code (q ∷ ps) (suc j) p e = ap (λ z. q ∷ z) (split_code ps j p e)

  no_end : (ks : List Placed) (p : Placed) (rs : List Placed) → [] ≡ ks ++ p ∷ rs → ⊥
  no_end [] p rs e = cc
  no_end (k ∷ ks) p rs e = cc

  -- the instruction there
  abbrev instruction : Placed
  instruction = placed op.at (item_of body.targets op.code)

  from_spot : (ts : List ValType) → TypesBefore m type body i ts → Spotted c nodes start [] op.at → Static m type body op.at ts
  from_spot ts h s =
      let live : Live c nodes [] [] s.found = subst (λ z. Live z nodes [] [] s.found) context_is s.live in
      let live_at : LiveAt m type body op.at s.found = record { tree = is_body.tree; writes = is_body.writes; live = live; node = s.node; at = s.offset } in
      let us = reverse (s.found.here ++ s.found.outside) in
      (s.found, live_at, one_before m type body i ts us h (to_flat us (s.found, live_at, refl)))

  pub to_tree : (ts : List ValType) → BeginsNode (item_of body.targets op.code) → TypesBefore m type body i ts → Static m type body op.at ts
  to_tree ts node h =
      let split : write nodes last ≡ take i code ++ instruction ∷ drop (suc i) code = sym is_body.writes.out ∙ split_code code i instruction (code_at body.targets body.ops i op there) in
      ⊎_elim
      (λ k. from_spot ts h (spotted c nodes start [] (option_to_list result) [] (take i code) instruction k.0 is_body.writes.arms typed k.1 node h.live))
      (λ k. absurd (no_end k.0 instruction (drop (suc i) code) k.2))
      (stands nodes (placed is_body.tree.end End) [] (take i code) instruction (drop (suc i) code) split (λ z. z) node)
