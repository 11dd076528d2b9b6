-- What a frame shows at a call is what the call left.
use Rattle.std.proofs.Common.{◌≡◌, ℕ, suc, true, false, List, [], ◌∷◌, ◌++◌, length, drop, reverse, Some, refl, sym, ap, subst, ◌∙◌, inl, inr}
use Rattle.std.specs.Prelude.{option_to_list, slice_get}
use Rattle.std.proofs.lemmas.List.{length-reverse}
use Rattle.wasm_syntax.specs.declared.value.ValType.{ValType}
use Rattle.wasm_syntax.specs.declared.value.ValType.TheVariants.{I32}
use Rattle.wasm_syntax.specs.declared.parts.FuncType.{FuncType}
use Rattle.wasm_syntax.specs.declared.parts.Body.{Body}
use Rattle.wasm_syntax.specs.declared.module.ModuleParts.{ModuleParts as Module}
use Rattle.wasm_syntax.specs.Tree.{Unreachable, Br, BrIf, BrTable, Return, Call, CallIndirect, Item, Goes, Nodes, stop, basic, jump, block, loop, choose, code_of}
use Rattle.wasm_syntax.specs.Module.{type_at}
use Rattle.wasm_syntax.specs.Sizes.{parameter_count}
use Rattle.wasm_syntax.specs.Typing.{Context, Types, within, IsBody, body_context}
use Rattle.wasm_syntax.specs.Static.{Spot, spot, Live, LiveAt, Static, Left}
use Rattle.wasm_laws.proofs.Progress.{tail}
use Rattle.wasm_laws.proofs.Live.{basic_one, jump_one}
use Rattle.wasm_laws.proofs.Unique.{one_tree}
use Rattle.dump_match.specs.Frames.{instruction, is_call, taken, shown}
use Rattle.match_laws.proofs.Frames.{drop_front}

-- the nodes from the spot on are well typed
record SpotTyped (m : Module) (s : Spot) : Type 0 where
  pub context : Context
  pub after : List ValType
  pub of_module : context.module_ ≡ m
  pub typed : Types context s.nodes s.here after

at_once : (c : Context) (m : Module) (ns : Nodes) (here outside after : List ValType) (s : Spot) → c.module_ ≡ m → Types c ns here after → s ≡ spot ns here outside → SpotTyped m s
at_once c m ns here outside after s e t q = subst (SpotTyped m) (sym q) (record { context = c; after = after; of_module = e; typed = t })

live_typed : (c : Context) (m : Module) (ns : Nodes) (here outside after : List ValType) (s : Spot) → c.module_ ≡ m → Types c ns here after → Live c ns here outside s → SpotTyped m s
live_typed c m stop here outside after s e t l = at_once c m stop here outside after s e t l
live_typed c m (basic at i rest) here outside after s e t (inl q) = at_once c m (basic at i rest) here outside after s e t q
live_typed c m (basic at i rest) here outside after s e t (inr l) =
    let same : t.0 ≡ l.0 = basic_one c i here t.0 l.0 t.1 l.1 in
    live_typed c m rest l.0 outside after s e (subst (λ z. Types c rest z after) same t.2) l.2
live_typed c m (jump at j rest) here outside after s e t (inl q) = at_once c m (jump at j rest) here outside after s e t q
live_typed c m (jump at j rest) here outside after s e t (inr l) =
    let same : t.0 ≡ l.0 = jump_one c j here t.0 l.0 l.1 t.1 l.2 in
    live_typed c m rest l.0 outside after s e (subst (λ z. Types c rest z after) same t.2) l.3
live_typed c m (block at r body end rest) here outside after s e t (inl q) = at_once c m (block at r body end rest) here outside after s e t q
live_typed c m (block at r body end rest) here outside after s e t (inr (inl l)) = live_typed (within c (option_to_list r)) m body [] (here ++ outside) (option_to_list r) s e t.0 l
live_typed c m (block at r body end rest) here outside after s e t (inr (inr l)) = live_typed c m rest (option_to_list r ++ here) outside after s e t.1 l
live_typed c m (loop at r body end rest) here outside after s e t (inl q) = at_once c m (loop at r body end rest) here outside after s e t q
live_typed c m (loop at r body end rest) here outside after s e t (inr (inl l)) = live_typed (within c []) m body [] (here ++ outside) (option_to_list r) s e t.0 l
live_typed c m (loop at r body end rest) here outside after s e t (inr (inr l)) = live_typed c m rest (option_to_list r ++ here) outside after s e t.1 l
live_typed c m (choose at r a ea b end rest) here outside after s e t (inl q) = at_once c m (choose at r a ea b end rest) here outside after s e t q
live_typed c m (choose at r a ea b end rest) here outside after s e t (inr (u, h, inl l)) = live_typed (within c (option_to_list r)) m a [] (u ++ outside) (option_to_list r) s e t.0 l
live_typed c m (choose at r a ea b end rest) here outside after s e t (inr (u, h, inr (inl l))) = live_typed (within c (option_to_list r)) m b [] (u ++ outside) (option_to_list r) s e t.1 l
live_typed c m (choose at r a ea b end rest) here outside after s e t (inr (u, h, inr (inr l))) =
    let same : t.2 ≡ u = ap tail (sym t.3 ∙ h) in
    live_typed c m rest (option_to_list r ++ u) outside after s e (subst (λ z. Types c rest (option_to_list r ++ z) after) same t.4) l

-- without what the call takes
left_types : (n : ℕ) (here takes below outside : List ValType) → n ≡ length takes → here ≡ takes ++ below → reverse (drop n (here ++ outside)) ≡ reverse (below ++ outside)
left_types n here takes below outside e h =
    ap reverse (ap (λ k. drop k (here ++ outside)) e ∙ ap (λ z. drop (length takes) (z ++ outside)) h ∙ drop_front takes below outside)

module _ (m : Module) (type : FuncType) (body : Body) (o : ℕ) where
  left_at : (ns : Nodes) (here outside : List ValType) → SpotTyped m (spot ns here outside) → LiveAt m type body o (spot ns here outside) → is_call (instruction ns) ≡ true → Left m type body o (shown m 1 (spot ns here outside))
  left_at (jump at (Call g) rest) here outside st live e =
      let j = st.typed.1 in
      let known : type_at m g ≡ Some j.0 = ap (λ x. type_at x g) (sym st.of_module) ∙ j.1 in
      let n : taken m (Goes (Call g)) ≡ length (reverse j.0.params) = ap parameter_count known ∙ sym (length-reverse j.0.params) in
      (spot (jump at (Call g) rest) here outside, live, reverse j.0.params, (j.0, known, refl), j.2.below, j.2.takes, left_types (taken m (Goes (Call g))) here (reverse j.0.params) j.2.below outside n j.2.takes)
  left_at (jump at (CallIndirect t) rest) here outside st live e =
      let j = st.typed.1 in
      let known : slice_get m.types t ≡ Some j.0 = ap (λ x. slice_get x.types t) (sym st.of_module) ∙ j.2 in
      let n : taken m (Goes (CallIndirect t)) ≡ length (I32 ∷ reverse j.0.params) = ap (λ z. suc (parameter_count z)) known ∙ ap suc (sym (length-reverse j.0.params)) in
      (spot (jump at (CallIndirect t) rest) here outside, live, I32 ∷ reverse j.0.params, (j.0, known, refl), j.3.below, j.3.takes, left_types (taken m (Goes (CallIndirect t))) here (I32 ∷ reverse j.0.params) j.3.below outside n j.3.takes)
  left_at (jump at Unreachable rest) here outside st live e = absurd (cc)
  left_at (jump at (Br n) rest) here outside st live e = absurd (cc)
  left_at (jump at (BrIf n) rest) here outside st live e = absurd (cc)
  left_at (jump at (BrTable ns d) rest) here outside st live e = absurd (cc)
  left_at (jump at Return rest) here outside st live e = absurd (cc)
  left_at stop here outside st live e = absurd (cc)
  left_at (basic at i rest) here outside st live e = absurd (cc)
  left_at (block at r b end rest) here outside st live e = absurd (cc)
  left_at (loop at r b end rest) here outside st live e = absurd (cc)
  left_at (choose at r a ea b end rest) here outside st live e = absurd (cc)

  nothing_taken : (i : Item) → is_call i ≡ false → taken m i ≡ 0
  nothing_taken (Goes (Call g)) e = absurd (cc)
  nothing_taken (Goes (CallIndirect t)) e = absurd (cc)
  nothing_taken i e = refl

  pub shown_left : (s : Spot) → IsBody m type body (code_of body.targets body.ops) → LiveAt m type body o s → is_call (instruction s.nodes) ≡ true → Left m type body o (shown m 1 s)
  shown_left s b live e =
      let tree = one_tree (code_of body.targets body.ops) live.tree b.tree live.writes b.writes in
      let l : Live (body_context m type body) b.tree.nodes [] [] s = subst (λ t. Live (body_context m type body) t.nodes [] [] s) tree live.live in
      left_at s.nodes s.here s.outside (live_typed (body_context m type body) m b.tree.nodes [] [] (reverse type.results) s refl b.typed l) live e

  pub shown_static : (s : Spot) → LiveAt m type body o s → is_call (instruction s.nodes) ≡ false → Static m type body o (shown m 1 s)
  shown_static s live e = (s, live, ap (λ n. reverse (drop n (s.here ++ s.outside))) (nothing_taken (instruction s.nodes) e))
