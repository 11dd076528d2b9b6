-- The operands before each instruction of flat code, `else` and `end` with them, are those of a live spot of its tree.
use Rattle.std.proofs.Common.{◌≡◌, ℕ, zero, suc, Bool, false, List, [], ◌∷◌, ◌++◌, inl, inr, take, reverse, Option, Some, None, refl, sym, subst, option_to_list}
use Rattle.wasm_syntax.specs.declared.blocks.BlockKind.TheVariants.{Loop, Then}
use Rattle.wasm_syntax.specs.declared.blocks.BlockKind.TheVariants as kinds
use Rattle.wasm_syntax.specs.declared.value.ValType.{ValType}
use Rattle.wasm_syntax.specs.declared.parts.FuncType.{FuncType}
use Rattle.wasm_syntax.specs.declared.parts.Body.{Body}
use Rattle.wasm_syntax.specs.declared.module.ModuleParts.{ModuleParts as Module}
use Rattle.wasm_syntax.specs.Tree.{End, Else, Nodes, stop, basic, jump, block, loop, choose, Tree, Placed, placed, write, code_of, IsTree, Writes}
use Rattle.wasm_syntax.specs.Typing.{Context, Types, body_context}
use Rattle.wasm_syntax.specs.FlatTyping.{OpenBlock, opened, inside, given, FlatStep, FlatTypes, dead_behind_jump, dead_next, dead_behind, AllLive, all_types, TypesBefore}
use Rattle.wasm_syntax.specs.Static.{Spot, spot, Live}
use Rattle.wasm_laws.proofs.FlatBodies.{no_result, inside_body}
use Rattle.wasm_laws.proofs.FlatOne.{one_before, goes_live}

module _ (Q : List ValType → Type 0) where
  -- the operands before each live instruction have the property
  abbrev Marked : Context → List Bool → List OpenBlock → List Placed → Type 0
  Marked c ds bs [] = AllLive ds → Q (all_types bs)
  Marked c ds bs (p ∷ ps) = (AllLive ds → Q (all_types bs)) × (after : List OpenBlock) × FlatStep c bs p.code after × Marked c (dead_next ds p.code) after ps

  marked_at : (c : Context) (code : List Placed) (ds : List Bool) (bs : List OpenBlock) (i : ℕ) → Marked c ds bs code → (blocks : List OpenBlock) × FlatTypes c bs (take i code) blocks × (AllLive (dead_behind ds (take i code)) → Q (all_types blocks))
  marked_at c [] ds bs zero h = (bs, refl, h)
  marked_at c [] ds bs (suc i) h = (bs, refl, h)
  marked_at c (p ∷ ps) ds bs zero h = (bs, refl, h.0)
  marked_at c (p ∷ ps) ds bs (suc i) h = let r = marked_at c ps (dead_next ds p.code) h.1 i h.3 in (r.0, (h.1, h.2, r.1), r.2)

  -- each spot of these nodes has it
  abbrev Spots : Context → OpenBlock → List OpenBlock → List Bool → Nodes → Type 0
  Spots c b bs ds nodes = AllLive ds → (s : Spot) → Live (inside c (b ∷ bs)) nodes b.types (all_types bs) s → Q (s.here ++ s.outside)

  -- and so has what follows them
  abbrev Follows : Context → OpenBlock → List OpenBlock → List Bool → List Placed → Type 0
  Follows c b bs ds following = (e : Bool) → (AllLive (e ∷ ds) → Q (b.types ++ all_types bs)) → Marked c (e ∷ ds) (b ∷ bs) following

  pass : (c : Context) (nodes : Nodes) (b : OpenBlock) (bs : List OpenBlock) (d : Bool) (ds : List Bool) (after : List ValType) (following : List Placed) → IsTree nodes → Types (inside c (b ∷ bs)) nodes b.types after → Spots c b bs (d ∷ ds) nodes → Follows c (opened b.kind b.result after) bs ds following → Marked c (d ∷ ds) (b ∷ bs) (write nodes following)
  pass c stop b bs d ds after following w ty q go =
      let here : AllLive (d ∷ ds) → Q (b.types ++ all_types bs) = λ l. q l (spot stop b.types (all_types bs)) refl in
      let there = go d (λ l. subst (λ z. Q (z ++ all_types bs)) ty (here l)) in
      subst (λ z. Marked c (d ∷ ds) (opened b.kind b.result z ∷ bs) following) (sym ty) there
  pass c (basic at i rest) b bs d ds after following w ty q go =
      (λ l. q l (spot (basic at i rest) b.types (all_types bs)) (inl refl), opened b.kind b.result ty.0 ∷ bs, (ty.0, ty.1, refl), pass c rest (opened b.kind b.result ty.0) bs d ds after following w ty.2 (λ l s k. q l s (inr (ty.0, ty.1, k))) go)
  pass c (jump at j rest) b bs d ds after following w ty q go =
      let behind : Spots c (opened b.kind b.result ty.0) bs (dead_behind_jump d j ∷ ds) rest = λ l s k. (let g = goes_live j d l.0 in q (g.1, l.1) s (inr (ty.0, g.0, ty.1, k))) in
      (λ l. q l (spot (jump at j rest) b.types (all_types bs)) (inl refl), opened b.kind b.result ty.0 ∷ bs, (ty.0, ty.1, refl), pass c rest (opened b.kind b.result ty.0) bs (dead_behind_jump d j) ds after following w ty.2 behind go)
  pass c (block at t body end rest) b bs d ds after following w ty q go =
      let outer = opened b.kind b.result (option_to_list t ++ b.types) in
      let next_ = pass c rest outer bs d ds after following w.1 ty.1 (λ l s k. q l s (inr (inr k))) go in
      let ended : Follows c (opened kinds.Plain t (option_to_list t)) (b ∷ bs) (d ∷ ds) (placed end End ∷ write rest following) = λ e f. (f, given (option_to_list t) (b ∷ bs), (refl, tt, refl), next_) in
      (λ l. q l (spot (block at t body end rest) b.types (all_types bs)) (inl refl), opened kinds.Plain t [] ∷ b ∷ bs, refl, pass c body (opened kinds.Plain t []) (b ∷ bs) false (d ∷ ds) (option_to_list t) (placed end End ∷ write rest following) w.0 ty.0 (λ l s k. q l.1 s (inr (inl k))) ended)
  pass c (loop at t body end rest) b bs d ds after following w ty q go =
      let outer = opened b.kind b.result (option_to_list t ++ b.types) in
      let next_ = pass c rest outer bs d ds after following w.1 ty.1 (λ l s k. q l s (inr (inr k))) go in
      let ended : Follows c (opened Loop t (option_to_list t)) (b ∷ bs) (d ∷ ds) (placed end End ∷ write rest following) = λ e f. (f, given (option_to_list t) (b ∷ bs), (refl, tt, refl), next_) in
      (λ l. q l (spot (loop at t body end rest) b.types (all_types bs)) (inl refl), opened Loop t [] ∷ b ∷ bs, refl, pass c body (opened Loop t []) (b ∷ bs) false (d ∷ ds) (option_to_list t) (placed end End ∷ write rest following) w.0 ty.0 (λ l s k. q l.1 s (inr (inl k))) ended)
  pass c (choose at t x None y end rest) b bs d ds after following w ty q go =
      let u = ty.2 in
      let o = opened b.kind b.result u in
      let outer = opened b.kind b.result (option_to_list t ++ u) in
      let next_ = pass c rest outer bs d ds after following w.3 ty.4 (λ l s k. q l s (inr (u, ty.3, inr (inr k)))) go in
      let none : t ≡ None = no_result t (subst (λ z. Types (inside c (opened kinds.Plain t [] ∷ b ∷ bs)) z [] (option_to_list t)) w.1 ty.1) in
      let ended : Follows c (opened Then t (option_to_list t)) (o ∷ bs) (d ∷ ds) (placed end End ∷ write rest following) = λ e f. (f, given (option_to_list t) (o ∷ bs), (refl, none, refl), next_) in
      let ended1 : Follows c (opened Then t (option_to_list t)) (o ∷ bs) (d ∷ ds) (write y (placed end End ∷ write rest following)) = subst (λ z. Follows c (opened Then t (option_to_list t)) (o ∷ bs) (d ∷ ds) (write z (placed end End ∷ write rest following))) (sym w.1) ended in
      (λ l. q l (spot (choose at t x None y end rest) b.types (all_types bs)) (inl refl), opened Then t [] ∷ o ∷ bs, (u, ty.3, refl), pass c x (opened Then t []) (o ∷ bs) false (d ∷ ds) (option_to_list t) (write y (placed end End ∷ write rest following)) w.0 ty.0 (λ l s k. q l.1 s (inr (u, ty.3, inl k))) ended1)
  pass c (choose at t x (Some m) y end rest) b bs d ds after following w ty q go =
      let u = ty.2 in
      let o = opened b.kind b.result u in
      let outer = opened b.kind b.result (option_to_list t ++ u) in
      let next_ = pass c rest outer bs d ds after following w.3 ty.4 (λ l s k. q l s (inr (u, ty.3, inr (inr k)))) go in
      let ended : Follows c (opened kinds.Plain t (option_to_list t)) (o ∷ bs) (d ∷ ds) (placed end End ∷ write rest following) = λ e f. (f, given (option_to_list t) (o ∷ bs), (refl, tt, refl), next_) in
      let arm = pass c y (opened kinds.Plain t []) (o ∷ bs) false (d ∷ ds) (option_to_list t) (placed end End ∷ write rest following) w.2 ty.1 (λ l s k. q l.1 s (inr (u, ty.3, inr (inl k)))) ended in
      let other : Follows c (opened Then t (option_to_list t)) (o ∷ bs) (d ∷ ds) (placed m Else ∷ write y (placed end End ∷ write rest following)) = λ e f. (f, opened kinds.Plain t [] ∷ o ∷ bs, (refl, refl, refl), arm) in
      (λ l. q l (spot (choose at t x (Some m) y end rest) b.types (all_types bs)) (inl refl), opened Then t [] ∷ o ∷ bs, (u, ty.3, refl), pass c x (opened Then t []) (o ∷ bs) false (d ∷ ds) (option_to_list t) (placed m Else ∷ write y (placed end End ∷ write rest following)) w.0 ty.0 (λ l s k. q l.1 s (inr (u, ty.3, inl k))) other)

  -- what each spot of a body has, the operands before each instruction have
  pub at_spots : (m : Module) (type : FuncType) (body : Body) (tree : Tree) (result : Option ValType) → reverse type.results ≡ option_to_list result → Writes body.targets body.ops tree → Types (body_context m type body) tree.nodes [] (reverse type.results) → Q [] → ((s : Spot) → Live (body_context m type body) tree.nodes [] [] s → Q (s.here ++ s.outside)) → (i : ℕ) (types : List ValType) → TypesBefore m type body i types → (us : List ValType) × (types ≡ reverse us) × Q us
  at_spots m type body tree result gives w ty none q i types h =
      let c = body_context m type body in
      let start = opened kinds.Plain result [] in
      let same : inside c (start ∷ []) ≡ c = inside_body m type body result gives in
      let ty1 : Types (inside c (start ∷ [])) tree.nodes [] (option_to_list result) = subst (λ x. Types (inside c (start ∷ [])) tree.nodes [] x) gives (subst (λ x. Types x tree.nodes [] (reverse type.results)) (sym same) ty) in
      let spots : Spots c start [] (false ∷ []) tree.nodes = λ l s k. q s (subst (λ x. Live x tree.nodes [] [] s) same k) in
      let last : Follows c (opened kinds.Plain result (option_to_list result)) [] [] (placed tree.end End ∷ []) = λ e f. (f, [], (refl, tt, refl), λ l. none) in
      let all = pass c tree.nodes start [] false [] (option_to_list result) (placed tree.end End ∷ []) w.arms ty1 spots last in
      let code = code_of body.targets body.ops in
      let all1 : Marked c (false ∷ []) (start ∷ []) code = subst (λ x. Marked c (false ∷ []) (start ∷ []) x) (sym w.out) all in
      let k = marked_at c code (false ∷ []) (start ∷ []) i all1 in
      let before : TypesBefore m type body i (reverse (all_types k.0)) = record { result = result; gives = gives; blocks = k.0; leads = k.1; live = h.live; types_are = refl } in
      (all_types k.0, one_before m type body i types (reverse (all_types k.0)) h before, k.2 h.live)
