-- The operand types before a live instruction, by its place in the tree and by its place in the flat code, are the same.
use Rattle.std.proofs.Common.{◌≡◌, ℕ, Bool, true, false, List, [], ◌∷◌, ◌++◌, ◌⊎◌, inl, inr, ⊎_elim, Option, Some, None, refl, sym, ap, ap₂, subst, ◌∙◌, append_assoc}
use Rattle.std.specs.Prelude.{option_to_list}
use Rattle.wasm_syntax.specs.declared.blocks.BlockKind.TheVariants.{Loop, Then}
use Rattle.wasm_syntax.specs.declared.blocks.BlockKind.TheVariants as kinds
use Rattle.wasm_syntax.specs.declared.value.ValType.{ValType}
use Rattle.wasm_syntax.specs.Tree.{Jump, Unreachable, Br, BrIf, BrTable, Return, Call, CallIndirect, Plain, Goes, Opens, OpensLoop, OpensIf, Else, End, Nodes, stop, basic, jump, block, loop, choose, Placed, placed, write, else_out, IsTree}
use Rattle.wasm_syntax.specs.Typing.{Context, Types}
use Rattle.wasm_syntax.specs.FlatTyping.{OpenBlock, opened, inside, given, FlatTypes, dead_behind_jump, dead_behind, AllLive, BeginsNode, all_types}
use Rattle.wasm_syntax.specs.Machine.{offset_in}
use Rattle.wasm_syntax.specs.Static.{Spot, spot, goes_on, Live, IsNode}
use Rattle.wasm_laws.proofs.Progress.{tail}
use Rattle.wasm_laws.proofs.Live.{basic_one, jump_one}
use Rattle.wasm_laws.proofs.FlatBodies.{tree_steps, else_steps}

-- ---- writing out

else_append : (ea : Option ℕ) (xs ys : List Placed) → else_out ea (xs ++ ys) ≡ else_out ea xs ++ ys
else_append None xs ys = refl
else_append (Some at) xs ys = refl

pub write_append : (ns : Nodes) (xs ys : List Placed) → write ns (xs ++ ys) ≡ write ns xs ++ ys
write_append stop xs ys = refl
write_append (basic at i rest) xs ys = ap (λ z. placed at (Plain i) ∷ z) (write_append rest xs ys)
write_append (jump at j rest) xs ys = ap (λ z. placed at (Goes j) ∷ z) (write_append rest xs ys)
write_append (block at t body end rest) xs ys =
    ap (λ z. placed at (Opens t) ∷ z) (ap (λ z. write body (placed end End ∷ z)) (write_append rest xs ys) ∙ write_append body (placed end End ∷ write rest xs) ys)
write_append (loop at t body end rest) xs ys =
    ap (λ z. placed at (OpensLoop t) ∷ z) (ap (λ z. write body (placed end End ∷ z)) (write_append rest xs ys) ∙ write_append body (placed end End ∷ write rest xs) ys)
write_append (choose at t a ea b end rest) xs ys =
    let w = write b (placed end End ∷ write rest xs) in
    let arm : write b (placed end End ∷ write rest (xs ++ ys)) ≡ w ++ ys = ap (λ z. write b (placed end End ∷ z)) (write_append rest xs ys) ∙ write_append b (placed end End ∷ write rest xs) ys in
    ap (λ z. placed at (OpensIf t) ∷ z) (ap (λ z. write a (else_out ea z)) arm ∙ ap (write a) (else_append ea w ys) ∙ write_append a (else_out ea w) ys)

-- ---- which code is dead

-- behind nodes the blocks outside are as they were
pub dead_pass : (ns : Nodes) (d : Bool) (ds : List Bool) (xs : List Placed) → (e : Bool) × (dead_behind (d ∷ ds) (write ns xs) ≡ dead_behind (e ∷ ds) xs)
dead_pass stop d ds xs = (d, refl)
dead_pass (basic at i rest) d ds xs = dead_pass rest d ds xs
dead_pass (jump at j rest) d ds xs = dead_pass rest (dead_behind_jump d j) ds xs
dead_pass (block at t body end rest) d ds xs =
    let b = dead_pass body false (d ∷ ds) (placed end End ∷ write rest xs) in let r = dead_pass rest d ds xs in (r.0, b.1 ∙ r.1)
dead_pass (loop at t body end rest) d ds xs =
    let b = dead_pass body false (d ∷ ds) (placed end End ∷ write rest xs) in let r = dead_pass rest d ds xs in (r.0, b.1 ∙ r.1)
dead_pass (choose at t a None b end rest) d ds xs =
    let x = dead_pass a false (d ∷ ds) (write b (placed end End ∷ write rest xs)) in
    let y = dead_pass b x.0 (d ∷ ds) (placed end End ∷ write rest xs) in
    let r = dead_pass rest d ds xs in
    (r.0, x.1 ∙ y.1 ∙ r.1)
dead_pass (choose at t a (Some e) b end rest) d ds xs =
    let x = dead_pass a false (d ∷ ds) (placed e Else ∷ write b (placed end End ∷ write rest xs)) in
    let y = dead_pass b false (d ∷ ds) (placed end End ∷ write rest xs) in
    let r = dead_pass rest d ds xs in
    (r.0, x.1 ∙ y.1 ∙ r.1)

dead_else : (ea : Option ℕ) (b : Nodes) (end : ℕ) (d : Bool) (ds : List Bool) (xs : List Placed) → dead_behind (d ∷ ds) (else_out ea (write b (placed end End ∷ xs))) ≡ dead_behind ds xs
dead_else None b end d ds xs = (dead_pass b d ds (placed end End ∷ xs)).1
dead_else (Some e) b end d ds xs = (dead_pass b false ds (placed end End ∷ xs)).1

pub stays : (j : Jump) (d : Bool) → goes_on j → dead_behind_jump d j ≡ d
stays Unreachable d g = absurd g
stays (Br n) d g = absurd g
stays (BrIf n) d g = refl
stays (BrTable targets default) d g = absurd g
stays Return d g = absurd g
stays (Call f) d g = refl
stays (CallIndirect t) d g = refl

-- ---- from the tree to the flat code

-- flat steps lead to a spot
pub record Front (c : Context) (b : OpenBlock) (bs : List OpenBlock) (ds : List Bool) (code : List Placed) (s : Spot) : Type 0 where
  pub front : List Placed
  pub rest : List Placed
  pub inner : OpenBlock
  pub outer : List OpenBlock
  pub splits : code ≡ front ++ write s.nodes rest
  pub leads : FlatTypes c (b ∷ bs) front (inner ∷ outer)
  pub here : inner.types ≡ s.here
  pub outside : all_types outer ≡ s.outside
  pub live : AllLive (dead_behind (false ∷ ds) front)

at_once : (c : Context) (b : OpenBlock) (bs : List OpenBlock) (ds : List Bool) (n : Nodes) (after : List Placed) (s : Spot) → AllLive ds → s ≡ spot n b.types (all_types bs) → Front c b bs ds (write n after) s
at_once c b bs ds n after s live e = record {
  front = [];
  rest = after;
  inner = b;
  outer = bs;
  splits = ap (λ z. write z.nodes after) (sym e);
  leads = refl;
  here = ap (λ z. z.here) (sym e);
  outside = ap (λ z. z.outside) (sym e);
  live = (refl, live);
}

pub live_front : (c : Context) (ns : Nodes) (b : OpenBlock) (bs : List OpenBlock) (after : List ValType) (following : List Placed) (ds : List Bool) (s : Spot) → IsTree ns → AllLive ds → Types (inside c (b ∷ bs)) ns b.types after → Live (inside c (b ∷ bs)) ns b.types (all_types bs) s → IsNode s.nodes → Front c b bs ds (write ns following) s
live_front c stop b bs after following ds s w live ty l n = at_once c b bs ds stop following s live l
live_front c (basic at i rest) b bs after following ds s w live ty (inl e) n = at_once c b bs ds (basic at i rest) following s live e
live_front c (basic at i rest) b bs after following ds s w live ty (inr l) n =
    let e : ty.0 ≡ l.0 = basic_one (inside c (b ∷ bs)) i b.types ty.0 l.0 ty.1 l.1 in
    let f = live_front c rest (opened b.kind b.result l.0) bs after following ds s w live (subst (λ z. Types (inside c (b ∷ bs)) rest z after) e ty.2) l.2 n in
    record {
      front = placed at (Plain i) ∷ f.front;
      rest = f.rest;
      inner = f.inner;
      outer = f.outer;
      splits = ap (λ z. placed at (Plain i) ∷ z) f.splits;
      leads = (opened b.kind b.result l.0 ∷ bs, (l.0, l.1, refl), f.leads);
      here = f.here;
      outside = f.outside;
      live = f.live;
    }
live_front c (jump at j rest) b bs after following ds s w live ty (inl e) n = at_once c b bs ds (jump at j rest) following s live e
live_front c (jump at j rest) b bs after following ds s w live ty (inr l) n =
    let e : ty.0 ≡ l.0 = jump_one (inside c (b ∷ bs)) j b.types ty.0 l.0 l.1 ty.1 l.2 in
    let f = live_front c rest (opened b.kind b.result l.0) bs after following ds s w live (subst (λ z. Types (inside c (b ∷ bs)) rest z after) e ty.2) l.3 n in
    record {
      front = placed at (Goes j) ∷ f.front;
      rest = f.rest;
      inner = f.inner;
      outer = f.outer;
      splits = ap (λ z. placed at (Goes j) ∷ z) f.splits;
      leads = (opened b.kind b.result l.0 ∷ bs, (l.0, l.2, refl), f.leads);
      here = f.here;
      outside = f.outside;
      live = subst (λ z. AllLive (dead_behind (z ∷ ds) f.front)) (sym (stays j false l.1)) f.live;
    }
live_front c (block at t body end rest) b bs after following ds s w live ty (inl e) n = at_once c b bs ds (block at t body end rest) following s live e
live_front c (block at t body end rest) b bs after following ds s w live ty (inr (inl l)) n =
    let f = live_front c body (opened kinds.Plain t []) (b ∷ bs) (option_to_list t) (placed end End ∷ write rest following) (false ∷ ds) s w.0 (refl, live) ty.0 l n in
    record {
      front = placed at (Opens t) ∷ f.front;
      rest = f.rest;
      inner = f.inner;
      outer = f.outer;
      splits = ap (λ z. placed at (Opens t) ∷ z) f.splits;
      leads = (opened kinds.Plain t [] ∷ b ∷ bs, refl, f.leads);
      here = f.here;
      outside = f.outside;
      live = f.live;
    }
live_front c (block at t body end rest) b bs after following ds s w live ty (inr (inr l)) n =
    let f = live_front c rest (opened b.kind b.result (option_to_list t ++ b.types)) bs after following ds s w.1 live ty.1 l n in
    record {
      front = placed at (Opens t) ∷ write body (placed end End ∷ f.front);
      rest = f.rest;
      inner = f.inner;
      outer = f.outer;
      splits = ap (λ z. placed at (Opens t) ∷ z) (ap (λ z. write body (placed end End ∷ z)) f.splits ∙ write_append body (placed end End ∷ f.front) (write s.nodes f.rest));
      leads = (opened kinds.Plain t [] ∷ b ∷ bs, refl, tree_steps c body (opened kinds.Plain t []) (b ∷ bs) (option_to_list t) (placed end End ∷ f.front) (f.inner ∷ f.outer) w.0 ty.0 (given (option_to_list t) (b ∷ bs), (refl, tt, refl), f.leads));
      here = f.here;
      outside = f.outside;
      live = subst AllLive (sym (dead_pass body false (false ∷ ds) (placed end End ∷ f.front)).1) f.live;
    }
live_front c (loop at t body end rest) b bs after following ds s w live ty (inl e) n = at_once c b bs ds (loop at t body end rest) following s live e
live_front c (loop at t body end rest) b bs after following ds s w live ty (inr (inl l)) n =
    let f = live_front c body (opened Loop t []) (b ∷ bs) (option_to_list t) (placed end End ∷ write rest following) (false ∷ ds) s w.0 (refl, live) ty.0 l n in
    record {
      front = placed at (OpensLoop t) ∷ f.front;
      rest = f.rest;
      inner = f.inner;
      outer = f.outer;
      splits = ap (λ z. placed at (OpensLoop t) ∷ z) f.splits;
      leads = (opened Loop t [] ∷ b ∷ bs, refl, f.leads);
      here = f.here;
      outside = f.outside;
      live = f.live;
    }
live_front c (loop at t body end rest) b bs after following ds s w live ty (inr (inr l)) n =
    let f = live_front c rest (opened b.kind b.result (option_to_list t ++ b.types)) bs after following ds s w.1 live ty.1 l n in
    record {
      front = placed at (OpensLoop t) ∷ write body (placed end End ∷ f.front);
      rest = f.rest;
      inner = f.inner;
      outer = f.outer;
      splits = ap (λ z. placed at (OpensLoop t) ∷ z) (ap (λ z. write body (placed end End ∷ z)) f.splits ∙ write_append body (placed end End ∷ f.front) (write s.nodes f.rest));
      leads = (opened Loop t [] ∷ b ∷ bs, refl, tree_steps c body (opened Loop t []) (b ∷ bs) (option_to_list t) (placed end End ∷ f.front) (f.inner ∷ f.outer) w.0 ty.0 (given (option_to_list t) (b ∷ bs), (refl, tt, refl), f.leads));
      here = f.here;
      outside = f.outside;
      live = subst AllLive (sym (dead_pass body false (false ∷ ds) (placed end End ∷ f.front)).1) f.live;
    }
live_front c (choose at t a ea a' end rest) b bs after following ds s w live ty (inl e) n = at_once c b bs ds (choose at t a ea a' end rest) following s live e
live_front c (choose at t a ea a' end rest) b bs after following ds s w live ty (inr (u, e, inl l)) n =
    let f = live_front c a (opened Then t []) (opened b.kind b.result u ∷ bs) (option_to_list t) (else_out ea (write a' (placed end End ∷ write rest following))) (false ∷ ds) s w.0 (refl, live) ty.0 l n in
    record {
      front = placed at (OpensIf t) ∷ f.front;
      rest = f.rest;
      inner = f.inner;
      outer = f.outer;
      splits = ap (λ z. placed at (OpensIf t) ∷ z) f.splits;
      leads = (opened Then t [] ∷ opened b.kind b.result u ∷ bs, (u, e, refl), f.leads);
      here = f.here;
      outside = f.outside;
      live = f.live;
    }
live_front c (choose at t a None a' end rest) b bs after following ds s w live ty (inr (u, e, inr (inl l))) n =
    let none : s ≡ spot stop [] (u ++ all_types bs) = subst (λ z. Live (inside c (opened kinds.Plain t [] ∷ opened b.kind b.result u ∷ bs)) z [] (u ++ all_types bs) s) w.1 l in
    absurd (subst (λ z. IsNode z.nodes) none n)
live_front c (choose at t a (Some m) a' end rest) b bs after following ds s w live ty (inr (u, e, inr (inl l))) n =
    let f = live_front c a' (opened kinds.Plain t []) (opened b.kind b.result u ∷ bs) (option_to_list t) (placed end End ∷ write rest following) (false ∷ ds) s w.2 (refl, live) ty.1 l n in
    record {
      front = placed at (OpensIf t) ∷ write a (placed m Else ∷ f.front);
      rest = f.rest;
      inner = f.inner;
      outer = f.outer;
      splits = ap (λ z. placed at (OpensIf t) ∷ z) (ap (λ z. write a (placed m Else ∷ z)) f.splits ∙ write_append a (placed m Else ∷ f.front) (write s.nodes f.rest));
      leads = (opened Then t [] ∷ opened b.kind b.result u ∷ bs, (u, e, refl), tree_steps c a (opened Then t []) (opened b.kind b.result u ∷ bs) (option_to_list t) (placed m Else ∷ f.front) (f.inner ∷ f.outer) w.0 ty.0 (opened kinds.Plain t [] ∷ opened b.kind b.result u ∷ bs, (refl, refl, refl), f.leads));
      here = f.here;
      outside = f.outside;
      live = subst AllLive (sym (dead_pass a false (false ∷ ds) (placed m Else ∷ f.front)).1) f.live;
    }
live_front c (choose at t a ea a' end rest) b bs after following ds s w live ty (inr (u, e, inr (inr l))) n =
    let g : ty.2 ≡ u = ap tail (sym ty.3 ∙ e) in
    let o = opened b.kind b.result u in
    let f = live_front c rest (opened b.kind b.result (option_to_list t ++ u)) bs after following ds s w.3 live (subst (λ z. Types (inside c (b ∷ bs)) rest (option_to_list t ++ z) after) g ty.4) l n in
    let arm = write a' (placed end End ∷ f.front) in
    let behind = write s.nodes f.rest in
    let one : write a' (placed end End ∷ write rest following) ≡ arm ++ behind = ap (λ z. write a' (placed end End ∷ z)) f.splits ∙ write_append a' (placed end End ∷ f.front) behind in
    record {
      front = placed at (OpensIf t) ∷ write a (else_out ea arm);
      rest = f.rest;
      inner = f.inner;
      outer = f.outer;
      splits = ap (λ z. placed at (OpensIf t) ∷ z) (ap (λ z. write a (else_out ea z)) one ∙ ap (write a) (else_append ea arm behind) ∙ write_append a (else_out ea arm) behind);
      leads = (
        opened Then t [] ∷ o ∷ bs,
        (u, e, refl),
        tree_steps c a (opened Then t []) (o ∷ bs) (option_to_list t) (else_out ea arm) (f.inner ∷ f.outer) w.0 ty.0
            (else_steps c t ea a' end o bs after f.front (f.inner ∷ f.outer) w.1 ty.1
            (λ types k. tree_steps c a' (opened kinds.Plain t []) (o ∷ bs) (option_to_list t) (placed end End ∷ f.front) (f.inner ∷ f.outer) w.2 ty.1 k) f.leads),
      );
      here = f.here;
      outside = f.outside;
      live = subst AllLive (sym ((dead_pass a false (false ∷ ds) (else_out ea arm)).1 ∙ dead_else ea a' end (dead_pass a false (false ∷ ds) (else_out ea arm)).0 (false ∷ ds) f.front)) f.live;
    }

-- ---- from the flat code to the tree

abbrev pub rest_of : List Placed → List Placed
rest_of [] = []
rest_of (p ∷ ps) = ps

abbrev pub head_or : Placed → List Placed → Placed
head_or p [] = p
head_or p (q ∷ ps) = q

-- an item behind a first part stands in the one list or in the other
abbrev Parted : List Placed → List Placed → List Placed → Placed → List Placed → Type 0
Parted xs ys fs p rs =
    ((ks : List Placed) × (xs ≡ fs ++ p ∷ ks)) ⊎ ((ks : List Placed) × (fs ≡ xs ++ ks) × (ys ≡ ks ++ p ∷ rs))

parted : (xs ys fs : List Placed) (p : Placed) (rs : List Placed) → xs ++ ys ≡ fs ++ p ∷ rs → Parted xs ys fs p rs
parted [] ys fs p rs e = inr (fs, refl, e)
parted (x ∷ xs) ys [] p rs e = inl (xs, ap (λ z. z ∷ xs) (ap (head_or x) e))
parted (x ∷ xs) ys (q ∷ fs) p rs e = longer (ap (head_or x) e) (parted xs ys fs p rs (ap rest_of e))
  where
    longer : x ≡ q → Parted xs ys fs p rs → Parted (x ∷ xs) ys (q ∷ fs) p rs
    longer h (inl k) = inl (k.0, ap₂ (λ a l. a ∷ l) h k.1)
    longer h (inr k) = inr (k.0, ap₂ (λ a l. a ∷ l) (sym h) k.1, k.2)

abbrev pub out : Nodes → List Placed
out ns = write ns []

out_front : (ns : Nodes) (xs : List Placed) → write ns xs ≡ out ns ++ xs
out_front ns xs = write_append ns [] xs

-- a marker is no node's item
no_marker : {A : Type 0} (m p : Placed) → m ≡ p → (BeginsNode m.code → ⊥) → BeginsNode p.code → A
no_marker m p e non n = absurd (non (subst (λ z. BeginsNode z.code) (sym e) n))

-- an item of nodes and of what follows their marker stands in the nodes or behind the marker
abbrev pub Stands : Nodes → Placed → List Placed → List Placed → Placed → List Placed → Type 0
Stands ns m xs fs p rs =
    ((ks : List Placed) × (out ns ≡ fs ++ p ∷ ks)) ⊎ ((ks : List Placed) × (fs ≡ out ns ++ m ∷ ks) × (xs ≡ ks ++ p ∷ rs))

pub stands : (ns : Nodes) (m : Placed) (xs fs : List Placed) (p : Placed) (rs : List Placed) → write ns (m ∷ xs) ≡ fs ++ p ∷ rs → (BeginsNode m.code → ⊥) → BeginsNode p.code → Stands ns m xs fs p rs
stands ns m xs fs p rs e non n = by_part (parted (out ns) (m ∷ xs) fs p rs (sym (out_front ns (m ∷ xs)) ∙ e))
  where
    by_part : Parted (out ns) (m ∷ xs) fs p rs → Stands ns m xs fs p rs
    by_part (inl k) = inl k
    by_part (inr ([], f, y)) = no_marker m p (ap (head_or p) y) non n
    by_part (inr (k ∷ ks, f, y)) = inr (ks, f ∙ ap (λ z. out ns ++ z ∷ ks) (sym (ap (head_or k) y)), ap rest_of y)

-- the flags at an item of nodes: those of blocks that the nodes opened, of their own sequence, and those outside as they were
pub record Kept (d : Bool) (ds flags : List Bool) : Type 0 where
  pub deeper : List Bool
  pub own : Bool
  pub are : flags ≡ deeper ++ own ∷ ds
  pub dead : d ≡ true → own ≡ true

kept_from : (d : Bool) (ds flags flags' : List Bool) → flags ≡ flags' → Kept d ds flags' → Kept d ds flags
kept_from d ds flags flags' e k = record { deeper = k.deeper; own = k.own; are = e ∙ k.are; dead = k.dead }

-- one block further out
kept_out : (d e : Bool) (ds flags : List Bool) → Kept e (d ∷ ds) flags → Kept d ds flags
kept_out d e ds flags k = record { deeper = k.deeper ++ k.own ∷ []; own = d; are = k.are ∙ sym (append_assoc k.deeper (k.own ∷ []) (d ∷ ds)); dead = λ t. t }

still_dead : (j : Jump) (d : Bool) → d ≡ true → dead_behind_jump d j ≡ true
still_dead Unreachable d e = refl
still_dead (Br n) d e = refl
still_dead (BrIf n) d e = e
still_dead (BrTable targets default) d e = refl
still_dead Return d e = refl
still_dead (Call f) d e = e
still_dead (CallIndirect t) d e = e

first_flags : (d : Bool) (ds : List Bool) → Kept d ds (d ∷ ds)
first_flags d ds = record { deeper = []; own = d; are = refl; dead = λ t. t }

-- behind a first item
next_flags : (ds : List Bool) (x q : Placed) (fs : List Placed) → x ≡ q → dead_behind ds (q ∷ fs) ≡ dead_behind ds (x ∷ fs)
next_flags ds x q fs e = ap (λ z. dead_behind ds (z ∷ fs)) (sym e)

-- past nodes and the marker behind them
passed_flags : (ns : Nodes) (d : Bool) (ds : List Bool) (m : Placed) (fs ks : List Placed) → fs ≡ out ns ++ m ∷ ks → (e : Bool) × (dead_behind (d ∷ ds) fs ≡ dead_behind (e ∷ ds) (m ∷ ks))
passed_flags ns d ds m fs ks e =
    let p = dead_pass ns d ds (m ∷ ks) in
    (p.0, ap (dead_behind (d ∷ ds)) (e ∙ sym (out_front ns (m ∷ ks))) ∙ p.1)

flags_kept : (ns : Nodes) (d : Bool) (ds : List Bool) (fs : List Placed) (p : Placed) (rs : List Placed) → IsTree ns → out ns ≡ fs ++ p ∷ rs → BeginsNode p.code → Kept d ds (dead_behind (d ∷ ds) fs)
flags_kept stop d ds [] p rs w e n = absurd (cc)
flags_kept stop d ds (q ∷ fs) p rs w e n = absurd (cc)
flags_kept (basic at i rest) d ds [] p rs w e n = first_flags d ds
flags_kept (basic at i rest) d ds (q ∷ fs) p rs w e n =
    kept_from d ds _ _ (next_flags (d ∷ ds) (placed at (Plain i)) q fs (ap (head_or q) e)) (flags_kept rest d ds fs p rs w (ap rest_of e) n)
flags_kept (jump at j rest) d ds [] p rs w e n = first_flags d ds
flags_kept (jump at j rest) d ds (q ∷ fs) p rs w e n =
    let k = flags_kept rest (dead_behind_jump d j) ds fs p rs w (ap rest_of e) n in
    record { deeper = k.deeper; own = k.own; are = next_flags (d ∷ ds) (placed at (Goes j)) q fs (ap (head_or q) e) ∙ k.are; dead = λ t. k.dead (still_dead j d t) }
flags_kept (block at t body end rest) d ds [] p rs w e n = first_flags d ds
flags_kept (block at t body end rest) d ds (q ∷ fs) p rs w e n =
    kept_from d ds _ _ (next_flags (d ∷ ds) (placed at (Opens t)) q fs (ap (head_or q) e))
    (⊎_elim
    (λ k. kept_out d false ds _ (flags_kept body false (d ∷ ds) fs p k.0 w.0 k.1 n))
    (λ k. kept_from d ds _ _ ((passed_flags body false (d ∷ ds) (placed end End) fs k.0 k.1).1) (flags_kept rest d ds k.0 p rs w.1 k.2 n))
    (stands body (placed end End) (out rest) fs p rs (ap rest_of e) (λ z. z) n))
flags_kept (loop at t body end rest) d ds [] p rs w e n = first_flags d ds
flags_kept (loop at t body end rest) d ds (q ∷ fs) p rs w e n =
    kept_from d ds _ _ (next_flags (d ∷ ds) (placed at (OpensLoop t)) q fs (ap (head_or q) e))
    (⊎_elim
    (λ k. kept_out d false ds _ (flags_kept body false (d ∷ ds) fs p k.0 w.0 k.1 n))
    (λ k. kept_from d ds _ _ ((passed_flags body false (d ∷ ds) (placed end End) fs k.0 k.1).1) (flags_kept rest d ds k.0 p rs w.1 k.2 n))
    (stands body (placed end End) (out rest) fs p rs (ap rest_of e) (λ z. z) n))
flags_kept (choose at t a ea b end rest) d ds [] p rs w e n = first_flags d ds
flags_kept (choose at t a None b end rest) d ds (q ∷ fs) p rs w e n =
    let e' : write a (placed end End ∷ out rest) ≡ fs ++ p ∷ rs = subst (λ z. write a (write z (placed end End ∷ out rest)) ≡ fs ++ p ∷ rs) w.1 (ap rest_of e) in
    kept_from d ds _ _ (next_flags (d ∷ ds) (placed at (OpensIf t)) q fs (ap (head_or q) e))
    (⊎_elim
    (λ k. kept_out d false ds _ (flags_kept a false (d ∷ ds) fs p k.0 w.0 k.1 n))
    (λ k. kept_from d ds _ _ ((passed_flags a false (d ∷ ds) (placed end End) fs k.0 k.1).1) (flags_kept rest d ds k.0 p rs w.3 k.2 n))
    (stands a (placed end End) (out rest) fs p rs e' (λ z. z) n))
flags_kept (choose at t a (Some m) b end rest) d ds (q ∷ fs) p rs w e n =
    kept_from d ds _ _ (next_flags (d ∷ ds) (placed at (OpensIf t)) q fs (ap (head_or q) e))
    (⊎_elim
    (λ k. kept_out d false ds _ (flags_kept a false (d ∷ ds) fs p k.0 w.0 k.1 n))
    (λ k. kept_from d ds _ _ ((passed_flags a false (d ∷ ds) (placed m Else) fs k.0 k.1).1)
    (⊎_elim
    (λ l. kept_out d false ds _ (flags_kept b false (d ∷ ds) k.0 p l.0 w.2 l.1 n))
    (λ l. kept_from d ds _ _ ((passed_flags b false (d ∷ ds) (placed end End) k.0 l.0 l.1).1) (flags_kept rest d ds l.0 p rs w.3 l.2 n))
    (stands b (placed end End) (out rest) k.0 p rs k.2 (λ z. z) n)))
    (stands a (placed m Else) (write b (placed end End ∷ out rest)) fs p rs (ap rest_of e) (λ z. z) n))

all_live_in : (fs : List Bool) (d : Bool) (ds : List Bool) → AllLive (fs ++ d ∷ ds) → d ≡ false
all_live_in [] d ds h = h.0
all_live_in (f ∷ fs) d ds h = all_live_in fs d ds h.1

-- no live item stands behind an unconditional transfer
not_dead : (ns : Nodes) (ds : List Bool) (fs : List Placed) (p : Placed) (rs : List Placed) → IsTree ns → out ns ≡ fs ++ p ∷ rs → BeginsNode p.code → AllLive (dead_behind (true ∷ ds) fs) → ⊥
not_dead ns ds fs p rs w e n h =
    let k = flags_kept ns true ds fs p rs w e n in
    let live : k.own ≡ false = all_live_in k.deeper k.own ds (subst AllLive k.are h) in
    let both : false ≡ true = sym live ∙ k.dead refl in cc

goes_or_not : (j : Jump) → goes_on j ⊎ (dead_behind_jump false j ≡ true)
goes_or_not Unreachable = inr refl
goes_or_not (Br n) = inr refl
goes_or_not (BrIf n) = inl tt
goes_or_not (BrTable targets default) = inr refl
goes_or_not Return = inr refl
goes_or_not (Call f) = inl tt
goes_or_not (CallIndirect t) = inl tt

-- a live spot of the nodes at an offset
pub record Spotted (c : Context) (ns : Nodes) (b : OpenBlock) (bs : List OpenBlock) (at : ℕ) : Type 0 where
  pub found : Spot
  pub live : Live (inside c (b ∷ bs)) ns b.types (all_types bs) found
  pub node : IsNode found.nodes
  pub offset : offset_in found.nodes 0 ≡ at

live_next : (ds : List Bool) (x q : Placed) (fs : List Placed) → x ≡ q → AllLive (dead_behind ds (q ∷ fs)) → AllLive (dead_behind ds (x ∷ fs))
live_next ds x q fs e h = subst AllLive (next_flags ds x q fs e) h

pub spotted : (c : Context) (ns : Nodes) (b : OpenBlock) (bs : List OpenBlock) (after : List ValType) (ds : List Bool) (fs : List Placed) (p : Placed) (rs : List Placed) → IsTree ns → Types (inside c (b ∷ bs)) ns b.types after → out ns ≡ fs ++ p ∷ rs → BeginsNode p.code → AllLive (dead_behind (false ∷ ds) fs) → Spotted c ns b bs p.at
spotted c stop b bs after ds [] p rs w ty e n h = absurd (cc)
spotted c stop b bs after ds (q ∷ fs) p rs w ty e n h = absurd (cc)
spotted c (basic at i rest) b bs after ds [] p rs w ty e n h = record { found = spot (basic at i rest) b.types (all_types bs); live = inl refl; node = tt; offset = ap (λ z. z.at) (ap (head_or p) e) }
spotted c (basic at i rest) b bs after ds (q ∷ fs) p rs w ty e n h =
    let s = spotted c rest (opened b.kind b.result ty.0) bs after ds fs p rs w ty.2 (ap rest_of e) n (live_next (false ∷ ds) (placed at (Plain i)) q fs (ap (head_or q) e) h) in
    record { found = s.found; live = inr (ty.0, ty.1, s.live); node = s.node; offset = s.offset }
spotted c (jump at j rest) b bs after ds [] p rs w ty e n h = record { found = spot (jump at j rest) b.types (all_types bs); live = inl refl; node = tt; offset = ap (λ z. z.at) (ap (head_or p) e) }
spotted c (jump at j rest) b bs after ds (q ∷ fs) p rs w ty e n h =
    let k : AllLive (dead_behind (dead_behind_jump false j ∷ ds) fs) = live_next (false ∷ ds) (placed at (Goes j)) q fs (ap (head_or q) e) h in
    ⊎_elim
    (λ g. let s = spotted c rest (opened b.kind b.result ty.0) bs after ds fs p rs w ty.2 (ap rest_of e) n (subst (λ z. AllLive (dead_behind (z ∷ ds) fs)) (stays j false g) k) in
    record { found = s.found; live = inr (ty.0, g, ty.1, s.live); node = s.node; offset = s.offset })
    (λ d. absurd (not_dead rest ds fs p rs w (ap rest_of e) n (subst (λ z. AllLive (dead_behind (z ∷ ds) fs)) d k)))
    (goes_or_not j)
spotted c (block at t body end rest) b bs after ds [] p rs w ty e n h = record { found = spot (block at t body end rest) b.types (all_types bs); live = inl refl; node = tt; offset = ap (λ z. z.at) (ap (head_or p) e) }
spotted c (block at t body end rest) b bs after ds (q ∷ fs) p rs w ty e n h =
    let g : AllLive (dead_behind (false ∷ false ∷ ds) fs) = live_next (false ∷ ds) (placed at (Opens t)) q fs (ap (head_or q) e) h in
    ⊎_elim
    (λ k. let s = spotted c body (opened kinds.Plain t []) (b ∷ bs) (option_to_list t) (false ∷ ds) fs p k.0 w.0 ty.0 k.1 n g in
    record { found = s.found; live = inr (inl s.live); node = s.node; offset = s.offset })
    (λ k. let s = spotted c rest (opened b.kind b.result (option_to_list t ++ b.types)) bs after ds k.0 p rs w.1 ty.1 k.2 n (subst AllLive ((passed_flags body false (false ∷ ds) (placed end End) fs k.0 k.1).1) g) in
    record { found = s.found; live = inr (inr s.live); node = s.node; offset = s.offset })
    (stands body (placed end End) (out rest) fs p rs (ap rest_of e) (λ z. z) n)
spotted c (loop at t body end rest) b bs after ds [] p rs w ty e n h = record { found = spot (loop at t body end rest) b.types (all_types bs); live = inl refl; node = tt; offset = ap (λ z. z.at) (ap (head_or p) e) }
spotted c (loop at t body end rest) b bs after ds (q ∷ fs) p rs w ty e n h =
    let g : AllLive (dead_behind (false ∷ false ∷ ds) fs) = live_next (false ∷ ds) (placed at (OpensLoop t)) q fs (ap (head_or q) e) h in
    ⊎_elim
    (λ k. let s = spotted c body (opened Loop t []) (b ∷ bs) (option_to_list t) (false ∷ ds) fs p k.0 w.0 ty.0 k.1 n g in
    record { found = s.found; live = inr (inl s.live); node = s.node; offset = s.offset })
    (λ k. let s = spotted c rest (opened b.kind b.result (option_to_list t ++ b.types)) bs after ds k.0 p rs w.1 ty.1 k.2 n (subst AllLive ((passed_flags body false (false ∷ ds) (placed end End) fs k.0 k.1).1) g) in
    record { found = s.found; live = inr (inr s.live); node = s.node; offset = s.offset })
    (stands body (placed end End) (out rest) fs p rs (ap rest_of e) (λ z. z) n)
spotted c (choose at t a ea a' end rest) b bs after ds [] p rs w ty e n h = record { found = spot (choose at t a ea a' end rest) b.types (all_types bs); live = inl refl; node = tt; offset = ap (λ z. z.at) (ap (head_or p) e) }
spotted c (choose at t a None a' end rest) b bs after ds (q ∷ fs) p rs w ty e n h =
    let e' : write a (placed end End ∷ out rest) ≡ fs ++ p ∷ rs = subst (λ z. write a (write z (placed end End ∷ out rest)) ≡ fs ++ p ∷ rs) w.1 (ap rest_of e) in
    let g : AllLive (dead_behind (false ∷ false ∷ ds) fs) = live_next (false ∷ ds) (placed at (OpensIf t)) q fs (ap (head_or q) e) h in
    ⊎_elim
    (λ k. let s = spotted c a (opened Then t []) (opened b.kind b.result ty.2 ∷ bs) (option_to_list t) (false ∷ ds) fs p k.0 w.0 ty.0 k.1 n g in
    record { found = s.found; live = inr (ty.2, ty.3, inl s.live); node = s.node; offset = s.offset })
    (λ k. let s = spotted c rest (opened b.kind b.result (option_to_list t ++ ty.2)) bs after ds k.0 p rs w.3 ty.4 k.2 n (subst AllLive ((passed_flags a false (false ∷ ds) (placed end End) fs k.0 k.1).1) g) in
    record { found = s.found; live = inr (ty.2, ty.3, inr (inr s.live)); node = s.node; offset = s.offset })
    (stands a (placed end End) (out rest) fs p rs e' (λ z. z) n)
spotted c (choose at t a (Some m) a' end rest) b bs after ds (q ∷ fs) p rs w ty e n h =
    let g : AllLive (dead_behind (false ∷ false ∷ ds) fs) = live_next (false ∷ ds) (placed at (OpensIf t)) q fs (ap (head_or q) e) h in
    ⊎_elim
    (λ k. let s = spotted c a (opened Then t []) (opened b.kind b.result ty.2 ∷ bs) (option_to_list t) (false ∷ ds) fs p k.0 w.0 ty.0 k.1 n g in
    record { found = s.found; live = inr (ty.2, ty.3, inl s.live); node = s.node; offset = s.offset })
    (λ k. let g' : AllLive (dead_behind (false ∷ false ∷ ds) k.0) = subst AllLive ((passed_flags a false (false ∷ ds) (placed m Else) fs k.0 k.1).1) g in
    ⊎_elim
    (λ l. let s = spotted c a' (opened kinds.Plain t []) (opened b.kind b.result ty.2 ∷ bs) (option_to_list t) (false ∷ ds) k.0 p l.0 w.2 ty.1 l.1 n g' in
    record { found = s.found; live = inr (ty.2, ty.3, inr (inl s.live)); node = s.node; offset = s.offset })
    (λ l. let s = spotted c rest (opened b.kind b.result (option_to_list t ++ ty.2)) bs after ds l.0 p rs w.3 ty.4 l.2 n (subst AllLive ((passed_flags a' false (false ∷ ds) (placed end End) k.0 l.0 l.1).1) g') in
    record { found = s.found; live = inr (ty.2, ty.3, inr (inr s.live)); node = s.node; offset = s.offset })
    (stands a' (placed end End) (out rest) k.0 p rs k.2 (λ z. z) n))
    (stands a (placed m Else) (write a' (placed end End ∷ out rest)) fs p rs (ap rest_of e) (λ z. z) n)
