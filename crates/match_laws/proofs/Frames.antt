-- The frames of an image are those that the tests ask for.
use Rattle.std.proofs.Common.{◌≡◌, ℕ, zero, suc, ◌+◌, ◌-◌, ◌≤◌, Bool, true, false, nat_lt, List, [], ◌∷◌, ◌++◌, map, length, drop, reverse, slice_get, if◌then◌else◌, Option, Some, None, option_map, refl, sym, ap, subst, ◌∙◌, arith, ltb-false, inl}
use Rattle.std.proofs.lemmas.List.{length-map}
use Rattle.wasm_syntax.specs.declared.value.ValType.{ValType}
use Rattle.wasm_syntax.specs.declared.value.Value.{Value}
use Rattle.wasm_syntax.specs.declared.value.Value.TheVariants as values
use Rattle.wasm_syntax.specs.declared.value.Seen.{Seen}
use Rattle.wasm_syntax.specs.declared.parts.FuncType.{FuncType}
use Rattle.wasm_syntax.specs.declared.parts.Body.{Body}
use Rattle.wasm_syntax.specs.declared.module.ModuleParts.{ModuleParts as Module}
use Rattle.wasm_syntax.specs.Numbers.{types, seen_of}
use Rattle.wasm_syntax.specs.Tree.{Tree, Writes, Call, CallIndirect, Item, Goes, Nodes, stop, basic, jump, block, loop, choose}
use Rattle.wasm_syntax.specs.Module.{Program, IsProgram, Function, imported, defined, function_at, imported_at, defined_at, function_types, type_at, option_then, declared_locals}
use Rattle.wasm_syntax.specs.Machine.{Label, Frame, joined, operands, offset_in, offset_of}
use Rattle.wasm_syntax.specs.Typing.{Context}
use Rattle.wasm_syntax.specs.Static.{Spot, spot, Live, IsNode}
use Rattle.wasm_syntax.specs.Valid.{defined_index}
use Rattle.wasm_laws.proofs.Progress.{types_append, types_reverse}
use Rattle.wasm_laws.proofs.Safe.{FrameFine, context_of}
use Rattle.dump_format.specs.declared.dump.Frame.{Frame as ShownFrame}
use Rattle.dump_write.specs.Image.{frame_image}
use Rattle.dump_write.specs.ImageBytes.{frame_of}
use Rattle.dump_write.specs.Canonical.{in_instance}
use Rattle.dump_match.specs.Values.{have_types, can_be}
use Rattle.dump_match.specs.Frames.{instruction, is_call, taken, can_call, IsOf, StandsAt, FunctionFits, LocalsFit}
use Rattle.match_laws.proofs.Placed.{outs, OpenAt, CalledAt, live_in, CallersAt, FramesAt, FirstIsNode, AtNode}
use Rattle.pm_text.proofs.Lists.{some_is, get_behind}
use Rattle.wasm_syntax.proofs.Bodies.{tree_there}
use Rattle.wasm_syntax.proofs.Types.{then_found, map_found}

-- ---- a function that the module defines

pub record Defined (p : Program) (g : ℕ) (body : Body) (tree : Tree) (type : FuncType) : Type 0 where
  pub type_is : type_at p.module_ g ≡ Some type
  pub body_is : option_then (defined_index p.module_ g) (slice_get p.module_.bodies) ≡ Some body
  pub writes : Writes body.targets body.ops tree

module _ (p : Program) (is_program : IsProgram p) where
  abbrev m : Module
  m = p.module_

  abbrev at_or : Bool → ℕ → Option Function
  at_or b g = if b then imported_at m g else defined_at p (g - length m.imports)

  pub defined_is : (g : ℕ) (body : Body) (tree : Tree) (type : FuncType) → function_at p g ≡ Some (defined body tree type) → Defined p g body tree type
  defined_is g body tree type e = by_test (nat_lt g (length m.imports)) refl e
    where
      by_test : (b : Bool) → nat_lt g (length m.imports) ≡ b → at_or b g ≡ Some (defined body tree type) → Defined p g body tree type
      by_test true q h =
          let i = then_found (slice_get m.imports g) (λ i. option_map (imported i) (slice_get m.types i.ftype)) (defined body tree type) h in
          let t = map_found (slice_get m.types i.0.ftype) (imported i.0) (defined body tree type) i.2 in
          absurd (let z : imported i.0 t.0 ≡ defined body tree type = t.2 in cc)
      by_test false q h =
          let i = g - length m.imports in
          let le : length m.imports ≤ g = ltb-false g (length m.imports) q in
          let a = then_found (slice_get m.functions i) (λ t. option_then (slice_get m.types t) (λ type. option_then (slice_get m.bodies i) (λ body. option_map (λ tree. defined body tree type) (slice_get p.trees i)))) (defined body tree type) h in
          let b = then_found (slice_get m.types a.0) (λ type. option_then (slice_get m.bodies i) (λ body. option_map (λ tree. defined body tree type) (slice_get p.trees i))) (defined body tree type) a.2 in
          let c = then_found (slice_get m.bodies i) (λ body. option_map (λ tree. defined body tree b.0) (slice_get p.trees i)) (defined body tree type) b.2 in
          let d = map_found (slice_get p.trees i) (λ tree. defined c.0 tree b.0) (defined body tree type) c.2 in
          let same : defined c.0 d.0 b.0 ≡ defined body tree type = d.2 in
          let body_ : c.0 ≡ body = cc in
          let tree_ : d.0 ≡ tree = cc in
          let type_ : b.0 ≡ type = cc in
          let n : g ≡ length (map (λ i. i.ftype) m.imports) + i = omega (arith, le, length-map m.imports (λ i. i.ftype)) in
          let ft : slice_get (function_types m) g ≡ Some a.0 = ap (slice_get (function_types m)) n ∙ get_behind (map (λ i. i.ftype) m.imports) m.functions i ∙ a.1 in
          record {
            type_is = ap (λ o. option_then o (λ t. slice_get m.types t)) ft ∙ b.1 ∙ ap Some type_;
            body_is = ap (λ (b : Bool). option_then (if b then None else Some i) (slice_get m.bodies)) q ∙ c.1 ∙ ap Some body_;
            writes = subst (λ b. Writes b.targets b.ops tree) body_ (subst (Writes c.0.targets c.0.ops) tree_ (tree_there m.bodies p.trees i c.0 d.0 is_program c.1 d.1));
          }

-- ---- values that are all recorded

seen_types : (vs : List Value) → have_types (types vs) (map seen_of vs) ≡ true
seen_types [] = refl
seen_types (values.I32 n ∷ vs) = seen_types vs
seen_types (values.I64 n ∷ vs) = seen_types vs

can_have : (ts : List ValType) (vs : List Seen) → have_types ts vs ≡ true → can_be ts vs ≡ true
can_have ts [] h = refl
can_have ts (v ∷ vs) h = h

pub seen_fits : (ts : List ValType) (vs : List Value) → types vs ≡ ts → can_be ts (map seen_of vs) ≡ true
seen_fits ts vs e = can_have ts (map seen_of vs) (subst (λ z. have_types z (map seen_of vs) ≡ true) e (seen_types vs))

types_joined : (ls : List Label) → types (joined ls) ≡ outs ls
types_joined [] = refl
types_joined (l ∷ ls) = types_append l.operands (joined ls) ∙ ap (λ z. types l.operands ++ z) (types_joined ls)

shown_types : (ls : List Label) → types (reverse (joined ls)) ≡ reverse (outs ls)
shown_types ls = types_reverse (joined ls) ∙ ap reverse (types_joined ls)

pub drop_front : (xs ys zs : List ValType) → drop (length xs) ((xs ++ ys) ++ zs) ≡ ys ++ zs
drop_front [] ys zs = refl
drop_front (x ∷ xs) ys zs = drop_front xs ys zs

node_offset : (ns : Nodes) (end : ℕ) → IsNode ns → offset_in ns 0 ≡ offset_in ns end
node_offset stop end n = absurd n
node_offset (basic at i rest) end n = refl
node_offset (jump at j rest) end n = refl
node_offset (block at t body e rest) end n = refl
node_offset (loop at t body e rest) end n = refl
node_offset (choose at t a ea b e rest) end n = refl

-- ---- frames

-- what a dump shows of a frame
abbrev pub shown_frame : ℕ → Frame → ShownFrame
shown_frame o f = in_instance (frame_of (frame_image o f))

pub map_stands : (m : Module) (f : ShownFrame) (P Q : Spot → Type 0) → ((s : Spot) → P s → Q s) → StandsAt m f P → StandsAt m f Q
map_stands m f P Q h x = (x.0, x.1, x.2, (x.3.0, x.3.1, h x.3.0 x.3.2))

module _ (p : Program) (is_program : IsProgram p) where
  module _ (f : Frame) (k : FrameFine p f.function f.result f.locals) (o : ℕ) where
    known : Defined p f.function k.body k.tree k.type
    known = defined_is p is_program f.function k.body k.tree k.type k.function_is

    is_of : IsOf p.module_ (shown_frame o f) k.type k.body
    is_of = record { type_is = known.type_is; body_is = known.body_is }

    pub function_fits : FunctionFits p.module_ (shown_frame o f)
    function_fits = (k.type, k.body, is_of, tt)

    pub locals_fit : LocalsFit p.module_ (shown_frame o f)
    locals_fit = (k.type, k.body, is_of, seen_fits (k.type.params ++ declared_locals k.body.groups) f.locals k.locals_are)

    pub stands : (P : Spot → Type 0) (s : Spot) → live_in p f.function f.result f.locals k s → IsNode s.nodes → offset_in s.nodes 0 ≡ o → P s → StandsAt p.module_ (shown_frame o f) P
    stands P s live n e h = (k.type, k.body, is_of, (s, record { tree = k.tree; writes = known.writes; live = live; node = n; at = e }, h))

  -- the innermost frame
  pub record InnerFits (x : ShownFrame) : Type 0 where
    pub function : FunctionFits p.module_ x
    pub locals : LocalsFit p.module_ x
    pub spot_ : StandsAt p.module_ x (λ s. can_be (reverse (s.here ++ s.outside)) x.operands ≡ true)

  live_here : (c : Context) (ns : Nodes) (here outside : List ValType) → Live c ns here outside (spot ns here outside)
  live_here c stop here outside = refl
  live_here c (basic at i rest) here outside = inl refl
  live_here c (jump at j rest) here outside = inl refl
  live_here c (block at t body e rest) here outside = inl refl
  live_here c (loop at t body e rest) here outside = inl refl
  live_here c (choose at t a ea b e rest) here outside = inl refl

  by_labels : (f : Frame) (k : FrameFine p f.function f.result f.locals) (ls : List Label) → f.labels ≡ ls → OpenAt (context_of p f.function f.result f.locals k) (live_in p f.function f.result f.locals k) [] ls → FirstIsNode ls → InnerFits (shown_frame (offset_of ls) f)
  by_labels f k [] e h n = absurd n
  by_labels f k (l ∷ ls) e h n =
      let s = spot l.nodes (types l.operands) (outs ls) in
      let shown : types (reverse (operands f)) ≡ reverse (types l.operands ++ outs ls) = ap (λ z. types (reverse (joined z))) e ∙ shown_types (l ∷ ls) in
      record {
        function = function_fits f k (offset_of (l ∷ ls));
        locals = locals_fit f k (offset_of (l ∷ ls));
        spot_ = stands f k (offset_of (l ∷ ls)) (λ s. can_be (reverse (s.here ++ s.outside)) (map seen_of (reverse (operands f))) ≡ true) s (h.0.1 s (live_here _ l.nodes (types l.operands) (outs ls))) n (node_offset l.nodes l.end n) (seen_fits (reverse (types l.operands ++ outs ls)) (reverse (operands f)) shown);
      }

  pub inner_fits : (f : Frame) (fs : List Frame) → FramesAt p (f ∷ fs) → AtNode (f ∷ fs) → InnerFits (shown_frame (offset_of f.labels) f)
  inner_fits f fs h n = by_labels f h.0 f.labels refl h.1 n

  -- a frame under one of a function
  pub record CallerFits (g : ℕ) (x : ShownFrame) : Type 0 where
    pub function : FunctionFits p.module_ x
    pub locals : LocalsFit p.module_ x
    pub spot_ : StandsAt p.module_ x (λ s. (is_call (instruction s.nodes) ≡ true) × (can_call p.module_ (instruction s.nodes) g ≡ true) × (can_be (reverse (drop (taken p.module_ (instruction s.nodes)) (s.here ++ s.outside))) x.operands ≡ true))

  call_is : (i : Item) (g : ℕ) → can_call p.module_ i g ≡ true → is_call i ≡ true
  call_is (Goes (Call n)) g e = refl
  call_is (Goes (CallIndirect t)) g e = refl
  call_is i g e = absurd (cc)

  caller_of : (f : Frame) (g : ℕ) (k : FrameFine p f.function f.result f.locals) (ls : List Label) → f.labels ≡ ls → CalledAt p.module_ (live_in p f.function f.result f.locals k) f.call g ls → CallerFits g (shown_frame f.call f)
  caller_of f g k [] e h = absurd h
  caller_of f g k (l ∷ ls) e h =
      let j = h.call in
      let s = spot (jump f.call j l.nodes) (h.takes ++ types l.operands) (outs ls) in
      let shown : types (reverse (operands f)) ≡ reverse (types l.operands ++ outs ls) = ap (λ z. types (reverse (joined z))) e ∙ shown_types (l ∷ ls) in
      let left : drop (taken p.module_ (Goes j)) ((h.takes ++ types l.operands) ++ outs ls) ≡ types l.operands ++ outs ls = ap (λ n. drop n ((h.takes ++ types l.operands) ++ outs ls)) h.count ∙ drop_front h.takes (types l.operands) (outs ls) in
      record {
        function = function_fits f k f.call;
        locals = locals_fit f k f.call;
        spot_ = stands f k f.call (λ s. (is_call (instruction s.nodes) ≡ true) × (can_call p.module_ (instruction s.nodes) g ≡ true) × (can_be (reverse (drop (taken p.module_ (instruction s.nodes)) (s.here ++ s.outside))) (map seen_of (reverse (operands f))) ≡ true))
            s h.there tt refl (call_is (Goes j) g h.calls, h.calls, seen_fits (reverse (drop (taken p.module_ (Goes j)) ((h.takes ++ types l.operands) ++ outs ls))) (reverse (operands f)) (shown ∙ ap reverse (sym left)));
      }

  abbrev pub AllCallers : ℕ → List ShownFrame → Type 0
  AllCallers g [] = Unit {0}
  AllCallers g (x ∷ xs) = CallerFits g x × AllCallers x.function xs

  -- what a dump shows of the frames under the innermost one
  abbrev pub shown_callers : List Frame → List ShownFrame
  shown_callers fs = map in_instance (map frame_of (map (λ g. frame_image g.call g) fs))

  pub callers_fit : (fs : List Frame) (g : ℕ) (r : Option ValType) → CallersAt p g r fs → AllCallers g (shown_callers fs)
  callers_fit [] g r h = tt
  callers_fit (f ∷ fs) g r h = (caller_of f g h.0 f.labels refl h.2, callers_fit fs f.function f.result h.3)

  -- a frame that is not the innermost one, with the frame before it
  pub caller_at : (x0 : ShownFrame) (xs : List ShownFrame) (i : ℕ) (x : ShownFrame) → AllCallers x0.function xs → slice_get xs i ≡ Some x → (inner : ShownFrame) × (slice_get (x0 ∷ xs) i ≡ Some inner) × CallerFits inner.function x
  caller_at x0 [] i x h e = absurd (cc)
  caller_at x0 (y ∷ ys) zero x h e = (x0, refl, subst (CallerFits x0.function) (some_is e) h.0)
  caller_at x0 (y ∷ ys) (suc i) x h e = caller_at y ys i x h.1 e
