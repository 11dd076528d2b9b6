-- Where a frame stands, by the tree and by the flat code.
use Rattle.std.proofs.Common.{◌≡◌, ℕ, zero, suc, ◌-◌, ◌<◌, ◌≤◌, ◌^◌, Bool, false, List, [], ◌∷◌, ◌++◌, length, take, drop, reverse, slice_get, refl, sym, ap, ap₂, subst, ◌∙◌, arith}
use Rattle.std.proofs.lemmas.List.{length-reverse, reverse-reverse, length-take-le}
use Rattle.std.proofs.lemmas.Option.{slice_get_within}
use Rattle.std.specs.Prelude.{true, Option, Some, None, IfSome, option_to_list}
use Rattle.wasm_syntax.specs.declared.blocks.BlockKind.TheVariants as kinds
use Rattle.wasm_syntax.specs.declared.value.ValType.{ValType}
use Rattle.wasm_syntax.specs.declared.instruction.Instr.{Instr}
use Rattle.wasm_syntax.specs.declared.instruction.Instr.TheVariants as instr
use Rattle.wasm_syntax.specs.declared.instruction.Op.{Op}
use Rattle.wasm_syntax.specs.declared.parts.FuncType.{FuncType}
use Rattle.wasm_syntax.specs.declared.parts.Body.{Body}
use Rattle.wasm_syntax.specs.declared.place.Place.TheVariants.{TypeAt, Function}
use Rattle.wasm_syntax.specs.declared.module.ModuleParts.{ModuleParts as Module}
use Rattle.wasm_syntax.specs.Sizes.{ShortType, WithinLimits, parameter_count}
use Rattle.wasm_syntax.specs.Module.{IsModule, InOrder, Ascend, function_types, type_at}
use Rattle.wasm_syntax.specs.Tree.{Item, End, Nodes, stop, basic, jump, block, loop, choose, Placed, placed, write, code_of, item_of}
use Rattle.wasm_syntax.specs.Typing.{Context, Types, IsBody, body_context}
use Rattle.wasm_syntax.specs.FlatTyping.{OpenBlock, opened, inside, BeginsNode, TypesBefore}
use Rattle.wasm_syntax.specs.Machine.{offset_in}
use Rattle.wasm_syntax.specs.Static.{Spot, Live, IsNode, LiveAt, Static}
use Rattle.wasm_syntax.specs.Valid.{Valid, FuncTypeFine, BodyFine, There, defined_index, body_of}
use Rattle.wasm_laws.proofs.Lists.{there_at, at_of as in_list}
use Rattle.wasm_laws.proofs.Unique.{one_tree}
use Rattle.wasm_laws.proofs.Live.{one_static}
use Rattle.wasm_laws.proofs.FlatBodies.{Gives, inside_body}
use Rattle.wasm_laws.proofs.FlatStatic.{live_front}
use Rattle.wasm_laws.proofs.FlatOne.{to_tree, get_front_end}
use Rattle.validate_body.proofs.Through.{first_gives}
use Rattle.wasm_validate.specs.Heights.{HeightIs, TypesAt}
use Rattle.wasm_validate.specs.calls.Instructions.{is_node, OpIs}
use Rattle.wasm_validate.proofs.OperandLaws.{static_there}
use Rattle.dump_format.specs.declared.dump.Frame.{Frame}
use Rattle.dump_match.specs.declared.stand.Stand.{Stand}
use Rattle.dump_match.specs.Values.{can_be}
use Rattle.dump_match.specs.Frames.{IsOf, StandsAt, instruction, taken, shown, OperandCount, FunctionFits, OperandsFit}
use Rattle.wasm_validate.specs.calls.Deciding.{Decides}
use Rattle.dump_match.specs.inner.Stands.{CodeIs, Stands, count_shown}
use Rattle.dump_match.proofs.ValueLaws.{take_reverse, take_all}
use Rattle.wasm_validate.proofs.OffsetLaws.{least_at}
use Rattle.pm_text.proofs.Lists.{some_is}
use Rattle.wasm_syntax.proofs.Types.{then_found}

-- ---- one instruction at each offset

one_op : (least : ℕ) (ops : List Op) (j k : ℕ) (a b : Op) → Ascend least ops → slice_get ops j ≡ Some a → slice_get ops k ≡ Some b → a.at ≡ b.at → a ≡ b
one_op least [] j k a b h e f q = absurd (cc)
one_op least (o ∷ os) zero zero a b h e f q = some_is (sym e ∙ f)
one_op least (o ∷ os) zero (suc k) a b h e f q =
    let p : o.at ≡ a.at = ap (λ x. x.at) (some_is e) in let r = least_at (suc o.at) os k b h.1 f in absurd (omega (arith, p, q, r))
one_op least (o ∷ os) (suc j) zero a b h e f q =
    let p : o.at ≡ b.at = ap (λ x. x.at) (some_is f) in let r = least_at (suc o.at) os j a h.1 e in absurd (omega (arith, p, q, r))
one_op least (o ∷ os) (suc j) (suc k) a b h e f q = one_op (suc o.at) os j k a b h.1 e f q

-- ---- items

first_item : (ns : Nodes) (rest : List Placed) → IsNode ns → slice_get (write ns rest) zero ≡ Some (placed (offset_in ns 0) (instruction ns))
first_item stop rest n = absurd n
first_item (basic at i ns) rest n = refl
first_item (jump at j ns) rest n = refl
first_item (block at t body end ns) rest n = refl
first_item (loop at t body end ns) rest n = refl
first_item (choose at t a ea b end ns) rest n = refl

begins : (ns : Nodes) → IsNode ns → BeginsNode (instruction ns)
begins stop n = n
begins (basic at i ns) n = tt
begins (jump at j ns) n = tt
begins (block at t body end ns) n = tt
begins (loop at t body end ns) n = tt
begins (choose at t a ea b end ns) n = tt

node_of : (targets : List ℕ) (code : Instr) → BeginsNode (item_of targets code) → is_node code ≡ true
node_of targets (instr.Basic i) n = refl
node_of targets (instr.Jump j) n = refl
node_of targets (instr.Block t) n = refl
node_of targets (instr.Loop t) n = refl
node_of targets (instr.If t) n = refl
node_of targets instr.Else n = absurd n
node_of targets instr.End n = absurd n

item_node : (targets : List ℕ) (code : Instr) → is_node code ≡ true → BeginsNode (item_of targets code)
item_node targets (instr.Basic i) e = tt
item_node targets (instr.Jump j) e = tt
item_node targets (instr.Block t) e = tt
item_node targets (instr.Loop t) e = tt
item_node targets (instr.If t) e = tt
item_node targets instr.Else e = absurd (cc)
item_node targets instr.End e = absurd (cc)

-- an item of the flat code is that of an instruction
pub record OpThere (body : Body) (at : ℕ) (item : Item) : Type 0 where
  pub number : ℕ
  pub op : Op
  pub there : slice_get body.ops number ≡ Some op
  pub at_is : op.at ≡ at
  pub item_is : item_of body.targets op.code ≡ item

op_there : (targets : List ℕ) (ops : List Op) (n at : ℕ) (item : Item) → slice_get (code_of targets ops) n ≡ Some (placed at item) → (op : Op) × (slice_get ops n ≡ Some op) × (op.at ≡ at) × (item_of targets op.code ≡ item)
op_there targets [] n at item e = absurd (cc)
op_there targets (o ∷ ops) zero at item e = let q = some_is e in (o, refl, ap (λ x. x.at) q, ap (λ x. x.code) q)
op_there targets (o ∷ ops) (suc n) at item e = op_there targets ops n at item e

-- ---- in a body

module _ (m : Module) (type : FuncType) (body : Body) (result : Option ValType) (gives : Gives type result) (order : InOrder body) (is_body : IsBody m type body (code_of body.targets body.ops)) where
  abbrev c : Context
  c = body_context m type body

  abbrev code : List Placed
  code = code_of body.targets body.ops

  abbrev nodes : Nodes
  nodes = is_body.tree.nodes

  abbrev start : OpenBlock
  start = opened kinds.Plain result []

  context_is : inside c (start ∷ []) ≡ c
  context_is = inside_body m type body result gives

  typed : Types (inside c (start ∷ [])) nodes [] (option_to_list result)
  typed = subst (λ x. Types (inside c (start ∷ [])) nodes [] x) gives (subst (λ x. Types x nodes [] (reverse type.results)) (sym context_is) is_body.typed)

  -- a live spot's first instruction stands in the flat code
  pub flat_there : (o : ℕ) (s : Spot) → LiveAt m type body o s → OpThere body o (instruction s.nodes)
  flat_there o s h =
      let tree : h.tree ≡ is_body.tree = one_tree code h.tree is_body.tree h.writes is_body.writes in
      let live : Live (inside c (start ∷ [])) nodes [] [] s = subst (λ z. Live z nodes [] [] s) (sym context_is) (subst (λ t. Live c t.nodes [] [] s) tree h.live) in
      let f = live_front c nodes start [] (option_to_list result) (placed is_body.tree.end End ∷ []) [] s is_body.writes.arms tt typed live h.node in
      let split : code ≡ f.front ++ write s.nodes f.rest = is_body.writes.out ∙ f.splits in
      let at_front : slice_get code (length f.front) ≡ Some (placed (offset_in s.nodes 0) (instruction s.nodes)) = ap (λ z. slice_get z (length f.front)) split ∙ get_front_end f.front (write s.nodes f.rest) ∙ first_item s.nodes f.rest h.node in
      let x = op_there body.targets body.ops (length f.front) (offset_in s.nodes 0) (instruction s.nodes) at_front in
      record { number = length f.front; op = x.0; there = x.1; at_is = x.2 ∙ h.at; item_is = x.3 }

  -- it is the instruction there
  pub item_there : (o n : ℕ) (op : Op) (s : Spot) → slice_get body.ops n ≡ Some op → op.at ≡ o → LiveAt m type body o s → item_of body.targets op.code ≡ instruction s.nodes
  item_there o n op s e at h =
      let x = flat_there o s h in
      let same : op ≡ x.op = one_op 0 body.ops n x.number op x.op order.offsets e x.there (at ∙ sym x.at_is) in
      ap (λ z. item_of body.targets z.code) same ∙ x.item_is

  -- and all spots there have the same operands
  pub same_operands : (o : ℕ) (s t : Spot) → LiveAt m type body o s → LiveAt m type body o t → s.here ++ s.outside ≡ t.here ++ t.outside
  same_operands o s t h k =
      let e : reverse (s.here ++ s.outside) ≡ reverse (t.here ++ t.outside) = one_static m type body o (reverse (s.here ++ s.outside)) (reverse (t.here ++ t.outside)) order (s, h, refl) (t, k, refl) in
      sym (reverse-reverse (s.here ++ s.outside)) ∙ ap reverse e ∙ reverse-reverse (t.here ++ t.outside)

-- ---- in a module

module _ (m : Module) (whole : IsModule m) (valid : Valid m) (f : ℕ) where
  gives_of : (type : FuncType) → type_at m f ≡ Some type → Gives type (slice_get type.results 0)
  gives_of type e = let t = then_found (slice_get (function_types m) f) (λ t. slice_get m.types t) type e in first_gives type.results (there_at FuncTypeFine m.types t.0 type (valid (TypeAt t.0)) t.2)

  module _ (type : FuncType) (body : Body) (type_is : type_at m f ≡ Some type) (body_is : body_of m f ≡ Some body) where
    pub order_of : InOrder body
    order_of = let i = then_found (defined_index m f) (slice_get m.bodies) body body_is in in_list InOrder m.bodies i.0 body whole.in_order i.2

    pub body_there : IsBody m type body (code_of body.targets body.ops)
    body_there =
        let i = then_found (defined_index m f) (slice_get m.bodies) body body_is in
        let fine : BodyFine m f body = there_at (BodyFine m f) m.bodies i.0 body (subst (λ x. IfSome x (λ j. There m.bodies j (BodyFine m f))) i.1 (valid (Function f 0))) i.2 in
        let q : fine.0 ≡ type = some_is (sym fine.1 ∙ type_is) in
        subst (λ x. IsBody m x body (code_of body.targets body.ops)) q fine.2

    pub there : (o : ℕ) (s : Spot) → LiveAt m type body o s → OpThere body o (instruction s.nodes)
    there = flat_there m type body (slice_get type.results 0) (gives_of type type_is) order_of body_there

    pub item_at : (o n : ℕ) (op : Op) (s : Spot) → slice_get body.ops n ≡ Some op → op.at ≡ o → LiveAt m type body o s → item_of body.targets op.code ≡ instruction s.nodes
    item_at = item_there m type body (slice_get type.results 0) (gives_of type type_is) order_of body_there

    pub operands_at : (o : ℕ) (s t : Spot) → LiveAt m type body o s → LiveAt m type body o t → s.here ++ s.outside ≡ t.here ++ t.outside
    operands_at = same_operands m type body (slice_get type.results 0) (gives_of type type_is) order_of body_there

    pub spot_of : (n : ℕ) (op : Op) (types : List ValType) → slice_get body.ops n ≡ Some op → is_node op.code ≡ true → TypesBefore m type body n types → Static m type body op.at types
    spot_of n op types e node h = to_tree m type body (slice_get type.results 0) (gives_of type type_is) order_of body_there n op e types (item_node body.targets op.code node) h

-- ---- frames

module _ (m : Module) (whole : IsModule m) (valid : Valid m) (f : Frame) where
  -- no instruction begins there
  pub no_op : OpIs None m f.function f.offset → StandsAt m f (λ s. Unit {0}) → ⊥
  no_op h x =
      let is_of : IsOf m f x.0 x.1 = x.2 in
      let s = x.3.0 in
      let live : LiveAt m x.0 x.1 f.offset s = x.3.1 in
      let k = there m whole valid f.function x.0 x.1 is_of.type_is is_of.body_is f.offset s live in
      h x.1 k.number k.op is_of.body_is k.there k.at_is (node_of x.1.targets k.op.code (subst BeginsNode (sym k.item_is) (begins s.nodes live.node)))

  -- or it is dead
  pub no_height : (n : ℕ) → OpIs (Some n) m f.function f.offset → HeightIs None m f.function n → StandsAt m f (λ s. Unit {0}) → ⊥
  no_height n o h x =
      let is_of : IsOf m f x.0 x.1 = x.2 in
      let s = x.3.0 in
      let live : LiveAt m x.0 x.1 f.offset s = x.3.1 in
      let body : o.0 ≡ x.1 = some_is (sym o.2 ∙ is_of.body_is) in
      let types = reverse (s.here ++ s.outside) in
      let there : slice_get x.1.ops n ≡ Some o.1 = subst (λ b. slice_get b.ops n ≡ Some o.1) body o.3 in
      h types (static_there m f.function n types whole valid (x.0, x.1, o.1, is_of.type_is, is_of.body_is, there, (s, subst (λ a. LiveAt m x.0 x.1 a s) (sym o.4) live, refl)))

  pub stands : (n height : ℕ) (code : Instr) → OpIs (Some n) m f.function f.offset → HeightIs (Some height) m f.function n → CodeIs (Some code) m f.function n → Stands m f (record { op = n; code = code; height = height })
  stands n height code o h k =
      let body = o.0 in
      let op = o.1 in
      let types = h.0.0 in
      let t : TypesAt m f.function n types = h.0.1 in
      let type = t.0 in
      let same : t.1 ≡ body = some_is (sym t.3 ∙ o.2) in
      let before : TypesBefore m type body n types = subst (λ b. TypesBefore m type b n types) same t.4 in
      let st = spot_of m whole valid f.function type body t.2 o.2 n op types o.3 o.5 before in
      let s = st.0 in
      let live : LiveAt m type body f.offset s = subst (λ a. LiveAt m type body a s) o.4 st.1 in
      let item : item_of body.targets op.code ≡ instruction s.nodes = item_at m whole valid f.function type body t.2 o.2 f.offset n op s o.3 o.4 live in
      let code_is : code ≡ op.code = some_is (k body op o.2 o.3) in
      record {
        type = type;
        body = body;
        is_of = record { type_is = t.2; body_is = o.2 };
        spot = s;
        live = live;
        only = λ u l. (sym (item_at m whole valid f.function type body t.2 o.2 f.offset n op u o.3 o.4 l) ∙ item, operands_at m whole valid f.function type body t.2 o.2 f.offset u s l live);
        item = ap (item_of body.targets) code_is ∙ item;
        has = (body, o.2, slice_get_within body.ops n op o.3);
        types = subst (TypesAt m f.function n) st.2 t;
        height = sym (length-reverse (s.here ++ s.outside)) ∙ ap length (sym st.2) ∙ h.0.2;
      }

-- ---- tests of where a frame stands

module _ (m : Module) (f : Frame) (x : Stand) (st : Stands m f x) where
  -- what holds of the instruction and the operands at some spot there, holds at this one
  pub at_spot : (P : Item → List ValType → Type 0) → StandsAt m f (λ s. P (instruction s.nodes) (s.here ++ s.outside)) → P (instruction st.spot.nodes) (st.spot.here ++ st.spot.outside)
  at_spot P y =
      let is_of : IsOf m f y.0 y.1 = y.2 in
      let s = y.3.0 in
      let type : y.0 ≡ st.type = some_is (sym is_of.type_is ∙ st.is_of.type_is) in
      let body : y.1 ≡ st.body = some_is (sym is_of.body_is ∙ st.is_of.body_is) in
      let live : LiveAt m st.type st.body f.offset s = subst (λ b. LiveAt m st.type b f.offset s) body (subst (λ t. LiveAt m t y.1 f.offset s) type y.3.1) in
      let same = st.only s live in
      subst (λ i. P i (st.spot.here ++ st.spot.outside)) same.0 (subst (λ ts. P (instruction s.nodes) ts) same.1 y.3.2)

  pub from_spot : (P : Spot → Type 0) → P st.spot → StandsAt m f P
  from_spot P h = (st.type, st.body, st.is_of, (st.spot, st.live, h))

  pub count_of : (count : ℕ) → count ≤ x.height → length (take count (reverse (st.spot.here ++ st.spot.outside))) ≡ count
  count_of count le =
      let all = st.spot.here ++ st.spot.outside in
      let n : count ≤ length (reverse all) = omega (arith, le, st.height, length-reverse all) in
      length-take-le count (reverse all) n

  -- the operands that the frame shows, as the bottom ones of all
  shown_all : (i : ℕ) → shown m i st.spot ≡ take (count_shown m (item_of st.body.targets x.code) i x.height) (reverse (st.spot.here ++ st.spot.outside))
  shown_all zero = sym (ap (λ n. take n (reverse (st.spot.here ++ st.spot.outside))) (sym st.height) ∙ take_all (st.spot.here ++ st.spot.outside))
  shown_all (suc i) =
      let all = st.spot.here ++ st.spot.outside in
      let n : x.height - taken m (item_of st.body.targets x.code) ≡ length all - taken m (instruction st.spot.nodes) = ap₂ (λ a b. a - taken m b) (sym st.height) st.item in
      sym (ap (λ k. take k (reverse all)) n ∙ take_reverse all (taken m (instruction st.spot.nodes)))

  shown_length : (i n : ℕ) → n ≡ count_shown m (item_of st.body.targets x.code) i x.height → n ≤ x.height → n ≡ length (shown m i st.spot)
  shown_length i n e le =
      let all = reverse (st.spot.here ++ st.spot.outside) in
      sym (ap length (shown_all i) ∙ ap (λ k. length (take k all)) (sym e) ∙ count_of n le)

  -- those of an instruction and operands
  shown_of : ℕ → Item → List ValType → List ValType
  shown_of zero item all = reverse all
  shown_of (suc i) item all = reverse (drop (taken m item) all)

  shown_is : (i : ℕ) (s : Spot) → shown m i s ≡ shown_of i (instruction s.nodes) (s.here ++ s.outside)
  unfolding shown_of
  shown_is zero s = refl
  shown_is (suc i) s = refl

  same_length : (i : ℕ) (s : Spot) → LiveAt m st.type st.body f.offset s → length (shown m i st.spot) ≡ length (shown m i s)
  same_length i s live =
      let same = st.only s live in
      ap length (shown_is i st.spot ∙ sym (ap₂ (shown_of i) same.0 same.1) ∙ sym (shown_is i s))

  pub shown_count : (i n : ℕ) → n ≡ count_shown m (item_of st.body.targets x.code) i x.height → n ≤ x.height → OperandCount m i f n
  shown_count i n e le = (st.type, st.body, st.is_of, ((st.spot, st.live), λ s live. shown_length i n e le ∙ same_length i s live))

  pub operands_judged : (i : ℕ) (b : Bool) → b ≡ can_be (take (count_shown m (item_of st.body.targets x.code) i x.height) (reverse (st.spot.here ++ st.spot.outside))) f.operands → Decides b (OperandsFit m i f)
  operands_judged i true e = from_spot (λ s. can_be (shown m i s) f.operands ≡ true) (ap (λ ts. can_be ts f.operands) (shown_all i) ∙ sym e)
  operands_judged i false e = λ y.
      let as_item : StandsAt m f (λ s. can_be (shown_of i (instruction s.nodes) (s.here ++ s.outside)) f.operands ≡ true) =
      (y.0, y.1, y.2, (y.3.0, y.3.1, ap (λ ts. can_be ts f.operands) (sym (shown_is i y.3.0)) ∙ y.3.2)) in
      let at = at_spot (λ item all. can_be (shown_of i item all) f.operands ≡ true) as_item in
      let z : false ≡ true = e ∙ ap (λ ts. can_be ts f.operands) (sym (shown_all i) ∙ shown_is i st.spot) ∙ at in
      cc

-- ---- functions

pub defined_fits : (m : Module) (f : Frame) (body : Body) → Valid m → body_of m f.function ≡ Some body → FunctionFits m f
defined_fits m f body valid e =
    let i = then_found (defined_index m f.function) (slice_get m.bodies) body e in
    let fine : BodyFine m f.function body = there_at (BodyFine m f.function) m.bodies i.0 body (subst (λ x. IfSome x (λ j. There m.bodies j (BodyFine m f.function))) i.1 (valid (Function f.function 0))) i.2 in
    (fine.0, body, record { type_is = fine.1; body_is = e }, tt)

pub undefined : (m : Module) (f : Frame) → body_of m f.function ≡ None → FunctionFits m f → ⊥
undefined m f e x = let is_of : IsOf m f x.0 x.1 = x.2 in let z : None ≡ Some x.1 = sym e ∙ is_of.body_is in cc

pub short_parameters : (m : Module) (t : ℕ) → WithinLimits m → parameter_count (slice_get m.types t) < 2 ^ 32
short_parameters m t limits = by_type (slice_get m.types t) refl
  where
    by_type : (o : Option FuncType) → slice_get m.types t ≡ o → parameter_count o < 2 ^ 32
    by_type None e = omega arith
    by_type (Some type) e = (in_list ShortType m.types t type limits.short.each_type e).params
