-- A machine stands where the configuration does that it stands for.
use Rattle.std.proofs.Common.{◌≡◌, ℕ, ◌+◌, List, [], ◌∷◌, length, sym, ap, ◌∙◌, ⊎_elim, arith, Option, Some, None}
use Rattle.std.specs.Prelude.{slice_get, option_map}
use Rattle.std.proofs.lemmas.Option.{slice_get-map}
use Rattle.wasm_syntax.specs.declared.value.Value.{Value}
use Rattle.wasm_syntax.specs.declared.value.ValType.{ValType}
use Rattle.wasm_syntax.specs.declared.instruction.Op.{Op}
use Rattle.wasm_syntax.specs.declared.parts.Body.{Body}
use Rattle.wasm_syntax.specs.declared.parts.FuncType.{FuncType}
use Rattle.wasm_syntax.specs.Tree.{Tree, Nodes, stop, basic, jump, block, loop, choose, Item, Plain, Goes, Opens, OpensLoop, OpensIf, Else, End, Placed, placed, item_of}
use Rattle.wasm_syntax.specs.Module.{Program, defined, defined_at, option_then}
use Rattle.wasm_syntax.specs.Machine.{Label, Frame, Config, offset_in, offset_of}
use Rattle.machine_code.specs.declared.code.Code.{Code}
use Rattle.machine_code.specs.declared.sides.Side.{Side}
use Rattle.machine_code.specs.calls.Flat.{Is, At, size}
use Rattle.machine_code.specs.calls.Code.{items}
use Rattle.machine_steps.specs.declared.layout.Control.{Control}
use Rattle.machine_steps.specs.declared.layout.CallFrame.{CallFrame}
use Rattle.machine_steps.specs.calls.Layout.{Under, Labels, Frames}
use Rattle.machine_steps.proofs.Labels.{closed, under_place}
use Rattle.machine_steps.specs.declared.machine.Machine.{Machine}
use Rattle.machine_steps.specs.calls.Meets.{StandsFor}
use Rattle.machine_steps.specs.Places.{Place, place_in, place_of}
use Rattle.machine_steps.specs.calls.Watches.{place_at}
use Rattle.machine_steps.specs.calls.Watched.{innermost, position_of}
use Rattle.pm_text.proofs.Lists.{some_is}

-- ---- the index of an instruction

-- the first node stands there, or what closes the label
stands_at : (code : List Placed) (sides : List Side) (result : Option ValType) (floor : ℕ) (ns : Nodes) (l : Label) (ls : List Label) (pc : ℕ) (ks : List Control)
    → At code sides ns pc → Under code sides result floor l.kind ls (pc + size ns) l.end ks → (item : Item) × Is code sides pc (offset_in ns l.end) item
stands_at code sides result floor stop l ls pc ks h u =
    let e : pc + 0 ≡ pc = omega arith in
    ⊎_elim (λ c. (End, c)) (λ c. (Else, c)) (closed code sides result floor l.kind ls pc l.end ks (under_place code sides result floor l.kind ls _ pc l.end ks e u))
stands_at code sides result floor (basic o b rest) l ls pc ks h u = (Plain b, h.0)
stands_at code sides result floor (jump o j rest) l ls pc ks h u = (Goes j, h.0)
stands_at code sides result floor (block o t body end rest) l ls pc ks h u = (Opens t, h.0)
stands_at code sides result floor (loop o t body end rest) l ls pc ks h u = (OpensLoop t, h.0)
stands_at code sides result floor (choose o t a ea b end rest) l ls pc ks h u = (OpensIf t, h.0)

-- the innermost label says where a frame stands
pub labels_at : (code : List Placed) (sides : List Side) (result : Option ValType) (floor : ℕ) (labels : List Label) (pc : ℕ) (ks : List Control) → Labels code sides result floor labels pc ks → (item : Item) × Is code sides pc (offset_of labels) item
labels_at code sides result floor [] pc ks h = absurd h
labels_at code sides result floor (l ∷ ls) pc ks h = stands_at code sides result floor l.nodes l ls pc ks h.0 h.1

-- ---- the body of a function

body_of : (p : Program) (i : ℕ) (body : Body) (tree : Tree) (type : FuncType) → defined_at p i ≡ Some (defined body tree type) → slice_get p.module_.bodies i ≡ Some body
body_of p i body tree type e = by_index (slice_get p.module_.functions i) e
  where
    by_tree : (b : Body) (u : FuncType) (o : Option Tree) → option_map (λ t. defined b t u) o ≡ Some (defined body tree type) → b ≡ body
    by_tree b u None e = absurd (cc)
    by_tree b u (Some t) e = let same : defined b t u ≡ defined body tree type = some_is e in cc

    by_body : (u : FuncType) (o : Option Body) → option_then o (λ b. option_map (λ t. defined b t u) (slice_get p.trees i)) ≡ Some (defined body tree type) → o ≡ Some body
    by_body u None e = absurd (cc)
    by_body u (Some b) e = ap Some (by_tree b u (slice_get p.trees i) e)

    by_type : (o : Option FuncType) → option_then o (λ u. option_then (slice_get p.module_.bodies i) (λ b. option_map (λ t. defined b t u) (slice_get p.trees i))) ≡ Some (defined body tree type) → slice_get p.module_.bodies i ≡ Some body
    by_type None e = absurd (cc)
    by_type (Some u) e = by_body u (slice_get p.module_.bodies i) e

    by_index : (o : Option ℕ) → option_then o (λ t. option_then (slice_get p.module_.types t) (λ u. option_then (slice_get p.module_.bodies i) (λ b. option_map (λ t. defined b t u) (slice_get p.trees i)))) ≡ Some (defined body tree type) → slice_get p.module_.bodies i ≡ Some body
    by_index None e = absurd (cc)
    by_index (Some t) e = by_type (slice_get p.module_.types t) e

-- ---- where the innermost frame stands

op_place : (o : Option Op) (ts : List ℕ) (function offset : ℕ) (item : Item) → option_map (λ (op : Op). placed op.at (item_of ts op.code)) o ≡ Some (placed offset item)
    → ◌≡◌ {A = Option Place} (option_map (λ (op : Op). record { function = function; offset = op.at }) o) (Some (record { function = function; offset = offset }))
op_place None ts function offset item e = absurd (cc)
op_place (Some op) ts function offset item e = ap (λ (q : Placed). Some (record { function = function; offset = q.at })) (some_is e)

frames_place : (p : Program) (codes : List Code) (fs : List Frame) (es : List CallFrame) (pc : ℕ) (ks : List Control) (vs : List Value) → Frames p codes fs es pc ks vs → place_at p.module_ (innermost es pc) ≡ place_in fs
frames_place p codes [] es pc ks vs h = absurd h
frames_place p codes (f ∷ fs) [] pc ks vs h = absurd h
frames_place p codes (f ∷ fs) (e ∷ es) pc ks vs h =
    let code = h.0 in
    let vs' = h.2 in
    let level = h.3 in
    let first = labels_at (items code) code.sides f.result (length f.locals + length vs') f.labels pc level.mine level.labels_are in
    let body : slice_get p.module_.bodies e.function ≡ Some code.body.now = body_of p e.function code.body.now level.tree level.type level.is_defined in
    let op = op_place (slice_get code.body.now.ops pc) code.body.now.targets (length p.module_.imports + e.function) (offset_of f.labels) first.0
    (sym (slice_get-map (λ (o : Op). placed o.at (item_of code.body.now.targets o.code)) code.body.now.ops pc) ∙ first.1) in
    ap (λ (o : Option Body). option_then o (λ (b : Body). option_map (λ (op : Op). record { function = length p.module_.imports + e.function; offset = op.at }) (slice_get b.ops pc))) body
    ∙ op
    ∙ ap (λ n. Some (record { function = n; offset = offset_of f.labels })) (sym level.index)

pub position_place : (p : Program) (codes : List Code) (m : Machine) (c : Config) → StandsFor p codes m c → place_at p.module_ (position_of m) ≡ place_of c
position_place p codes m c h = frames_place p codes c.frames m.stack.frames m.stack.position m.stack.controls m.stack.values h.frames

-- the innermost frame stands at its next instruction
pub first_stands : (es : List CallFrame) (e : CallFrame) (at : ℕ) → slice_get es 0 ≡ Some e → Some (record { function = e.function; index = at }) ≡ innermost es at
first_stands [] e at q = absurd (cc)
first_stands (f ∷ fs) e at q = ap (λ (k : CallFrame). innermost (k ∷ fs) at) (sym (some_is q))
