-- What the writing of a body asks of an accepted module, and what it gives.
use Rattle.std.specs.Prelude.{slice_get, unwrap_or}
use Rattle.rewrite_bodies.specs.calls.Landings.{most_landings, landings_from, landed}
use Rattle.rewrite_bodies.proofs.Laid.{room_landed}
use Rattle.rewrite_bodies.proofs.TypedNodes.{AllFine, fine_landings}
use Rattle.unwind_rewrite.specs.calls.Bodies.{LowLandings}
use Rattle.std.proofs.Common.{◌≡◌, ℕ, zero, suc, ◌+◌, ◌^◌, ◌<◌, ◌≤◌, true, List, [], ◌∷◌, ◌++◌, length, reverse, Some, Option, slice_get, refl, sym, ap, ◌∙◌, subst, arith}
use Rattle.std.specs.Prelude.{Result, Ok, Err, IfOk}
use Rattle.std.proofs.lemmas.Bool.Decides.{nat_tests}
use Rattle.wasm_syntax.specs.declared.value.ValType.{ValType}
use Rattle.wasm_syntax.specs.declared.instruction.Instr.{Instr}
use Rattle.wasm_syntax.specs.declared.instruction.Instr.TheVariants as instrs
use Rattle.wasm_syntax.specs.declared.instruction.Jump.TheVariants as jumps
use Rattle.wasm_syntax.specs.declared.instruction.Op.{Op}
use Rattle.wasm_syntax.specs.declared.parts.FuncType.{FuncType}
use Rattle.wasm_syntax.specs.declared.parts.Body.{Body}
use Rattle.wasm_syntax.specs.declared.module.ModuleParts.{ModuleParts as Module}
use Rattle.wasm_syntax.specs.Tree.{Tree, Writes}
use Rattle.wasm_syntax.specs.Machine.{result_of}
use Rattle.wasm_syntax.specs.Module.{Program, Function, imported, defined, function_at, type_at, option_then}
use Rattle.wasm_syntax.specs.Typing.{body_context}
use Rattle.wasm_laws.proofs.Safe.{Typed}
use Rattle.wasm_laws.proofs.Validity.{typed}
use Rattle.wasm_syntax.specs.Valid.{body_of as body_in}
use Rattle.rewrite_bodies.specs.Numbering.{helper_base, is_in}
use Rattle.rewrite_bodies.specs.calls.Rewrite.{body, laid}
use Rattle.rewrite_bodies.specs.calls.Slots.{Landing, Derivation, Ctx, ctx_of, slots_of, groups}
use Rattle.rewrite_bodies.specs.calls.Derived.{count_of, derived_in}
use Rattle.wasm_syntax.specs.SameCode.{body_code}
use Rattle.rewrite_modules.specs.calls.FlatCode.{body_of}
use Rattle.rewrite_modules.specs.calls.Instrument.{new_body}
use Rattle.rewrite_modules.specs.Weight.{height_at, type_used, types_used, ops_weight, bodies_weight}
use Rattle.rewrite_modules.proofs.Bounds.{room_of}
use Rattle.rewrite_modules.proofs.FineBodies.{fine_at}
use Rattle.rewrite_modules.proofs.Links.{IsDefined, is_defined, import_of, type_is_of}
use Rattle.rewrite_modules.proofs.Modules.{module_given}
use Rattle.rewrite_modules.proofs.Theorem.{ready_given}
use Rattle.rewrite_promise.specs.calls.Promise.{Accepted}
use Rattle.index_map.proofs.Trees.{helped_used}
use Rattle.index_map.proofs.Within.{used_within}
use Rattle.rewrite_code.specs.calls.Contexts.{context}
use Rattle.operand_spill.specs.calls.Standing.{Fine}
use Rattle.operand_spill.proofs.Arms.{armed}
use Rattle.unwind_rewrite.specs.calls.Numbers.{Helped, AllHelped}
use Rattle.unwind_rewrite.specs.calls.Points.{CanBeWritten}
use Rattle.operand_spill.specs.calls.Plans.{Planned, IsPlan}
use Rattle.operand_spill.proofs.Greatest.{there}
use Rattle.rewrite_promise.specs.calls.Layers.{BodyPromised}
use Rattle.rewrite_promise.proofs.Layered.{body_promised}
use Rattle.unwind_rewrite.specs.calls.Rewritten.{program_in, IsPlanIn, IsRewritten, gives_of}
use Rattle.pm_text.proofs.Lists.{some_is}
use Rattle.wasm_syntax.proofs.Bodies.{tree_there}
use Rattle.rewrite_bodies.specs.calls.Facts.{exposed_in}

-- ---- how many instructions there are

ops_many : (h : ℕ → ℕ) (j : ℕ) (ops : List Op) → length ops ≤ ops_weight h j ops
ops_many h j [] = omega arith
ops_many h j (o ∷ os) = omega (arith, ops_many h (suc j) os)

body_light : (m : Module) (heights : List (List ℕ)) (i : ℕ) (bs : List Body) (k : ℕ) (b : Body) → slice_get bs k ≡ Some b → length b.ops ≤ bodies_weight m heights i bs
body_light m heights i [] k b e = absurd cc
body_light m heights i (x ∷ xs) zero b e =
    let same : x ≡ b = cc in
    let n = ap (λ (y : Body). length y.ops) same in
    omega (arith, n, ops_many (height_at heights i) 0 x.ops)
body_light m heights i (x ∷ xs) (suc k) b e = omega (arith, body_light m heights (suc i) xs k b e)

-- ---- the types of `call_indirect`s

helped_by : (C : Ctx) (code : Instr) → ((t : ℕ) → type_used code ≡ t ∷ [] → is_in t (types_used C.source) ≡ true) → Helped C code
helped_by C (instrs.Basic i) h = tt
helped_by C (instrs.Jump jumps.Unreachable) h = tt
helped_by C (instrs.Jump (jumps.Br l)) h = tt
helped_by C (instrs.Jump (jumps.BrIf l)) h = tt
helped_by C (instrs.Jump (jumps.BrTable s n d)) h = tt
helped_by C (instrs.Jump jumps.Return) h = tt
helped_by C (instrs.Jump (jumps.Call f)) h = tt
helped_by C (instrs.Jump (jumps.CallIndirect t)) h = h t refl
helped_by C (instrs.Block t) h = tt
helped_by C (instrs.Loop t) h = tt
helped_by C (instrs.If t) h = tt
helped_by C instrs.Else h = tt
helped_by C instrs.End h = tt

module _ (m : Module) (a : Accepted m) (f : ℕ) (b : Body) (here : body_in m f ≡ Some b) where
  abbrev p : Program
  p = program_in m a

  abbrev number : ℕ
  number = (there m f b here).0

  number_is : f ≡ length m.imports + number
  number_is = (there m f b here).1

  at : slice_get m.bodies number ≡ Some b
  at = (there m f b here).2

  pub few : length b.ops + most_landings + 1 < 2 ^ 32
  few = let heights = a.premises.lightness.heights in omega (arith, body_light m heights 0 m.bodies number b at, a.premises.lightness.light)

  pub helped : (C : Ctx) → C.source ≡ m → AllHelped C b.ops
  helped C s = λ j o e. helped_by C o.code (λ t u. subst (λ (x : Module). is_in t (types_used x) ≡ true) (sym s) (used_within m number j t b o at e u))

  typed_ : Typed p
  typed_ = typed p a.premises.whole.write a.premises.whole.as_many a.premises.valid

  record Found : Type 0 where
    pub tree : Tree
    pub type : FuncType
    pub is : function_at p f ≡ Some (defined b tree type)

  found_by : (fn : Function) → function_at p f ≡ Some fn → Found
  found_by (imported i type) e =
      let low = (import_of p f i type e).low in
      let is = number_is in
      absurd (grind (arith, nat_tests))
  found_by (defined c tree type) e =
      let d = is_defined p f c tree type e in
      let same_number : d.number ≡ number = (let one = d.number_is in let two = number_is in omega (arith, one, two)) in
      let same : c ≡ b = some_is (sym d.body_is ∙ ap (slice_get m.bodies) same_number ∙ at) in
      record { tree = tree; type = type; is = subst (λ (x : Body). function_at p f ≡ Some (defined x tree type)) same e }

  found : Found
  found =
      let fine = fine_at m number b a.premises.valid at in
      let type_here : type_at m f ≡ Some fine.0 = subst (λ (k : ℕ). type_at m k ≡ Some fine.0) (sym number_is) fine.1 in
      let fn = typed_.functions f fine.0 type_here in
      found_by fn.0 fn.1

  module _ (plan : Planned) (tree : Tree) (type : FuncType) (is : function_at p f ≡ Some (defined b tree type)) (planned : IsPlan p f b tree type plan) where
    abbrev C : Ctx
    C = context m plan.locals plan.slots f (gives_of m f) [] [] []

    abbrev D : Ctx
    D = ctx_of p f b type (slots_of p f b tree type)

    abbrev made : List ℕ → List ValType → ℕ → Option ValType → Ctx
    made hs ls n r = record { source = m; base = helper_base m; helpers = hs; locals = ls; slots = n; index = f; result = r; landings = []; exposed = []; derivations = [] }

    same : C ≡ D
    same =
        let gives : gives_of m f ≡ result_of type = ap (λ q. option_then q result_of) (type_is_of p f (defined b tree type) is) in
        ap (λ hs. made hs plan.locals plan.slots (gives_of m f)) (sym (helped_used p a.premises.whole.write))
        ∙ ap (λ ls. made D.helpers ls plan.slots (gives_of m f)) planned.locals
        ∙ ap (λ n. made D.helpers D.locals n (gives_of m f)) planned.slots
        ∙ ap (made D.helpers D.locals D.slots) gives

    defined_ : IsDefined p f b tree type
    defined_ = is_defined p f b tree type is

    writes : Writes b.targets b.ops tree
    writes = tree_there m.bodies p.trees defined_.number b tree a.premises.whole.write defined_.body_is defined_.tree_is

    fine : Fine C [] tree.nodes
    fine = subst (λ (c : Ctx). Fine c [] tree.nodes) (sym same) (record {
      room = room_of (ctx_of p f b type 0) (slots_of p f b tree type) tree.nodes [] ((ready_given p (module_given m a.premises)).static defined_.number tree defined_.tree_is) (omega arith);
      arms = armed (body_context m type b) tree.nodes [] (reverse type.results) writes.arms (typed_.bodies f b tree type is);
    })

    -- with any offsets, landings and derivations
    fine_with : (os : List ℕ) (xs : List Landing) (ds : List Derivation) → Fine (landed C os xs ds) [] tree.nodes
    fine_with os xs ds = record { room = room_landed C os xs ds [] tree.nodes fine.room; arms = fine.arms }

    can_be : (os : List ℕ) (xs : List Landing) (ds : List Derivation) → CanBeWritten (landed C os xs ds) b
    can_be os xs ds = record { tree = tree; writes = writes; fine = fine_with os xs ds }

    -- the operands of its own have slots
    low_ones : (os : List ℕ) (xs : List Landing) (ds : List Derivation) → xs ≡ landings_from (landed C os [] []) [] tree.nodes [] → LowLandings (landed C os xs ds)
    low_ones os xs ds e =
        let D = landed C os [] [] in
        subst (λ ys. LowLandings (landed C os ys ds)) (sym e) (low_in (landings_from D [] tree.nodes []) (fine_landings D [] tree.nodes [] tt (fine_with os [] []).room tt))
      where
        low_in : (xs : List Landing) → AllFine (landed C os [] []) xs → (n : ℕ) (x : Landing) → slice_get xs n ≡ Some x → length x.places ≤ C.slots
        low_in [] h n x e = absurd (cc)
        low_in (y ∷ xs) h zero x e = let same : y ≡ x = ap (λ o. unwrap_or o y) e in subst (λ (z : Landing). length z.places ≤ C.slots) same h.0.0
        low_in (y ∷ xs) h (suc n) x e = low_in xs h.1 n x e

    -- what is written is the body of the definitions
    written_is : (out : Body) (os : List ℕ) (xs : List Landing) (ds : List Derivation) → os ≡ exposed_in m.memories tree.nodes → xs ≡ landings_from (landed C os [] []) [] tree.nodes [] → ds ≡ derived_in (count_of (type_at m f)) C.locals os tree.nodes
        → ((t : Tree) → Writes b.targets b.ops t → Fine (landed C os xs ds) [] t.nodes → body_code out ≡ body_code (body_of (b.groups ++ groups C.slots) (laid (landed C os xs ds) t.nodes))) → body_code out ≡ body_code (new_body p f (function_at p f))
    written_is out os xs ds own e d h =
        let count = count_of (type_at m f) in
        h tree writes (fine_with os xs ds)
        ∙ ap (λ ys. body_code (body_of (b.groups ++ groups C.slots) (laid (landed C os ys ds) tree.nodes))) e
        ∙ ap (λ es. body_code (body_of (b.groups ++ groups C.slots) (laid (landed C os (landings_from (landed C os [] []) [] tree.nodes []) es) tree.nodes))) d
        ∙ ap (λ ps. body_code (body_of (b.groups ++ groups C.slots) (laid (landed C ps (landings_from (landed C ps [] []) [] tree.nodes []) (derived_in count C.locals ps tree.nodes)) tree.nodes))) own
        ∙ ap (λ (c : Ctx). body_code (body_of (b.groups ++ groups c.slots) (body c tree.nodes))) same
        ∙ sym (ap (λ q. body_code (new_body p f q)) is)

  -- there is a tree
  pub can : (plan : Planned) → IsPlanIn m f plan → (os : List ℕ) (xs : List Landing) (ds : List Derivation) → CanBeWritten (context m plan.locals plan.slots f (gives_of m f) xs os ds) b
  can plan planned os xs ds = can_be plan found.tree found.type found.is (planned a b found.tree found.type found.is) os xs ds

  pub low : (plan : Planned) → IsPlanIn m f plan → (os : List ℕ) (xs : List Landing) (ds : List Derivation) → ((t : Tree) → Writes b.targets b.ops t → xs ≡ landings_from (context m plan.locals plan.slots f (gives_of m f) [] os []) [] t.nodes []) → LowLandings (context m plan.locals plan.slots f (gives_of m f) xs os ds)
  low plan planned os xs ds e =
      let is = planned a b found.tree found.type found.is in
      low_ones plan found.tree found.type found.is is os xs ds (e found.tree (writes plan found.tree found.type found.is is))

pub is_rewritten : {E : Type 0} (m : Module) (f : ℕ) (b : Body) → body_in m f ≡ Some b → (plan : Planned) → IsPlanIn m f plan → (os : List ℕ) (xs : List Landing) (ds : List Derivation) → ((t : Tree) → Writes b.targets b.ops t → os ≡ exposed_in m.memories t.nodes)
    → ((t : Tree) → Writes b.targets b.ops t → xs ≡ landings_from (context m plan.locals plan.slots f (gives_of m f) [] os []) [] t.nodes []) → ((t : Tree) → Writes b.targets b.ops t → ds ≡ derived_in (count_of (type_at m f)) plan.locals os t.nodes)
    → (C : Ctx) → C ≡ context m plan.locals plan.slots f (gives_of m f) xs os ds → (r : Result Body E)
    → ((t : Tree) → Writes b.targets b.ops t → Fine C [] t.nodes → IfOk r (λ out. body_code out ≡ body_code (body_of (b.groups ++ groups C.slots) (laid C t.nodes)))) → IfOk r (IsRewritten m f)
is_rewritten m f b here plan planned os xs ds own es derived C e (Err x) h = tt
is_rewritten m f b here plan planned os xs ds own es derived C e (Ok out) h = λ a.
    let q = found m a f b here in
    let is = planned a b q.tree q.type q.is in
    let w = writes m a f b here plan q.tree q.type q.is is in
    written_is m a f b here plan q.tree q.type q.is is out os xs ds (own q.tree w) (es q.tree w) (derived q.tree w)
    (subst (λ (c : Ctx). (t : Tree) → Writes b.targets b.ops t → Fine c [] t.nodes → body_code out ≡ body_code (body_of (b.groups ++ groups c.slots) (laid c t.nodes))) e h)

-- the context that is made is that of the plan
pub planned_context : (m : Module) (f : ℕ) (plan : Planned) (os : List ℕ) (xs : List Landing) (ds : List Derivation) {C : Ctx} {parts : Module} {ls ts : List ValType} {n : ℕ} {gives : Option ValType} → C ≡ context m ls n f gives xs os ds → ls ≡ ts → ts ≡ plan.locals → n ≡ plan.slots → gives ≡ gives_of parts f → parts ≡ m → C ≡ context m plan.locals plan.slots f (gives_of m f) xs os ds
planned_context m f plan os xs ds {n = n} {gives = gives} made locals types heights result source =
    made
    ∙ ap (λ ls. context m ls n f gives xs os ds) (locals ∙ types)
    ∙ ap (λ n. context m plan.locals n f gives xs os ds) heights
    ∙ ap (λ g. context m plan.locals plan.slots f g xs os ds) (result ∙ ap (λ (x : Module). gives_of x f) source)

-- the offsets and the landings that were noted, and the derivations that were found, are the function's own
pub own_exposed : (m : Module) (b : Body) (os : List ℕ) {parts : Module} {ops : List Op} → parts ≡ m → ops ≡ b.ops → ((targets : List ℕ) (t : Tree) → Writes targets ops t → os ≡ exposed_in parts.memories t.nodes) → (t : Tree) → Writes b.targets b.ops t → os ≡ exposed_in m.memories t.nodes
own_exposed m b os source code noted t w = noted b.targets t (subst (λ (o : List Op). Writes b.targets o t) (sym code) w) ∙ ap (λ (x : Module). exposed_in x.memories t.nodes) source

pub own_landings : (m : Module) (f : ℕ) (plan : Planned) (b : Body) (os : List ℕ) (xs : List Landing) {parts : Module} {ts : List ValType} {ops : List Op} → ts ≡ plan.locals → parts ≡ m → ops ≡ b.ops → ((C : Ctx) (targets : List ℕ) (t : Tree) → C.locals ≡ ts → C.source ≡ parts → C.exposed ≡ os → Writes targets ops t → xs ≡ landings_from C [] t.nodes []) → (t : Tree) → Writes b.targets b.ops t → xs ≡ landings_from (context m plan.locals plan.slots f (gives_of m f) [] os []) [] t.nodes []
own_landings m f plan b os xs types source code noted t w =
    noted (context m plan.locals plan.slots f (gives_of m f) [] os []) b.targets t (sym types) (sym source) refl (subst (λ (o : List Op). Writes b.targets o t) (sym code) w)

pub own_derivations : (m : Module) (f : ℕ) (plan : Planned) (b : Body) (os : List ℕ) (ds : List Derivation) {parts : Module} {ts : List ValType} {ops : List Op} → ts ≡ plan.locals → parts ≡ m → ops ≡ b.ops
    → ((targets : List ℕ) (t : Tree) → Writes targets ops t → ds ≡ derived_in (count_of (type_at parts f)) ts os t.nodes) → (t : Tree) → Writes b.targets b.ops t → ds ≡ derived_in (count_of (type_at m f)) plan.locals os t.nodes
own_derivations m f plan b os ds {ts = ts} types source code found t w =
    found b.targets t (subst (λ (o : List Op). Writes b.targets o t) (sym code) w)
    ∙ ap (λ (x : Module). derived_in (count_of (type_at x f)) ts os t.nodes) source
    ∙ ap (λ ls. derived_in (count_of (type_at m f)) ls os t.nodes) types

-- what is promised of it
pub promised : {E : Type 0} (m : Module) (f : ℕ) (r : Result Body E) → IfOk r (IsRewritten m f) → (a : Accepted m) (i : ℕ) (old : Body) → f ≡ length m.imports + i → slice_get m.bodies i ≡ Some old → IfOk r (BodyPromised m a.premises.whole i old)
promised m f (Err x) h a i old e there = tt
promised m f (Ok new) h a i old e there =
    let p = program_in m a in
    body_promised m a.premises a.sized i old new there (h a ∙ ap (λ k. body_code (new_body p k (function_at p k))) e)
