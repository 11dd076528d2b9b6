-- A function has no more slots than operands at once, and no fewer.
use Rattle.std.proofs.Common.{◌≡◌, ℕ, ◌+◌, ◌<◌, ◌≤◌, false, List, [], ◌∷◌, ◌++◌, ⊎_elim, slice_get, length, reverse, refl, sym, ap, ◌∙◌, subst, arith, option_to_list, length-append, append-nil, take}
use Rattle.std.specs.Prelude.{Option, Some}
use Rattle.std.proofs.lemmas.List.{length-reverse}
use Rattle.std.proofs.Math.Seq.{take-append_seam}
use Rattle.wasm_syntax.specs.declared.blocks.BlockKind.TheVariants as block_kinds
use Rattle.wasm_syntax.specs.declared.value.ValType.{ValType}
use Rattle.wasm_syntax.specs.declared.parts.FuncType.{FuncType}
use Rattle.wasm_syntax.specs.declared.parts.Body.{Body}
use Rattle.wasm_syntax.specs.declared.module.ModuleParts.{ModuleParts as Module}
use Rattle.wasm_syntax.specs.Tree.{Tree, End, Placed, placed, code_of, Writes}
use Rattle.wasm_syntax.specs.Module.{Program, IsModule, IsProgram, defined, function_at, type_at}
use Rattle.wasm_syntax.specs.Machine.{result_of}
use Rattle.wasm_syntax.specs.Typing.{Types, IsBody, body_context}
use Rattle.wasm_syntax.specs.FlatTyping.{OpenBlock, opened, inside, FlatTypes, body_block, dead_behind, AllLive, all_types, TypesBefore}
use Rattle.wasm_laws.proofs.FlatBodies.{inside_body, body_steps}
use Rattle.wasm_laws.proofs.FlatOne.{one_before}
use Rattle.wasm_laws.proofs.Safe.{Typed, one_result}
use Rattle.wasm_laws.proofs.Validity.{typed}
use Rattle.wasm_syntax.specs.Valid.{Valid, body_of}
use Rattle.wasm_validate.specs.Heights.{TypesAt}
use Rattle.wasm_validate.proofs.HeightLaws.{at_of}
use Rattle.wasm_validate.proofs.WholeLaws.{body_at}
use Rattle.rewrite_bodies.specs.calls.Slots.{Place, Ctx, ctx_of, slots_of}
use Rattle.rewrite_modules.proofs.Heights.{peak_low}
use Rattle.rewrite_modules.proofs.Links.{is_defined, type_is_of, IsDefined}
use Rattle.rewrite_modules.proofs.Multiple.{slots_high, code_length}
use Rattle.operand_spill.specs.calls.Before.{before}
use Rattle.operand_spill.specs.calls.Plans.{own_types, planned, Planned, IsPlan}
use Rattle.operand_spill.specs.inner.Greatest.{IsGreatestUpTo}
use Rattle.pm_text.proofs.Lists.{some_is}
use Rattle.wasm_syntax.proofs.Bodies.{tree_there}

module _ (p : Program) (write_ : IsProgram p) (typed_ : Typed p) (f : ℕ) (b : Body) (tree : Tree) (type : FuncType) (at : function_at p f ≡ Some (defined b tree type)) where
  abbrev m : Module
  m = p.module_

  d : IsDefined p f b tree type
  d = is_defined p f b tree type at

  gives : reverse type.results ≡ option_to_list (result_of type)
  gives = one_result type.results (typed_.few f (defined b tree type) at)

  writes : Writes b.targets b.ops tree
  writes = tree_there m.bodies p.trees d.number b tree write_ d.body_is d.tree_is

  abbrev C : Ctx
  C = ctx_of p f b type 0

  abbrev code : List Placed
  code = code_of b.targets b.ops

  is_body : IsBody m type b code
  is_body = record { tree = tree; writes = writes; typed = typed_.bodies f b tree type at }

  -- behind the last instruction there are none
  none_behind : (ps : List Placed) (blocks : List OpenBlock) → code ≡ ps → TypesBefore m type b (length ps) (reverse (all_types blocks)) → length (all_types blocks) ≡ 0
  none_behind ps blocks e h =
      let front : take (length ps) code ≡ code = ap (take (length ps)) (e ∙ sym (append-nil ps)) ∙ take-append_seam ps [] ∙ sym e in
      let last : TypesBefore m type b (length ps) [] = record {
        result = result_of type;
        gives = gives;
        blocks = [];
        leads = subst (λ z. FlatTypes (body_context m type b) (body_block (result_of type)) z []) (sym front) (body_steps m type b (result_of type) code gives is_body);
        live = h.live;
        types_are = refl;
      } in
      let none = one_before m type b (length ps) (reverse (all_types blocks)) [] h last in
      omega (arith, ap length none, length-reverse (all_types blocks))

  -- where no instruction has more operands than this, there are no more slots
  least : (N : ℕ) → ((op : ℕ) (types : List ValType) → op < length b.ops → TypesBefore m type b op types → length types ≤ N) → slots_of p f b tree type ≤ N
  least N low =
      let result = result_of type in
      let start = opened block_kinds.Plain result [] in
      let one = λ (g : ℕ) (u : FuncType) (e : type_at m g ≡ Some u). (let fn = typed_.functions g u e in one_result u.results (subst (λ q. length q.results ≤ 1) fn.2 (typed_.few g fn.0 fn.1))) in
      let one_of = λ (t : ℕ) (u : FuncType) (e : slice_get m.types t ≡ Some u). one_result u.results (typed_.few_types t u e) in
      let types1 : Types (inside (body_context m type b) (start ∷ [])) tree.nodes [] (reverse type.results) = subst (λ z. Types z tree.nodes [] (reverse type.results)) (sym (inside_body m type b result gives)) (typed_.bodies f b tree type at) in
      peak_low C (reverse type.results) (reverse type.results ∷ []) N one one_of tree.nodes start [] [] [] [] (reverse type.results) (placed tree.end End ∷ []) writes.arms tt types1 refl refl tt
      (λ ps rest blocks s ft lv.
      let split : code ≡ ps ++ rest = writes.out ∙ s in
      let front : take (length ps) code ≡ ps = ap (take (length ps)) split ∙ take-append_seam ps rest in
      let before : TypesBefore m type b (length ps) (reverse (all_types blocks)) = record { result = result; gives = gives; blocks = blocks; leads = subst (λ z. FlatTypes (body_context m type b) (start ∷ []) z blocks) (sym front) ft; live = subst (λ z. AllLive (dead_behind (false ∷ []) z)) (sym front) lv; types_are = refl } in
      by_rest rest ps blocks split before)
    where
      by_rest : (rest ps : List Placed) (blocks : List OpenBlock) → code ≡ ps ++ rest → TypesBefore m type b (length ps) (reverse (all_types blocks)) → length (all_types blocks) ≤ N
      by_rest [] ps blocks s h = let none = none_behind ps blocks (s ∙ append-nil ps) h in omega (arith, none)
      by_rest (x ∷ rest) ps blocks s h =
          let inside_ : length ps < length b.ops = omega (arith, ap length s, length-append ps (x ∷ rest), code_length b.targets b.ops) in
          omega (arith, low (length ps) (reverse (all_types blocks)) inside_ h, length-reverse (all_types blocks))

  -- so there are as many as the greatest height
  pub slots_are : (most : ℕ) → IsGreatestUpTo m f (length b.ops) most → most ≡ slots_of p f b tree type
  slots_are most g =
      let n = slots_of p f b tree type in
      let there : body_of m f ≡ Some b = subst (λ k. body_of m k ≡ Some b) (sym d.number_is) (body_at m d.number b d.body_is) in
      let ty : type_at m f ≡ Some type = type_is_of p f (defined b tree type) at in
      let low : n ≤ most = least most (λ op types lt h. g.bound op types lt (type, b, ty, there, h)) in
      let high : most ≤ n = ⊎_elim (λ none. omega (arith, none)) (λ s. stands s.0 s.2 s.3 s.4) g.there in
      omega (arith, low, high)
    where
      stands : (op : ℕ) (types : List ValType) → TypesAt m f op types → length types ≡ most → most ≤ slots_of p f b tree type
      stands op types h e =
          let ty : type_at m (length m.imports + d.number) ≡ Some type = subst (λ k. type_at m k ≡ Some type) d.number_is (type_is_of p f (defined b tree type) at) in
          let before : TypesBefore m type b op types = at_of m d.number op type b types ty d.body_is (subst (λ k. TypesAt m k op types) d.number_is h) in
          omega (arith, slots_high p write_ typed_ f b tree type at op types before, e)

-- the body of a function that is defined
body_is : (p : Program) (f : ℕ) (b own : Body) (tree : Tree) (type : FuncType) → function_at p f ≡ Some (defined b tree type) → body_of p.module_ f ≡ Some own → own ≡ b
body_is p f b own tree type at here =
    let d = is_defined p f b tree type at in
    let there : body_of p.module_ f ≡ Some b = subst (λ k. body_of p.module_ k ≡ Some b) (sym d.number_is) (body_at p.module_ d.number b d.body_is) in
    some_is (sym here ∙ there)

pub plan_is : (p : Program) (f : ℕ) (b own : Body) (tree : Tree) (type : FuncType) (most : ℕ) → IsProgram p → length p.module_.bodies ≡ length p.module_.functions → Valid p.module_ →
    function_at p f ≡ Some (defined b tree type) → body_of p.module_ f ≡ Some own → IsGreatestUpTo p.module_ f (length own.ops) most → IsPlan p f b tree type (planned (own_types (type_at p.module_ f) own) most)
plan_is p f b own tree type most w as_many valid at here g =
    let same : own ≡ b = body_is p f b own tree type at here in
    record {
      locals = ap (λ q. own_types q own) (type_is_of p f (defined b tree type) at) ∙ ap (own_types (Some type)) same;
      slots = slots_are p w (typed p w as_many valid) f b tree type at most (subst (λ (x : Body). IsGreatestUpTo p.module_ f (length x.ops) most) same g);
    }

-- where the parts are those of the module
pub plan_from : (m parts : Module) (p : Program) (f : ℕ) (b own : Body) (tree : Tree) (type : FuncType) (most : ℕ) (locals : List ValType) → p.module_ ≡ m → parts ≡ m →
    IsModule parts → Valid m → IsProgram p → function_at p f ≡ Some (defined b tree type) → body_of parts f ≡ Some own → IsGreatestUpTo m f (length own.ops) most → locals ≡ own_types (type_at parts f) own → IsPlan p f b tree type (planned locals most)
plan_from m parts p f b own tree type most locals same parts_are is valid w at here g types =
    let e : parts ≡ p.module_ = parts_are ∙ sym same in
    let as_many : length p.module_.bodies ≡ length p.module_.functions = subst (λ (x : Module). length x.bodies ≡ length x.functions) e is.as_many in
    let there : body_of p.module_ f ≡ Some own = subst (λ x. body_of x f ≡ Some own) e here in
    let most_here : IsGreatestUpTo p.module_ f (length own.ops) most = subst (λ x. IsGreatestUpTo x f (length own.ops) most) (sym same) g in
    let locals_are : locals ≡ own_types (type_at p.module_ f) own = types ∙ ap (λ x. own_types (type_at x f) own) e in
    subst (λ ls. IsPlan p f b tree type (planned ls most)) (sym locals_are) (plan_is p f b own tree type most w as_many (subst Valid (sym same) valid) at there most_here)

-- what stands before an instruction of a body that was read, by the locals of its plan
pub places_from : (m parts : Module) (p : Program) (f op : ℕ) (b own : Body) (tree : Tree) (type : FuncType) (plan : Planned) (places : Option (List Place)) → p.module_ ≡ m → parts ≡ m →
    IsProgram p → function_at p f ≡ Some (defined b tree type) → body_of parts f ≡ Some own → IsPlan p f b tree type plan →
    ((C : Ctx) (targets : List ℕ) (t : Tree) → C.locals ≡ plan.locals → C.source ≡ parts → Writes targets own.ops t → places ≡ before C t.nodes op) → places ≡ before (ctx_of p f b type 0) tree.nodes op
places_from m parts p f op b own tree type plan places same parts_are w at here planned_ are =
    let e : parts ≡ p.module_ = parts_are ∙ sym same in
    let d = is_defined p f b tree type at in
    let is_b : own ≡ b = body_is p f b own tree type at (subst (λ x. body_of x f ≡ Some own) e here) in
    let writes_b : Writes b.targets b.ops tree = tree_there p.module_.bodies p.trees d.number b tree w d.body_is d.tree_is in
    let writes_own : Writes b.targets own.ops tree = subst (λ (x : Body). Writes b.targets x.ops tree) (sym is_b) writes_b in
    are (ctx_of p f b type 0) b.targets tree (sym planned_.locals) (sym e) writes_own
