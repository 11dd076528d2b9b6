-- The bodies of the rewritten module are well typed.
use Rattle.std.proofs.Common.{◌≡◌, ℕ, zero, suc, ◌<◌, ◌≤◌, List, [], ◌∷◌, ◌++◌, length, map, reverse, Option, Some, None, Bool, true, false, if◌then◌else◌, refl, sym, ap, ◌∙◌, subst, arith, slice_get, option_map, option_to_list, unwrap_or, append_assoc, append-nil, length-append}
use Rattle.std.specs.List.{AllByRecursion}
use Rattle.std.proofs.lemmas.List.{length-map, reverse-append}
use Rattle.wasm_syntax.specs.declared.value.ValType.{ValType}
use Rattle.wasm_syntax.specs.declared.value.ValType.TheVariants.{I32}
use Rattle.wasm_syntax.specs.declared.instruction.Basic.TheVariants.{LocalGet, GlobalGet, GlobalSet}
use Rattle.wasm_syntax.specs.declared.parts.FuncType.{FuncType}
use Rattle.wasm_syntax.specs.declared.parts.Body.{Body}
use Rattle.wasm_syntax.specs.declared.parts.LocalGroup.{LocalGroup}
use Rattle.wasm_syntax.specs.declared.module.ModuleParts.{ModuleParts as Module}
use Rattle.wasm_syntax.specs.Tree.{Unreachable, BrTable, Return, Nodes, stop, basic, jump, block, loop, choose, Tree, IsTree, code_of}
use Rattle.wasm_syntax.specs.Module.{Program, defined, function_at, type_at, declared_locals, option_then, same_functype}
use Rattle.wasm_syntax.specs.Machine.{result_of}
use Rattle.wasm_syntax.specs.Typing.{Context, ◌⇒◌, arrow, Types, IsBody, body_context}
use Rattle.wasm_syntax.specs.Sizes.{parameter_count}
use Rattle.rewrite_bodies.specs.Numbering.{mapped, value_import, frame_import, flag_of, value_type, frame_type, doubles}
use Rattle.rewrite_bodies.specs.calls.Slots.{Ctx, added, groups, ctx_of, slots_of}
use Rattle.rewrite_bodies.specs.calls.Pieces.{i32, call, tree_of}
use Rattle.rewrite_bodies.specs.calls.Guards.{length_of, renew, entry_label, type_label, says, helper, helper_type, first_table}
use Rattle.rewrite_bodies.specs.calls.Typed.{in_body, Offers, original}
use Rattle.rewrite_bodies.proofs.TypedPieces.{Ok, ok_basic, ok_const, ok_if, ok_call, ok_renewed, at_labels}
use Rattle.rewrite_bodies.proofs.TypedNodes.{body_ok}
use Rattle.wasm_laws.proofs.Safe.{Typed, one_result}
use Rattle.rewrite_modules.specs.calls.Bare.{bare_nodes, bare_tree}
use Rattle.rewrite_modules.specs.calls.Instrument.{flag_global, length_global, new_module, new_nodes, new_body}
use Rattle.rewrite_modules.specs.Interface.{doubled}
use Rattle.rewrite_modules.specs.calls.FlatCode.{body_of}
use Rattle.rewrite_modules.specs.calls.Wrappers.{get_all, tell_globals, lower_flag, end_of_dump, after_wrapped, wrapper_nodes, wrapper}
use Rattle.rewrite_modules.proofs.Arms.{tree_body, tree_wrapper, tree_helper, tree_bare}
use Rattle.rewrite_modules.proofs.Bounds.{room_of}
use Rattle.rewrite_modules.proofs.FlatOut.{body_out}
use Rattle.rewrite_modules.proofs.Links.{get_right, declared-append, declared-groups, is_defined, Ready, function_type_kept, import_types, frame_types, helper_type_there}
use Rattle.pm_text.proofs.Lists.{get_front}

-- ---- typing does not look at offsets

pub typed_bare : (nodes : Nodes) (c : Context) (before after : List ValType) → Types c nodes before after → Types c (bare_nodes nodes) before after
typed_bare stop c before after h = h
typed_bare (basic at i rest) c before after h = (h.0, h.1, typed_bare rest c h.0 after h.2)
typed_bare (jump at j rest) c before after h = (h.0, h.1, typed_bare rest c h.0 after h.2)
typed_bare (block at t inner end rest) c before after h = (typed_bare inner _ [] (option_to_list t) h.0, typed_bare rest c (option_to_list t ++ before) after h.1)
typed_bare (loop at t inner end rest) c before after h = (typed_bare inner _ [] (option_to_list t) h.0, typed_bare rest c (option_to_list t ++ before) after h.1)
typed_bare (choose at t a ea b end rest) c before after h =
    (typed_bare a _ [] (option_to_list t) h.0, typed_bare b _ [] (option_to_list t) h.1, h.2, h.3, typed_bare rest c (option_to_list t ++ h.2) after h.4)

pub bare_typed : (nodes : Nodes) (c : Context) (before after : List ValType) → Types c (bare_nodes nodes) before after → Types c nodes before after
bare_typed stop c before after h = h
bare_typed (basic at i rest) c before after h = (h.0, h.1, bare_typed rest c h.0 after h.2)
bare_typed (jump at j rest) c before after h = (h.0, h.1, bare_typed rest c h.0 after h.2)
bare_typed (block at t inner end rest) c before after h = (bare_typed inner _ [] (option_to_list t) h.0, bare_typed rest c (option_to_list t ++ before) after h.1)
bare_typed (loop at t inner end rest) c before after h = (bare_typed inner _ [] (option_to_list t) h.0, bare_typed rest c (option_to_list t ++ before) after h.1)
bare_typed (choose at t a ea b end rest) c before after h =
    (bare_typed a _ [] (option_to_list t) h.0, bare_typed b _ [] (option_to_list t) h.1, h.2, h.3, bare_typed rest c (option_to_list t ++ h.2) after h.4)

-- a body that writes out well-typed nodes
pub written_typed : (m : Module) (type : FuncType) (gs : List LocalGroup) (nodes : Nodes) → IsTree nodes → Types (body_context m type (body_of gs nodes)) nodes [] (reverse type.results) → IsBody m type (body_of gs nodes) (code_of (body_of gs nodes).targets (body_of gs nodes).ops)
written_typed m type gs nodes it ty = record {
  tree = bare_tree (tree_of nodes);
  writes = record { arms = tree_bare nodes it; out = body_out gs nodes };
  typed = typed_bare nodes (body_context m type (body_of gs nodes)) [] (reverse type.results) ty;
}

-- ---- wrappers

-- one type behind the other, the last one topmost
reverse-cons : (t : ValType) (ts s : List ValType) → reverse (t ∷ ts) ++ s ≡ reverse ts ++ t ∷ s
reverse-cons t ts s = ap (λ z. z ++ s) (reverse-append (t ∷ []) ts) ∙ append_assoc (reverse ts) (t ∷ []) s

-- the first so many labels take nothing
abbrev Open : ℕ → List (List ValType) → Type 0
Open zero ls = Unit {0}
Open (suc n) [] = ⊥
Open (suc n) (t ∷ ls) = (t ≡ []) × Open n ls

open_label : (n : ℕ) (ls : List (List ValType)) (l : ℕ) → Open n ls → l < n → slice_get ls l ≡ Some []
open_label zero ls l o lt = absurd (omega (arith, lt))
open_label (suc n) [] l o lt = absurd o
open_label (suc n) (t ∷ ls) zero o lt = ap Some o.0
open_label (suc n) (t ∷ ls) (suc l) o lt = open_label n ls l o.1 (omega (arith, lt))

module _ (m : Module) (locals returns : List ValType) where
  abbrev c0 : List (List ValType) → Context
  c0 labels = at_labels m locals returns labels

  get_all_ok : (labels : List (List ValType)) (z s : List ValType) (done todo : List ValType) (k : Nodes) → locals ≡ done ++ todo → Ok (c0 labels) z (reverse todo ++ s) k → Ok (c0 labels) z s (get_all (length done) (length todo) k)
  get_all_ok labels z s done [] k e h = h
  get_all_ok labels z s done (t ∷ todo) k e h =
      let at : slice_get locals (length done) ≡ Some t = ap (λ x. slice_get x (length done)) e ∙ middle done in
      let n : length (done ++ t ∷ []) ≡ suc (length done) = omega (arith, length-append done (t ∷ [])) in
      let h1 : Ok (c0 labels) z (reverse todo ++ t ∷ s) k = subst (λ x. Ok (c0 labels) z x k) (reverse-cons t todo s) h in
      let rest = get_all_ok labels z (t ∷ s) (done ++ t ∷ []) todo k (e ∙ sym (append_assoc done (t ∷ []) todo)) h1 in
      ok_basic s (LocalGet (length done)) I32 ([] ⇒ t ∷ []) (ap (option_map (λ u. [] ⇒ u ∷ [])) at) (subst (λ x. Ok (c0 labels) z (t ∷ s) (get_all x (length todo) k)) n rest)
    where
      middle : (done : List ValType) → slice_get (done ++ t ∷ todo) (length done) ≡ Some t
      middle [] = refl
      middle (u ∷ done) = middle done

pub tables_many : (p : Program) → length (new_module p).tables ≡ length p.module_.tables
tables_many p = by (doubles p.module_)
  where
    by : (q : Bool) → length (if q then map doubled p.module_.tables else p.module_.tables) ≡ length p.module_.tables
    by false = refl
    by true = length-map p.module_.tables doubled

module _ (p : Program) (ready : Ready p) (typed : Typed p) where
  abbrev m : Module
  m = p.module_

  abbrev m' : Module
  m' = new_module p

  abbrev c1 : List ValType → List ValType → List (List ValType) → Context
  c1 locals returns labels = at_labels m' locals returns labels

  flag_is : slice_get m'.globals (flag_of m) ≡ Some flag_global
  flag_is = get_right m.globals _ 0 (length m.globals) (omega arith)

  length_is : slice_get m'.globals (length_of m) ≡ Some (length_global m)
  length_is = get_right m.globals _ 1 (suc (length m.globals)) (omega arith)

  tell_globals_ok : (locals returns : List ValType) (labels : List (List ValType)) (z s : List ValType) (done todo : List _) (k : Nodes) → m.globals ≡ done ++ todo → Ok (c1 locals returns labels) z s k → Ok (c1 locals returns labels) z s (tell_globals m (length done) (map (λ g. g.vtype) todo) k)
  tell_globals_ok locals returns labels z s done [] k e h = h
  tell_globals_ok locals returns labels z s done (g ∷ todo) k e h =
      let at : slice_get m'.globals (length done) ≡ Some g = get_front m.globals _ (length done) g (ap (λ x. slice_get x (length done)) e ∙ middle done) in
      let n : length (done ++ g ∷ []) ≡ suc (length done) = omega (arith, length-append done (g ∷ [])) in
      let rest = tell_globals_ok locals returns labels z s (done ++ g ∷ []) todo k (e ∙ sym (append_assoc done (g ∷ []) todo)) h in
      ok_basic s (GlobalGet (length done)) I32 ([] ⇒ g.vtype ∷ []) (ap (option_map (λ g. [] ⇒ g.vtype ∷ [])) at)
      (ok_call s (value_import m g.vtype) (value_type g.vtype) (import_types p ready g.vtype) (subst (λ x. Ok (c1 locals returns labels) z s (tell_globals m x (map (λ g. g.vtype) todo) k)) n rest))
    where
      middle : (done : List _) → slice_get (done ++ g ∷ todo) (length done) ≡ Some g
      middle [] = refl
      middle (u ∷ done) = middle done

  wrapper_ok : (f : ℕ) (type : FuncType) → type_at m f ≡ Some type → Types (body_context m' type (body_of [] (wrapper m f))) (wrapper m f) [] (reverse type.results)
  wrapper_ok f type at =
      let locals = type.params ++ [] in
      let returns = reverse type.results in
      let labels = returns ∷ [] in
      let lower_e : arrow (c1 locals returns ([] ∷ labels)) I32 (GlobalSet (flag_of m)) ≡ Some (I32 ∷ [] ⇒ []) = rw flag_is refl in
      let lowered : Ok (c1 locals returns ([] ∷ labels)) [] [] (lower_flag m (jump 0 Unreachable stop)) = ok_const (i32 0) (ok_basic [] (GlobalSet (flag_of m)) I32 (I32 ∷ [] ⇒ []) lower_e (record { typed = ([], tt, refl) })) in
      let end : Ok (c1 locals returns ([] ∷ labels)) [] [] (end_of_dump m) =
      tell_globals_ok locals returns ([] ∷ labels) [] [] [] m.globals _ refl
      (ok_const (i32 255) (ok_const (i32 0) (ok_const (i32 0) (ok_const (i32 (length m.globals)) (ok_call [] (frame_import m) frame_type (frame_types p ready) lowered))))) in
      let flag_e : arrow (c1 locals returns labels) I32 (GlobalGet (flag_of m)) ≡ Some ([] ⇒ I32 ∷ []) = ap (option_map (λ g. [] ⇒ g.vtype ∷ [])) flag_is in
      let after : Ok (c1 locals returns labels) returns (returns ++ []) (after_wrapped m) = ok_basic (returns ++ []) (GlobalGet (flag_of m)) I32 ([] ⇒ I32 ∷ []) flag_e (ok_if end (record { typed = append-nil returns })) in
      let called = ok_call [] (mapped m f) type (function_type_kept p ready f type at) after in
      let gets = get_all_ok m' locals returns labels returns [] [] type.params (call (mapped m f) (after_wrapped m)) (append-nil type.params) called in
      let set_e : arrow (c1 locals returns labels) I32 (GlobalSet (flag_of m)) ≡ Some (I32 ∷ [] ⇒ []) = rw flag_is refl in
      let n : parameter_count (type_at m f) ≡ length type.params = ap parameter_count at in
      let renews : Ok (c1 locals returns labels) returns [] (renew m (get_all 0 (length type.params) (call (mapped m f) (after_wrapped m)))) = ok_renewed m (length_global m) m.memories refl length_is refl refl gets in
      let all : Ok (c1 locals returns labels) returns [] (wrapper_nodes m f (length type.params)) = ok_const (i32 0) (ok_basic [] (GlobalSet (flag_of m)) I32 (I32 ∷ [] ⇒ []) set_e renews) in
      (subst (λ x. Ok (c1 locals returns labels) returns [] (wrapper_nodes m f x)) (sym n) all).typed

  pub wrapper_typed : (f : ℕ) (type : FuncType) → type_at m f ≡ Some type → IsBody m' type (body_of [] (wrapper m f)) (code_of (body_of [] (wrapper m f)).targets (body_of [] (wrapper m f)).ops)
  wrapper_typed f type at = written_typed m' type [] (wrapper m f) (tree_wrapper m f) (wrapper_ok f type at)

  -- ---- helpers

  says_ok : (labels : List (List ValType)) (k : ℕ) (z : List ValType) → Types (c1 (I32 ∷ []) (I32 ∷ []) labels) (says k) [] z
  says_ok labels k z =
      let back : Ok (c1 (I32 ∷ []) (I32 ∷ []) labels) z (I32 ∷ []) (jump 0 Return stop) = record { typed = (z, record { below = []; takes = refl }, refl) } in
      (ok_const (i32 k) back).typed

  label_low : (b : Bool) → type_label b < 4
  label_low true = omega arith
  label_low false = omega arith

  entry_low : (t : ℕ) (q : Option ℕ) → entry_label m t q < 4
  entry_low t None = omega arith
  entry_low t (Some g) = by_type (slice_get m.types t) (type_at m g)
    where
      by_two : (type : FuncType) (o : Option FuncType) → unwrap_or (option_map (λ u. type_label (same_functype u type)) o) 0 < 4
      by_two type None = omega arith
      by_two type (Some u) = label_low (same_functype u type)

      by_type : (a b : Option FuncType) → unwrap_or (option_then a (λ type. option_map (λ u. type_label (same_functype u type)) b)) 0 < 4
      by_type None b = omega arith
      by_type (Some type) b = by_two type b

  targets_open : (labels : List (List ValType)) (t : ℕ) (qs : List (Option ℕ)) → Open 4 labels → AllByRecursion (λ n. slice_get labels n ≡ Some []) (map (entry_label m t) qs)
  targets_open labels t [] op = tt
  targets_open labels t (q ∷ qs) op = (open_label 4 labels (entry_label m t q) op (entry_low t q), targets_open labels t qs op)

  helper_ok : (t : ℕ) → Types (c1 (I32 ∷ []) (I32 ∷ []) ((I32 ∷ []) ∷ [])) (helper m t) [] (I32 ∷ [])
  helper_ok t =
      let labels = [] ∷ [] ∷ [] ∷ [] ∷ (I32 ∷ []) ∷ [] in
      let op : Open 4 labels = (refl, (refl, (refl, (refl, tt)))) in
      let go : Ok (c1 (I32 ∷ []) (I32 ∷ []) labels) [] (I32 ∷ []) (jump 0 (BrTable (map (entry_label m t) (first_table m)) 1) stop) = record { typed = ([], ([], refl, targets_open labels t (first_table m) op, record { below = []; takes = refl }), refl) } in
      let first = ok_basic [] (LocalGet 0) I32 ([] ⇒ I32 ∷ []) refl go in
      ((((first.typed, says_ok ([] ∷ [] ∷ [] ∷ (I32 ∷ []) ∷ []) 0 []), says_ok ([] ∷ [] ∷ (I32 ∷ []) ∷ []) 5 []), says_ok ([] ∷ (I32 ∷ []) ∷ []) 6 []), says_ok ((I32 ∷ []) ∷ []) 7 (I32 ∷ []))

  pub helper_typed : (t : ℕ) → IsBody m' helper_type (body_of [] (helper m t)) (code_of (body_of [] (helper m t)).targets (body_of [] (helper m t)).ops)
  helper_typed t = written_typed m' helper_type [] (helper m t) (tree_helper m t) (helper_ok t)

  -- ---- rewritten functions

  module _ (f : ℕ) (b : Body) (tree : Tree) (type : FuncType) (at : function_at p f ≡ Some (defined b tree type)) where
    abbrev slots : ℕ
    slots = slots_of p f b tree type

    abbrev C : Ctx
    C = ctx_of p f b type slots

    abbrev new_locals : List ValType
    new_locals = type.params ++ declared_locals (b.groups ++ groups slots)

    pub offers : Offers C m' new_locals
    offers = record {
      locals_are = ap (λ z. type.params ++ z) (declared-append b.groups (groups slots) ∙ ap (λ z. declared_locals b.groups ++ z) (declared-groups slots)) ∙ sym (append_assoc type.params (declared_locals b.groups) (added slots));
      globals = λ x g e. get_front m.globals _ x g e;
      flag = flag_global;
      flag_there = flag_is;
      flag_type = refl;
      flag_mutable = refl;
      length_ = length_global m;
      length_there = length_is;
      length_type = refl;
      length_mutable = refl;
      memories = refl;
      tables = tables_many p;
      types = λ t type e. get_front m.types _ t type e;
      functions = function_type_kept p ready;
      values = import_types p ready;
      frames = frame_types p ready;
      helpers = helper_type_there p ready;
      one_result = λ g type e. let fn = typed.functions g type e in one_result type.results (subst (λ u. length u.results ≤ 1) fn.2 (typed.few g fn.0 fn.1));
      one_result_of = λ t type e. one_result type.results (typed.few_types t type e);
    }

    pub rewritten_typed : IsTree tree.nodes → IsBody m' type (new_body p f (Some (defined b tree type))) (code_of (new_body p f (Some (defined b tree type))).targets (new_body p f (Some (defined b tree type))).ops)
    rewritten_typed it =
        let old = typed.bodies f b tree type at in
        let one : reverse type.results ≡ option_to_list (result_of type) = one_result type.results (typed.few f (defined b tree type) at) in
        let d = is_defined p f b tree type at in
        let room = room_of (ctx_of p f b type 0) slots tree.nodes [] (ready.static d.number tree d.tree_is) (omega arith) in
        let old1 : Types (original C (in_body C.result ∷ [])) tree.nodes [] (option_to_list C.result) = subst (λ z. Types (at_labels m C.locals z (z ∷ [])) tree.nodes [] z) one old in
        let new1 = body_ok C m' new_locals offers tree.nodes room old1 in
        let new2 : Types (body_context m' type (body_of (b.groups ++ groups slots) (new_nodes p f b tree type))) (new_nodes p f b tree type) [] (reverse type.results) = subst (λ z. Types (at_labels m' new_locals z (z ∷ [])) (new_nodes p f b tree type) [] z) (sym one) new1 in
        written_typed m' type (b.groups ++ groups slots) (new_nodes p f b tree type) (tree_body C tree.nodes it) new2
