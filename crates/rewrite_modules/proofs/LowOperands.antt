-- The operands of a rewritten module are few.
use Rattle.std.proofs.Common.{◌≡◌, ℕ, zero, suc, ◌+◌, ◌*◌, ◌-◌, ◌≤◌, List, [], ◌∷◌, ◌++◌, length, map, reverse, Option, Some, None, refl, sym, ap, ◌∙◌, subst, arith, slice_get, option_to_list, length-append, false}
use Rattle.std.specs.Prelude.{bytes_eq, codes}
use Rattle.std.specs.List.{AllByRecursion}
use Rattle.std.proofs.lemmas.List.{length-reverse}
use Rattle.wasm_syntax.specs.declared.value.ValType.{ValType}
use Rattle.wasm_syntax.specs.declared.parts.FuncType.{FuncType}
use Rattle.wasm_syntax.specs.declared.parts.Body.{Body}
use Rattle.wasm_syntax.specs.declared.module.ModuleParts.{ModuleParts as Module}
use Rattle.wasm_syntax.specs.Tree.{Unreachable, Nodes, stop, jump, Tree, Writes, code_of}
use Rattle.wasm_syntax.specs.Module.{Program, IsModule, IsProgram, Function, imported, defined, function_at, type_at, AllWrite}
use Rattle.wasm_syntax.specs.Machine.{result_of}
use Rattle.wasm_syntax.specs.Static.{Spot, Live}
use Rattle.wasm_syntax.specs.Typing.{Types, IsBody, body_context}
use Rattle.wasm_syntax.specs.Valid.{Valid}
use Rattle.wasm_syntax.specs.Sizes.{parameter_count}
use Rattle.wasm_laws.proofs.Lists.{at_of, all_append}
use Rattle.wasm_laws.proofs.Safe.{Typed, one_result}
use Rattle.wasm_laws.proofs.Unique.{one_tree}
use Rattle.rewrite_bodies.specs.Numbering.{import_count, mapped, value_import, frame_import, global_types, wrapped, helped}
use Rattle.rewrite_bodies.specs.calls.Slots.{Ctx, ctx_of, slots_of, greatest}
use Rattle.rewrite_bodies.specs.calls.Pieces.{const, i32, call, tree_of}
use Rattle.rewrite_bodies.specs.calls.Guards.{renew, helper}
use Rattle.rewrite_bodies.specs.calls.Rewrite.{body}
use Rattle.rewrite_bodies.specs.calls.Typed.{in_body, original}
use Rattle.rewrite_bodies.specs.calls.Agreement.{Room}
use Rattle.rewrite_bodies.proofs.TypedPieces.{at_labels}
use Rattle.rewrite_modules.specs.calls.Bare.{bare_tree, bare}
use Rattle.wasm_syntax.specs.SameCode.{code_alone}
use Rattle.rewrite_modules.specs.calls.Given.{Given}
use Rattle.rewrite_modules.specs.calls.Instrument.{instrument, new_module, new_tree, each}
use Rattle.rewrite_modules.specs.Instrumentable.{program_of, Instrumentable}
use Rattle.rewrite_modules.specs.calls.LowSizes.{LowHeights}
use Rattle.rewrite_modules.specs.calls.Wrappers.{get_all, tell_globals, lower_flag, end_of_dump, after_wrapped, wrapper_nodes, wrapper}
use Rattle.rewrite_modules.proofs.Bounds.{room_of}
use Rattle.rewrite_modules.proofs.Heights.{heights_low}
use Rattle.rewrite_modules.proofs.FineBodies.{fine_at, gives_one}
use Rattle.rewrite_modules.proofs.Links.{Ready, is_defined, sizes_fit, function_type_kept, import_types, frame_types}
use Rattle.rewrite_modules.proofs.Modules.{module_given}
use Rattle.rewrite_modules.proofs.NewSizes.{type_in}
use Rattle.rewrite_modules.proofs.Spots.{at_spots}
use Rattle.rewrite_modules.proofs.StackPieces.{renewed_under, u_body, helper_under}
use Rattle.rewrite_modules.proofs.Stacks.{Under, Under_call, fewer, under_bare, bare_under, few_at}
use Rattle.rewrite_modules.proofs.Theorem.{startable_given, ready_given}
use Rattle.rewrite_modules.proofs.ValidBodies.{offers}
use Rattle.rewrite_modules.proofs.ValidModule.{HasType, wrapped_types, all_any}
use Rattle.rewrite_modules.proofs.WrittenOut.{program_bare, same_bare, instrument_bare}
use Rattle.pm_text.proofs.Lists.{some_is}

-- ---- lists

all_each : {A B : Type 0} (P : B → Type 0) (go : ℕ → B) (k : ℕ) (xs : List A) → ((f : ℕ) → P (go f)) → AllByRecursion P (each go k xs)
all_each P go k [] h = tt
all_each P go k (x ∷ xs) h = (h k, all_each P go (suc k) xs h)

all_to : {A B : Type 0} (Q : A → Type 0) (P : B → Type 0) (f : A → B) (xs : List A) → ((x : A) → Q x → P (f x)) → AllByRecursion Q xs → AllByRecursion P (map f xs)
all_to Q P f [] h a = tt
all_to Q P f (x ∷ xs) h a = (h x a.0, all_to Q P f xs h a.1)

all_from_map : {A B : Type 0} (P : B → Type 0) (Q : A → Type 0) (f : A → B) (xs : List A) → ((x : A) → P (f x) → Q x) → AllByRecursion P (map f xs) → AllByRecursion Q xs
all_from_map P Q f [] h a = tt
all_from_map P Q f (x ∷ xs) h a = (h x a.0, all_from_map P Q f xs h a.1)

-- the tree of a body, which has what all trees have
tree_with : (P : Tree → Type 0) (bodies : List Body) (trees : List Tree) (i : ℕ) (body : Body) → AllWrite bodies trees → AllByRecursion P trees → slice_get bodies i ≡ Some body → (tree : Tree) × Writes body.targets body.ops tree × P tree
tree_with P [] trees i body w a e = absurd (cc)
tree_with P (b ∷ bs) [] i body w a e = absurd w
tree_with P (b ∷ bs) (t ∷ ts) zero body w a e = let z : b ≡ body = cc in (t, subst (λ b. Writes b.targets b.ops t) z w.0, a.0)
tree_with P (b ∷ bs) (t ∷ ts) (suc i) body w a e = tree_with P bs ts i body w.1 a.1 e

-- ---- the trees of the rewritten module

module _ (p : Program) (ready : Ready p) (valid : Valid p.module_) (typed : Typed p) (whole : IsProgram p) (free : AllByRecursion (λ e. bytes_eq e.name (codes "coredump.memory") ≡ false) p.module_.exports) (N : ℕ) (high : 2 * (greatest p).1 + 16 ≤ N) (few_of : (t : ℕ) (type : FuncType) → slice_get p.module_.types t ≡ Some type → length type.params + 16 ≤ N) where
  abbrev m : Module
  m = p.module_

  room : 16 ≤ N
  room = omega (arith, high)

  abbrev m' : Module
  m' = new_module p

  abbrev U : ℕ → Nodes → Type 0
  U h nodes = Under m' N h nodes

  few : (f : ℕ) (type : FuncType) → type_at m f ≡ Some type → length type.params + 16 ≤ N
  few f type e = let t = type_in m f type e in few_of t.0 type t.1

  -- the parameters
  u_all : (x n h : ℕ) (k : Nodes) → n + h ≤ N → U (n + h) k → U h (get_all x n k)
  u_all x zero h k le u = fewer m' N k (0 + h) h (omega arith) u
  u_all x (suc n) h k le u = (omega (arith, le), u_all (suc x) n (1 + (h - 0)) k (omega (arith, le)) (fewer m' N k (suc n + h) (n + (1 + (h - 0))) (omega arith) u))

  u_globals : (x : ℕ) (ts : List ValType) (k : Nodes) → U 1 k → U 1 (tell_globals m x ts k)
  u_globals x [] k u = u
  u_globals x (t ∷ ts) k u =
      let rest = tell_globals m (suc x) ts k in
      let called : U 2 (call (value_import m t) rest) = (omega (arith, room), subst (λ q. Under_call q 2 (λ j. Under m' N j rest)) (sym (import_types p ready t)) (u_globals (suc x) ts k u)) in
      (omega (arith, room), called)

  u_end : U 1 (end_of_dump m)
  u_end =
      let last = lower_flag m (jump 0 Unreachable stop) in
      let lowered : U 1 last = (omega (arith, room), (omega (arith, room), (omega (arith, room), tt))) in
      let called : U 5 (call (frame_import m) last) = (omega (arith, room), subst (λ q. Under_call q 5 (λ j. Under m' N j last)) (sym (frame_types p ready)) lowered) in
      u_globals 0 (global_types m) (const (i32 255) (const (i32 0) (const (i32 0) (const (i32 (length m.globals)) (call (frame_import m) last))))) (omega (arith, room), (omega (arith, room), (omega (arith, room), (omega (arith, room), called))))

  u_after : U 1 (after_wrapped m)
  u_after = (omega (arith, room), (omega (arith, room), u_end, omega (arith, room), omega (arith, room)))

  wrapper_under : (f : ℕ) → HasType p ready valid typed whole free f → U 0 (wrapper m f)
  wrapper_under f h =
      let type = h.0 in
      let n = length type.params in
      let low = few f type h.1 in
      let fn = typed.functions f type h.1 in
      let one : length type.results ≤ 1 = subst (λ q. length q.results ≤ 1) fn.2 (typed.few f fn.0 fn.1) in
      let k = call (mapped m f) (after_wrapped m) in
      let behind : U (length type.results + (n + 0 - n)) (after_wrapped m) = fewer m' N (after_wrapped m) 1 (length type.results + (n + 0 - n)) (omega (arith, one)) u_after in
      let called : U (n + 0) k = (omega (arith, low), subst (λ q. Under_call q (n + 0) (λ j. Under m' N j (after_wrapped m))) (sym (function_type_kept p ready f type h.1)) behind) in
      let renewed_ : U 0 (renew m (get_all 0 n k)) = renewed_under m' N m.memories m 0 (get_all 0 n k) (omega (arith, room)) (u_all 0 n 0 k (omega (arith, low)) called) in
      let all : U 0 (wrapper_nodes m f n) = (omega arith, (omega (arith, room), renewed_)) in
      subst (λ x. U 0 (wrapper_nodes m f x)) (sym (ap parameter_count h.1)) all

  new_under : (f : ℕ) (q : Option Function) → function_at p f ≡ q → U 0 (new_tree p f q).nodes
  new_under f None e = omega arith
  new_under f (Some (imported i type)) e = omega arith
  new_under f (Some (defined b tree type)) e =
      let d = is_defined p f b tree type e in
      let slots = slots_of p f b tree type in
      let C : Ctx = ctx_of p f b type slots in
      let one : reverse type.results ≡ option_to_list (result_of type) = one_result type.results (typed.few f (defined b tree type) e) in
      let ty : Types (original C (in_body C.result ∷ [])) tree.nodes [] (option_to_list C.result) = subst (λ z. Types (at_labels m C.locals z (z ∷ [])) tree.nodes [] z) one (typed.bodies f b tree type e) in
      let z = sizes_fit p ready f b tree type d e in
      let fits : Room C [] tree.nodes = room_of (ctx_of p f b type 0) slots tree.nodes [] (ready.static d.number tree d.tree_is) (omega arith) in
      u_body C m' _ (offers p ready typed f b tree type e) N (omega (arith, high, z.1)) tree.nodes fits ty

  abbrev LowTree : Tree → Type 0
  LowTree tree = Under m' N 0 tree.nodes

  pub trees_under : AllByRecursion LowTree (instrument p).trees
  trees_under =
      all_append LowTree (each (λ f. new_tree p f (function_at p f)) (import_count m) m.bodies) _ (all_each LowTree (λ f. new_tree p f (function_at p f)) (import_count m) m.bodies (λ f. new_under f (function_at p f) refl))
      (all_append LowTree (map (λ f. tree_of (wrapper m f)) (wrapped m)) _ (all_to (HasType p ready valid typed whole free) LowTree (λ f. tree_of (wrapper m f)) (wrapped m) (λ f h. wrapper_under f h) (wrapped_types p ready valid typed whole free))
      (all_to (λ (t : ℕ). Unit {0}) LowTree (λ t. tree_of (helper m t)) (helped p) (λ t h. helper_under m' N room m t) (all_any (λ (t : ℕ). Unit {0}) (helped p) (λ t. tt))))

-- ---- each module that is the same but for offsets

module _ (m other : Module) (x : Instrumentable m) (too : IsModule other) (valid : Valid other) (same : code_alone (new_module (program_of m x.whole)) ≡ code_alone other) where
  abbrev p : Program
  p = program_of m x.whole

  abbrev rewritten : Module
  rewritten = new_module p

  given : Given p
  given = module_given m x

  typed_ : Typed p
  typed_ = (startable_given p given).typed

  abbrev N : ℕ
  N = 2016

  high_ : 2 * (greatest p).1 + 16 ≤ N
  high_ = let k = heights_low p x.whole.write typed_ x.lightness.heights x.lightness.heights_are 1000 x.lightness.low in omega (arith, k)

  few_types : (t : ℕ) (type : FuncType) → slice_get m.types t ≡ Some type → length type.params + 16 ≤ N
  few_types t type e = let few = at_of (λ type. length type.params ≤ 1000) m.types t type x.lightness.few_parameters e in omega (arith, few)

  rewritten_trees : AllByRecursion (λ tree. Under rewritten N 0 tree.nodes) (instrument p).trees
  rewritten_trees = trees_under p (ready_given p given) x.valid typed_ x.whole.write x.no_export_collision N high_ few_types

  trees : AllByRecursion (λ tree. Under other N 0 tree.nodes) too.trees
  trees =
      let q = program_of other too in
      let e : bare q ≡ bare (instrument p) = same_bare q (instrument p) (program_bare q too.write) (instrument_bare p given.program typed_) (sym same) in
      let bares : AllByRecursion (λ tree. Under rewritten N 0 tree.nodes) (map bare_tree (instrument p).trees) = all_to (λ tree. Under rewritten N 0 tree.nodes) (λ tree. Under rewritten N 0 tree.nodes) bare_tree (instrument p).trees (λ tree u. under_bare rewritten N tree.nodes 0 u) rewritten_trees in
      let others : AllByRecursion (λ tree. Under rewritten N 0 tree.nodes) (map bare_tree too.trees) = subst (AllByRecursion (λ tree. Under rewritten N 0 tree.nodes)) (sym (ap (λ z. z.trees) e)) bares in
      all_from_map (λ tree. Under rewritten N 0 tree.nodes) (λ tree. Under other N 0 tree.nodes) bare_tree too.trees (λ tree u. bare_under rewritten other N (λ f. ap (λ z. type_at z f) same) (ap (λ z. z.types) same) tree.nodes 0 u) others

  pub low_heights : LowHeights other
  low_heights i op b type types at lt ty before =
      let k = tree_with (λ tree. Under other N 0 tree.nodes) other.bodies too.trees i b too.write trees at in
      let tree = k.0 in
      let fine = fine_at other i b valid at in
      let one : fine.0 ≡ type = some_is (sym fine.1 ∙ ty) in
      let is = subst (λ z. IsBody other z b (code_of b.targets b.ops)) one fine.2 in
      let trees_same : is.tree ≡ tree = one_tree (code_of b.targets b.ops) is.tree tree is.writes k.1 in
      let typed : Types (body_context other type b) tree.nodes [] (reverse type.results) = subst (λ z. Types (body_context other type b) z.nodes [] (reverse type.results)) trees_same is.typed in
      let gives = gives_one other (length other.imports + i) type valid ty in
      let spots : (s : Spot) → Live (body_context other type b) tree.nodes [] [] s → length (s.here ++ s.outside) ≤ N = λ s l. (let n = few_at N (body_context other type b) tree.nodes [] [] s k.2 l in omega (arith, n, length-append s.here s.outside)) in
      let all = at_spots (λ us. length us ≤ N) other type b tree (result_of type) gives k.1 typed (omega arith) spots op types before in
      omega (arith, all.2, ap length all.1, length-reverse all.0)
