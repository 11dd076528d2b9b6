-- The rewritten module is within the limits of the decoder on locals, nesting, table and memory.
use Rattle.std.proofs.Common.{◌≡◌, ℕ, suc, ◌+◌, ◌*◌, ◌≤◌, List, [], ◌∷◌, ◌++◌, length, map, Option, Some, None, Bool, true, false, if◌then◌else◌, refl, sym, ap, subst, arith, slice_get, leb-true, length-append, replicate}
use Rattle.std.proofs.lemmas.List.{length-replicate}
use Rattle.std.specs.Prelude.{sum}
use Rattle.std.specs.List.{AllByRecursion}
use Rattle.wasm_syntax.specs.declared.value.ValType.{ValType}
use Rattle.wasm_syntax.specs.declared.value.ValType.TheVariants.{I32, I64}
use Rattle.wasm_syntax.specs.declared.parts.FuncType.{FuncType}
use Rattle.wasm_syntax.specs.declared.parts.Body.{Body}
use Rattle.wasm_syntax.specs.declared.module.ModuleParts.{ModuleParts as Module}
use Rattle.wasm_syntax.specs.Tree.{Tree}
use Rattle.wasm_syntax.specs.Module.{Program, defined, function_at, type_at, declared_locals, option_then, function_types}
use Rattle.wasm_syntax.specs.Sizes.{local_count, nesting}
use Rattle.wasm_syntax.specs.declared.parts.Limits.{Limits}
use Rattle.rewrite_bodies.specs.Numbering.{import_count, can_double, doubles}
use Rattle.rewrite_bodies.proofs.Doubled.{AllTrue, and_left, limits_double}
use Rattle.rewrite_bodies.specs.calls.Slots.{added, groups, ctx_of, slots_of}
use Rattle.rewrite_bodies.specs.calls.Guards.{helper, helper_type}
use Rattle.wasm_laws.proofs.Lists.{at_of, there_at}
use Rattle.wasm_laws.proofs.Safe.{Typed}
use Rattle.rewrite_modules.specs.calls.Given.{Given}
use Rattle.rewrite_modules.specs.calls.Instrument.{new_module, new_body, new_nodes}
use Rattle.rewrite_modules.specs.Interface.{doubled}
use Rattle.rewrite_modules.specs.calls.FlatCode.{body_of}
use Rattle.rewrite_modules.specs.calls.Wrappers.{wrapper}
use Rattle.rewrite_modules.specs.Instrumentable.{program_of, Instrumentable}
use Rattle.rewrite_modules.specs.calls.LowSizes.{LowSizes}
use Rattle.rewrite_modules.proofs.Links.{declared-append, declared-groups, is_defined, sizes_fit}
use Rattle.rewrite_modules.proofs.Modules.{module_given}
use Rattle.rewrite_modules.proofs.Theorem.{startable_given, ready_given}
use Rattle.rewrite_modules.proofs.ValidModule.{From, there_from, new_bodies}
use Rattle.rewrite_modules.proofs.Depths.{low_body, low_wrapper, low_helper, body_low, low_nesting}
use Rattle.wasm_syntax.proofs.Bodies.{tree_there, declared_length}

length-added : (n : ℕ) → length (added n) ≡ 2 * n + 5
length-added n =
    omega (arith, length-append (replicate (n + 3) I32) (replicate (n + 2) I64), length-replicate {A = ValType} (n + 3) I32, length-replicate {A = ValType} (n + 2) I64)

pub type_in : (m : Module) (f : ℕ) (type : FuncType) → type_at m f ≡ Some type → (t : ℕ) × (slice_get m.types t ≡ Some type)
type_in m f type e = inside (slice_get (function_types m) f) e
  where
    inside : (o : Option ℕ) → option_then o (λ t. slice_get m.types t) ≡ Some type → (t : ℕ) × (slice_get m.types t ≡ Some type)
    inside None e = absurd (cc)
    inside (Some t) e = (t, e)

all_from : {A : Type 0} (P : A → Type 0) (k : ℕ) (xs : List A) → From (λ i x. P x) k xs → AllByRecursion P xs
all_from P k [] h = tt
all_from P k (x ∷ xs) h = (h.0, all_from P (suc k) xs h.1)

from_both : {A : Type 0} (P Q : ℕ → A → Type 0) (k : ℕ) (xs : List A) → From (λ i x. P i x × Q i x) k xs → From P k xs × From Q k xs
from_both P Q k [] h = (tt, tt)
from_both P Q k (x ∷ xs) h = let r = from_both P Q (suc k) xs h.1 in ((h.0.0, r.0), (h.0.1, r.1))

module _ (m : Module) (x : Instrumentable m) where
  abbrev p : Program
  p = program_of m x.whole

  abbrev m' : Module
  m' = new_module p

  given : Given p
  given = module_given m x

  typed_ : Typed p
  typed_ = (startable_given p given).typed

  abbrev Few : ℕ → Body → Type 0
  Few i b = local_count (type_at m' (import_count m + 3 + i)) b ≤ 16384

  abbrev Shallow : ℕ → Body → Type 0
  Shallow i b = nesting b ≤ 1024

  abbrev Small : ℕ → Body → Type 0
  Small i b = Few i b × Shallow i b

  few_by : (i : ℕ) (b : Body) (type : FuncType) → type_at m' (import_count m + 3 + i) ≡ Some type → length type.params + sum (map (λ g. g.count) b.groups) ≤ 16384 → Few i b
  few_by i b type e le = subst (λ o. local_count o b ≤ 16384) (sym e) le

  rewritten_small : (i : ℕ) (b : Body) (tree : Tree) (type : FuncType) → function_at p (import_count m + i) ≡ Some (defined b tree type) → type_at m' (import_count m + 3 + i) ≡ Some type → Small i (new_body p (import_count m + i) (Some (defined b tree type)))
  rewritten_small i b tree type at ty =
      let f = import_count m + i in
      let d = is_defined p f b tree type at in
      let slots = slots_of p f b tree type in
      let z = sizes_fit p (ready_given p given) f b tree type d at in
      let gs = b.groups in
      let n : sum (map (λ g. g.count) (gs ++ groups slots)) ≡ length (declared_locals gs) + (2 * slots + 5) =
      omega (arith, declared_length (gs ++ groups slots), ap length (declared-append gs (groups slots)), length-append (declared_locals gs) (declared_locals (groups slots)), ap length (declared-groups slots), length-added slots) in
      let old = length-append type.params (declared_locals gs) in
      let w = tree_there m.bodies x.whole.trees d.number b tree x.whole.write d.body_is d.tree_is in
      let deep = at_of (λ body. nesting body ≤ 1000) m.bodies d.number b x.lightness.shallow d.body_is in (
        few_by i (body_of (gs ++ groups slots) (new_nodes p f b tree type)) type ty (omega (arith, n, old, z.0, z.1, given.few_locals, given.few_heights)),
        (let low = low_nesting (gs ++ groups slots) (new_nodes p f b tree type) 1024 (low_body (ctx_of p f b type slots) 1000 tree.nodes (body_low b tree 1000 w.out deep)) in omega (arith, low)),
      )

  wrapper_small : (i f : ℕ) (type : FuncType) → type_at m' (import_count m + 3 + i) ≡ Some type → type_at m f ≡ Some type → Small i (body_of [] (wrapper m f))
  wrapper_small i f type ty old =
      let t = type_in m f type old in
      let few = at_of (λ type. length type.params ≤ 1000) m.types t.0 type x.lightness.few_parameters t.1 in
      (few_by i (body_of [] (wrapper m f)) type ty (omega (arith, few)), (let low = low_nesting [] (wrapper m f) 1 (low_wrapper 0 m f) in omega (arith, low)))

  helper_small : (i t : ℕ) → type_at m' (import_count m + 3 + i) ≡ Some helper_type → Small i (body_of [] (helper m t))
  helper_small i t ty = (few_by i (body_of [] (helper m t)) helper_type ty (omega arith), (let low = low_nesting [] (helper m t) 4 (low_helper 0 m t) in omega (arith, low)))

  small_bodies : From Small 0 m'.bodies
  small_bodies = new_bodies p (ready_given p given) x.valid typed_ x.whole.write x.no_export_collision Small rewritten_small wrapper_small helper_small

  twice_small : (ls : List Limits) → AllTrue (map can_double ls) → AllByRecursion (λ l. l.min ≤ 65536) (map doubled ls)
  twice_small [] h = tt
  twice_small (l ∷ ls) h = (leb-true (2 * l.min) 65536 (and_left _ _ h.0), twice_small ls h.1)

  tables_small : AllByRecursion (λ l. l.min ≤ 65536) m'.tables
  tables_small = by (doubles m) refl
    where
      by : (q : Bool) → doubles m ≡ q → AllByRecursion (λ l. l.min ≤ 65536) (if q then map doubled m.tables else m.tables)
      by false d = x.limits_.tables
      by true d = twice_small m.tables (limits_double m d)

  pub new_sizes : LowSizes (new_module (program_of m x.whole))
  new_sizes =
      let both = from_both Few Shallow 0 m'.bodies small_bodies in
      let n : length m'.imports ≡ import_count m + 3 = length-append m.imports _ in
      record {
        locals = λ i b e. subst (λ k. local_count (type_at m' (k + i)) b ≤ 16384) (sym n) (there_at (Few i) m'.bodies i b (there_from Few 0 m'.bodies i i (omega arith) both.0) e);
        nested = all_from (λ b. nesting b ≤ 1024) 0 m'.bodies both.1;
        tables = tables_small;
        memories = x.limits_.memories;
      }
