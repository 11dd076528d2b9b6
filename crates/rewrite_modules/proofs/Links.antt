-- The rewritten module has what the simulation asks for.
use Rattle.std.proofs.Common.{◌≡◌, ℕ, zero, suc, ◌+◌, ◌-◌, ◌*◌, ◌<◌, ◌≤◌, ◌==◌, List, [], ◌∷◌, ◌++◌, length, map, Option, Some, None, Bool, true, false, nat_lt, refl, sym, ap, ◌∙◌, subst, subst₂, arith, length-append, append-nil, ◌⊎◌, inl, inr, slice_get, option_map, if◌then◌else◌, ltb-true, lt-ltb, le-ltb, replicate, unwrap_or, true≢false}
use Rattle.wasm_syntax.specs.declared.value.ValType.{ValType}
use Rattle.wasm_syntax.specs.declared.value.ValType.TheVariants.{I32, I64}
use Rattle.wasm_syntax.specs.declared.value.Value.{Value}
use Rattle.wasm_syntax.specs.declared.value.Value.TheVariants as values
use Rattle.wasm_syntax.specs.declared.parts.FuncType.{FuncType}
use Rattle.wasm_syntax.specs.declared.parts.Body.{Body}
use Rattle.wasm_syntax.specs.declared.parts.Import.{Import}
use Rattle.wasm_syntax.specs.Numbers.{type_of, number}
use Rattle.wasm_syntax.specs.Tree.{Tree}
use Rattle.wasm_syntax.specs.declared.module.ModuleParts.{ModuleParts as Module}
use Rattle.wasm_syntax.specs.Module.{Program, Function, imported, defined, function_at, type_at, declared_locals, option_then, defined_at, imported_at, function_types}
use Rattle.wasm_syntax.specs.Host.{World, told, answer, collector_call, if_none}
use Rattle.wasm_syntax.specs.declared.host.CollectorCall.TheVariants as collector_calls
use Rattle.wasm_syntax.specs.Machine.{result_of, function_type, host_call}
use Rattle.rewrite_bodies.specs.Numbering.{import_count, mapped, value_import, frame_import, place_in, global_types, helper_base, helped, value_type, frame_type, wrapped, wrapper_base}
use Rattle.rewrite_bodies.specs.calls.Slots.{added, ctx_of, groups, slots_of, sizes, most, greatest}
use Rattle.std.proofs.lemmas.List.{length-map}
use Rattle.rewrite_bodies.specs.calls.Agreement.{Has}
use Rattle.std.proofs.lemmas.Bool.{eqb-true}
use Rattle.std.proofs.lemmas.Bool.Decides.{leb_tells}
use Rattle.dump_write.specs.Collected.{value_call}
use Rattle.rewrite_bodies.specs.calls.Pieces.{tree_of}
use Rattle.rewrite_bodies.specs.calls.Guards.{helper_type, helper}
use Rattle.rewrite_bodies.specs.calls.Standing.{Linked, Speaks, ImportLinked, HelperLinked, Stands}
use Rattle.std.specs.Prelude.{bytes_eq, codes}
use Rattle.std.proofs.lemmas.Option.{slice_get-map, slice_get_within}
use Rattle.std.proofs.lemmas.Grind.{flat_map-append}
use Rattle.wasm_syntax.specs.Run.{engine}
use Rattle.rewrite_modules.specs.Collector.{collector_import}
use Rattle.rewrite_modules.specs.calls.Instrument.{each, new_body, new_tree, new_module, instrument, wrapper_type}
use Rattle.rewrite_modules.specs.calls.FlatCode.{body_of}
use Rattle.rewrite_modules.specs.calls.Wrappers.{wrapper}
use Rattle.rewrite_bodies.proofs.DerivedSteps.{defined_type}
use Rattle.rewrite_modules.proofs.Bounds.{Static, room_of}
use Rattle.wasm_laws.proofs.Lists.{get_within}
use Rattle.pm_text.proofs.Lists.{get_front}
use Rattle.wasm_syntax.proofs.Types.{then_found, map_found}

-- ---- lists

pub get_right : {A : Type 0} (xs ys : List A) (i n : ℕ) → n ≡ length xs + i → slice_get (xs ++ ys) n ≡ slice_get ys i
get_right [] ys i n e = let z : n ≡ i = omega (arith, e) in ap (slice_get ys) z
get_right (x ∷ xs) ys i n e = let z : n ≡ suc (length xs + i) = omega (arith, e) in rw z (get_right xs ys i (length xs + i) refl)

pub get_each : {A B : Type 0} (go : ℕ → B) (k : ℕ) (xs : List A) (i : ℕ) (x : A) → slice_get xs i ≡ Some x → slice_get (each go k xs) i ≡ Some (go (k + i))
get_each go k [] i x e = absurd (cc)
get_each go k (y ∷ xs) zero x e = let z : k ≡ k + 0 = omega arith in ap (λ n. Some (go n)) z
get_each go k (y ∷ xs) (suc i) x e = let z : suc k + i ≡ k + suc i = omega arith in get_each go (suc k) xs i x e ∙ ap (λ n. Some (go n)) z

pub length-each : {A B : Type 0} (go : ℕ → B) (k : ℕ) (xs : List A) → length (each go k xs) ≡ length xs
length-each go k [] = refl
length-each go k (x ∷ xs) = ap suc (length-each go (suc k) xs)

pub place_has : (t : ℕ) (ts : List ℕ) → Has t ts → slice_get ts (place_in t ts) ≡ Some t
place_has t [] h = absurd (omega (arith, h))
place_has t (u ∷ us) h = by_eq (t == u) refl (place_has t us)
  where
    by_eq : (q : Bool) → (t == u) ≡ q → (Has t us → slice_get us (place_in t us) ≡ Some t) → slice_get (u ∷ us) (place_in t (u ∷ us)) ≡ Some t
    by_eq true e ih = let z : t ≡ u = eqb-true t u e in rw e (ap Some (sym z))
    by_eq false e ih = rw e (ih (omega (arith, rw e at h)))

pub declared-append : (a b : List _) → declared_locals (a ++ b) ≡ declared_locals a ++ declared_locals b
declared-append a b = flat_map-append (λ g. replicate g.count g.vtype) a b

pub declared-groups : (n : ℕ) → declared_locals (groups n) ≡ added n
declared-groups n = ap (λ (z : List ValType). replicate (n + 3) I32 ++ z) (append-nil (replicate (n + 2) I64))

-- ---- the functions of a program

-- an imported function
pub record IsImport (p : Program) (f : ℕ) (i : Import) (type : FuncType) : Type 0 where
  pub low : nat_lt f (import_count p.module_) ≡ true
  pub import : slice_get p.module_.imports f ≡ Some i
  pub type_is : slice_get p.module_.types i.ftype ≡ Some type

pub record IsDefined (p : Program) (f : ℕ) (b : Body) (tree : Tree) (type : FuncType) : Type 0 where
  pub high : nat_lt f (import_count p.module_) ≡ false
  pub t : ℕ
  pub number : ℕ
  pub number_is : f ≡ import_count p.module_ + number
  pub function : slice_get p.module_.functions number ≡ Some t
  pub type_is : slice_get p.module_.types t ≡ Some type
  pub body_is : slice_get p.module_.bodies number ≡ Some b
  pub tree_is : slice_get p.trees number ≡ Some tree

abbrev AsImport : Function → Import → FuncType → Type 0
AsImport (imported i type) i' type' = (i ≡ i') × (type ≡ type')
AsImport (defined b tree type) i' type' = ⊥

abbrev AsDefined : Function → Body → Tree → FuncType → Type 0
AsDefined (imported i type) b' tree' type' = ⊥
AsDefined (defined b tree type) b' tree' type' = (b ≡ b') × (tree ≡ tree') × (type ≡ type')

module _ (p : Program) (f : ℕ) where
  abbrev n : ℕ
  n = import_count p.module_

  imported_of : (fn : Function) → imported_at p.module_ f ≡ Some fn → (i : Import) × (type : FuncType) × (fn ≡ imported i type) × (slice_get p.module_.imports f ≡ Some i) × (slice_get p.module_.types i.ftype ≡ Some type)
  imported_of fn e =
      let a = then_found (slice_get p.module_.imports f) (λ i. option_map (imported i) (slice_get p.module_.types i.ftype)) fn e in
      let b = map_found (slice_get p.module_.types a.0.ftype) (imported a.0) fn a.2 in
      (a.0, b.0, sym b.2, a.1, b.1)

  defined_of : (j : ℕ) (fn : Function) → defined_at p j ≡ Some fn → (t : ℕ) × (type : FuncType) × (b : Body) × (tree : Tree) × (fn ≡ defined b tree type) × (slice_get p.module_.functions j ≡ Some t) × (slice_get p.module_.types t ≡ Some type) × (slice_get p.module_.bodies j ≡ Some b) × (slice_get p.trees j ≡ Some tree)
  defined_of j fn e =
      let a = then_found (slice_get p.module_.functions j) _ fn e in
      let b = then_found (slice_get p.module_.types a.0) _ fn a.2 in
      let c = then_found (slice_get p.module_.bodies j) _ fn b.2 in
      let d = map_found (slice_get p.trees j) _ fn c.2 in
      (a.0, b.0, c.0, d.0, sym d.2, a.1, b.1, c.1, d.1)

  by_low : (q : Bool) (fn : Function) → nat_lt f n ≡ q → (if q then imported_at p.module_ f else defined_at p (f - n)) ≡ Some fn → ((i : Import) × (type : FuncType) × (fn ≡ imported i type) × IsImport p f i type) ⊎ ((b : Body) × (tree : Tree) × (type : FuncType) × (fn ≡ defined b tree type) × IsDefined p f b tree type)
  by_low true fn lt e = let a = imported_of fn e in inl (a.0, a.1, a.2, record { low = lt; import = a.3; type_is = a.4 })
  by_low false fn lt e =
      let a = defined_of (f - n) fn e in
      let ge : n ≤ f = elim (leb_tells (suc f) n) [ inl t ↦ absurd (true≢false (sym t.0 ∙ lt)) | inr x ↦ omega (arith, x.1) ] in
      inr (a.2, a.3, a.1, a.4, record { high = lt; t = a.0; number = f - n; number_is = omega (arith, ge); function = a.5; type_is = a.6; body_is = a.7; tree_is = a.8 })

  pub parts_of : (fn : Function) → function_at p f ≡ Some fn → ((i : Import) × (type : FuncType) × (fn ≡ imported i type) × IsImport p f i type) ⊎ ((b : Body) × (tree : Tree) × (type : FuncType) × (fn ≡ defined b tree type) × IsDefined p f b tree type)
  parts_of fn e = by_low (nat_lt f n) fn refl e

  pub import_of : (i : Import) (type : FuncType) → function_at p f ≡ Some (imported i type) → IsImport p f i type
  import_of i type e = elim (parts_of (imported i type) e) [
    | inl a ↦ let x : AsImport (imported a.0 a.1) i type = subst (λ z. AsImport z i type) a.2 (refl, refl) in subst₂ (λ i t. IsImport p f i t) x.0 x.1 a.3
    | inr a ↦ absurd (subst (λ z. AsImport z i type) a.3 (refl, refl))
  ]

  pub is_defined : (b : Body) (tree : Tree) (type : FuncType) → function_at p f ≡ Some (defined b tree type) → IsDefined p f b tree type
  is_defined b tree type e = elim (parts_of (defined b tree type) e) [
    | inl a ↦ absurd (subst (λ z. AsDefined z b tree type) a.2 (refl, refl, refl))
    | inr a ↦
        let x : AsDefined (defined a.0 a.1 a.2) b tree type = subst (λ z. AsDefined z b tree type) a.3 (refl, refl, refl) in
        subst (λ z. IsDefined p f z tree type) x.0 (subst (λ z. IsDefined p f a.0 z type) x.1 (subst (λ z. IsDefined p f a.0 a.1 z) x.2 a.4))
  ]

  -- and back
  pub at_import : (i : Import) (type : FuncType) → IsImport p f i type → function_at p f ≡ Some (imported i type)
  at_import i type h = rw (h.low, h.import, h.type_is) refl

  pub at_defined : (b : Body) (tree : Tree) (type : FuncType) → IsDefined p f b tree type → function_at p f ≡ Some (defined b tree type)
  at_defined b tree type h =
      let z : f - n ≡ h.number = omega (arith, h.number_is) in
      rw (h.high, z, h.function, h.type_is, h.body_is, h.tree_is) refl

type_is_import : (p : Program) (f : ℕ) (i : Import) (type : FuncType) → IsImport p f i type → type_at p.module_ f ≡ Some type
type_is_import p f i type h =
    let a : slice_get (function_types p.module_) f ≡ Some i.ftype = get_front (map (λ i. i.ftype) p.module_.imports) p.module_.functions f i.ftype (slice_get-map (λ i. i.ftype) p.module_.imports f ∙ ap (option_map (λ i. i.ftype)) h.import) in
    rw (a, h.type_is) refl

pub type_is_of : (p : Program) (f : ℕ) (fn : Function) → function_at p f ≡ Some fn → type_at p.module_ f ≡ Some (function_type fn)
type_is_of p f (imported i type) e = type_is_import p f i type (import_of p f i type e)
type_is_of p f (defined b tree type) e = defined_type p f b tree type e

-- what is asked of the old program: as many bodies and trees as functions, no import of the collector's module, and small offsets
pub record Ready (p : Program) : Type 0 where
  pub bodies : length p.module_.bodies ≡ length p.module_.functions
  pub trees : length p.trees ≡ length p.module_.functions
  pub imports : (f : ℕ) (i : Import) → slice_get p.module_.imports f ≡ Some i → bytes_eq i.«module» (codes "coredump") ≡ false
  pub static : (f : ℕ) (tree : Tree) → slice_get p.trees f ≡ Some tree → Static (helped p) tree.nodes

module _ (p : Program) (ready : Ready p) where
  abbrev m : Module
  m = p.module_

  abbrev p' : Program
  p' = instrument p

  abbrev m' : Module
  m' = new_module p

  abbrev nt : ℕ
  nt = length m.types

  imports_many : import_count m' ≡ import_count m + 3
  imports_many = length-append m.imports _

  low_is : (f : ℕ) → f < import_count m + 3 → nat_lt f (import_count m') ≡ true
  low_is f lt = rw imports_many (lt-ltb f (import_count m + 3) lt)

  high_is : (f : ℕ) → import_count m + 3 ≤ f → nat_lt f (import_count m') ≡ false
  high_is f le = rw imports_many (le-ltb f (import_count m + 3) le)

  type_kept : (t : ℕ) (type : FuncType) → slice_get m.types t ≡ Some type → slice_get m'.types t ≡ Some type
  type_kept t type e = get_front m.types _ t type e

  -- ---- imports

  import_kept : (f : ℕ) (i : Import) (type : FuncType) → IsImport p f i type → IsImport p' f i type
  import_kept f i type h = record { low = low_is f (omega (arith, ltb-true f (import_count m) h.low)); import = get_front m.imports _ f i h.import; type_is = type_kept i.ftype type h.type_is }

  pub import_linked : (d : ℕ) (f : ℕ) (i : Import) (type : FuncType) → function_at p f ≡ Some (imported i type) → ImportLinked (engine p false d) (engine p' true (d + 2)) f i type
  import_linked d f i type e =
      let h = import_of p f i type e in
      let k = import_kept f i type h in
      let same : mapped m f ≡ f = rw h.low refl in
      let none : (r : Option ValType) (args : List Value) → if_none r (option_then (slice_get m'.imports f) (λ i. collector_call i args)) ≡ None = λ r args. quiet r args (slice_get m'.imports f) k.import (ready.imports f i h.import) in
      record { target = rw same (at_import p' f i type k); same = same; direct = h.low; unheard = λ args. none (result_of type) args }
    where
      quiet : (r : Option ValType) (args : List Value) (o : Option Import) → o ≡ Some i → bytes_eq i.«module» (codes "coredump") ≡ false → if_none r (option_then o (λ i. collector_call i args)) ≡ None
      quiet None args o e q = rw (e, q) refl
      quiet (Some t) args o e q = refl

  -- ---- the collector's imports

  value_of_type : ValType → Import
  value_of_type I32 = collector_import (codes "value_i32") nt
  value_of_type I64 = collector_import (codes "value_i64") (nt + 1)

  value_is : (t : ValType) → IsImport p' (value_import m t) (value_of_type t) (value_type t)
  unfolding value_of_type
  value_is I32 = record { low = low_is (import_count m + 0) (omega arith); import = get_right m.imports _ 0 (import_count m + 0) refl; type_is = get_right m.types _ 0 nt (omega arith) }
  value_is I64 = record { low = low_is (import_count m + 1) (omega arith); import = get_right m.imports _ 1 (import_count m + 1) refl; type_is = get_right m.types _ 1 (nt + 1) refl }

  frame_is : IsImport p' (frame_import m) (collector_import (codes "frame") (nt + 2)) frame_type
  frame_is = record { low = low_is (import_count m + 2) (omega arith); import = get_right m.imports _ 2 (import_count m + 2) refl; type_is = get_right m.types _ 2 (nt + 2) refl }

  tells_ : (v : Value) (w : World) → answer true m' (host_call (value_import m (type_of v)) (value_of_type (type_of v)) (value_type (type_of v)) (v ∷ [])) w ≡ told (value_call v)
  unfolding value_of_type value_is
  tells_ (values.I32 n) w = rw ((value_is I32).import) refl
  tells_ (values.I64 n) w = rw ((value_is I64).import) refl

  closes_ : (k f o n : ℕ) (w : World) → answer true m' (host_call (frame_import m) (collector_import (codes "frame") (nt + 2)) frame_type (values.I32 k ∷ values.I32 f ∷ values.I32 o ∷ values.I32 n ∷ [])) w ≡ told (collector_calls.Frame k f o n)
  closes_ k f o n w = rw frame_is.import refl

  pub speaks_ : (d : ℕ) → Speaks (engine p' true (d + 2)) m
  speaks_ d = record {
    collects = refl;
    value_imported = value_of_type;
    values_ = λ t. at_import p' (value_import m t) (value_of_type t) (value_type t) (value_is t);
    tells = tells_;
    frame_imported = collector_import (codes "frame") (nt + 2);
    frames_ = at_import p' (frame_import m) _ frame_type frame_is;
    closes = closes_;
  }

  -- ---- the defined functions

  abbrev wrapped_types : List ℕ
  wrapped_types = map (wrapper_type m) (wrapped m)

  -- a defined function of the new module, by its number among them
  defined_there : (number f t : ℕ) (b : Body) (tree : Tree) (type : FuncType) → f ≡ import_count m + (3 + number) → slice_get m'.functions number ≡ Some t → slice_get m'.types t ≡ Some type → slice_get m'.bodies number ≡ Some b → slice_get p'.trees number ≡ Some tree → IsDefined p' f b tree type
  defined_there number f t b tree type e fn ty bd tr =
      record { high = high_is f (omega (arith, e)); t = t; number = number; number_is = omega (arith, e, imports_many); function = fn; type_is = ty; body_is = bd; tree_is = tr }

  defined_kept : (f : ℕ) (b : Body) (tree : Tree) (type : FuncType) → IsDefined p f b tree type → function_at p f ≡ Some (defined b tree type) → IsDefined p' (3 + f) (new_body p f (Some (defined b tree type))) (new_tree p f (Some (defined b tree type))) type
  defined_kept f b tree type h e =
      let j = h.number in
      let at : import_count m + j ≡ f = sym h.number_is in
      let bd : slice_get m'.bodies j ≡ Some (new_body p f (Some (defined b tree type))) = get_front _ _ j _ (get_each (λ f. new_body p f (function_at p f)) (import_count m) m.bodies j b h.body_is ∙ ap (λ z. Some (new_body p z (function_at p z))) at ∙ ap (λ z. Some (new_body p f z)) e) in
      let tr : slice_get p'.trees j ≡ Some (new_tree p f (Some (defined b tree type))) = get_front _ _ j _ (get_each (λ f. new_tree p f (function_at p f)) (import_count m) m.bodies j b h.body_is ∙ ap (λ z. Some (new_tree p z (function_at p z))) at ∙ ap (λ z. Some (new_tree p f z)) e) in
      defined_there j (3 + f) h.t _ _ type (omega (arith, h.number_is)) (get_front m.functions _ j h.t h.function) (type_kept h.t type h.type_is) bd tr

  mapped_high : (f : ℕ) → nat_lt f (import_count m) ≡ false → mapped m f ≡ 3 + f
  mapped_high f e = rw e refl

  most_of : (go : ℕ → ℕ × ℕ) (k : ℕ) (bs : List Body) (i : ℕ) (b : Body) → slice_get bs i ≡ Some b → ((go (k + i)).0 ≤ (most go k bs).0) × ((go (k + i)).1 ≤ (most go k bs).1)
  most_of go k [] i b e = absurd (cc)
  most_of go k (x ∷ bs) zero b e = let z : k + 0 ≡ k = omega arith in rw z (omega arith, omega arith)
  most_of go k (x ∷ bs) (suc i) b e = let z : k + suc i ≡ suc k + i = omega arith in let h = most_of go (suc k) bs i b e in rw z (omega (arith, h.0), omega (arith, h.1))

  abbrev pub half : ℕ
  half = 100 + 4 * ((greatest p).0 + (greatest p).1 + length m.globals)

  pub sizes_fit : (f : ℕ) (b : Body) (tree : Tree) (type : FuncType) → IsDefined p f b tree type → function_at p f ≡ Some (defined b tree type) → (length (type.params ++ declared_locals b.groups) ≤ (greatest p).0) × (slots_of p f b tree type ≤ (greatest p).1)
  sizes_fit f b tree type h e =
      let at : import_count m + h.number ≡ f = sym h.number_is in
      let k = most_of (λ f. sizes p f (function_at p f)) (import_count m) m.bodies h.number b h.body_is in
      let s : sizes p (import_count m + h.number) (function_at p (import_count m + h.number)) ≡ (length (type.params ++ declared_locals b.groups), slots_of p f b tree type) = ap (λ z. sizes p z (function_at p z)) at ∙ ap (sizes p f) e in
      (subst (λ z. z ≤ (greatest p).0) (ap (λ q. q.0) s) k.0, subst (λ z. z ≤ (greatest p).1) (ap (λ q. q.1) s) k.1)

  linked : (d f : ℕ) (b : Body) (tree : Tree) (type : FuncType) → function_at p f ≡ Some (defined b tree type) → Linked (engine p false d) (engine p' true (d + 2)) half (global_types m) f b tree type
  linked d f b tree type e =
      let h = is_defined p f b tree type e in
      let slots = slots_of p f b tree type in
      let z = sizes_fit f b tree type h e in
      record {
        slots = slots;
        small = omega (arith, z.0, z.1);
        narrow = omega (arith, z.0, z.1);
        room = room_of (ctx_of p f b type 0) slots tree.nodes [] (ready.static h.number tree h.tree_is) (omega arith);
        new = new_body p f (Some (defined b tree type));
        locals = declared-append b.groups (groups slots) ∙ ap (λ q. declared_locals b.groups ++ q) (declared-groups slots);
        target = rw (mapped_high f h.high) (at_defined p' (3 + f) _ _ type (defined_kept f b tree type h e));
      }

  -- ---- wrappers and helpers

  bodies_before : length (each (λ f. new_body p f (function_at p f)) (import_count m) m.bodies) ≡ length m.functions
  bodies_before = length-each _ (import_count m) m.bodies ∙ ready.bodies

  trees_before : length (each (λ f. new_tree p f (function_at p f)) (import_count m) m.bodies) ≡ length m.functions
  trees_before = length-each _ (import_count m) m.bodies ∙ ready.bodies

  map_at : {A B : Type 0} (go : A → B) (xs : List A) (i : ℕ) (x : A) → slice_get xs i ≡ Some x → slice_get (map go xs) i ≡ Some (go x)
  map_at go xs i x e = slice_get-map go xs i ∙ ap (option_map go) e

  helper_linked : (d t : ℕ) → Has t (helped p) → HelperLinked (engine p false d) (engine p' true (d + 2)) t
  helper_linked d t has =
      let i = place_in t (helped p) in
      let at = place_has t (helped p) has in
      let w = length (wrapped m) in
      let number = length m.functions + (w + i) in
      let fn : slice_get m'.functions number ≡ Some (nt + 3) = get_right m.functions _ (w + i) number refl ∙ get_right (map (wrapper_type m) (wrapped m)) _ i (w + i) (ap (λ z. z + i) (sym (length-map (wrapped m) (wrapper_type m)))) ∙ map_at (λ u. nt + 3) (helped p) i t at in
      let bd : slice_get m'.bodies number ≡ Some (body_of [] (helper m t)) = get_right _ _ (w + i) number (ap (λ z. z + (w + i)) (sym bodies_before)) ∙ get_right (map (λ f. body_of [] (wrapper m f)) (wrapped m)) _ i (w + i) (ap (λ z. z + i) (sym (length-map (wrapped m) _))) ∙ map_at (λ u. body_of [] (helper m u)) (helped p) i t at in
      let tr : slice_get p'.trees number ≡ Some (tree_of (helper m t)) = get_right _ _ (w + i) number (ap (λ z. z + (w + i)) (sym trees_before)) ∙ get_right (map (λ f. tree_of (wrapper m f)) (wrapped m)) _ i (w + i) (ap (λ z. z + i) (sym (length-map (wrapped m) _))) ∙ map_at (λ u. tree_of (helper m u)) (helped p) i t at in
      record { new = body_of [] (helper m t); locals = refl; target = at_defined p' (helper_base m + i) _ _ helper_type (defined_there number (helper_base m + i) (nt + 3) _ _ helper_type (omega arith) fn (get_right m.types _ 3 (nt + 3) refl) bd tr) }

  -- the wrapper in this place
  pub wrapper_there : (j f : ℕ) (type : FuncType) → slice_get (wrapped m) j ≡ Some f → type_at m f ≡ Some type → function_at p' (wrapper_base m + j) ≡ Some (defined (body_of [] (wrapper m f)) (tree_of (wrapper m f)) type)
  wrapper_there j f type at ty =
      let number = length m.functions + j in
      let a = then_found (slice_get (function_types m) f) (λ t. slice_get m.types t) type ty in
      let lt : j < length (map (wrapper_type m) (wrapped m)) = rw length-map (slice_get_within (wrapped m) j f at) in
      let wt : slice_get (map (wrapper_type m) (wrapped m)) j ≡ Some a.0 = map_at (wrapper_type m) (wrapped m) j f at ∙ ap (λ o. Some (unwrap_or o 0)) a.1 in
      let fn : slice_get m'.functions number ≡ Some a.0 = get_right m.functions _ j number refl ∙ get_front (map (wrapper_type m) (wrapped m)) _ j a.0 wt in
      let bd : slice_get m'.bodies number ≡ Some (body_of [] (wrapper m f)) = get_right _ _ j number (ap (λ z. z + j) (sym bodies_before)) ∙ get_front _ _ j _ (map_at (λ f. body_of [] (wrapper m f)) (wrapped m) j f at) in
      let tr : slice_get p'.trees number ≡ Some (tree_of (wrapper m f)) = get_right _ _ j number (ap (λ z. z + j) (sym trees_before)) ∙ get_front _ _ j _ (map_at (λ f. tree_of (wrapper m f)) (wrapped m) j f at) in
      at_defined p' (wrapper_base m + j) _ _ type (defined_there number (wrapper_base m + j) a.0 _ _ type (omega arith) fn (type_kept a.0 type a.2) bd tr)

  -- ---- types of functions

  imports_types : slice_get (function_types m') 0 ≡ slice_get (function_types m') 0
  imports_types = refl

  low_type : (f : ℕ) (type : FuncType) → f < import_count m → type_at m f ≡ Some type → type_at m' f ≡ Some type
  low_type f type lt e =
      let a = then_found (slice_get (function_types m) f) (λ t. slice_get m.types t) type e in
      let i = get_within m.imports f lt in
      let old : slice_get (function_types m) f ≡ Some i.0.ftype = get_front (map (λ i. i.ftype) m.imports) m.functions f i.0.ftype (map_at (λ i. i.ftype) m.imports f i.0 i.1) in
      let new : slice_get (function_types m') f ≡ Some i.0.ftype = get_front (map (λ i. i.ftype) m'.imports) m'.functions f i.0.ftype (map_at (λ i. i.ftype) m'.imports f i.0 (get_front m.imports _ f i.0 i.1)) in
      rw (new ∙ sym old ∙ a.1, type_kept a.0 type a.2) refl

  high_type : (f : ℕ) (type : FuncType) → import_count m ≤ f → type_at m f ≡ Some type → type_at m' (3 + f) ≡ Some type
  high_type f type le e =
      let a = then_found (slice_get (function_types m) f) (λ t. slice_get m.types t) type e in
      let j = f - import_count m in
      let old : slice_get (function_types m) f ≡ slice_get m.functions j = get_right (map (λ i. i.ftype) m.imports) m.functions j f (omega (arith, le, length-map m.imports (λ i. i.ftype))) in
      let new : slice_get (function_types m') (3 + f) ≡ slice_get m'.functions j = get_right (map (λ i. i.ftype) m'.imports) m'.functions j (3 + f) (omega (arith, le, length-map m'.imports (λ i. i.ftype), imports_many)) in
      rw (new ∙ get_front m.functions _ j a.0 (sym old ∙ a.1), type_kept a.0 type a.2) refl

  type_by : (f : ℕ) (type : FuncType) (q : Bool) → nat_lt f (import_count m) ≡ q → type_at m f ≡ Some type → type_at m' (if q then f else 3 + f) ≡ Some type
  type_by f type true lt e = low_type f type (ltb-true f (import_count m) lt) e
  type_by f type false lt e = high_type f type (elim (leb_tells (suc f) (import_count m)) [ inl t ↦ absurd (true≢false (sym t.0 ∙ lt)) | inr x ↦ omega (arith, x.1) ]) e

  pub function_type_kept : (f : ℕ) (type : FuncType) → type_at m f ≡ Some type → type_at m' (mapped m f) ≡ Some type
  function_type_kept f type e = type_by f type (nat_lt f (import_count m)) refl e

  pub import_types : (t : ValType) → type_at m' (value_import m t) ≡ Some (value_type t)
  import_types t = type_is_import p' (value_import m t) (value_of_type t) (value_type t) (value_is t)

  pub frame_types : type_at m' (frame_import m) ≡ Some frame_type
  frame_types = type_is_import p' (frame_import m) _ frame_type frame_is

  pub helper_type_there : (t : ℕ) → Has t (helped p) → type_at m' (helper_base m + place_in t (helped p)) ≡ Some helper_type
  helper_type_there t has = type_is_of p' (helper_base m + place_in t (helped p)) _ (helper_linked 0 t has).target

  -- the rewritten module stands for the old one
  pub stands : (d : ℕ) → Stands (engine p false d) (engine p' true (d + 2)) half (global_types m)
  stands d = record {
    quiet = refl;
    deeper = omega arith;
    speaks = speaks_ d;
    type_is = type_is_of p;
    functions = linked d;
    imports = import_linked d;
    undirect = λ f b tree type e. (is_defined p f b tree type e).high;
    helpers = helper_linked d;
    entry_types = type_kept;
    function_types_ = function_type_kept;
  }
