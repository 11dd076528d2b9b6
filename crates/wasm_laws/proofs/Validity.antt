-- A valid module is well typed, and its instance starts well.
use Rattle.std.proofs.Common.{◌≡◌, ℕ, zero, suc, ◌+◌, ◌-◌, ◌<◌, ◌≤◌, Bool, true, false, ◌&&◌, nat_lt, List, [], ◌∷◌, ◌++◌, map, length, take, drop, replicate, reverse, slice_get, if◌then◌else◌, Option, Some, None, option_map, refl, sym, ap, ap₂, subst, ◌∙◌, arith, ltb-true, ltb-false, unwrap_or}
use Rattle.std.proofs.lemmas.List.{length-map}
use Rattle.std.specs.Prelude.{IfSome, find, fold, bytes_eq}
use Rattle.std.specs.List.{AllByRecursion}
use Rattle.wasm_syntax.specs.declared.value.ValType.{ValType}
use Rattle.wasm_syntax.specs.declared.value.Value.{Value}
use Rattle.wasm_syntax.specs.declared.instruction.Basic.TheVariants as basics
use Rattle.wasm_syntax.specs.declared.instruction.Instr.{Instr}
use Rattle.wasm_syntax.specs.declared.instruction.Instr.TheVariants as instr
use Rattle.wasm_syntax.specs.declared.instruction.Op.{Op}
use Rattle.wasm_syntax.specs.declared.parts.FuncType.{FuncType}
use Rattle.wasm_syntax.specs.declared.parts.Body.{Body}
use Rattle.wasm_syntax.specs.declared.parts.Limits.{Limits}
use Rattle.wasm_syntax.specs.declared.parts.Import.{Import}
use Rattle.wasm_syntax.specs.declared.parts.Global.{Global}
use Rattle.wasm_syntax.specs.declared.parts.Export.{Export}
use Rattle.wasm_syntax.specs.declared.parts.ExportKind.{ExportKind}
use Rattle.wasm_syntax.specs.declared.parts.ExportKind.TheVariants as kinds
use Rattle.wasm_syntax.specs.declared.parts.ElementSeg.{ElementSeg}
use Rattle.wasm_syntax.specs.declared.place.Place.TheVariants.{TypeAt, ImportAt, Declaration, GlobalAt, ExportAt, Start, ElementAt}
use Rattle.wasm_syntax.specs.declared.place.Place.TheVariants as places
use Rattle.wasm_syntax.specs.declared.host.Reply.{Reply}
use Rattle.wasm_syntax.specs.Numbers.{type_of, types}
use Rattle.wasm_syntax.specs.Tree.{Tree, code_of}
use Rattle.wasm_syntax.specs.declared.module.ModuleParts.{ModuleParts as Module}
use Rattle.wasm_syntax.specs.Module.{AllWrite, IsProgram, Program, Function, imported, defined, function_at, defined_at, imported_at, function_types, type_at, option_then, function_export, is_function, const_value, const_code}
use Rattle.wasm_syntax.specs.Machine.{zero_of, function_type}
use Rattle.wasm_syntax.specs.Typing.{Types, body_context}
use Rattle.wasm_syntax.specs.Valid.{ConstTypes, FuncTypeFine, ImportFine, DeclarationFine, GlobalFine, ExportFine, ElementFine, BodyFine, There, defined_index, index_space, Valid}
use Rattle.wasm_syntax.specs.Run.{initial_globals, over, table_min, start_table, start_memory, start_world, element_at}
use Rattle.wasm_laws.proofs.Progress.{HasMemory, WorldFine}
use Rattle.wasm_laws.proofs.Safe.{Typed}
use Rattle.wasm_laws.proofs.Never.{Startable}
use Rattle.wasm_laws.proofs.Unique.{one_tree}
use Rattle.wasm_laws.proofs.Lists.{all_of, at_of, there_at, all_append, all_take, all_drop, all_replicate, all_map, found_in, get_within, get_front, get_map}
use Rattle.pm_text.proofs.Lists.{some_is, get_behind}
use Rattle.std.proofs.lemmas.Option.{slice_get_within}
use Rattle.wasm_syntax.proofs.Bodies.{tree_there}
use Rattle.wasm_syntax.proofs.Types.{then_found, map_found}

-- ---- trees

same_count : (bodies : List Body) (trees : List Tree) → AllWrite bodies trees → length bodies ≡ length trees
same_count [] [] w = refl
same_count [] (t ∷ trees) w = absurd w
same_count (b ∷ bodies) [] w = absurd w
same_count (b ∷ bodies) (t ∷ trees) w = ap suc (same_count bodies trees w.1)

-- ---- options

-- ---- constant expressions

abbrev IsDefined : Function → Type 0
IsDefined (imported i t) = ⊥
IsDefined (defined b tr t) = Unit {0}

const_type : (globals : List Global) (i : Instr) (t : ValType) (v : Value) → globals ≡ [] → ConstTypes globals i t → type_of (unwrap_or (const_code [] i) v) ≡ t
const_type globals (instr.Basic (basics.Const w)) t v e h = h
const_type globals (instr.Basic (basics.GlobalGet x)) t v e h = absurd (let z : slice_get [] x ≡ Some h.0 = subst (λ gs. slice_get gs x ≡ Some h.0) e h.1 in cc)
const_type globals i t v e h = absurd h

first_op : (ops : List Op) (i : Instr) (v : Value) → map (λ o. o.code) ops ≡ i ∷ instr.End ∷ [] → unwrap_or (const_value [] ops) v ≡ unwrap_or (const_code [] i) v
first_op [] i v e = absurd (cc)
first_op (o ∷ ops) i v e = ap (λ is. unwrap_or (const_code [] (head_of is)) v) e
  where
    head_of : List Instr → Instr
    head_of [] = instr.End
    head_of (i ∷ is) = i

module _ (m : Module) (valid : Valid m) where
  abbrev N : ℕ
  N = length (function_types m)

  -- ---- functions have types

  declared : (i : ℕ) → There m.functions i (DeclarationFine m)
  declared i =
      let h = valid (Declaration (length m.imports + i)) in
      let e : defined_index m (length m.imports + i) ≡ Some i = by_test (nat_lt (length m.imports + i) (length m.imports)) refl in
      subst (λ o. IfSome o (λ i. There m.functions i (DeclarationFine m))) e h
    where
      by_test : (b : Bool) → nat_lt (length m.imports + i) (length m.imports) ≡ b → (if b then None else Some (length m.imports + i - length m.imports)) ≡ Some i
      by_test true t = absurd (let z = ltb-true (length m.imports + i) (length m.imports) t in omega (arith, z))
      by_test false t = let z : length m.imports + i - length m.imports ≡ i = omega arith in ap Some z

  pub typed_functions : AllByRecursion (λ t. t < length m.types) (function_types m)
  typed_functions = all_append (λ t. t < length m.types) (map (λ i. i.ftype) m.imports) m.functions
      (all_map (λ t. t < length m.types) (λ i. i.ftype) m.imports (all_of (ImportFine m) m.imports (λ i. valid (ImportAt i))))
      (all_of (DeclarationFine m) m.functions declared)

  pub has_type : (f : ℕ) → f < N → (type : FuncType) × (type_at m f ≡ Some type)
  has_type f lt =
      let t = get_within (function_types m) f lt in
      let u = get_within m.types t.0 (at_of (λ t. t < length m.types) (function_types m) f t.0 typed_functions t.1) in
      (u.0, rw (t.1, u.1) refl)

  few_results : (t : ℕ) (type : FuncType) → slice_get m.types t ≡ Some type → length type.results ≤ 1
  few_results t type e = there_at FuncTypeFine m.types t type (valid (TypeAt t)) e

  -- ---- exports and the start function

  abbrev InSpace : Export → Type 0
  InSpace e = e.index < index_space m e.kind

  exports_inside : AllByRecursion InSpace m.exports
  exports_inside = all_of InSpace m.exports (λ i. inside i (slice_get m.exports i) (valid (ExportAt i)))
    where
      inside : (i : ℕ) (o : Option Export) → IfSome o (ExportFine m i) → IfSome o InSpace
      inside i None h = tt
      inside i (Some e) h = h.0

  of_kind : (kind : ExportKind) (index : ℕ) → index < index_space m kind → is_function kind ≡ true → index < N
  of_kind kinds.Function index h e = h
  of_kind kinds.Table index h e = absurd (cc)
  of_kind kinds.Memory index h e = absurd (cc)
  of_kind kinds.Global index h e = absurd (cc)

  both_first : (a b : Bool) → (a && b) ≡ true → a ≡ true
  both_first true b e = refl
  both_first false b e = absurd (cc)

  pub exported : (name : List ℕ) (f : ℕ) → function_export m name ≡ Some f → (type : FuncType) × (type_at m f ≡ Some type)
  exported name f h =
      let e = map_found (find (λ e. is_function e.kind && bytes_eq e.name name) m.exports) (λ e. e.index) f h in
      let x = found_in InSpace (λ e. is_function e.kind && bytes_eq e.name name) m.exports e.0 exports_inside e.1 in
      has_type f (subst (λ i. i < N) e.2 (of_kind e.0.kind e.0.index x.0 (both_first (is_function e.0.kind) (bytes_eq e.0.name name) x.1)))

  pub start_type : (s : ℕ) → m.start ≡ Some s → type_at m s ≡ Some (record { params = []; results = [] })
  start_type s e = subst (λ o. IfSome o (λ s. type_at m s ≡ Some (record { params = []; results = [] }))) e (valid places.Start)

  -- ---- the world at the start

  global_value : (g : Global) → GlobalFine g → type_of (unwrap_or (const_value [] g.init.ops) (zero_of g.vtype)) ≡ g.vtype
  global_value g h = ap type_of (first_op g.init.ops h.0 (zero_of g.vtype) h.1) ∙ const_type [] h.0 g.vtype (zero_of g.vtype) refl h.2

  global_types : (gs : List Global) → AllByRecursion GlobalFine gs → types (initial_globals gs) ≡ map (λ g. g.vtype) gs
  global_types [] h = refl
  global_types (g ∷ gs) h = ap₂ (λ t ts. t ∷ ts) (global_value g h.0) (global_types gs h.1)

  has_memory : (ls : List Limits) → ls ≡ m.memories → HasMemory ls (start_memory m)
  has_memory [] e = rw (sym e) refl
  has_memory (l ∷ ls) e = rw (sym e) tt

  -- an entry of a table is a function of the module, or there is none
  abbrev IsEntry : Option ℕ → Type 0
  IsEntry None = Unit {0}
  IsEntry (Some f) = f < N

  entries_of : (fs : List ℕ) → AllByRecursion (λ f. f < N) fs → AllByRecursion IsEntry (map Some fs)
  entries_of fs h = all_map IsEntry Some fs h

  abbrev InModule : ElementSeg → Type 0
  InModule e = AllByRecursion (λ f. f < N) e.functions

  each_inside : (fs : List ℕ) → ((i f : ℕ) → slice_get fs i ≡ Some f → f < N) → AllByRecursion (λ f. f < N) fs
  each_inside [] h = tt
  each_inside (f ∷ fs) h = (h zero f refl, each_inside fs (λ i g e. h (suc i) g e))

  elements_inside : AllByRecursion InModule m.elements
  elements_inside = all_of InModule m.elements (λ i. inside (slice_get m.elements i) (valid (ElementAt i)))
    where
      inside : (o : Option ElementSeg) → IfSome o (ElementFine m) → IfSome o InModule
      inside None h = tt
      inside (Some e) h = each_inside e.functions h.2

  put_entries : (table : List (Option ℕ)) (at : ℕ) (fs : List ℕ) → AllByRecursion IsEntry table → AllByRecursion (λ f. f < N) fs → AllByRecursion IsEntry (over table at (map Some fs))
  put_entries table at fs h k =
      all_append IsEntry (take at table) (map Some fs ++ drop (at + length (map Some fs)) table) (all_take IsEntry at table h)
      (all_append IsEntry (map Some fs) (drop (at + length (map Some fs)) table) (entries_of fs k) (all_drop IsEntry (at + length (map Some fs)) table h))

  table_entries : (es : List ElementSeg) (table : List (Option ℕ)) → AllByRecursion InModule es → AllByRecursion IsEntry table → AllByRecursion IsEntry (fold (λ table e. over table (element_at m e) (map Some e.functions)) table es)
  table_entries [] table h k = k
  table_entries (e ∷ es) table h k = table_entries es (over table (element_at m e) (map Some e.functions)) h.1 (put_entries table (element_at m e) e.functions k h.0)

  pub starts_fine : (replies : List Reply) → WorldFine m (start_world m replies)
  starts_fine replies = record {
    globals = global_types m.globals (all_of GlobalFine m.globals (λ i. valid (GlobalAt i)));
    memory = has_memory m.memories refl;
    table = λ i g e. has_type g (at_of IsEntry (start_table m) i (Some g) (table_entries m.elements (replicate (table_min m.tables) None) elements_inside (all_replicate IsEntry (table_min m.tables) None tt)) e);
  }

-- ---- functions

module _ (p : Program) (is_program : IsProgram p) (as_many : length p.module_.bodies ≡ length p.module_.functions) (valid : Valid p.module_) where
  abbrev M : Module
  M = p.module_

  abbrev imports : ℕ
  imports = length M.imports

  -- the type of a function that is imported, and of one that is defined
  import_type : (g : ℕ) → g < imports → (t : ℕ) → slice_get (function_types M) g ≡ Some t → (i : Import) × (slice_get M.imports g ≡ Some i) × (i.ftype ≡ t)
  import_type g lt t e =
      let inside : g < length (map (λ i. i.ftype) M.imports) = rw (length-map M.imports (λ i. i.ftype)) lt in
      map_found (slice_get M.imports g) (λ i. i.ftype) t (sym (get_map (λ i. i.ftype) M.imports g) ∙ sym (get_front (map (λ i. i.ftype) M.imports) M.functions g inside) ∙ e)

  defined_type : (g : ℕ) → imports ≤ g → slice_get (function_types M) g ≡ slice_get M.functions (g - imports)
  defined_type g le =
      let n : length (map (λ i. i.ftype) M.imports) ≡ imports = length-map M.imports (λ i. i.ftype) in
      let e : g ≡ length (map (λ i. i.ftype) M.imports) + (g - imports) = omega (arith, n) in
      ap (slice_get (function_types M)) e ∙ get_behind (map (λ i. i.ftype) M.imports) M.functions (g - imports)

  abbrev at_or : Bool → ℕ → Option Function
  at_or b g = if b then imported_at M g else defined_at p (g - imports)

  is_defined : (i t : ℕ) (type : FuncType) (body : Body) (tree : Tree) → slice_get M.functions i ≡ Some t → slice_get M.types t ≡ Some type → slice_get M.bodies i ≡ Some body → slice_get p.trees i ≡ Some tree → defined_at p i ≡ Some (defined body tree type)
  is_defined i t type body tree f m b r = rw (f, m, b, r) refl

  -- each type has its function
  functions_there : (g : ℕ) (type : FuncType) → type_at M g ≡ Some type → (fn : Function) × (function_at p g ≡ Some fn) × (function_type fn ≡ type)
  functions_there g type e = by_test (nat_lt g imports) refl (then_found (slice_get (function_types M) g) (λ t. slice_get M.types t) type e)
    where
      by_test : (b : Bool) → nat_lt g imports ≡ b → ((t : ℕ) × (slice_get (function_types M) g ≡ Some t) × (slice_get M.types t ≡ Some type)) → (fn : Function) × (at_or b g ≡ Some fn) × (function_type fn ≡ type)
      by_test true q x =
          let i = import_type g (ltb-true g imports q) x.0 x.1 in
          let t : slice_get M.types i.0.ftype ≡ Some type = ap (slice_get M.types) i.2 ∙ x.2 in
          (imported i.0 type, rw (i.1, t) refl, refl)
      by_test false q x =
          let le : imports ≤ g = ltb-false g imports q in
          let t : slice_get M.functions (g - imports) ≡ Some x.0 = sym (defined_type g le) ∙ x.1 in
          let lt = slice_get_within M.functions (g - imports) x.0 t in
          let body = get_within M.bodies (g - imports) (omega (arith, lt, as_many)) in
          let tree = get_within p.trees (g - imports) (omega (arith, lt, as_many, same_count M.bodies p.trees is_program)) in
          (defined body.0 tree.0 type, is_defined (g - imports) x.0 type body.0 tree.0 t x.2 body.1 tree.1, refl)

  -- what is known of a function
  module _ (g : ℕ) where
    abbrev Known : Function → Type 0
    Known (imported i type) = length type.results ≤ 1
    Known (defined body tree type) = Types (body_context M type body) tree.nodes [] (reverse type.results) × (length type.results ≤ 1)

    known_body : (i t : ℕ) (type : FuncType) (body : Body) (tree : Tree) → defined_index M g ≡ Some i → slice_get (function_types M) g ≡ Some t → slice_get M.types t ≡ Some type → slice_get M.bodies i ≡ Some body → slice_get p.trees i ≡ Some tree → Types (body_context M type body) tree.nodes [] (reverse type.results)
    known_body i t type body tree d ft mt b tr =
        let there : There M.bodies i (BodyFine M g) = subst (λ o. IfSome o (λ i. There M.bodies i (BodyFine M g))) d (valid (places.Function g 0)) in
        let fine = there_at (BodyFine M g) M.bodies i body there b in
        let same : fine.0 ≡ type = some_is (sym fine.1 ∙ type_is) in
        let one : fine.2.tree ≡ tree = one_tree (code_of body.targets body.ops) fine.2.tree tree fine.2.writes (tree_there M.bodies p.trees i body tree is_program b tr) in
        subst (λ u. Types (body_context M u body) tree.nodes [] (reverse u.results)) same (subst (λ x. Types (body_context M fine.0 body) x.nodes [] (reverse fine.0.results)) one fine.2.typed)
      where
        type_is : type_at M g ≡ Some type
        type_is = rw (ft, mt) refl

    known : (fn : Function) → function_at p g ≡ Some fn → Known fn
    known fn e = by_test (nat_lt g imports) refl e
      where
        by_test : (b : Bool) → nat_lt g imports ≡ b → at_or b g ≡ Some fn → Known fn
        by_test true q h =
            let i = then_found (slice_get M.imports g) (λ i. option_map (imported i) (slice_get M.types i.ftype)) fn h in
            let t = map_found (slice_get M.types i.0.ftype) (imported i.0) fn i.2 in
            subst Known t.2 (few_results M valid i.0.ftype t.0 t.1)
        by_test false q h =
            let le : imports ≤ g = ltb-false g imports q in
            let t = then_found (slice_get M.functions (g - imports)) (λ t. option_then (slice_get M.types t) (λ type. option_then (slice_get M.bodies (g - imports)) (λ body. option_map (λ tree. defined body tree type) (slice_get p.trees (g - imports))))) fn h in
            let u = then_found (slice_get M.types t.0) (λ type. option_then (slice_get M.bodies (g - imports)) (λ body. option_map (λ tree. defined body tree type) (slice_get p.trees (g - imports)))) fn t.2 in
            let b = then_found (slice_get M.bodies (g - imports)) (λ body. option_map (λ tree. defined body tree u.0) (slice_get p.trees (g - imports))) fn u.2 in
            let r = map_found (slice_get p.trees (g - imports)) (λ tree. defined b.0 tree u.0) fn b.2 in
            let d : defined_index M g ≡ Some (g - imports) = rw q refl in
            subst Known r.2 (known_body (g - imports) t.0 u.0 b.0 r.0 d (defined_type g le ∙ t.1) u.1 b.1 r.1, few_results M valid t.0 u.0 u.1)

    few_of : (fn : Function) → Known fn → length (function_type fn).results ≤ 1
    few_of (imported i type) k = k
    few_of (defined body tree type) k = k.1

  pub typed : Typed p
  typed = record {
    bodies = λ g body tree type e. (known g (defined body tree type) e).0;
    functions = functions_there;
    few = λ g fn e. few_of g fn (known g fn e);
    few_types = few_results M valid;
  }

  pub startable : Startable p
  startable = record { typed = typed; world = starts_fine M valid; exported = exported M valid; start = start_type M valid }
