-- From a module that is rewritten to its program.
use Rattle.std.proofs.Common.{◌≡◌, ℕ, zero, suc, ◌+◌, ◌*◌, ◌≤◌, Bool, true, false, ◌&&◌, if◌then◌else◌, option_map, List, [], ◌∷◌, length, map, Option, Some, None, refl, ap, subst, slice_get, arith, length-append}
use Rattle.std.specs.Prelude.{sum, find, bytes_eq}
use Rattle.wasm_syntax.specs.declared.instruction.Op.{Op}
use Rattle.wasm_syntax.specs.declared.parts.Body.{Body}
use Rattle.wasm_syntax.specs.declared.instruction.Instr.TheVariants as instrs
use Rattle.wasm_syntax.specs.declared.module.ModuleParts.{ModuleParts as Module}
use Rattle.wasm_syntax.specs.Tree.{Nodes, stop, basic, jump, block, loop, choose, Tree, Item, Plain, End, placed, else_out, write, code_of, Writes, Placed, item_of}
use Rattle.wasm_syntax.specs.Module.{Program, Function, imported, defined, function_at, type_at, declared_locals, AllWrite, is_function}
use Rattle.wasm_syntax.specs.declared.parts.Export.{Export}
use Rattle.wasm_laws.proofs.Validity.{typed}
use Rattle.rewrite_modules.specs.Weight.{exports_weight, start_weight}
use Rattle.rewrite_modules.proofs.Heights.{heights_low}
use Rattle.rewrite_modules.specs.calls.Given.{Given, SmallCode}
use Rattle.rewrite_bodies.specs.Numbering.{entry_weight, import_count}
use Rattle.rewrite_bodies.proofs.Doubled.{table_light}
use Rattle.rewrite_bodies.specs.calls.Slots.{sizes, most}
use Rattle.rewrite_modules.proofs.Links.{is_defined, type_is_of}
use Rattle.rewrite_bodies.specs.calls.Offsets.{SmallOffset}
use Rattle.rewrite_modules.specs.Instrumentable.{program_of, SmallInstr, Instrumentable}
use Rattle.wasm_syntax.specs.Sizes.{local_count}
use Rattle.wasm_syntax.specs.declared.instruction.Instr.{Instr}
use Rattle.std.specs.List.{AllByRecursion}
use Rattle.wasm_syntax.proofs.Bodies.{declared_length}

-- ---- offsets of accesses

abbrev SmallItem : Item → Type 0
SmallItem (Plain i) = SmallOffset i
SmallItem i = Unit {0}

abbrev AllSmall : List Placed → Type 0
AllSmall [] = Unit {0}
AllSmall (x ∷ xs) = SmallItem x.code × AllSmall xs

small_item : (T : List ℕ) (i : Instr) → SmallInstr i → SmallItem (item_of T i)
small_item T (instrs.Basic i) h = h
small_item T (instrs.Jump j) h = tt
small_item T (instrs.Block t) h = tt
small_item T (instrs.Loop t) h = tt
small_item T (instrs.If t) h = tt
small_item T instrs.Else h = tt
small_item T instrs.End h = tt

small_code : (T : List ℕ) (ops : List Op) → AllByRecursion (λ o. SmallInstr o.code) ops → AllSmall (code_of T ops)
small_code T [] h = tt
small_code T (o ∷ os) h = (small_item T o.code h.0, small_code T os h.1)

small_else : (ea : Option ℕ) (arm : List Placed) → AllSmall (else_out ea arm) → AllSmall arm
small_else None arm h = h
small_else (Some at) arm h = h.1

small_write : (nodes : Nodes) (after : List Placed) → AllSmall (write nodes after) → SmallCode nodes × AllSmall after
small_write stop after h = (tt, h)
small_write (basic at i rest) after h = let x = small_write rest after h.1 in ((h.0, x.0), x.1)
small_write (jump at j rest) after h = small_write rest after h.1
small_write (block at t inner end rest) after h =
    let x = small_write inner (placed end End ∷ write rest after) h.1 in
    let y = small_write rest after x.1.1 in
    ((x.0, y.0), y.1)
small_write (loop at t inner end rest) after h =
    let x = small_write inner (placed end End ∷ write rest after) h.1 in
    let y = small_write rest after x.1.1 in
    ((x.0, y.0), y.1)
small_write (choose at t a ea b end rest) after h =
    let arm = write b (placed end End ∷ write rest after) in
    let x = small_write a (else_out ea arm) h.1 in
    let y = small_write b (placed end End ∷ write rest after) (small_else ea arm x.1) in
    let z = small_write rest after y.1.1 in
    ((x.0, y.0, z.0), z.1)

small_body : (body : Body) (tree : Tree) → Writes body.targets body.ops tree → AllByRecursion (λ o. SmallInstr o.code) body.ops → SmallCode tree.nodes
small_body body tree w h = (small_write tree.nodes (placed tree.end End ∷ []) (subst AllSmall w.out (small_code body.targets body.ops h))).0

small_trees : (bodies : List Body) (trees : List Tree) (f : ℕ) (tree : Tree) → AllWrite bodies trees → AllByRecursion (λ body. AllByRecursion (λ o. SmallInstr o.code) body.ops) bodies → slice_get trees f ≡ Some tree → SmallCode tree.nodes
small_trees [] [] f tree w h e = absurd (cc)
small_trees [] (t ∷ ts) f tree w h e = absurd w
small_trees (b ∷ bs) [] f tree w h e = absurd w
small_trees (b ∷ bs) (t ∷ ts) zero tree w h e = let z : t ≡ tree = cc in subst (λ x. SmallCode x.nodes) z (small_body b t w.0 h.0)
small_trees (b ∷ bs) (t ∷ ts) (suc f) tree w h e = small_trees bs ts f tree w.1 h.1 e

-- ---- locals

most_bound : (go : ℕ → ℕ × ℕ) (n : ℕ) → ((f : ℕ) → (go f).0 ≤ n) → (f : ℕ) (bs : List Body) → (most go f bs).0 ≤ n
most_bound go n h f [] = omega arith
most_bound go n h f (b ∷ bs) = let x = h f in let y = most_bound go n h (suc f) bs in omega (arith, x, y)

module _ (m : Module) (x : Instrumentable m) where
  abbrev p : Program
  p = program_of m x.whole

  locals_at : (f : ℕ) (q : Option Function) → function_at p f ≡ q → (sizes p f q).0 ≤ 10000
  locals_at f None e = omega arith
  locals_at f (Some (imported i type)) e = omega arith
  locals_at f (Some (defined b tree type)) e =
      let d = is_defined p f b tree type e in
      let bound : local_count (type_at m (length m.imports + d.number)) b ≤ 10000 = x.lightness.few_locals d.number b d.body_is in
      let tf : type_at m (length m.imports + d.number) ≡ Some type = subst (λ g. type_at m g ≡ Some type) d.number_is (type_is_of p f (defined b tree type) e) in
      let bound' : length type.params + sum (map (λ g. g.count) b.groups) ≤ 10000 = subst (λ o. local_count o b ≤ 10000) tf bound in
      omega (arith, bound', declared_length b.groups, length-append type.params (declared_locals b.groups))

  -- the globals weigh, where something is exported
  globals_weigh : (name : List ℕ) (es : List Export) (f : ℕ) → option_map (λ e. e.index) (find (λ e. is_function e.kind && bytes_eq e.name name) es) ≡ Some f → 16 * length m.globals ≤ exports_weight m es
  globals_weigh name [] f h = absurd (cc)
  globals_weigh name (e ∷ es) f h = by_test (is_function e.kind) (bytes_eq e.name name) h (globals_weigh name es f)
    where
      by_test : (q b : Bool) → option_map (λ e. e.index) (if q && b then Some e else find (λ e. is_function e.kind && bytes_eq e.name name) es) ≡ Some f → (option_map (λ e. e.index) (find (λ e. is_function e.kind && bytes_eq e.name name) es) ≡ Some f → 16 * length m.globals ≤ exports_weight m es) → 16 * length m.globals ≤ (if q then entry_weight m e.index else 0) + exports_weight m es
      by_test true true h ih = omega arith
      by_test true false h ih = omega arith
      by_test false b h ih = omega (arith, ih h)

  -- and where there is a start function
  pub few_at_start : (s : ℕ) → m.start ≡ Some s → length m.globals ≤ 20000000
  few_at_start s e =
      let some : start_weight m m.start ≡ entry_weight m s = ap (start_weight m) e in
      omega (arith, some, x.lightness.light)

  pub module_given : Given (program_of m x.whole)
  module_given = record {
    program = x.whole.write;
    as_many = x.whole.as_many;
    valid = x.valid;
    no_collision = x.no_collision;
    small = λ f tree e. small_trees m.bodies x.whole.trees f tree x.whole.write x.small e;
    pages = x.limits_.memories;
    few_locals = most_bound (λ f. sizes p f (function_at p f)) 10000 (λ f. locals_at f (function_at p f) refl) (import_count m) m.bodies;
    few_heights = heights_low p x.whole.write (typed p x.whole.write x.whole.as_many x.valid) x.lightness.heights x.lightness.heights_are 1000 x.lightness.low;
    few_globals_doubled = λ d. (let t = table_light m d in omega (arith, t, x.lightness.light));
    few_globals = λ name f e. (let g = globals_weigh name m.exports f e in omega (arith, g, x.lightness.light));
  }
