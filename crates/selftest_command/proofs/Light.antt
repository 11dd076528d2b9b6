-- A module with the code of a self-test is light enough to be rewritten.
use Rattle.std.proofs.Common.{◌≡◌, ℕ, zero, suc, ◌+◌, ◌*◌, ◌≤◌, List, [], ◌∷◌, ◌++◌, length, map, slice_get, if◌then◌else◌, Option, Some, None, refl, sym, ap, subst, ◌∙◌, arith, max}
use Rattle.std.specs.Prelude.{codes, bytes_eq, sum, sum_by}
use Rattle.std.specs.List.{flat_map, position_from, AllByRecursion}
use Rattle.std.proofs.lemmas.Bool.{le-ltb}
use Rattle.std.proofs.lemmas.List.Sums.{sum_by-cons}
use Rattle.wasm_syntax.specs.declared.quantity.Quantity.{Quantity}
use Rattle.wasm_syntax.specs.declared.quantity.Quantity.TheVariants.{InstrumentLocals, InstrumentParameters, InstrumentHeight, InstrumentNesting, Weight}
use Rattle.wasm_syntax.specs.declared.instruction.Instr.{Instr}
use Rattle.wasm_syntax.specs.declared.instruction.Instr.TheVariants as instr
use Rattle.wasm_syntax.specs.declared.instruction.Basic.TheVariants as basics
use Rattle.wasm_syntax.specs.declared.instruction.Jump.TheVariants as jumps
use Rattle.wasm_syntax.specs.declared.instruction.Op.{Op}
use Rattle.wasm_syntax.specs.declared.parts.ExportKind.TheVariants as kinds
use Rattle.wasm_syntax.specs.declared.parts.Export.{Export}
use Rattle.wasm_syntax.specs.declared.parts.FuncType.{FuncType}
use Rattle.wasm_syntax.specs.declared.parts.Body.{Body}
use Rattle.wasm_syntax.specs.declared.module.ModuleParts.{ModuleParts as Module}
use Rattle.wasm_syntax.specs.SameCode.{global_code, code_alone}
use Rattle.wasm_syntax.specs.Quantity.{greatest}
use Rattle.wasm_syntax.specs.Module.{type_at, option_then}
use Rattle.wasm_syntax.specs.Run.{table_min}
use Rattle.wasm_syntax.specs.Sizes.{parameter_count, local_count, depth_behind, deepest, nesting}
use Rattle.wasm_syntax.specs.Valid.{Valid}
use Rattle.wasm_format_laws.specs.calls.Sized.{ops_length, code_length}
use Rattle.rewrite_bodies.specs.Numbering.{distinct}
use Rattle.rewrite_modules.specs.Weight.{height_at, AreHeights, op_weight, ops_weight, bodies_weight, type_used, exports_weight, start_weight, weight}
use Rattle.rewrite_bodies.specs.Numbering.{extra}
use Rattle.rewrite_modules.specs.Multiple.{most_locals, highest, most_operands, multiple}
use Rattle.index_map.specs.Limits.{function_locals, function_heights, first_over, first_excess}
use Rattle.instrument.specs.Refusal.{export_taken, at_import, at_export, at_limit, refusal}
use Rattle.selftest_command.specs.Selftest.{selftest}
use Rattle.selftest_command.proofs.RunsOn.{two_to_one}
use Rattle.selftest_command.proofs.Bodies.{Small, IsSmall, IsLike, all_small, height_few}
use Rattle.wasm_bytes.specs.Refusals.{◌orelse◌}

-- ---- limits

over_none : (what : Quantity) (ns : List ℕ) → AllByRecursion (λ k. k ≤ greatest what) ns → first_over what ns ≡ None
over_none what [] h = refl
over_none what (n ∷ ns) h = ap (λ q. if q then Some (record { what = what; count = n }) else first_over what ns) (le-ltb (greatest what) n h.0) ∙ over_none what ns h.1

-- the parts of a module that bodies do not hold
pub record Surrounds (m : Module) : Type 0 where
  pub tables : m.tables ≡ []
  pub globals : m.globals ≡ []
  pub exports : m.exports ≡ record { name = codes "main"; kind = kinds.Function; index = 0 } ∷ []
  pub start : m.start ≡ None

none_mapped : {A B : Type 0} (f : A → B) (xs : List A) → map f xs ≡ [] → xs ≡ []
none_mapped f [] e = refl
none_mapped f (x ∷ xs) e = absurd cc

pub framed : (n : ℕ) (m : Module) → code_alone m ≡ code_alone (selftest n) → Surrounds m
unfolding selftest
framed n m same = record {
  tables = ap (λ (x : Module). x.tables) same;
  globals = none_mapped global_code m.globals (ap (λ (x : Module). x.globals) same);
  exports = ap (λ (x : Module). x.exports) same;
  start = ap (λ (x : Module). x.start) same;
}

module _ (n : ℕ) (m : Module) (k : IsLike n m) where
  parameters_few : (f : ℕ) → parameter_count (type_at m f) ≤ 2
  parameters_few f =
      subst (λ ts. parameter_count (option_then (slice_get (map (λ i. i.ftype) m.imports ++ m.functions) f) (λ t. slice_get ts t)) ≤ 2) (sym k.types) (by (slice_get (map (λ i. i.ftype) m.imports ++ m.functions) f))
    where
      by : (o : Option ℕ) → parameter_count (option_then o (λ (t : ℕ). slice_get (two_to_one ∷ []) t)) ≤ 2
      by None = omega arith
      by (Some zero) = omega arith
      by (Some (suc t)) = omega arith

  locals_few : (f : ℕ) (b : Body) → IsSmall b → local_count (type_at m f) b ≤ 2
  locals_few f b s = subst (λ gs. parameter_count (type_at m f) + sum (map (λ g. g.count) gs) ≤ 2) (sym s.groups) (omega (arith, parameters_few f))

  all_locals : (i : ℕ) (bs : List Body) → AllByRecursion IsSmall bs → AllByRecursion (λ c. c ≤ 10000) (function_locals m i bs)
  all_locals i [] s = tt
  all_locals i (b ∷ bs) s = (omega (arith, locals_few (length m.imports + i) b s.0), all_locals (i + 1) bs s.1)

  most_few : (i : ℕ) (bs : List Body) → AllByRecursion IsSmall bs → most_locals m i bs ≤ 2
  most_few i [] s = omega arith
  most_few i (b ∷ bs) s = omega (arith, locals_few (length m.imports + i) b s.0, most_few (suc i) bs s.1)

-- ---- nesting

flat_nesting : (ops : List Op) → AllByRecursion (λ o. Small o.code) ops → deepest 0 (map (λ o. o.code) ops) ≡ 0
flat_nesting [] s = refl
flat_nesting (o ∷ os) s = by o.code s.0 (flat_nesting os s.1)
  where
    by : (i : Instr) → Small i → deepest 0 (map (λ o. o.code) os) ≡ 0 → max 0 (deepest (depth_behind 0 i) (map (λ o. o.code) os)) ≡ 0
    by (instr.Basic i) s e = ap (max 0) e
    by (instr.Jump (jumps.Call f)) s e = ap (max 0) e
    by instr.End s e = ap (max 0) e
    by i s e = absurd s

all_flat : (bs : List Body) → AllByRecursion IsSmall bs → AllByRecursion (λ c. c ≤ 1000) (map nesting bs)
all_flat [] s = tt
all_flat (b ∷ bs) s = (omega (arith, flat_nesting b.ops s.0.small), all_flat bs s.1)

-- ---- heights

highest_few : (g : ℕ → ℕ) (j : ℕ) (ops : List Op) → ((op : ℕ) → g op ≤ 41) → highest g j ops ≤ 41
highest_few g j [] h = omega arith
highest_few g j (o ∷ os) h = omega (arith, h j, highest_few g (suc j) os h)

-- what is known of bodies, of which so many come before
abbrev Bounded : (heights : List (List ℕ)) → ℕ → List Body → Type 0
Bounded heights i [] = Unit {0}
Bounded heights i (b ∷ bs) = ((op : ℕ) → height_at heights i op ≤ 41) × Bounded heights (suc i) bs

all_heights : (heights : List (List ℕ)) (i : ℕ) (bs : List Body) → Bounded heights i bs → AllByRecursion (λ c. c ≤ 1000) (function_heights heights i bs)
all_heights heights i [] h = tt
all_heights heights i (b ∷ bs) h =
    let e : i + 1 ≡ suc i = omega arith in
    (omega (arith, highest_few (height_at heights i) 0 b.ops h.0), all_heights heights (i + 1) bs (subst (λ k. Bounded heights k bs) (sym e) h.1))

operands_few : (heights : List (List ℕ)) (i : ℕ) (bs : List Body) → Bounded heights i bs → most_operands heights i bs ≤ 41
operands_few heights i [] h = omega arith
operands_few heights i (b ∷ bs) h = omega (arith, highest_few (height_at heights i) 0 b.ops h.0, operands_few heights (suc i) bs h.1)

bounded_from : (n : ℕ) (m : Module) (heights : List (List ℕ)) → Valid m → IsLike n m → AreHeights m heights → (i : ℕ) (bs : List Body) → ((j : ℕ) (b : Body) → slice_get bs j ≡ Some b → slice_get m.bodies (i + j) ≡ Some b) → AllByRecursion IsSmall bs → Bounded heights i bs
bounded_from n m heights valid k are i [] at s = tt
bounded_from n m heights valid k are i (b ∷ bs) at s =
    let here : i + 0 ≡ i = omega arith in (
      λ op. height_few n m heights valid k are i op b (ap (slice_get m.bodies) (sym here) ∙ at 0 b refl) s.0,
      bounded_from n m heights valid k are (suc i) bs (λ j c e. let more : suc i + j ≡ i + suc j = omega arith in ap (slice_get m.bodies) more ∙ at (suc j) c e) s.1,
    )

pub bounded : (n : ℕ) (m : Module) (heights : List (List ℕ)) → Valid m → IsLike n m → AreHeights m heights → Bounded heights 0 m.bodies
bounded n m heights valid k are = bounded_from n m heights valid k are 0 m.bodies (λ j b e. let same : 0 + j ≡ j = omega arith in ap (slice_get m.bodies) same ∙ e) (all_small n m k)

pub multiple_few : (n : ℕ) (m : Module) (heights : List (List ℕ)) → Valid m → IsLike n m → Surrounds m → AreHeights m heights → multiple m heights ≤ 544
multiple_few n m heights valid k f are =
    omega (arith, most_few n m k 0 m.bodies (all_small n m k), operands_few heights 0 m.bodies (bounded n m heights valid k are), ap length f.globals)

-- ---- the weight

op_few : (o : Op) (h : ℕ) → Small o.code → h ≤ 41 → op_weight o h ≤ 848 + 8 * o.len
op_few o h s low = by o.code s
  where
    by : (i : Instr) → Small i → 192 + 8 * o.len + 16 * h + extra i ≤ 848 + 8 * o.len
    by (instr.Basic (basics.Const v)) s = omega (arith, low)
    by (instr.Basic (basics.LocalGet x)) s = omega (arith, low)
    by (instr.Basic (basics.Store st align offset)) s = omega (arith, low)
    by (instr.Basic (basics.Binary t op)) s = omega (arith, low)
    by (instr.Jump (jumps.Call f)) s = omega (arith, low)
    by instr.End s = omega (arith, low)
    by i s = absurd s

ops_few : (g : ℕ → ℕ) (j : ℕ) (ops : List Op) → AllByRecursion (λ o. Small o.code) ops → ((op : ℕ) → g op ≤ 41) → ops_weight g j ops ≤ length ops * 848 + 8 * sum_by (λ o. o.len) ops
ops_few g j [] s h = omega arith
ops_few g j (o ∷ os) s h = omega (arith, op_few o (g j) s.0 (h j), ops_few g (suc j) os s.1 h, sum_by-cons (λ (x : Op). x.len) o os)

bodies_few : (n : ℕ) (m : Module) (heights : List (List ℕ)) → IsLike n m → (i : ℕ) (bs : List Body) → AllByRecursion IsSmall bs → Bounded heights i bs → bodies_weight m heights i bs ≤ length bs * 35000 + 8 * sum_by ops_length bs
bodies_few n m heights k i [] s h = omega arith
bodies_few n m heights k i (b ∷ bs) s h =
    omega (
      arith,
      locals_few n m k (length m.imports + i) b s.0,
      ops_few (height_at heights i) 0 b.ops s.0.small h.0,
      s.0.many,
      bodies_few n m heights k (suc i) bs s.1 h.1,
      sum_by-cons ops_length b bs,
    )

none_used_ops : (ops : List Op) → AllByRecursion (λ o. Small o.code) ops → flat_map (λ o. type_used o.code) ops ≡ []
none_used_ops [] s = refl
none_used_ops (o ∷ os) s = by o.code s.0 (none_used_ops os s.1)
  where
    by : (i : Instr) → Small i → flat_map (λ o. type_used o.code) os ≡ [] → type_used i ++ flat_map (λ o. type_used o.code) os ≡ []
    by (instr.Basic i) s e = e
    by (instr.Jump (jumps.Call f)) s e = e
    by instr.End s e = e
    by i s e = absurd s

none_used : (bs : List Body) → AllByRecursion IsSmall bs → flat_map (λ b. flat_map (λ o. type_used o.code) b.ops) bs ≡ []
none_used [] s = refl
none_used (b ∷ bs) s = ap (λ l. l ++ flat_map (λ c. flat_map (λ o. type_used o.code) c.ops) bs) (none_used_ops b.ops s.0.small) ∙ none_used bs s.1

weight_few : (n : ℕ) (m : Module) (heights : List (List ℕ)) → n ≤ 900 → Valid m → IsLike n m → Surrounds m → AreHeights m heights → length m.bodies ≡ n → code_length m ≤ m.plain_bytes → m.plain_bytes ≤ 2000000 → weight m heights ≤ 134217728
weight_few n m heights most valid k f are count code plain =
    omega (
      arith,
      most,
      plain,
      code,
      count,
      bodies_few n m heights k 0 m.bodies (all_small n m k) (bounded n m heights valid k are),
      ap (λ l. length (distinct l) * (128 + 5 * table_min m.tables)) (none_used m.bodies (all_small n m k)),
      ap (exports_weight m) f.exports,
      parameters_few n m k 0,
      ap length f.globals,
      ap (start_weight m) f.start,
    )

-- ---- no cause to refuse it

pub no_refusal : (n : ℕ) (m : Module) (heights : List (List ℕ)) → n ≤ 900 → Valid m → IsLike n m → Surrounds m → AreHeights m heights → length m.bodies ≡ n → code_length m ≤ m.plain_bytes → m.plain_bytes ≤ 2000000 → refusal m heights ≡ None
unfolding first_excess
no_refusal n m heights most valid k f are count code plain =
    let all = all_small n m k in
    let low = bounded n m heights valid k are in
    let nest = first_over InstrumentNesting (map nesting m.bodies) in
    let weigh = first_over Weight (weight m heights ∷ []) in
    let high = first_over InstrumentHeight (function_heights heights 0 m.bodies) in
    let take_ = first_over InstrumentParameters (map (λ t. length t.params) m.types) in
    let limits : first_excess m heights ≡ None =
    ap (λ a. a orelse (take_ orelse (high orelse (nest orelse weigh)))) (over_none InstrumentLocals (function_locals m 0 m.bodies) (all_locals n m k 0 m.bodies all))
    ∙ ap (λ ts. first_over InstrumentParameters (map (λ (t : FuncType). length t.params) ts) orelse (high orelse (nest orelse weigh))) k.types
    ∙ ap (λ a. a orelse (nest orelse weigh)) (over_none InstrumentHeight (function_heights heights 0 m.bodies) (all_heights heights 0 m.bodies low))
    ∙ ap (λ a. a orelse weigh) (over_none InstrumentNesting (map nesting m.bodies) (all_flat m.bodies all))
    ∙ over_none Weight (weight m heights ∷ []) (weight_few n m heights most valid k f are count code plain, tt)
    in
    ap (λ is. at_import (position_from (λ i. bytes_eq i.«module» (codes "coredump")) 0 is) (at_export (export_taken m) (at_limit (first_excess m heights)))) k.imports
    ∙ ap (λ es. at_export (position_from (λ (e : Export). bytes_eq e.name (codes "coredump.memory")) 0 es) (at_limit (first_excess m heights))) f.exports
    ∙ ap at_limit limits
