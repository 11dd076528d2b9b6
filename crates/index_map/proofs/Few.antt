-- The rewriting of a sized module has few functions, and the module has few globals.
use Rattle.std.proofs.Common.{◌≡◌, ℕ, suc, ◌+◌, ◌*◌, ◌≤◌, map, refl, Bool, true, false, nat_lt, if◌then◌else◌, List, [], ◌∷◌, length, flat_map, Option, Some, None, arith, length-append}
use Rattle.wasm_leb.specs.Writing.{unsigned_bytes}
use Rattle.wasm_syntax.specs.declared.instruction.Jump.TheVariants as flat
use Rattle.wasm_syntax.specs.declared.instruction.Instr.{Instr}
use Rattle.wasm_syntax.specs.declared.instruction.Instr.TheVariants as instrs
use Rattle.wasm_syntax.specs.declared.instruction.Op.{Op}
use Rattle.wasm_syntax.specs.declared.parts.Body.{Body}
use Rattle.wasm_syntax.specs.declared.parts.Export.{Export}
use Rattle.wasm_syntax.specs.declared.module.ModuleParts.{ModuleParts as Module}
use Rattle.wasm_syntax.specs.Tree.{item_of}
use Rattle.wasm_syntax.specs.Module.{is_function}
use Rattle.wasm_syntax.specs.Valid.{Valid}
use Rattle.wasm_format.specs.Encoding.{encoding as instruction_bytes}
use Rattle.wasm_encode.specs.Encoding.{import_bytes, global_bytes, export_bytes, entry_bytes}
use Rattle.wasm_format_laws.specs.calls.Sized.{Sized}
use Rattle.rewrite_bodies.specs.Numbering.{import_count, wraps, start_wraps, export_wrapped, named_wrapped, entry_weight, table_functions, doubles, table_wraps, wrapped, is_in, distinct}
use Rattle.rewrite_bodies.proofs.Doubled.{table_light, weights_more}
use Rattle.index_map.proofs.TableSizes.{distinct_few, wrappers_fit, places_fit}
use Rattle.rewrite_modules.proofs.Listed.{functions_below}
use Rattle.std.specs.Prelude.{sum}
use Rattle.rewrite_modules.specs.Weight.{type_used}
use Rattle.wasm_format_laws.proofs.Numbers.{some_bytes}
use Rattle.wasm_format_laws.proofs.Totals.{total, total_many}
use Rattle.index_map.specs.inner.Used.{ops_used, bodies_used}
use Rattle.index_map.specs.inner.Kept.{FewIndices, CanBeNumbered}
use Rattle.index_map.proofs.Trees.{valid_below}
use Rattle.rewrite_modules.proofs.CodeLengths.{item_length, item_short, expression_total}
use Rattle.rewrite_modules.proofs.EncodedLengths.{global_some, export_some, entry_total, contents, contents_least, import_some}

-- ---- wrappers

wraps_one : (m : Module) (e : Export) → length (wraps m e) ≤ 1
wraps_one m e = by (is_function e.kind) (nat_lt e.index (import_count m))
  where
    by : (q r : Bool) → length (if q then (if r then [] else e.index ∷ []) else []) ≤ 1
    by true true = omega arith
    by true false = omega arith
    by false r = omega arith

exports_few : (m : Module) (es : List Export) → length (flat_map (wraps m) es) ≤ length es
exports_few m [] = omega arith
exports_few m (e ∷ es) = omega (arith, length-append (wraps m e) (flat_map (wraps m) es), wraps_one m e, exports_few m es)

start_one : (m : Module) (s : Option ℕ) → length (start_wraps m s) ≤ 1
start_one m None = omega arith
start_one m (Some f) = by (nat_lt f (import_count m))
  where
    by : (r : Bool) → length (if r then [] else f ∷ []) ≤ 1
    by true = omega arith
    by false = omega arith

-- a wrapper weighs 128 at least, so few fit into what is left for them
weights_many : (m : Module) (fs : List ℕ) → 128 * length fs ≤ sum (map (entry_weight m) fs)
weights_many m [] = omega arith
weights_many m (f ∷ fs) = let more = weights_more m f fs in omega (arith, weights_many m fs, more)

table_few : (m : Module) → 64 * length (table_wraps m) ≤ m.plain_bytes + 64
table_few m = by (doubles m) refl
  where
    by : (q : Bool) → doubles m ≡ q → 64 * length (if q then table_functions m else []) ≤ m.plain_bytes + 64
    by false d = omega arith
    by true d = omega (arith, weights_many m (table_functions m), table_light m d)

wrapped_few : (m : Module) → 64 * length (wrapped m) ≤ 64 * length m.exports + m.plain_bytes + 128
wrapped_few m = omega (arith, length-append (named_wrapped m) (table_wraps m), length-append (export_wrapped m) (start_wraps m m.start), exports_few m m.exports, start_one m m.start, table_few m)

-- ---- types that are used

-- an instruction that uses one takes a byte at least
type_short : (T : List ℕ) (i : Instr) → length (type_used i) ≤ item_length (item_of T i)
type_short T (instrs.Basic i) = omega arith
type_short T (instrs.Jump flat.Unreachable) = omega arith
type_short T (instrs.Jump (flat.Br l)) = omega arith
type_short T (instrs.Jump (flat.BrIf l)) = omega arith
type_short T (instrs.Jump (flat.BrTable s c d)) = omega arith
type_short T (instrs.Jump flat.Return) = omega arith
type_short T (instrs.Jump (flat.Call f)) = omega arith
type_short T (instrs.Jump (flat.CallIndirect t)) = omega arith
type_short T (instrs.Block t) = omega arith
type_short T (instrs.Loop t) = omega arith
type_short T (instrs.If t) = omega arith
type_short T instrs.Else = omega arith
type_short T instrs.End = omega arith

ops_few : (T : List ℕ) (ops : List Op) → length (ops_used ops) ≤ total (λ o. length (instruction_bytes T o.code)) ops
ops_few T [] = omega arith
ops_few T (o ∷ os) = omega (arith, length-append (type_used o.code) (ops_used os), type_short T o.code, item_short T o.code, ops_few T os)

body_few : (b : Body) → length (ops_used b.ops) ≤ length (entry_bytes b)
body_few b = omega (arith, ops_few b.targets b.ops, expression_total b, entry_total b)

bodies_few : (bs : List Body) → length (bodies_used bs) ≤ total (λ b. length (entry_bytes b)) bs
bodies_few [] = omega arith
bodies_few (b ∷ bs) = omega (arith, length-append (ops_used b.ops) (bodies_used bs), body_few b, bodies_few bs)

-- ---- the whole module

pub few : (m : Module) → Sized m → FewIndices m
few m sized =
    let a = total_many (λ i. length (import_bytes i)) m.imports import_some in
    let b = total_many (λ n. length (unsigned_bytes n)) m.functions some_bytes in
    let c = total_many (λ g. length (global_bytes g)) m.globals global_some in
    let d = total_many (λ e. length (export_bytes e)) m.exports export_some in
    let e = bodies_few m.bodies in
    let f = distinct_few (bodies_used m.bodies) in
    let g = wrapped_few m in
    let whole : contents m ≤ 134217720 = omega (arith, contents_least m, sized.no_shorter, sized.within_limit) in
    record { functions = omega (arith, a, b, d, e, f, g, whole, sized.within_limit); globals = omega (arith, c, whole); added = omega (arith, c, whole) }

pub can_be : (m : Module) → Valid m → Sized m → CanBeNumbered m
can_be m v s = record { few = few m s; types_there = valid_below m v; functions_there = functions_below m v; wrappers_light = wrappers_fit m s; places_few = places_fit m s }
