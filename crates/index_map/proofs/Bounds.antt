-- A weight is a number of 64 bits.
use Rattle.std.proofs.Common.{◌≡◌, ℕ, suc, ◌+◌, ◌*◌, ◌^◌, ◌<◌, ◌≤◌, Bool, true, false, if◌then◌else◌, List, [], ◌∷◌, length, Option, Some, None, slice_get, refl, subst, arith, length-append}
use Rattle.std.specs.Prelude.{sum_by}
use Rattle.std.specs.List.{AllByRecursion}
use Rattle.std.proofs.Math.Nat.{mul-le-mul}
use Rattle.std.proofs.lemmas.List.Sums.{sum_by-cons}
use Rattle.wasm_leb.specs.Writing.{unsigned_bytes}
use Rattle.wasm_syntax.specs.declared.instruction.Basic.TheVariants as basics
use Rattle.wasm_syntax.specs.declared.instruction.Instr.{Instr}
use Rattle.wasm_syntax.specs.declared.instruction.Instr.TheVariants as instrs
use Rattle.wasm_syntax.specs.declared.instruction.Op.{Op}
use Rattle.wasm_syntax.specs.declared.parts.Body.{Body}
use Rattle.wasm_syntax.specs.declared.parts.Export.{Export}
use Rattle.wasm_syntax.specs.declared.parts.FuncType.{FuncType}
use Rattle.wasm_syntax.specs.declared.parts.Global.{Global}
use Rattle.wasm_syntax.specs.declared.parts.Limits.{Limits}
use Rattle.wasm_syntax.specs.declared.module.ModuleParts.{ModuleParts as Module}
use Rattle.wasm_syntax.specs.Module.{type_at, function_types, is_function, option_then}
use Rattle.wasm_syntax.specs.Run.{table_min}
use Rattle.wasm_syntax.specs.Sizes.{WithinLimits, ShortType, parameter_count, local_count}
use Rattle.wasm_laws.proofs.Lists.{at_of}
use Rattle.wasm_format.specs.Encoding.{encoding as instruction_bytes}
use Rattle.wasm_encode.specs.Encoding.{sized_bytes, kind_byte, global_bytes, export_bytes}
use Rattle.wasm_format_laws.specs.calls.Sized.{Sized, OpsSized, ops_length}
use Rattle.rewrite_modules.specs.Weight.{height_at, ops_weight, bodies_weight, types_used, exports_weight, start_weight, weight}
use Rattle.rewrite_bodies.specs.Numbering.{extra}
use Rattle.rewrite_bodies.specs.Numbering.{entry_weight}
use Rattle.wasm_format_laws.proofs.Totals.{total_many}
use Rattle.index_map.proofs.Few.{few}
use Rattle.rewrite_modules.proofs.EncodedLengths.{instr_some, contents, contents_least}

-- ---- instructions

extra_few : (i : Instr) → extra i ≤ 128
extra_few (instrs.Basic basics.MemoryCopy) = omega arith
extra_few (instrs.Basic basics.MemoryFill) = omega arith
extra_few i = omega arith

-- code whose instructions take a byte at least
ops_light : (T : List ℕ) (h : ℕ → ℕ) → ((j : ℕ) → h j ≤ 4096) → (j : ℕ) (ops : List Op) → AllByRecursion (λ o. length (instruction_bytes T o.code) ≤ o.len) ops → ops_weight h j ops ≤ 65864 * sum_by (λ o. o.len) ops
ops_light T h low j [] sized = omega arith
ops_light T h low j (o ∷ os) sized =
    let some : 1 ≤ o.len = omega (arith, instr_some T o.code, sized.0) in
    let more : sum_by (λ (o : Op). o.len) (o ∷ os) ≡ o.len + sum_by (λ (o : Op). o.len) os = sum_by-cons (λ (o : Op). o.len) o os in
    omega (arith, some, more, low j, extra_few o.code, ops_light T h low (suc j) os sized.1)

-- ---- a module

module _ (m : Module) (heights : List (List ℕ)) (sized : Sized m) (within : WithinLimits m) (low : (i op : ℕ) → height_at heights i op ≤ 4096) where
  bodies_light : (i : ℕ) (bs : List Body) → AllByRecursion OpsSized bs → ((n : ℕ) (b : Body) → slice_get bs n ≡ Some b → local_count (type_at m (length m.imports + (i + n))) b ≤ 16384) → bodies_weight m heights i bs ≤ 262336 * length bs + 65864 * sum_by ops_length bs
  bodies_light i [] s locals = omega arith
  bodies_light i (b ∷ bs) s locals =
      let same : i + 0 ≡ i = omega arith in
      let here : local_count (type_at m (length m.imports + i)) b ≤ 16384 = subst (λ (n : ℕ). local_count (type_at m (length m.imports + n)) b ≤ 16384) same (locals 0 b refl) in
      let more : sum_by ops_length (b ∷ bs) ≡ ops_length b + sum_by ops_length bs = sum_by-cons ops_length b bs in
      let code : ops_weight (height_at heights i) 0 b.ops ≤ 65864 * ops_length b = ops_light b.targets (height_at heights i) (low i) 0 b.ops s.0 in
      let rest = bodies_light (suc i) bs s.1 (λ n c e. (let k : i + suc n ≡ suc i + n = omega arith in subst (λ (n : ℕ). local_count (type_at m (length m.imports + n)) c ≤ 16384) k (locals (suc n) c e))) in
      omega (arith, here, more, code, rest)

  from_first : (n : ℕ) (b : Body) → slice_get m.bodies n ≡ Some b → local_count (type_at m (length m.imports + (0 + n))) b ≤ 16384
  from_first n b e = let k : n ≡ 0 + n = omega arith in subst (λ (n : ℕ). local_count (type_at m (length m.imports + n)) b ≤ 16384) k (within.locals n b e)

  -- ---- exports

  global_some : (g : Global) → 1 ≤ length (global_bytes g)
  unfolding global_bytes
  global_some g = omega arith

  export_some : (e : Export) → 1 ≤ length (export_bytes e)
  unfolding export_bytes
  export_some e = let a = length-append (sized_bytes e.name) (kind_byte e.kind ∷ unsigned_bytes e.index) in omega (arith, a)

  whole : contents m ≤ 134217720
  whole = omega (arith, contents_least m, sized.no_shorter, sized.within_limit)

  few_exports : length m.exports ≤ 134217720
  few_exports = omega (arith, whole, total_many (λ e. length (export_bytes e)) m.exports export_some)

  few_globals : length m.globals ≤ 134217720
  few_globals = omega (arith, whole, total_many (λ g. length (global_bytes g)) m.globals global_some)

  parameters_few : (o : Option ℕ) → parameter_count (option_then o (λ t. slice_get m.types t)) < 2 ^ 32
  parameters_few None = omega arith
  parameters_few (Some t) = by (slice_get m.types t) refl
    where
      by : (q : Option FuncType) → slice_get m.types t ≡ q → parameter_count q < 2 ^ 32
      by None e = omega arith
      by (Some type) e = (at_of ShortType m.types t type within.short.each_type e).params

  entry_light : (f : ℕ) → entry_weight m f ≤ 70866960512
  entry_light f = let a = parameters_few (slice_get (function_types m) f) in omega (arith, a, few_globals)

  export_light : (q : Bool) (f : ℕ) → (if q then entry_weight m f else 0) ≤ 70866960512
  export_light true f = entry_light f
  export_light false f = omega arith

  exports_light : (es : List Export) → exports_weight m es ≤ 70866960512 * length es
  exports_light [] = omega arith
  exports_light (e ∷ es) = let a = export_light (is_function e.kind) e.index in omega (arith, a, exports_light es)

  start_light : (s : Option ℕ) → start_weight m s ≤ 70866960512
  start_light None = omega arith
  start_light (Some f) = entry_light f

  -- ---- types

  least_few : (ls : List Limits) → AllByRecursion (λ l. l.min ≤ 65536) ls → table_min ls ≤ 65536
  least_few [] h = omega arith
  least_few (l ∷ ls) h = h.0

  types_light : length (types_used m) * (128 + 5 * table_min m.tables) ≤ 4294967296 * 327808
  types_light =
      let a : length (types_used m) ≤ 4294967296 = omega (arith, (few m sized).functions) in
      let t = least_few m.tables within.tables in
      let b : 128 + 5 * table_min m.tables ≤ 327808 = omega (arith, t) in
      mul-le-mul a b

  pub weight_fits : weight m heights < 2 ^ 64
  weight_fits =
      let a = bodies_light 0 m.bodies sized.ops.bodies from_first in
      let b : sum_by ops_length m.bodies ≤ 134217728 = omega (arith, sized.code, sized.within_limit) in
      let c = exports_light m.exports in
      let d = start_light m.start in
      let e = types_light in
      let f = few_exports in
      let g = within.short.bodies in
      let h = sized.within_limit in
      omega (arith, a, b, c, d, e, f, g, h)
