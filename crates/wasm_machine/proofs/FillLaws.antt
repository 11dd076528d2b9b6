-- A table and a memory, over which segments are put.
use Rattle.std.proofs.Common.{◌≡◌, ℕ, suc, ◌+◌, ◌<◌, ◌≤◌, ◌^◌, List, [], ◌∷◌, length, map, get_or, min, ap, arith, unwrap_or}
use Rattle.std.proofs.lemmas.Bool.Decides.{nat_tests}
use Rattle.std.specs.Prelude.{true, nat_le, slice_get, IfSome, Option, Some, None}
use Rattle.std.specs.List.{AllByRecursion}
use Rattle.wasm_syntax.specs.declared.parts.Limits.{Limits}
use Rattle.wasm_syntax.specs.declared.parts.ElementSeg.{ElementSeg}
use Rattle.wasm_syntax.specs.declared.parts.DataSeg.{DataSeg}
use Rattle.wasm_syntax.specs.declared.place.Place.TheVariants.{MemoryAt}
use Rattle.wasm_syntax.specs.declared.module.ModuleParts.{ModuleParts as Module}
use Rattle.wasm_syntax.specs.Valid.{Valid, There, MemoryFine, LimitsFine}
use Rattle.wasm_syntax.specs.Sizes.{WithinLimits}
use Rattle.wasm_syntax.specs.Run.{first_false, element_at, element_fits, data_at, data_fits, table_min, memory_bytes, empty_memory}
use Rattle.wasm_machine.specs.calls.Starts.{MayBegin}
use Rattle.wasm_machine.proofs.BoundLaws.{each_passes}

-- ---- element segments

module _ (m : Module) (es : List ElementSeg) (i : ℕ) (e : ElementSeg) (at : ℕ) (fs : List ℕ) (lt : i < length es) (g : get_or es i e ≡ e) (at_is : at ≡ element_at m e) (fs_is : fs ≡ e.functions) where
  pub element_inside : (t : List (Option ℕ)) → first_false 0 (map (element_fits m) es) ≡ None → length t ≡ table_min m.tables → at + length fs ≤ length t
  element_inside t fits size =
      let test : nat_le (element_at m e + length e.functions) (table_min m.tables) ≡ true = each_passes (element_fits m) es 0 i e fits lt g in
      let le : element_at m e + length e.functions ≤ table_min m.tables = grind (arith, nat_tests) in
      let count : length fs ≡ length e.functions = ap length fs_is in
      omega (arith, le, size, count, at_is)

-- ---- data segments

module _ (m : Module) (ss : List DataSeg) (i : ℕ) (s : DataSeg) (at : ℕ) (bytes : List ℕ) (lt : i < length ss) (g : get_or ss i s ≡ s) (at_is : at ≡ data_at m s) (bytes_is : bytes ≡ s.bytes) where
  pub data_inside : (n : ℕ) → first_false 0 (map (data_fits m) ss) ≡ None → n ≡ length (memory_bytes (empty_memory m.memories)) → at + length bytes ≤ n
  data_inside n fits size =
      let test : nat_le (data_at m s + length s.bytes) (length (memory_bytes (empty_memory m.memories))) ≡ true = each_passes (data_fits m) ss 0 i s fits lt g in
      let le : data_at m s + length s.bytes ≤ length (memory_bytes (empty_memory m.memories)) = grind (arith, nat_tests) in
      let count : length bytes ≡ length s.bytes = ap length bytes_is in
      omega (arith, le, size, count, at_is)

-- ---- the sizes of memories

by_max : (least : ℕ) (o : Option ℕ) → least ≤ 4096 → IfSome o (λ max. (max ≤ 2 ^ 16) × (least ≤ max)) → least ≤ min 4096 (unwrap_or o 4096)
by_max least None le h = omega (arith, le)
by_max least (Some max) le h = omega (arith, le, h.1)

each_may : (ls : List Limits) → ((i : ℕ) → There ls i (LimitsFine (2 ^ 16))) → AllByRecursion (λ l. l.min ≤ 4096) ls → AllByRecursion MayBegin ls
each_may [] h k = tt
each_may (l ∷ ls) h k = (by_max l.min l.max k.0 (h 0).1, each_may ls (λ i. h (suc i)) k.1)

limits_fine : (i : ℕ) (o : Option Limits) → IfSome o (MemoryFine i) → IfSome o (LimitsFine (2 ^ 16))
limits_fine i None h = h
limits_fine i (Some l) h = h.1

pub may_begin : (m : Module) → Valid m → WithinLimits m → AllByRecursion MayBegin m.memories
may_begin m v w = each_may m.memories (λ i. limits_fine i (slice_get m.memories i) (v (MemoryAt i))) w.memories
