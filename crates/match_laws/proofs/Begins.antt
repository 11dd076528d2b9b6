-- The world at the start of an instance, where its segments lie inside.
use Rattle.std.proofs.Common.{◌≡◌, ℕ, suc, ◌+◌, ◌*◌, ◌/◌, ◌≤◌, min, Bool, true, false, List, [], ◌∷◌, ◌++◌, map, length, take, drop, replicate, slice_get, Option, Some, None, option_map, unwrap_or, refl, sym, ap, subst, ◌∙◌, arith, leb-true, length-append}
use Rattle.std.specs.Prelude.{IfSome, fold}
use Rattle.std.specs.List.{AllByRecursion}
use Rattle.std.proofs.lemmas.List.{length-take-le, length-drop, length-replicate}
use Rattle.wasm_syntax.specs.declared.value.ValType.{ValType}
use Rattle.wasm_syntax.specs.declared.value.Value.{Value}
use Rattle.wasm_syntax.specs.declared.instruction.Basic.TheVariants as basics
use Rattle.wasm_syntax.specs.declared.instruction.Instr.{Instr}
use Rattle.wasm_syntax.specs.declared.instruction.Instr.TheVariants as instr
use Rattle.wasm_syntax.specs.declared.instruction.Op.{Op}
use Rattle.wasm_syntax.specs.declared.parts.Limits.{Limits}
use Rattle.wasm_syntax.specs.declared.parts.Global.{Global}
use Rattle.wasm_syntax.specs.declared.parts.DataSeg.{DataSeg}
use Rattle.wasm_syntax.specs.declared.place.Place.TheVariants.{MemoryAt, GlobalAt}
use Rattle.wasm_syntax.specs.declared.module.ModuleParts.{ModuleParts as Module}
use Rattle.wasm_syntax.specs.declared.host.Reply.{Reply}
use Rattle.linear_memory.specs.Memory.{Memory, page_size, pages}
use Rattle.wasm_syntax.specs.Sizes.{WithinLimits}
use Rattle.wasm_syntax.specs.Module.{const_value, const_code}
use Rattle.wasm_syntax.specs.Machine.{zero_of}
use Rattle.wasm_syntax.specs.Valid.{ConstTypes, GlobalFine, MemoryFine, Valid}
use Rattle.wasm_syntax.specs.Run.{over, empty_memory, memory_bytes, globals_at_start, data_at, data_fits, element_fits, start_world, first_false, by_data, by_element, cause_of_segments}
use Rattle.wasm_laws.proofs.Lists.{there_at, get_map}
use Rattle.match_laws.proofs.Kept.{SizeKept, FirstKept, WorldKept}
use Rattle.pm_text.proofs.Lists.{some_is}

-- ---- globals

const_code_some : (i : Instr) (t : ValType) → ConstTypes [] i t → (v : Value) × (const_code [] i ≡ Some v)
const_code_some (instr.Basic (basics.Const v)) t h = (v, refl)
const_code_some (instr.Basic (basics.GlobalGet x)) t h = absurd (let z : None ≡ Some h.0 = h.1 in cc)
const_code_some i t h = absurd h

abbrev head_of : List Instr → Instr
head_of [] = instr.End
head_of (i ∷ is) = i

const_some : (ops : List Op) (i : Instr) (t : ValType) → map (λ o. o.code) ops ≡ i ∷ instr.End ∷ [] → ConstTypes [] i t → (v : Value) × (const_value [] ops ≡ Some v)
const_some [] i t e h = absurd (cc)
const_some (o ∷ ops) i t e h =
    let same : o.code ≡ i = ap head_of e in
    let k = const_code_some i t h in
    (k.0, ap (const_code []) same ∙ k.1)

first_value : (g : Global) → GlobalFine g → (v : Value) × (const_value [] g.init.ops ≡ Some v)
first_value g h = const_some g.init.ops h.0 g.vtype h.1 h.2

globals_begin : (m : Module) → Valid m → FirstKept m.globals (globals_at_start m)
globals_begin m valid i g v at im e =
    let first = first_value g (there_at GlobalFine m.globals i g (valid (GlobalAt i)) at) in
    let f : Global → Value = λ g. unwrap_or (const_value [] g.init.ops) (zero_of g.vtype) in
    let here : Some (f g) ≡ Some v = ap (option_map f) (sym at) ∙ sym (get_map f m.globals i) ∙ e in
    let value : first.0 ≡ v = ap (λ o. unwrap_or o (zero_of g.vtype)) (sym first.1) ∙ some_is here in
    first.1 ∙ ap Some value

-- ---- the memory

length_over : (xs new : List ℕ) (at : ℕ) → at + length new ≤ length xs → length (over xs at new) ≡ length xs
length_over xs new at h =
    omega (arith, h, length-append (take at xs) (new ++ drop (at + length new) xs), length-append new (drop (at + length new) xs), length-drop (at + length new) xs, length-take-le at xs (omega (arith, h)))

module _ (m : Module) where
  abbrev put_over : Memory → DataSeg → Memory
  put_over k s = record k { bytes = over k.bytes (data_at m s) s.bytes }

  abbrev Inside : ℕ → DataSeg → Type 0
  Inside n s = data_at m s + length s.bytes ≤ n

  fold_size : (n : ℕ) (ss : List DataSeg) (k : Memory) → AllByRecursion (Inside n) ss → length k.bytes ≡ n → (length (fold put_over k ss).bytes ≡ n) × ((fold put_over k ss).max ≡ k.max)
  fold_size n [] k h e = (e, refl)
  fold_size n (s ∷ ss) k h e =
      let le : data_at m s + length s.bytes ≤ length k.bytes = omega (arith, h.0, e) in
      fold_size n ss (put_over k s) h.1 (length_over k.bytes s.bytes (data_at m s) le ∙ e)

  each_fits : (i : ℕ) (ss : List DataSeg) → first_false i (map (data_fits m) ss) ≡ None → AllByRecursion (Inside (length (memory_bytes (empty_memory m.memories)))) ss
  each_fits i [] e = tt
  each_fits i (s ∷ ss) e = by_test (λ e'. each_fits (suc i) ss e') (data_fits m s) refl e
    where
      by_test : (first_false (suc i) (map (data_fits m) ss) ≡ None → AllByRecursion (Inside (length (memory_bytes (empty_memory m.memories)))) ss) → (b : Bool) → data_fits m s ≡ b → first_false i (b ∷ map (data_fits m) ss) ≡ None → AllByRecursion (Inside (length (memory_bytes (empty_memory m.memories)))) (s ∷ ss)
      by_test behind true q e = (leb-true (data_at m s + length s.bytes) (length (memory_bytes (empty_memory m.memories))) q, behind e)
      by_test behind false q e = absurd (cc)

  no_data : (o : Option ℕ) → by_data o ≡ None → o ≡ None
  no_data None e = refl
  no_data (Some i) e = absurd (cc)

  no_element : (o : Option ℕ) → by_element m o ≡ None → by_data (first_false 0 (map (data_fits m) m.segments)) ≡ None
  no_element None e = e
  no_element (Some i) e = absurd (cc)

  module _ (valid : Valid m) (limits : WithinLimits m) (fit : cause_of_segments m ≡ None) where
    inside_all : AllByRecursion (Inside (length (memory_bytes (empty_memory m.memories)))) m.segments
    inside_all = each_fits 0 m.segments (no_data (first_false 0 (map (data_fits m) m.segments)) (no_element (first_false 0 (map (element_fits m) m.elements)) fit))

    most : (l : Limits) → MemoryFine 0 l → l.min ≤ 4096 → l.min ≤ min 4096 (unwrap_or l.max 4096)
    most l h le = by_max l.max h.1.1
      where
        by_max : (o : Option ℕ) → IfSome o (λ max. (max ≤ 65536) × (l.min ≤ max)) → l.min ≤ min 4096 (unwrap_or o 4096)
        by_max None k = omega (arith, le)
        by_max (Some max) k = omega (arith, le, k.1)

    whole_pages : (n : ℕ) → (65536 * n) / 65536 ≡ n
    whole_pages n = omega arith

    size_begins : (ls : List Limits) → m.memories ≡ ls → SizeKept ls (option_map (λ k. fold put_over k m.segments) (empty_memory ls))
    size_begins [] e = tt
    size_begins (l ∷ ls) e =
        let n = page_size * l.min in
        let k : Memory = record { bytes = replicate n 0; max = min 4096 (unwrap_or l.max 4096) } in
        let len : length k.bytes ≡ n = length-replicate n 0 in
        let inside_ : AllByRecursion (Inside n) m.segments = subst (λ j. AllByRecursion (Inside j) m.segments) (ap (λ x. length (memory_bytes (empty_memory x))) e ∙ len) inside_all in
        let size = fold_size n m.segments k inside_ len in
        let at : slice_get m.memories 0 ≡ Some l = ap (λ x. slice_get x 0) e in
        let low : l.min ≤ 4096 = (subst (AllByRecursion (λ (l : Limits). l.min ≤ 4096)) e limits.memories).0 in
        let le = most l (there_at (MemoryFine 0) m.memories 0 l (valid (MemoryAt 0)) at) low in
        let p : pages (fold put_over k m.segments) ≡ l.min = ap (λ j. j / page_size) size.0 ∙ whole_pages l.min in
        (omega (arith, p), omega (arith, p, size.1, le), omega (arith, size.1))

    pub world_begins : (replies : List Reply) → WorldKept m (start_world m replies)
    world_begins replies = record { globals = globals_begin m valid; memory = size_begins m.memories refl }
