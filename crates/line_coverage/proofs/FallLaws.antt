-- Counts of instructions, by where the steps fell that were made there.
use Rattle.std.proofs.Common.{◌≡◌, ℕ, suc, ◌+◌, ◌%◌, ◌^◌, ◌<◌, ◌≤◌, Bool, true, false, cond, List, [], ◌∷◌, length, Option, Some, None, refl, sym, ap, ◌∙◌, arith}
use Rattle.std.specs.Prelude.{count_by, map, slice_get}
use Rattle.std.proofs.lemmas.List.Sums.{sum_by-cons}
use Rattle.wasm_syntax.specs.declared.instruction.Op.{Op}
use Rattle.wasm_syntax.specs.declared.parts.Body.{Body}
use Rattle.wasm_syntax.specs.declared.module.ModuleParts.{ModuleParts as Module}
use Rattle.machine_steps.specs.Places.{Place}
use Rattle.machine_steps.specs.calls.Tallies as tallies
use Rattle.machine_steps.specs.calls.Tallies.{Counts, Counted}
use Rattle.dwarf_line.specs.declared.lines.Lines.{Lines}
use Rattle.line_coverage.specs.declared.spots.Spot.{Spot}
use Rattle.line_coverage.specs.calls.Spots.{spot}
use Rattle.wasm_syntax.specs.Module.{option_then}
use Rattle.wasm_syntax.proofs.Bodies.{index_of}
use Rattle.debug_frames.specs.Frames.{body_start, start_of}
use Rattle.line_coverage.specs.Covers.{fallen}
use Rattle.line_coverage.specs.inner.Visits.{op_sum, ops_sum, bodies_sum}

abbrev Test : Type 0
Test = Option Spot → Bool

module _ (tables : List Lines) (p : Test) where
  ops_same : (m : Module) (f start : ℕ) (ops : List Op) (ns : List ℕ) → start_of m f ≡ start → tallies.body_sum (λ at. p (fallen tables m at)) f ops ns ≡ ops_sum start ops ns (λ a. p (spot tables a))
  ops_same m f start [] ns e = refl
  ops_same m f start (o ∷ ops) [] e = refl
  ops_same m f start (o ∷ ops) (n ∷ ns) e =
      let one : op_sum ((start_of m f + o.at) % 2 ^ 32) n (λ a. p (spot tables a)) ≡ op_sum ((start + o.at) % 2 ^ 32) n (λ a. p (spot tables a)) = ap (λ s. op_sum ((s + o.at) % 2 ^ 32) n (λ a. p (spot tables a))) e in
      omega (arith, one, ops_same m f start ops ns e)

  start_is : (m : Module) (k : ℕ) (b : Body) → slice_get m.bodies k ≡ Some b → start_of m (length m.imports + k) ≡ b.start
  start_is m k b e =
      ap (λ o. body_start (option_then o (λ i. slice_get m.bodies i))) (index_of m k) ∙ ap body_start e

  bodies_same : (m : Module) (k : ℕ) (bs : List Body) (cs : List (List ℕ)) → ((i : ℕ) → slice_get m.bodies (k + i) ≡ slice_get bs i) → tallies.bodies_sum (λ at. p (fallen tables m at)) (length m.imports + k) bs cs ≡ bodies_sum bs cs (λ a. p (spot tables a))
  bodies_same m k [] cs h = refl
  bodies_same m k (b ∷ bs) [] h = refl
  bodies_same m k (b ∷ bs) (c ∷ cs) h =
      let z : k ≡ k + 0 = omega arith in
      let here : slice_get m.bodies k ≡ Some b = ap (slice_get m.bodies) z ∙ h 0 in
      let on : suc (length m.imports + k) ≡ length m.imports + suc k = omega arith in
      let more : (i : ℕ) → slice_get m.bodies (suc k + i) ≡ slice_get bs i = λ i. (let j : suc k + i ≡ k + suc i = omega arith in ap (slice_get m.bodies) j ∙ h (suc i)) in
      let first : tallies.body_sum (λ at. p (fallen tables m at)) (length m.imports + k) b.ops c ≡ ops_sum b.start b.ops c (λ a. p (spot tables a)) = ops_same m (length m.imports + k) b.start b.ops c (start_is m k b here) in
      let next : tallies.bodies_sum (λ at. p (fallen tables m at)) (suc (length m.imports + k)) bs cs ≡ tallies.bodies_sum (λ at. p (fallen tables m at)) (length m.imports + suc k) bs cs = ap (λ f. tallies.bodies_sum (λ at. p (fallen tables m at)) f bs cs) on in
      omega (arith, first, next, bodies_same m (suc k) bs cs more)

-- ---- counts

count_map : {X Y : Type 0} (p : Y → Bool) (f : X → Y) (xs : List X) → count_by (λ x. p (f x)) xs ≡ count_by p (map f xs)
count_map p f [] = refl
count_map p f (x ∷ xs) = omega (arith, sum_by-cons (λ y. cond (p (f y)) 1 0) x xs, sum_by-cons (λ y. cond (p y) 1 0) (f x) (map f xs), count_map p f xs)

pub count_le : {X : Type 0} (p : X → Bool) (xs : List X) → count_by p xs ≤ length xs
count_le p [] = omega arith
count_le p (x ∷ xs) = by (p x) (count_le p xs) (sum_by-cons (λ y. cond (p y) 1 0) x xs) where
  by : (b : Bool) → count_by p xs ≤ length xs → count_by p (x ∷ xs) ≡ cond b 1 0 + count_by p xs → count_by p (x ∷ xs) ≤ length (x ∷ xs)
  by true h e = omega (arith, h, e)
  by false h e = omega (arith, h, e)

-- the counts by where they fall, with those that fall nowhere for want of a frame
pub fell_sum : (tables : List Lines) (m : Module) (t : Counts) (seen : List (Option Place)) (p : Test) → Counted m t seen → length seen < 2 ^ 64
    → bodies_sum m.bodies t.cells (λ a. p (spot tables a)) + cond (p None) t.elsewhere 0 ≡ count_by p (map (fallen tables m) seen)
fell_sum tables m t seen p h few =
    let z : length m.imports + 0 ≡ length m.imports = omega arith in
    let o : (i : ℕ) → slice_get m.bodies (0 + i) ≡ slice_get m.bodies i = λ i. (let j : 0 + i ≡ i = omega arith in ap (slice_get m.bodies) j) in
    ap (λ n. n + cond (p None) t.elsewhere 0) (sym (bodies_same tables p m 0 m.bodies t.cells o) ∙ ap (λ f. tallies.bodies_sum (λ at. p (fallen tables m at)) f m.bodies t.cells) z)
    ∙ h.sums few (λ at. p (fallen tables m at))
    ∙ count_map p (fallen tables m) seen
