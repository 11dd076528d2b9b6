-- What was counted covers the steps.
use Rattle.std.proofs.Common.{◌≡◌, ℕ, ◌+◌, ◌-◌, ◌^◌, ◌<◌, ◌≤◌, Bool, true, false, cond, List, [], ◌∷◌, length, Option, None, refl, sym, ap, subst, ◌∙◌, arith}
use Rattle.std.specs.Prelude.{count_by, map, is_none, min}
use Rattle.std.specs.List.{AllByRecursion}
use Rattle.std.specs.List.Sorted.{IsStrictlySortedBy}
use Rattle.std.specs.Map.{keys_of}
use Rattle.std.proofs.Math.Nat.{min-eq_left}
use Rattle.std.proofs.lemmas.List.Elements.{All-nil}
use Rattle.wasm_syntax.specs.declared.module.ModuleParts.{ModuleParts as Module}
use Rattle.machine_steps.specs.Places.{Place}
use Rattle.machine_steps.specs.calls.Tallies.{Counts, Counted}
use Rattle.dwarf_line.specs.declared.lines.Lines.{Lines}
use Rattle.line_coverage.specs.declared.spots.Spot.{Spot}
use Rattle.line_coverage.specs.declared.spots.LineCount.{LineCount}
use Rattle.line_coverage.specs.calls.Spots.{spot, steps_on, lines_sum, Ascend}
use Rattle.line_coverage.specs.Covers.{fallen, is_on, Covered, Covers, sum_where}
use Rattle.line_coverage.specs.inner.Sums.{sum_of, sum_all, spots_sum, Adds}
use Rattle.line_coverage.specs.inner.Visits.{bodies_sum}
use Rattle.line_coverage.specs.inner.Placing.{in_tables, Moves}
use Rattle.line_coverage.specs.inner.Order.{spot_cmp, line_of}
use Rattle.line_coverage.proofs.PlaceLaws.{placed}
use Rattle.line_coverage.proofs.FallLaws.{fell_sum, count_le}
use Rattle.line_coverage.proofs.ListLaws.{ascend_lines, same_sum, none_sum, counted_lines, listed_sum}
use Rattle.machine_steps.proofs.TallyLaws.{count_all}
use Rattle.std.proofs.lemmas.List.{length-map}

one_test : {K : Type 0} (b : Bool) (es : List (K × ℕ)) → sum_of (λ _. b) es ≡ cond b (sum_all es) 0
one_test true es = refl
one_test false [] = refl
one_test false (e ∷ es) = omega (arith, one_test false es)

same_tests : {K : Type 0} (p q : K → Bool) → ((k : K) → p k ≡ q k) → (es : List (K × ℕ)) → sum_of p es ≡ sum_of q es
same_tests p q f [] = refl
same_tests p q f (e ∷ es) =
    let one : cond (p e.0) e.1 0 ≡ cond (q e.0) e.1 0 = ap (λ b. cond b e.1 0) (f e.0) in
    omega (arith, one, same_tests p q f es)

both_if : (b : Bool) (x y : ℕ) → cond b (x + y) 0 ≡ cond b x 0 + cond b y 0
both_if true x y = refl
both_if false x y = refl

module _ (tables : List Lines) (m : Module) (t : Counts) (seen : List (Option Place)) (counted : Counted m t seen) (few : length seen < 2 ^ 64)
    (visits : List (ℕ × ℕ)) (adds : Adds [] visits (bodies_sum m.bodies t.cells)) (spots : List (Spot × ℕ)) (left : List (ℕ × ℕ)) (moves : Moves [] visits spots left (in_tables 0 tables)) where
  abbrev pub fell : List (Option Spot)
  fell = map (fallen tables m) seen

  within : (p : Option Spot → Bool) → count_by p fell < 2 ^ 64
  within p = omega (arith, count_le p fell, length-map seen (fallen tables m), few)

  -- all counts
  whole : bodies_sum m.bodies t.cells (λ _. true) + t.elsewhere ≡ length fell
  whole = fell_sum tables m t seen (λ _. true) counted few ∙ count_all fell

  fits : bodies_sum m.bodies t.cells (λ _. true) < 2 ^ 64
  fits = omega (arith, whole, length-map seen (fallen tables m), few)

  visited : (q : ℕ → Bool) → sum_of q visits ≡ bodies_sum m.bodies t.cells q
  visited q = omega (arith, adds.sums (omega (arith, fits)) q)

  pub sum_is : (p : Option Spot → Bool) → spots_sum p spots + cond (p None) (sum_all left + t.elsewhere) 0 ≡ count_by p fell
  sum_is p =
      let room : 0 + sum_all visits < 2 ^ 64 = omega (arith, visited (λ _. true), fits) in
      let moved : spots_sum p spots + sum_of (λ a. p None) left ≡ 0 + sum_of (λ a. p (in_tables 0 tables (λ _. None) a)) visits = moves.sums room (λ _. None) p in
      let at : sum_of (λ a. p (in_tables 0 tables (λ _. None) a)) visits ≡ sum_of (λ a. p (spot tables a)) visits = same_tests (λ a. p (in_tables 0 tables (λ _. None) a)) (λ a. p (spot tables a)) (λ a. ap p (placed tables a)) visits in
      let all : bodies_sum m.bodies t.cells (λ a. p (spot tables a)) + cond (p None) t.elsewhere 0 ≡ count_by p fell = fell_sum tables m t seen p counted few in
      omega (arith, moved, at, visited (λ a. p (spot tables a)), all, one_test (p None) left, both_if (p None) (sum_all left) t.elsewhere)

  pub covers : (c : Covered) (rest total : ℕ) → (sum_all left < 2 ^ 64 → rest ≡ sum_all left) → c.unplaced ≡ min (rest + t.elsewhere) (2 ^ 64 - 1) → (sum_all spots < 2 ^ 64 → total ≡ sum_all spots) → c.steps ≡ min (total + c.unplaced) (2 ^ 64 - 1)
      → IsStrictlySortedBy spot_cmp (keys_of spots) → c.lines ≡ map line_of spots → Covers c fell
  covers c rest total rest_is unplaced_is total_is steps_is sorted lines_is =
      let every : sum_all spots + (sum_all left + t.elsewhere) ≡ length fell = sum_is (λ _. true) ∙ count_all fell in
      let bound : length fell < 2 ^ 64 = omega (arith, length-map seen (fallen tables m), few) in
      let rest_at : rest ≡ sum_all left = rest_is (omega (arith, every, bound)) in
      let total_at : total ≡ sum_all spots = total_is (omega (arith, every, bound)) in
      let small : rest + t.elsewhere ≤ 2 ^ 64 - 1 = omega (arith, rest_at, every, bound) in
      let unplaced : c.unplaced ≡ sum_all left + t.elsewhere = unplaced_is ∙ min-eq_left small ∙ ap (λ n. n + t.elsewhere) rest_at in
      let low : total + c.unplaced ≤ 2 ^ 64 - 1 = omega (arith, total_at, unplaced, every, bound) in
      let steps_sum : c.steps ≡ total + c.unplaced = steps_is ∙ min-eq_left low in
      let steps : c.steps ≡ length fell = omega (arith, steps_sum, total_at, unplaced, every) in
      let sums : (p : Option Spot → Bool) → sum_where p c ≡ count_by p fell = λ p. (
      let lines : lines_sum p c.lines ≡ spots_sum p spots = ap (lines_sum p) lines_is ∙ same_sum p spots in
      let none : cond (p None) c.unplaced 0 ≡ cond (p None) (sum_all left + t.elsewhere) 0 = ap (λ n. cond (p None) n 0) unplaced in
      omega (arith, lines, none, sum_is p)) in
      let ascends = subst (λ ls. Ascend ls) (sym lines_is) (ascend_lines spots sorted) in
      record {
        on = λ s.
            let listed : steps_on c.lines s ≡ lines_sum (is_on s) c.lines = listed_sum s c.lines ascends in
            omega (arith, listed, sums (is_on s));
        unplaced = omega (arith, sums is_none, none_sum c.lines);
        steps = steps;
        sums = sums;
        total = sums (λ _. true) ∙ count_all fell ∙ sym steps;
        ascend = ascends;
        counted = subst (λ ls. AllByRecursion (λ (l : LineCount). 0 < l.steps) ls) (sym lines_is) (counted_lines spots (moves.positive (All-nil (λ n. 0 < n)) (adds.positive (All-nil (λ n. 0 < n)))).0);
      }
