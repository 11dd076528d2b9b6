-- The source lines on which steps of a run fall.
use Rattle.std.specs.Prelude.{◌≡◌, ◌<◌, ◌+◌, ◌%◌, ◌^◌, ℕ, Bool, true, false, List, length, count_by, map, Option, Some, None, is_none, option_and_then, if◌then◌else◌}
use Rattle.std.specs.List.{AllByRecursion}
use Rattle.wasm_syntax.specs.declared.module.ModuleParts.{ModuleParts as Module}
use Rattle.machine_steps.specs.Places.{Place}
use Rattle.machine_steps.specs.calls.Tallies.{Counts, Counted}
use Rattle.dwarf_line.specs.declared.lines.Lines.{Lines}
use Rattle.debug_frames.specs.Frames.{start_of}
use Rattle.line_coverage.specs.declared.spots.Spot.{Spot}
use Rattle.line_coverage.specs.declared.spots.LineCount.{LineCount}
use Rattle.line_coverage.specs.calls.Spots.{spot, is_spot, Ascend, steps_on, lines_sum}

-- Code addresses have 32 bits (WebAssembly DWARF).
abbrev pub address_of : Module → Place → ℕ
address_of m p = (start_of m p.function + p.offset) % 2 ^ 32

-- where a step falls that is made at a place; with no frame nowhere
abbrev pub fallen : List Lines → Module → Option Place → Option Spot
fallen tables m at = option_and_then (λ p. spot tables (address_of m p)) at

-- ---- counts

abbrev pub is_on : Spot → Option Spot → Bool
is_on s (Some t) = is_spot t s
is_on s None = false

-- the lines on which steps fell, each with their number; how many fell on none; and how many there are in all
pub record Covered : Type 0 where
  pub lines : List LineCount
  pub unplaced : ℕ
  pub steps : ℕ

abbrev pub count_on : Covered → Spot → ℕ
count_on c s = steps_on c.lines s

abbrev pub sum_where : (Option Spot → Bool) → Covered → ℕ
sum_where passes c = lines_sum passes c.lines + (if passes None then c.unplaced else 0)

-- These are the numbers of steps that fell so. The lines with a step are listed in their order, each once; and as many steps were counted
-- where a test passes as fell there, whatever the test.
pub record Covers (c : Covered) (fell : List (Option Spot)) : Type 0 where
  pub on : (s : Spot) → count_on c s ≡ count_by (is_on s) fell
  pub unplaced : c.unplaced ≡ count_by is_none fell
  pub steps : c.steps ≡ length fell
  pub sums : (passes : Option Spot → Bool) → sum_where passes c ≡ count_by passes fell
  pub total : sum_where (λ _. true) c ≡ c.steps
  pub ascend : Ascend c.lines
  pub counted : AllByRecursion (λ (l : LineCount). 0 < l.steps) c.lines

-- whatever steps a module's counts are of, fewer than 2^64
abbrev pub CoversCounted : List Lines → Module → Counts → Covered → Type 0
CoversCounted tables m t c = (seen : List (Option Place)) → Counted m t seen → length seen < 2 ^ 64 → Covers c (map (fallen tables m) seen)
