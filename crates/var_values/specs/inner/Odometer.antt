-- What is left to write of the rows of an array, some of which are open. Offsets count from the start of the array.
use Rattle.std.specs.Prelude.{ℕ, zero, suc, ◌+◌, ◌-◌, ◌*◌, ◌^◌, ◌<◌, ◌≤◌, ◌==◌, ◌≢◌, nat_lt, if◌then◌else◌, min, List, [], ◌∷◌, ◌++◌, length, map, drop, reverse, slice_get, IfSome, Option, Some, None, unwrap_or, option_and_then, codes}
use Rattle.std.specs.List.{flat_map, range_with_len}
use Rattle.dwarf_types.specs.Products.{array_size}
use Rattle.dwarf_types.specs.calls.Subranges.{Subranges, size_behind}
use Rattle.var_values.specs.Values.{braced, dots, shown_elements, row_size}
use Rattle.var_values.specs.declared.levels.Level.{Level}
use Rattle.var_values.specs.declared.levels.OpenRow.{OpenRow}
use Rattle.var_values.specs.declared.levels.BegunRow.{BegunRow}
use Rattle.var_values.specs.declared.levels.Step.{Step}
use Rattle.var_values.specs.declared.levels.Step.TheVariants.{On, Element, End}
use Rattle.var_values.specs.declared.levels.Rows.{Rows}

abbrev pub level_of : Option ℕ → ℕ → Level
level_of c step = record { count = unwrap_or c 0; step = step }

-- the levels of an array with these counts, the outermost first
abbrev pub levels : List (Option ℕ) → ℕ → List Level
levels [] size = []
levels (c ∷ cs) size = level_of c (row_size cs size) ∷ levels cs size

-- the same by the sizes that are known
abbrev pub sized_levels : List (Option ℕ) → Option ℕ → List Level
sized_levels [] size = []
sized_levels (c ∷ cs) size = level_of c (unwrap_or (array_size cs size) 0) ∷ sized_levels cs size

abbrev pub levels_behind : Subranges → ℕ → List Level
levels_behind a k = sized_levels (drop k a.counts) (Some a.element)

abbrev pub shown : ℕ → ℕ
shown n = min n shown_elements

-- the text of the rows of these levels at an offset, where `item` is of the innermost elements
unfoldable pub rows_text : (ℕ → List ℕ) → List Level → ℕ → List ℕ
rows_text item [] z = item z
rows_text item (l ∷ ls) z = braced (map (λ i. rows_text item ls (z + i * l.step)) (range_with_len 0 (shown l.count)) ++ dots l.count)

-- what stands behind the elements before number i of n
unfoldable pub later : (ℕ → List ℕ) → ℕ → ℕ → List ℕ
later text i n = flat_map (λ y. codes ", " ++ y) (map text (range_with_len i (shown n - i)) ++ dots n) ++ codes "}"

abbrev pub ending : ℕ → List ℕ
ending n = (if nat_lt shown_elements n then codes ", ..." else []) ++ codes "}"

abbrev pub row_later : (ℕ → List ℕ) → OpenRow → List Level → List ℕ
row_later item r ls = later (λ i. rows_text item ls (r.start + i * r.level.step)) r.next r.level.count

-- behind an element of the innermost open row: the open rows are the innermost first, and the levels are those inside of it
unfoldable pub behind : (ℕ → List ℕ) → List OpenRow → List Level → List ℕ
behind item [] ls = []
behind item (r ∷ rs) ls = row_later item r ls ++ behind item rs (r.level ∷ ls)

abbrev pub pending_text : (ℕ → List ℕ) → Option ℕ → List Level → List ℕ
pending_text item None ls = []
pending_text item (Some z) ls = rows_text item ls z

abbrev pub left_at : (ℕ → List ℕ) → Option ℕ → List OpenRow → List Level → List ℕ
left_at item pending rs ls = pending_text item pending ls ++ behind item rs ls

abbrev pub row : Level → ℕ → ℕ → OpenRow
row l start next = record { level = l; start = start; next = next }

-- ---- offsets

abbrev pub whole : List Level → ℕ
whole [] = 0
whole (l ∷ ls) = l.count * l.step

abbrev pub AreNested : List Level → Type 0
AreNested [] = Unit {0}
AreNested (l ∷ ls) = (whole ls ≤ l.step) × AreNested ls

abbrev pub AreOpen : List OpenRow → List Level → Type 0
AreOpen [] ls = AreNested ls
AreOpen (r ∷ rs) ls = (r.start + r.level.count * r.level.step < 2 ^ 64) × AreOpen rs (r.level ∷ ls)

abbrev pub IsPending : Option ℕ → List Level → Type 0
IsPending None ls = Unit {0}
IsPending (Some z) ls = z + whole ls < 2 ^ 64

pub record IsSoundAt (pending : Option ℕ) (rs : List OpenRow) (ls : List Level) : Type 0 where
  pub rows : AreOpen rs ls
  pub next : IsPending pending ls

-- ---- open rows

-- the level of the subrange of a number
abbrev pub level_at : Subranges → ℕ → Level
level_at a k = level_of (option_and_then (λ c. c) (slice_get a.counts k)) (unwrap_or (size_behind a (k + 1)) 0)

-- a row whose last element was begun: where it starts is told no more
abbrev pub finished : Level → OpenRow
finished l = row l 0 l.count

abbrev pub begun_row : ℕ → OpenRow → BegunRow
begun_row number r = record { number = number; start = r.start; next = r.next }

-- a row is kept if it has more elements
abbrev pub kept : ℕ → OpenRow → List BegunRow → List BegunRow
kept number r rows = if nat_lt r.next (shown r.level.count) then rows ++ begun_row number r ∷ [] else rows

-- the rows of d subranges behind the first p, the innermost first, of which these are kept, the innermost first
unfoldable pub open_rows : Subranges → ℕ → ℕ → List BegunRow → List OpenRow
open_rows a p zero rows = []
open_rows a p (suc d) [] = finished (level_at a (p + d)) ∷ open_rows a p d []
open_rows a p (suc d) (b ∷ rows) = if b.number == p + d then row (level_at a (p + d)) b.start b.next ∷ open_rows a p d rows else finished (level_at a (p + d)) ∷ open_rows a p d (b ∷ rows)

abbrev pub rows_of : Subranges → Rows → List OpenRow
rows_of a r = open_rows a r.passed (r.opened - r.passed) (reverse r.begun)

-- kept rows are of subranges before a number, each before the one in front, and have more elements
abbrev pub AreBelow : Subranges → ℕ → List BegunRow → Type 0
AreBelow a n [] = Unit {0}
AreBelow a n (b ∷ rows) = (b.number < n) × (b.next < shown (level_at a b.number).count) × AreBelow a b.number rows

-- the innermost of kept rows, the last one, is of another subrange
abbrev pub IsOther : ℕ → List BegunRow → Type 0
IsOther n rows = IfSome (slice_get rows (length rows - 1)) (λ (b : BegunRow). b.number ≢ n)

pub record AreSound (a : Subranges) (r : Rows) : Type 0 where
  pub fits : IsSoundAt r.pending (rows_of a r) (levels_behind a r.opened)
  pub order : r.passed ≤ r.opened
  pub within : r.passed < r.opened → r.opened ≤ length a.counts
  pub below : AreBelow a r.opened (reverse r.begun)

-- ---- steps

-- all that is left
abbrev pub rows_left : (ℕ → List ℕ) → Subranges → Rows → List ℕ
rows_left item a r = left_at item r.pending (rows_of a r) (levels_behind a r.opened)

-- what is left behind a step: where an element is to be written, it is left too
abbrev pub step_left : (ℕ → List ℕ) → Subranges → Step → Rows → List ℕ
step_left item a On r = rows_left item a r
step_left item a (Element z) r = item z ++ rows_left item a r
step_left item a End r = []

abbrev pub bit : Option ℕ → ℕ
bit None = 0
bit (Some z) = 1

-- how much is left to write, with elements without a text
abbrev pub extent : Subranges → Rows → ℕ
extent a r = 2 * length (rows_left (λ z. []) a r) + bit r.pending

abbrev pub Falls : Subranges → Step → Rows → Rows → Type 0
Falls a On old new = extent a new < extent a old
Falls a (Element z) old new = extent a new < extent a old
Falls a End old new = Unit {0}

abbrev pub step_of : Option ℕ → Step
step_of None = End
step_of (Some z) = Element z
