-- Steps through the rows of an array.
use Rattle.std.proofs.Common.{◌≡◌, ℕ, zero, suc, ◌+◌, ◌-◌, ◌*◌, ◌<◌, ◌≤◌, Bool, true, false, eqb, ltb, eq-eqb, ne_eqb, ltb-true, ltb-false, List, [], ◌∷◌, ◌++◌, Option, Some, None, length, get_or, refl, sym, ap, ◌∙◌, append_assoc, subst, mul-le-mul_right, arith}
use Rattle.std.specs.Prelude.{◌^◌, ◌==◌, ◌≢◌, IfSome, nat_lt, if◌then◌else◌, map, reverse, slice_get, codes}
use Rattle.std.specs.List.{flat_map, range_with_len}
use Rattle.std.proofs.lemmas.List.{reverse-append, append-nil, length-append, length-reverse, get_or-reverse}
use Rattle.std.proofs.lemmas.Option.{slice_get-get_or}
use Rattle.dwarf_types.specs.calls.Subranges.{Subranges}
use Rattle.var_values.specs.declared.levels.Level.{Level}
use Rattle.var_values.specs.declared.levels.OpenRow.{OpenRow}
use Rattle.var_values.specs.declared.levels.BegunRow.{BegunRow}
use Rattle.var_values.specs.declared.levels.Rows.{Rows}
use Rattle.var_values.specs.Values.{braced, dots, shown_elements}
use Rattle.var_values.proofs.BehindLaws.{levels_there, none_behind}
use Rattle.var_values.specs.inner.Odometer.{shown, rows_text, later, ending, row_later, behind, pending_text, left_at, row, whole, AreNested, AreOpen, IsPending, IsSoundAt, levels_behind}
use Rattle.var_values.specs.inner.Odometer.{level_at, finished, begun_row, kept, open_rows, rows_of, AreBelow, IsOther, AreSound, rows_left, bit, extent}

-- what stands behind k elements from number i on
abbrev pub run : (ℕ → List ℕ) → ℕ → ℕ → ℕ → List ℕ
run text i k n = flat_map (λ y. codes ", " ++ y) (map text (range_with_len i k) ++ dots n) ++ codes "}"

pub later_run : (text : ℕ → List ℕ) (i n k : ℕ) → shown n - i ≡ k → later text i n ≡ run text i k n
unfolding later
later_run text i n k is = ap (λ (j : ℕ). run text i j n) is

pub run_one : (text : ℕ → List ℕ) (i k n : ℕ) → run text i (suc k) n ≡ codes ", " ++ (text i ++ run text (i + 1) k n)
run_one text i k n = ap (λ (t : List ℕ). codes ", " ++ t) (append_assoc (text i) (flat_map (λ y. codes ", " ++ y) (map text (range_with_len (i + 1) k) ++ dots n)) (codes "}"))

-- one more element
pub one_later : (text : ℕ → List ℕ) (i n : ℕ) → i < shown n → later text i n ≡ codes ", " ++ (text i ++ later text (i + 1) n)
one_later text i n lt = by_length text i n (shown n - i) (omega arith) refl
  where
    by_length : (text : ℕ → List ℕ) (i n k : ℕ) → 0 < k → shown n - i ≡ k → later text i n ≡ codes ", " ++ (text i ++ later text (i + 1) n)
    by_length text i n zero some is = absurd (omega arith)
    by_length text i n (suc k) some is =
        let less : shown n - (i + 1) ≡ k = omega arith in
        later_run text i n (suc k) is ∙ run_one text i k n ∙ ap (λ (t : List ℕ). codes ", " ++ (text i ++ t)) (sym (later_run text (i + 1) n k less))

dots_end : (b : Bool) → flat_map (λ y. codes ", " ++ y) (if b then codes "..." ∷ [] else []) ++ codes "}" ≡ (if b then codes ", ..." else []) ++ codes "}"
dots_end true = refl
dots_end false = refl

pub none_later : (text : ℕ → List ℕ) (i n : ℕ) → shown n ≤ i → later text i n ≡ ending n
none_later text i n le =
    let none : shown n - i ≡ 0 = omega arith in
    later_run text i n 0 none ∙ dots_end (nat_lt shown_elements n)

-- the first element
braced_first : (text : ℕ → List ℕ) (k n : ℕ) → braced (map text (range_with_len 0 (suc k)) ++ dots n) ≡ codes "{" ++ (text 0 ++ run text 1 k n)
braced_first text k n =
    ap (λ (t : List ℕ). codes "{" ++ t) (append_assoc (text 0) (flat_map (λ y. codes ", " ++ y) (map text (range_with_len 1 k) ++ dots n)) (codes "}"))

row_begins : (text : ℕ → List ℕ) (n k : ℕ) → 0 < k → shown n ≡ k → braced (map text (range_with_len 0 k) ++ dots n) ≡ codes "{" ++ (text 0 ++ later text 1 n)
row_begins text n zero some is = absurd (omega arith)
row_begins text n (suc k) some is =
    let less : shown n - 1 ≡ k = omega arith in
    braced_first text k n ∙ ap (λ (t : List ℕ). codes "{" ++ (text 0 ++ t)) (sym (later_run text 1 n k less))

pub rows_begin : (item : ℕ → List ℕ) (l : Level) (ls : List Level) (z : ℕ) → 0 < l.count
    → rows_text item (l ∷ ls) z ≡ codes "{" ++ (rows_text item ls z ++ later (λ i. rows_text item ls (z + i * l.step)) 1 l.count)
unfolding rows_text
rows_begin item l ls z some =
    let start : z + 0 * l.step ≡ z = omega arith in
    row_begins (λ i. rows_text item ls (z + i * l.step)) l.count (shown l.count) (omega arith) refl
    ∙ ap (λ (y : ℕ). codes "{" ++ (rows_text item ls y ++ later (λ i. rows_text item ls (z + i * l.step)) 1 l.count)) start

pub rows_empty : (item : ℕ → List ℕ) (l : Level) (ls : List Level) (z : ℕ) → l.count ≡ 0 → rows_text item (l ∷ ls) z ≡ codes "{}"
unfolding rows_text
rows_empty item l ls z none =
    ap (λ (n : ℕ). braced (map (λ i. rows_text item ls (z + i * l.step)) (range_with_len 0 (shown n)) ++ dots n)) none

-- ---- rows, the innermost first

pub row_begun : (item : ℕ → List ℕ) (rs : List OpenRow) (ls : List Level) (l : Level) (z : ℕ) → 0 < l.count
    → left_at item (Some z) rs (l ∷ ls) ≡ codes "{" ++ left_at item (Some z) (row l z 1 ∷ rs) ls
unfolding behind
row_begun item rs ls l z some =
    ap (λ (t : List ℕ). t ++ behind item rs (l ∷ ls)) (rows_begin item l ls z some)
    ∙ ap (λ (t : List ℕ). codes "{" ++ t) (append_assoc (rows_text item ls z) (later (λ i. rows_text item ls (z + i * l.step)) 1 l.count) (behind item rs (l ∷ ls)))

pub row_empty : (item : ℕ → List ℕ) (rs : List OpenRow) (ls : List Level) (l : Level) (z : ℕ) → l.count ≡ 0
    → left_at item (Some z) rs (l ∷ ls) ≡ codes "{}" ++ left_at item None rs (l ∷ ls)
row_empty item rs ls l z none = ap (λ (t : List ℕ). t ++ behind item rs (l ∷ ls)) (rows_empty item l ls z none)

pub row_goes_on : (item : ℕ → List ℕ) (rs : List OpenRow) (ls : List Level) (r : OpenRow) → r.next < shown r.level.count
    → left_at item None (r ∷ rs) ls ≡ codes ", " ++ left_at item (Some (r.start + r.next * r.level.step)) (row r.level r.start (r.next + 1) ∷ rs) ls
unfolding behind
row_goes_on item rs ls r lt =
    let text : ℕ → List ℕ = λ i. rows_text item ls (r.start + i * r.level.step) in
    ap (λ (t : List ℕ). t ++ behind item rs (r.level ∷ ls)) (one_later text r.next r.level.count lt)
    ∙ ap (λ (t : List ℕ). codes ", " ++ t) (append_assoc (text r.next) (later text (r.next + 1) r.level.count) (behind item rs (r.level ∷ ls)))

pub row_ends : (item : ℕ → List ℕ) (rs : List OpenRow) (ls : List Level) (r : OpenRow) → shown r.level.count ≤ r.next
    → left_at item None (r ∷ rs) ls ≡ ending r.level.count ++ left_at item None rs (r.level ∷ ls)
unfolding behind
row_ends item rs ls r le =
    ap (λ (t : List ℕ). t ++ behind item rs (r.level ∷ ls)) (none_later (λ i. rows_text item ls (r.start + i * r.level.step)) r.next r.level.count le)

pub shown_most : (n : ℕ) → shown n ≤ n
shown_most n = omega arith

-- of a row whose last element was begun it does not matter where it starts
pub finished_left : (item : ℕ → List ℕ) (p : Option ℕ) (rs : List OpenRow) (ls : List Level) (r : OpenRow) → shown r.level.count ≤ r.next
    → left_at item p (r ∷ rs) ls ≡ left_at item p (finished r.level ∷ rs) ls
unfolding behind
finished_left item p rs ls r le =
    let n = r.level.count in
    ap (λ (t : List ℕ). pending_text item p ls ++ (t ++ behind item rs (r.level ∷ ls)))
    (none_later (λ i. rows_text item ls (r.start + i * r.level.step)) r.next n le ∙ sym (none_later (λ i. rows_text item ls (0 + i * r.level.step)) n n (shown_most n)))

-- ---- offsets fit

more_steps : (i n step : ℕ) → i < n → i * step + step ≤ n * step
more_steps i n step lt =
    let up : (i + 1) * step ≤ n * step = mul-le-mul_right step (omega arith) in
    omega (arith, up)

nested_in : (rs : List OpenRow) (ls : List Level) → AreOpen rs ls → AreNested ls
nested_in [] ls h = h
nested_in (r ∷ rs) ls h = (nested_in rs (r.level ∷ ls) h.1).1

begun_at : (rs : List OpenRow) (ls : List Level) (l : Level) (z : ℕ) → 0 < l.count → IsSoundAt (Some z) rs (l ∷ ls) → IsSoundAt (Some z) (row l z 1 ∷ rs) ls
begun_at rs ls l z some h =
    let nested : whole ls ≤ l.step = (nested_in rs (l ∷ ls) h.rows).0 in
    let up : 0 * l.step + l.step ≤ l.count * l.step = more_steps 0 l.count l.step some in
    record { rows = (h.next, h.rows); next = omega (arith, nested, up, h.next) }

goes_on_at : (rs : List OpenRow) (ls : List Level) (r : OpenRow) → r.next < shown r.level.count → IsSoundAt None (r ∷ rs) ls
    → IsSoundAt (Some (r.start + r.next * r.level.step)) (row r.level r.start (r.next + 1) ∷ rs) ls
goes_on_at rs ls r lt h =
    let nested : whole ls ≤ r.level.step = (nested_in rs (r.level ∷ ls) h.rows.1).0 in
    let up : r.next * r.level.step + r.level.step ≤ r.level.count * r.level.step = more_steps r.next r.level.count r.level.step (omega arith) in
    record { rows = (h.rows.0, h.rows.1); next = omega (arith, nested, up, h.rows.0) }

ends_at : (rs : List OpenRow) (ls : List Level) (r : OpenRow) → IsSoundAt None (r ∷ rs) ls → IsSoundAt None rs (r.level ∷ ls)
ends_at rs ls r h = record { rows = h.rows.1; next = tt }

finished_at : (p : Option ℕ) (rs : List OpenRow) (ls : List Level) (r : OpenRow) → IsSoundAt p (r ∷ rs) ls → IsSoundAt p (finished r.level ∷ rs) ls
finished_at p rs ls r h = record { rows = (omega (arith, h.rows.0), h.rows.1); next = h.next }

-- ---- what is kept of them

-- the row of the innermost subrange, where it is kept
open_kept : (a : Subranges) (p d : ℕ) (b : BegunRow) (bs : List BegunRow) → b.number ≡ p + d
    → open_rows a p (suc d) (b ∷ bs) ≡ row (level_at a (p + d)) b.start b.next ∷ open_rows a p d bs
unfolding open_rows
open_kept a p d b bs is =
    ap (λ (t : Bool). if t then row (level_at a (p + d)) b.start b.next ∷ open_rows a p d bs else finished (level_at a (p + d)) ∷ open_rows a p d (b ∷ bs)) (eq-eqb b.number (p + d) is)

-- and where it is not
open_finished : (a : Subranges) (p d : ℕ) (bs : List BegunRow) → AreBelow a (p + d) bs → open_rows a p (suc d) bs ≡ finished (level_at a (p + d)) ∷ open_rows a p d bs
unfolding open_rows
open_finished a p d [] below = refl
open_finished a p d (b ∷ bs) below =
    ap (λ (t : Bool). if t then row (level_at a (p + d)) b.start b.next ∷ open_rows a p d bs else finished (level_at a (p + d)) ∷ open_rows a p d (b ∷ bs))
    (ne_eqb b.number (p + d) (λ same. omega (arith, below.0, same)))

-- the same with the top at the end
abbrev pub stack_kept : ℕ → OpenRow → List BegunRow → List BegunRow
stack_kept n r bs = if nat_lt r.next (shown r.level.count) then begun_row n r ∷ bs else bs

reversed_by : (t : Bool) (b : BegunRow) (rows : List BegunRow) → reverse (if t then rows ++ b ∷ [] else rows) ≡ (if t then b ∷ reverse rows else reverse rows)
reversed_by true b rows = reverse-append rows (b ∷ [])
reversed_by false b rows = refl

kept_reversed : (n : ℕ) (r : OpenRow) (rows : List BegunRow) → reverse (kept n r rows) ≡ stack_kept n r (reverse rows)
kept_reversed n r rows = reversed_by (nat_lt r.next (shown r.level.count)) (begun_row n r) rows

-- a property of the open rows with one more in front holds of what is kept of them, if it does not tell finished rows apart
kept_by : (P : List OpenRow → Type 0) (a : Subranges) (p d n : ℕ) (r : OpenRow) (bs : List BegunRow) (t : Bool) → n ≡ p + d → r.level ≡ level_at a (p + d) → AreBelow a (p + d) bs
    → (t ≡ false → P (r ∷ open_rows a p d bs) → P (finished r.level ∷ open_rows a p d bs)) → P (r ∷ open_rows a p d bs) → P (open_rows a p (suc d) (if t then begun_row n r ∷ bs else bs))
kept_by P a p d n r bs true is level below alike h =
    subst P (sym (open_kept a p d (begun_row n r) bs is)) (subst (λ (l : Level). P (row l r.start r.next ∷ open_rows a p d bs)) level h)
kept_by P a p d n r bs false is level below alike h =
    subst P (sym (open_finished a p d bs below)) (subst (λ (l : Level). P (finished l ∷ open_rows a p d bs)) level (alike refl h))

kept_all : (P : List OpenRow → Type 0) (a : Subranges) (p d n : ℕ) (r : OpenRow) (rows new : List BegunRow) → n ≡ p + d → r.level ≡ level_at a (p + d) → AreBelow a (p + d) (reverse rows)
    → new ≡ kept n r rows → (shown r.level.count ≤ r.next → P (r ∷ open_rows a p d (reverse rows)) → P (finished r.level ∷ open_rows a p d (reverse rows)))
    → P (r ∷ open_rows a p d (reverse rows)) → P (open_rows a p (suc d) (reverse new))
kept_all P a p d n r rows new is level below made alike h =
    subst (λ (bs : List BegunRow). P (open_rows a p (suc d) bs)) (sym (ap reverse made ∙ kept_reversed n r rows))
    (kept_by P a p d n r (reverse rows) (nat_lt r.next (shown r.level.count)) is level below (λ no. alike (ltb-false r.next (shown r.level.count) no)) h)

below_by : (a : Subranges) (n m : ℕ) (r : OpenRow) (bs : List BegunRow) (t : Bool) → n < m → r.level ≡ level_at a n → (t ≡ true → r.next < shown r.level.count) → AreBelow a n bs
    → AreBelow a m (if t then begun_row n r ∷ bs else bs)
below_by a n m r bs true lt level more below = (lt, subst (λ (l : Level). r.next < shown l.count) level (more refl), below)
below_by a n m r [] false lt level more below = tt
below_by a n m r (b ∷ bs) false lt level more below = (omega (arith, lt, below.0), below.1, below.2)

below_all : (a : Subranges) (n m : ℕ) (r : OpenRow) (rows new : List BegunRow) → n < m → r.level ≡ level_at a n → new ≡ kept n r rows → AreBelow a n (reverse rows) → AreBelow a m (reverse new)
below_all a n m r rows new lt level made below =
    subst (λ (bs : List BegunRow). AreBelow a m bs) (sym (ap reverse made ∙ kept_reversed n r rows))
    (below_by a n m r (reverse rows) (nat_lt r.next (shown r.level.count)) lt level (λ yes. ltb-true r.next (shown r.level.count) yes) below)

-- one that was not kept
other_by : (a : Subranges) (n m : ℕ) (rows bs : List BegunRow) → reverse rows ≡ bs → m ≡ n + 1 → AreBelow a m bs → IsOther n rows → AreBelow a n bs
other_by a n m rows [] is next below other = tt
other_by a n m rows (b ∷ bs) is next below other =
    let counted : length rows ≡ suc (length bs) = sym (length-reverse rows) ∙ ap length is in
    let first : get_or (reverse rows) 0 b ≡ get_or rows (length rows - 1 - 0) b = get_or-reverse rows 0 b (omega (arith, counted)) in
    let last : get_or rows (length rows - 1) b ≡ b = ap (λ (k : ℕ). get_or rows k b) (omega (arith, counted)) ∙ sym first ∙ ap (λ (xs : List BegunRow). get_or xs 0 b) is in
    let there : slice_get rows (length rows - 1) ≡ Some b = slice_get-get_or rows (length rows - 1) b (omega (arith, counted)) ∙ ap Some last in
    let no : b.number ≢ n = subst (λ (o : Option BegunRow). IfSome o (λ (b : BegunRow). b.number ≢ n)) there other in
    (omega (arith, below.0, next, no), below.1, below.2)

-- ---- by what is passed over and what is open

at_numbers : (a : Subranges) (p d o m : ℕ) (x : Option ℕ) (bs : List BegunRow) → o - p ≡ d → o ≡ m → IsSoundAt x (open_rows a p d bs) (levels_behind a m)
    → IsSoundAt x (open_rows a p (o - p) bs) (levels_behind a o)
at_numbers a p d o m x bs less same h =
    subst (λ (k : ℕ). IsSoundAt x (open_rows a p k bs) (levels_behind a o)) (sym less) (subst (λ (k : ℕ). IsSoundAt x (open_rows a p d bs) (levels_behind a k)) (sym same) h)

of_numbers : (a : Subranges) (p d o m : ℕ) (x : Option ℕ) (bs : List BegunRow) → o - p ≡ d → o ≡ m → IsSoundAt x (open_rows a p (o - p) bs) (levels_behind a o)
    → IsSoundAt x (open_rows a p d bs) (levels_behind a m)
of_numbers a p d o m x bs less same h =
    subst (λ (k : ℕ). IsSoundAt x (open_rows a p d bs) (levels_behind a k)) same (subst (λ (k : ℕ). IsSoundAt x (open_rows a p k bs) (levels_behind a o)) less h)

left_numbers : (item : ℕ → List ℕ) (a : Subranges) (p d o m : ℕ) (x : Option ℕ) (bs : List BegunRow) → o - p ≡ d → o ≡ m
    → left_at item x (open_rows a p (o - p) bs) (levels_behind a o) ≡ left_at item x (open_rows a p d bs) (levels_behind a m)
left_numbers item a p d o m x bs less same =
    ap (λ (k : ℕ). left_at item x (open_rows a p k bs) (levels_behind a o)) less ∙ ap (λ (k : ℕ). left_at item x (open_rows a p d bs) (levels_behind a k)) same

-- ---- at the start

none_open : (a : Subranges) (k d : ℕ) (bs : List BegunRow) → d ≡ 0 → AreNested (levels_behind a k) → whole (levels_behind a k) < 2 ^ 64 → IsSoundAt (Some 0) (open_rows a k d bs) (levels_behind a k)
unfolding open_rows
none_open a k zero bs is nested fits = record { rows = nested; next = omega (arith, fits) }
none_open a k (suc d) bs is nested fits = absurd (omega (arith, is))

pub new_sound : (a : Subranges) (k : ℕ) (rows : List BegunRow) → rows ≡ [] → AreNested (levels_behind a k) → whole (levels_behind a k) < 2 ^ 64
    → AreSound a record { pending = Some 0; begun = rows; passed = k; opened = k }
new_sound a k rows none nested fits = record {
  fits = none_open a k (k - k) (reverse rows) (omega arith) nested fits;
  order = omega arith;
  within = λ lt. absurd (omega (arith, lt));
  below = subst (λ (bs : List BegunRow). AreBelow a k (reverse bs)) (sym none) tt;
}

none_left : (item : ℕ → List ℕ) (a : Subranges) (k d : ℕ) (bs : List BegunRow) (ls : List Level) → d ≡ 0 → left_at item (Some 0) (open_rows a k d bs) ls ≡ rows_text item ls 0
unfolding open_rows behind
none_left item a k zero bs ls is = append-nil (rows_text item ls 0)
none_left item a k (suc d) bs ls is = absurd (omega (arith, is))

pub new_all : (item : ℕ → List ℕ) (a : Subranges) (k : ℕ) (rows : List BegunRow)
    → left_at item (Some 0) (open_rows a k (k - k) (reverse rows)) (levels_behind a k) ≡ rows_text item (levels_behind a k) 0
new_all item a k rows = none_left item a k (k - k) (reverse rows) (levels_behind a k) (omega arith)

-- ---- a row begins

-- behind what was written
keeps_by : (old new written left rest : List ℕ) → new ≡ old ++ written → left ≡ written ++ rest → old ++ left ≡ new ++ rest
keeps_by old new written left rest text are =
    ap (λ (t : List ℕ). old ++ t) are ∙ sym (append_assoc old written rest) ∙ ap (λ (t : List ℕ). t ++ rest) (sym text)

pub empty_keeps : (old new : List ℕ) (item : ℕ → List ℕ) (a : Subranges) (r : Rows) (l : Level) (z : ℕ) → new ≡ old ++ codes "{}" → r.pending ≡ Some z → l ≡ level_at a r.opened → l.count ≡ 0
    → r.opened < length a.counts → old ++ rows_left item a r ≡ new ++ left_at item None (rows_of a r) (levels_behind a r.opened)
empty_keeps old new item a r l z text is level none within =
    let rs = rows_of a r in
    let ls = levels_behind a (r.opened + 1) in
    let there : levels_behind a r.opened ≡ l ∷ ls = levels_there a r.opened within ∙ ap (λ (k : Level). k ∷ ls) (sym level) in
    keeps_by old new (codes "{}") (rows_left item a r) (left_at item None rs (levels_behind a r.opened)) text
    (ap (λ (x : Option ℕ). left_at item x rs (levels_behind a r.opened)) is ∙ ap (λ (ks : List Level). left_at item (Some z) rs ks) there ∙ row_empty item rs ls l z none
    ∙ ap (λ (ks : List Level). codes "{}" ++ left_at item None rs ks) (sym there))

begun_fits : (a : Subranges) (p d o z : ℕ) (rows new : List BegunRow) (l : Level) → o ≡ p + d → l ≡ level_at a o → 0 < l.count → o < length a.counts → AreBelow a o (reverse rows) → new ≡ kept o (row l z 1) rows
    → IsSoundAt (Some z) (open_rows a p d (reverse rows)) (levels_behind a o) → IsSoundAt (Some z) (open_rows a p (suc d) (reverse new)) (levels_behind a (o + 1))
begun_fits a p d o z rows new l is level some within below made h =
    let rs = open_rows a p d (reverse rows) in
    let ls = levels_behind a (o + 1) in
    let here : IsSoundAt (Some z) rs (l ∷ ls) = subst (λ (ks : List Level). IsSoundAt (Some z) rs ks) (levels_there a o within ∙ ap (λ (k : Level). k ∷ ls) (sym level)) h in
    kept_all (λ (xs : List OpenRow). IsSoundAt (Some z) xs ls) a p d o (row l z 1) rows new is (level ∙ ap (level_at a) is) (subst (λ (k : ℕ). AreBelow a k (reverse rows)) is below) made
    (λ le g. finished_at (Some z) rs ls (row l z 1) g) (begun_at rs ls l z some here)

begun_left : (item : ℕ → List ℕ) (a : Subranges) (p d o z : ℕ) (rows new : List BegunRow) (l : Level) → o ≡ p + d → l ≡ level_at a o → 0 < l.count → o < length a.counts → AreBelow a o (reverse rows)
    → new ≡ kept o (row l z 1) rows
    → left_at item (Some z) (open_rows a p d (reverse rows)) (levels_behind a o) ≡ codes "{" ++ left_at item (Some z) (open_rows a p (suc d) (reverse new)) (levels_behind a (o + 1))
begun_left item a p d o z rows new l is level some within below made =
    let rs = open_rows a p d (reverse rows) in
    let ls = levels_behind a (o + 1) in
    ap (λ (ks : List Level). left_at item (Some z) rs ks) (levels_there a o within ∙ ap (λ (k : Level). k ∷ ls) (sym level)) ∙ row_begun item rs ls l z some
    ∙ ap (λ (t : List ℕ). codes "{" ++ t)
    (kept_all (λ (xs : List OpenRow). left_at item (Some z) (row l z 1 ∷ rs) ls ≡ left_at item (Some z) xs ls) a p d o (row l z 1) rows new is (level ∙ ap (level_at a) is)
    (subst (λ (k : ℕ). AreBelow a k (reverse rows)) is below) made (λ le e. e ∙ finished_left item (Some z) rs ls (row l z 1) le) refl)

pub begun_sound : (a : Subranges) (r : Rows) (l : Level) (z : ℕ) (new : List BegunRow) → r.pending ≡ Some z → l ≡ level_at a r.opened → 0 < l.count → r.opened < length a.counts
    → new ≡ kept r.opened (row l z 1) r.begun → AreSound a r → AreSound a record { pending = r.pending; begun = new; passed = r.passed; opened = r.opened + 1 }
begun_sound a r l z new is level some within made h =
    let d = r.opened - r.passed in
    let here : IsSoundAt (Some z) (open_rows a r.passed d (reverse r.begun)) (levels_behind a r.opened) = subst (λ (x : Option ℕ). IsSoundAt x (rows_of a r) (levels_behind a r.opened)) is h.fits in
    let fits = begun_fits a r.passed d r.opened z r.begun new l (omega (arith, h.order)) level some within h.below made here in
    record {
      fits =
          subst (λ (x : Option ℕ). IsSoundAt x (open_rows a r.passed (r.opened + 1 - r.passed) (reverse new)) (levels_behind a (r.opened + 1))) (sym is)
          (at_numbers a r.passed (suc d) (r.opened + 1) (r.opened + 1) (Some z) (reverse new) (omega (arith, h.order)) refl fits);
      order = omega (arith, h.order);
      within = λ lt. omega (arith, within);
      below = below_all a r.opened (r.opened + 1) (row l z 1) r.begun new (omega arith) level made h.below;
    }

pub begun_keeps : (old text : List ℕ) (item : ℕ → List ℕ) (a : Subranges) (r : Rows) (l : Level) (z : ℕ) (new : List BegunRow) → text ≡ old ++ codes "{" → r.pending ≡ Some z → l ≡ level_at a r.opened
    → 0 < l.count → r.opened < length a.counts → new ≡ kept r.opened (row l z 1) r.begun → AreSound a r
    → old ++ rows_left item a r ≡ text ++ left_at item r.pending (open_rows a r.passed (r.opened + 1 - r.passed) (reverse new)) (levels_behind a (r.opened + 1))
begun_keeps old text item a r l z new written is level some within made h =
    let d = r.opened - r.passed in
    let there = open_rows a r.passed (r.opened + 1 - r.passed) (reverse new) in
    let ls = levels_behind a (r.opened + 1) in
    keeps_by old text (codes "{") (rows_left item a r) (left_at item r.pending there ls) written
    (ap (λ (x : Option ℕ). left_at item x (rows_of a r) (levels_behind a r.opened)) is
    ∙ begun_left item a r.passed d r.opened z r.begun new l (omega (arith, h.order)) level some within h.below made
    ∙ ap (λ (t : List ℕ). codes "{" ++ t) (sym (left_numbers item a r.passed (suc d) (r.opened + 1) (r.opened + 1) (Some z) (reverse new) (omega (arith, h.order)) refl))
    ∙ ap (λ (x : Option ℕ). codes "{" ++ left_at item x there ls) (sym is))

-- ---- a row ends

-- the innermost row, whose last element was begun
ended_open : (a : Subranges) (r : Rows) (n : ℕ) → r.opened ≡ n + 1 → r.passed < r.opened → AreSound a r → IsOther n r.begun
    → open_rows a r.passed (suc (n - r.passed)) (reverse r.begun) ≡ finished (level_at a n) ∷ open_rows a r.passed (n - r.passed) (reverse r.begun)
ended_open a r n is lt h other =
    let below : AreBelow a n (reverse r.begun) = other_by a n r.opened r.begun (reverse r.begun) refl is h.below other in
    let same : n ≡ r.passed + (n - r.passed) = omega (arith, is, lt) in
    open_finished a r.passed (n - r.passed) (reverse r.begun) (subst (λ (k : ℕ). AreBelow a k (reverse r.begun)) same below)
    ∙ ap (λ (k : ℕ). finished (level_at a k) ∷ open_rows a r.passed (n - r.passed) (reverse r.begun)) (sym same)

pub ended_sound : (a : Subranges) (r : Rows) (n : ℕ) (new : List BegunRow) → r.pending ≡ None → r.opened ≡ n + 1 → r.passed < r.opened → new ≡ r.begun → IsOther n r.begun → AreSound a r
    → AreSound a record { pending = r.pending; begun = new; passed = r.passed; opened = n }
ended_sound a r n new none is lt made other h =
    let d = n - r.passed in
    let rs = open_rows a r.passed d (reverse r.begun) in
    let l = level_at a n in
    let short : n < length a.counts = omega (arith, h.within lt, is) in
    let here : IsSoundAt None (open_rows a r.passed (suc d) (reverse r.begun)) (levels_behind a (n + 1)) =
    of_numbers a r.passed (suc d) r.opened (n + 1) None (reverse r.begun) (omega (arith, is, lt)) is
    (subst (λ (x : Option ℕ). IsSoundAt x (rows_of a r) (levels_behind a r.opened)) none h.fits) in
    let ended : IsSoundAt None rs (l ∷ levels_behind a (n + 1)) = ends_at rs (levels_behind a (n + 1)) (finished l) (subst (λ (xs : List OpenRow). IsSoundAt None xs (levels_behind a (n + 1))) (ended_open a r n is lt h other) here) in
    subst (λ (bs : List BegunRow). AreSound a record { pending = r.pending; begun = bs; passed = r.passed; opened = n }) (sym made)
    record {
      fits =
          subst (λ (x : Option ℕ). IsSoundAt x rs (levels_behind a n)) (sym none) (subst (λ (ks : List Level). IsSoundAt None rs ks) (sym (levels_there a n short)) ended);
      order = omega (arith, is, lt);
      within = λ less. omega (arith, short);
      below = other_by a n r.opened r.begun (reverse r.begun) refl is h.below other;
    }

pub ended_keeps : (old text : List ℕ) (item : ℕ → List ℕ) (a : Subranges) (r : Rows) (l : Level) (n : ℕ) (new : List BegunRow) → text ≡ old ++ ending l.count → l ≡ level_at a n → r.pending ≡ None → r.opened ≡ n + 1
    → r.passed < r.opened → new ≡ r.begun → IsOther n r.begun → AreSound a r
    → old ++ rows_left item a r ≡ text ++ left_at item r.pending (open_rows a r.passed (n - r.passed) (reverse new)) (levels_behind a n)
ended_keeps old text item a r l n new written level none is lt made other h =
    let d = n - r.passed in
    let rs = open_rows a r.passed d (reverse r.begun) in
    let ls = levels_behind a (n + 1) in
    let short : n < length a.counts = omega (arith, h.within lt, is) in
    let there : l ∷ ls ≡ levels_behind a n = ap (λ (k : Level). k ∷ ls) level ∙ sym (levels_there a n short) in
    keeps_by old text (ending l.count) (rows_left item a r) (left_at item r.pending (open_rows a r.passed d (reverse new)) (levels_behind a n)) written
    (ap (λ (x : Option ℕ). left_at item x (rows_of a r) (levels_behind a r.opened)) none
    ∙ left_numbers item a r.passed (suc d) r.opened (n + 1) None (reverse r.begun) (omega (arith, is, lt)) is
    ∙ ap (λ (xs : List OpenRow). left_at item None xs ls) (ended_open a r n is lt h other ∙ ap (λ (k : Level). finished k ∷ rs) (sym level))
    ∙ row_ends item rs ls (finished l) (shown_most l.count)
    ∙ ap (λ (ks : List Level). ending l.count ++ left_at item None rs ks) there
    ∙ ap (λ (bs : List BegunRow). ending l.count ++ left_at item None (open_rows a r.passed d (reverse bs)) (levels_behind a n)) (sym made)
    ∙ ap (λ (x : Option ℕ). ending l.count ++ left_at item x (open_rows a r.passed d (reverse new)) (levels_behind a n)) (sym none))

-- ---- a row goes on

-- what is known of the row that was taken
pub record IsTaken (a : Subranges) (r : Rows) (n : ℕ) (l : Level) (b : BegunRow) (rest : List BegunRow) : Type 0 where
  pub none : r.pending ≡ None
  pub number : r.opened ≡ n + 1
  pub «open» : r.passed < r.opened
  pub level : l ≡ level_at a n
  pub was : r.begun ≡ rest ++ b ∷ []
  pub same : b.number ≡ n

taken_below : (a : Subranges) (r : Rows) (n : ℕ) (l : Level) (b : BegunRow) (rest : List BegunRow) → IsTaken a r n l b rest → AreSound a r → AreBelow a r.opened (b ∷ reverse rest)
taken_below a r n l b rest t h = subst (λ (bs : List BegunRow). AreBelow a r.opened bs) (ap reverse t.was ∙ reverse-append rest (b ∷ [])) h.below

pub taken_more : (a : Subranges) (r : Rows) (n : ℕ) (l : Level) (b : BegunRow) (rest : List BegunRow) → IsTaken a r n l b rest → AreSound a r → b.next < shown l.count
taken_more a r n l b rest t h =
    subst (λ (k : Level). b.next < shown k.count) (sym (t.level ∙ ap (level_at a) (sym t.same))) ((taken_below a r n l b rest t h).1)

taken_rest : (a : Subranges) (r : Rows) (n : ℕ) (l : Level) (b : BegunRow) (rest : List BegunRow) → IsTaken a r n l b rest → AreSound a r → AreBelow a n (reverse rest)
taken_rest a r n l b rest t h = subst (λ (k : ℕ). AreBelow a k (reverse rest)) t.same ((taken_below a r n l b rest t h).2)

taken_open : (a : Subranges) (r : Rows) (n : ℕ) (l : Level) (b : BegunRow) (rest : List BegunRow) → IsTaken a r n l b rest
    → open_rows a r.passed (suc (n - r.passed)) (reverse r.begun) ≡ row l b.start b.next ∷ open_rows a r.passed (n - r.passed) (reverse rest)
taken_open a r n l b rest t =
    let d = n - r.passed in
    let same : n ≡ r.passed + d = omega (arith, t.number, t.«open») in
    ap (open_rows a r.passed (suc d)) (ap reverse t.was ∙ reverse-append rest (b ∷ [])) ∙ open_kept a r.passed d b (reverse rest) (t.same ∙ same)
    ∙ ap (λ (k : Level). row k b.start b.next ∷ open_rows a r.passed d (reverse rest)) (ap (level_at a) (sym same) ∙ sym t.level)

taken_fits : (a : Subranges) (r : Rows) (n : ℕ) (l : Level) (b : BegunRow) (rest : List BegunRow) → IsTaken a r n l b rest → AreSound a r
    → IsSoundAt None (row l b.start b.next ∷ open_rows a r.passed (n - r.passed) (reverse rest)) (levels_behind a (n + 1))
taken_fits a r n l b rest t h =
    let d = n - r.passed in
    subst (λ (xs : List OpenRow). IsSoundAt None xs (levels_behind a (n + 1))) (taken_open a r n l b rest t)
    (of_numbers a r.passed (suc d) r.opened (n + 1) None (reverse r.begun) (omega (arith, t.number, t.«open»)) t.number
    (subst (λ (x : Option ℕ). IsSoundAt x (rows_of a r) (levels_behind a r.opened)) t.none h.fits))

pub next_fits : (a : Subranges) (r : Rows) (n : ℕ) (l : Level) (b : BegunRow) (rest : List BegunRow) → IsTaken a r n l b rest → AreSound a r → b.start + b.next * l.step < 2 ^ 64
next_fits a r n l b rest t h =
    let rs = open_rows a r.passed (n - r.passed) (reverse rest) in
    let at = goes_on_at rs (levels_behind a (n + 1)) (row l b.start b.next) (taken_more a r n l b rest t h) (taken_fits a r n l b rest t h) in
    omega (arith, at.next)

pub next_sound : (a : Subranges) (r : Rows) (n : ℕ) (l : Level) (b : BegunRow) (rest new : List BegunRow) (x : Option ℕ) → IsTaken a r n l b rest → x ≡ Some (b.start + b.next * l.step)
    → new ≡ kept n (row l b.start (b.next + 1)) rest → AreSound a r → AreSound a record { pending = x; begun = new; passed = r.passed; opened = r.opened }
next_sound a r n l b rest new x t is made h =
    let d = n - r.passed in
    let rs = open_rows a r.passed d (reverse rest) in
    let ls = levels_behind a (n + 1) in
    let z = b.start + b.next * l.step in
    let next = row l b.start (b.next + 1) in
    let same : n ≡ r.passed + d = omega (arith, t.number, t.«open») in
    let at : IsSoundAt (Some z) (next ∷ rs) ls = goes_on_at rs ls (row l b.start b.next) (taken_more a r n l b rest t h) (taken_fits a r n l b rest t h) in
    let all : IsSoundAt (Some z) (open_rows a r.passed (suc d) (reverse new)) ls =
    kept_all (λ (xs : List OpenRow). IsSoundAt (Some z) xs ls) a r.passed d n next rest new same (t.level ∙ ap (level_at a) same)
    (subst (λ (k : ℕ). AreBelow a k (reverse rest)) same (taken_rest a r n l b rest t h)) made (λ le g. finished_at (Some z) rs ls next g) at in
    record {
      fits =
          subst (λ (y : Option ℕ). IsSoundAt y (open_rows a r.passed (r.opened - r.passed) (reverse new)) (levels_behind a r.opened)) (sym is)
          (at_numbers a r.passed (suc d) r.opened (n + 1) (Some z) (reverse new) (omega (arith, t.number, t.«open»)) t.number all);
      order = h.order;
      within = h.within;
      below = below_all a n r.opened next rest new (omega (arith, t.number)) t.level made (taken_rest a r n l b rest t h);
    }

pub next_keeps : (old text : List ℕ) (item : ℕ → List ℕ) (a : Subranges) (r : Rows) (n : ℕ) (l : Level) (b : BegunRow) (rest new : List BegunRow) (x : Option ℕ) → text ≡ old ++ codes ", "
    → IsTaken a r n l b rest → x ≡ Some (b.start + b.next * l.step) → new ≡ kept n (row l b.start (b.next + 1)) rest → AreSound a r
    → old ++ rows_left item a r ≡ text ++ left_at item x (open_rows a r.passed (r.opened - r.passed) (reverse new)) (levels_behind a r.opened)
next_keeps old text item a r n l b rest new x written t is made h =
    let d = n - r.passed in
    let rs = open_rows a r.passed d (reverse rest) in
    let ls = levels_behind a (n + 1) in
    let z = b.start + b.next * l.step in
    let next = row l b.start (b.next + 1) in
    let less : r.opened - r.passed ≡ suc d = omega (arith, t.number, t.«open») in
    let same : n ≡ r.passed + d = omega (arith, t.number, t.«open») in
    let kept_left : left_at item (Some z) (next ∷ rs) ls ≡ left_at item (Some z) (open_rows a r.passed (suc d) (reverse new)) ls =
    kept_all (λ (xs : List OpenRow). left_at item (Some z) (next ∷ rs) ls ≡ left_at item (Some z) xs ls) a r.passed d n next rest new same (t.level ∙ ap (level_at a) same)
    (subst (λ (k : ℕ). AreBelow a k (reverse rest)) same (taken_rest a r n l b rest t h)) made (λ le e. e ∙ finished_left item (Some z) rs ls next le) refl in
    keeps_by old text (codes ", ") (rows_left item a r) (left_at item x (open_rows a r.passed (r.opened - r.passed) (reverse new)) (levels_behind a r.opened)) written
    (ap (λ (y : Option ℕ). left_at item y (rows_of a r) (levels_behind a r.opened)) t.none
    ∙ left_numbers item a r.passed (suc d) r.opened (n + 1) None (reverse r.begun) less t.number
    ∙ ap (λ (xs : List OpenRow). left_at item None xs ls) (taken_open a r n l b rest t)
    ∙ row_goes_on item rs ls (row l b.start b.next) (taken_more a r n l b rest t h)
    ∙ ap (λ (s : List ℕ). codes ", " ++ s) (kept_left ∙ sym (left_numbers item a r.passed (suc d) r.opened (n + 1) (Some z) (reverse new) less t.number))
    ∙ ap (λ (y : Option ℕ). codes ", " ++ left_at item y (open_rows a r.passed (r.opened - r.passed) (reverse new)) (levels_behind a r.opened)) (sym is))

-- ---- steps

small_bit : (p : Option ℕ) → bit p ≤ 1
small_bit None = omega arith
small_bit (Some z) = omega arith

pub step_falls : (a : Subranges) (r new : Rows) (text mid : List ℕ) → length text < length mid → text ++ rows_left (λ z. []) a r ≡ mid ++ rows_left (λ z. []) a new → extent a new < extent a r
step_falls a r new text mid more keeps =
    let lengths : length text + length (rows_left (λ z. []) a r) ≡ length mid + length (rows_left (λ z. []) a new) =
    sym (length-append text (rows_left (λ z. []) a r)) ∙ ap length keeps ∙ length-append mid (rows_left (λ z. []) a new) in
    let bit : bit new.pending ≤ 1 = small_bit new.pending in
    omega (arith, lengths, bit, more)

row_item : (item : ℕ → List ℕ) (rs : List OpenRow) (z : ℕ) → left_at item (Some z) rs [] ≡ item z ++ left_at item None rs []
unfolding rows_text
row_item item rs z = refl

pub element_left : (item : ℕ → List ℕ) (a : Subranges) (r : Rows) (z : ℕ) → r.pending ≡ Some z → length a.counts ≤ r.opened
    → rows_left item a r ≡ item z ++ left_at item None (rows_of a r) (levels_behind a r.opened)
element_left item a r z is past =
    let none : levels_behind a r.opened ≡ [] = none_behind a r.opened past in
    ap (λ (x : Option ℕ). left_at item x (rows_of a r) (levels_behind a r.opened)) is ∙ ap (λ (ls : List Level). left_at item (Some z) (rows_of a r) ls) none ∙ row_item item (rows_of a r) z
    ∙ ap (λ (ls : List Level). item z ++ left_at item None (rows_of a r) ls) (sym none)

ended_by : (item : ℕ → List ℕ) (a : Subranges) (p d : ℕ) (bs : List BegunRow) (ls : List Level) → d ≡ 0 → left_at item None (open_rows a p d bs) ls ≡ []
unfolding open_rows behind
ended_by item a p zero bs ls is = refl
ended_by item a p (suc d) bs ls is = absurd (omega (arith, is))

pub end_left : (item : ℕ → List ℕ) (a : Subranges) (r : Rows) → r.pending ≡ None → r.opened ≤ r.passed → rows_left item a r ≡ []
end_left item a r none le =
    ap (λ (x : Option ℕ). left_at item x (rows_of a r) (levels_behind a r.opened)) none ∙ ended_by item a r.passed (r.opened - r.passed) (reverse r.begun) (levels_behind a r.opened) (omega (arith, le))
