-- Counts of arrays behind the first of them.
use Rattle.std.proofs.Common.{◌≡◌, ℕ, zero, suc, ◌+◌, ◌-◌, ◌≤◌, Bool, true, false, List, [], ◌∷◌, length, drop, Option, Some, None, refl, sym, ap, ◌∙◌, add-one, length-drop, arith}
use Rattle.std.specs.Prelude.{map, filter, find, slice_get, nat_lt, nat_le, if◌then◌else◌}
use Rattle.std.specs.Option.{is_some}
use Rattle.std.proofs.lemmas.Bool.Decides.{nat_tests}
use Rattle.std.proofs.lemmas.List.{drop-map, length-map}
use Rattle.dwarf_info.specs.declared.entry.Entry.{Entry}
use Rattle.dwarf_entries.specs.Tags.{tag_subrange}
use Rattle.dwarf_entries.specs.Standing.{Standing, is_child, entries_inside}
use Rattle.dwarf_types.specs.Counts.{subrange_count, one_at_least, counts}
use Rattle.var_eval.specs.Steps.{is_past}
use Rattle.var_eval.specs.inner.Counted.{is_past_known}

-- ---- the first that passes a test

found_length : {E : Type 0} (p : E → Bool) (es : List E) → is_some (find p es) ≡ nat_lt 0 (length (filter p es))
found_length p [] = grind (arith, nat_tests)
found_length p (x ∷ xs) = by_test p x xs (p x) (found_length p xs)
  where
    by_test : {E : Type 0} (p : E → Bool) (x : E) (xs : List E) (b : Bool) → is_some (find p xs) ≡ nat_lt 0 (length (filter p xs))
        → is_some (if b then Some x else find p xs) ≡ nat_lt 0 (length (if b then x ∷ filter p xs else filter p xs))
    by_test p x xs true e = grind (arith, nat_tests)
    by_test p x xs false e = e

-- the first of a list
abbrev pub head_of : {E : Type 0} → List E → Option E
head_of [] = None
head_of (x ∷ xs) = Some x

found_first : {E : Type 0} (p : E → Bool) (es : List E) → find p es ≡ head_of (filter p es)
found_first p [] = refl
found_first p (x ∷ xs) = by_test p x xs (p x) (found_first p xs)
  where
    by_test : {E : Type 0} (p : E → Bool) (x : E) (xs : List E) (b : Bool) → find p xs ≡ head_of (filter p xs)
        → (if b then Some x else find p xs) ≡ head_of (if b then x ∷ filter p xs else filter p xs)
    by_test p x xs true e = refl
    by_test p x xs false e = e

-- ---- rows

rows_of : {E : Type 0} (count : E → Option ℕ) (xs : List E) (k : ℕ) → nat_lt (suc k) (length (one_at_least (map count xs))) ≡ nat_lt 0 (length (drop (suc k) xs))
rows_of count [] k = grind (arith, nat_tests)
rows_of count (x ∷ xs) k = rw (length-drop k xs) (behind (length xs) k (length (map count xs)) (length-map xs count))
  where
    behind : (n k m : ℕ) → m ≡ n → nat_lt (suc k) (suc m) ≡ nat_lt 0 (n - k)
    behind n k m e = grind (arith, nat_tests)

-- whether there are rows behind k subranges and one more, where these entries stand behind them
rows_found : {E : Type 0} (count : E → Option ℕ) (p : E → Bool) (es rest : List E) (k : ℕ) → filter p rest ≡ drop (k + 1) (filter p es)
    → is_some (find p rest) ≡ nat_lt (k + 1) (length (one_at_least (map count (filter p es))))
rows_found count p es rest k are =
    rw (add-one) (found_length p rest ∙ ap (λ (xs : List _). nat_lt 0 (length xs)) (are ∙ ap (λ (n : ℕ). drop n (filter p es)) (add-one k)) ∙ sym (rows_of count (filter p es) k))

filtered : {E : Type 0} (p : E → Bool) (es : List E) → length (filter p es) ≤ length es
filtered p [] = omega arith
filtered p (x ∷ xs) = by_test p x xs (p x) (filtered p xs)
  where
    by_test : {E : Type 0} (p : E → Bool) (x : E) (xs : List E) (b : Bool) → length (filter p xs) ≤ length xs → length (if b then x ∷ filter p xs else filter p xs) ≤ suc (length xs)
    by_test p x xs true h = omega arith
    by_test p x xs false h = omega arith

one_more : {E : Type 0} (count : E → Option ℕ) (xs : List E) → length (one_at_least (map count xs)) ≤ length xs + 1
one_more count [] = omega arith
one_more count (x ∷ xs) = let same : length (map count xs) ≡ length xs = length-map xs count in omega arith

few : (n k m : ℕ) → n ≤ m + 1 → m ≤ k → nat_lt (k + 1) n ≡ false
few n k m h past = grind (arith, nat_tests)

-- there are no more rows than entries
rows_past : {E : Type 0} (count : E → Option ℕ) (p : E → Bool) (es : List E) (k : ℕ) → length es ≤ k → nat_lt (k + 1) (length (one_at_least (map count (filter p es)))) ≡ false
rows_past count p es k past = few (length (one_at_least (map count (filter p es)))) k (length (filter p es)) (one_more count (filter p es)) (let less = filtered p es in omega arith)

-- ---- the count of the first that is left

abbrev pub past_by : {E : Type 0} (count : E → Option ℕ) → Option E → ℕ → Bool
past_by count None n = false
past_by count (Some e) n = is_past (count e ∷ []) n

past_head : {E : Type 0} (count : E → Option ℕ) (xs : List E) (n : ℕ) → is_past (map count xs) n ≡ past_by count (head_of xs) n
past_head count [] n = refl
past_head count (x ∷ xs) n = by_count (count x) (map count xs) n
  where
    by_count : (c : Option ℕ) (cs : List (Option ℕ)) (n : ℕ) → is_past (c ∷ cs) n ≡ is_past (c ∷ []) n
    by_count None cs n = refl
    by_count (Some c) cs n = refl

past_drop : {E : Type 0} (count : E → Option ℕ) (xs : List E) (k n : ℕ) → is_past (drop k (one_at_least (map count xs))) n ≡ past_by count (head_of (drop k xs)) n
past_drop count [] zero n = refl
past_drop count [] (suc zero) n = refl
past_drop count [] (suc (suc k)) n = refl
past_drop count (x ∷ xs) zero n = past_head count (x ∷ xs) n
past_drop count (x ∷ xs) (suc k) n = ap (λ (cs : List (Option ℕ)). is_past cs n) (drop-map count k xs) ∙ past_head count (drop k xs) n

-- an index is past the count of the first subrange that is left, where these entries stand behind k of them
past_found : {E : Type 0} (count : E → Option ℕ) (p : E → Bool) (es rest : List E) (k n : ℕ) → filter p rest ≡ drop k (filter p es)
    → is_past (drop k (one_at_least (map count (filter p es)))) n ≡ past_by count (find p rest) n
past_found count p es rest k n are =
    past_drop count (filter p es) k n ∙ ap (λ (o : Option _). past_by count o n) (sym (found_first p rest ∙ ap head_of are))

-- ---- the same of an array

pub rows_behind : (s : Standing) (rest : List Entry) (k : ℕ) → filter (is_child s.entry.depth tag_subrange) rest ≡ drop (k + 1) (filter (is_child s.entry.depth tag_subrange) (entries_inside s))
    → is_some (find (is_child s.entry.depth tag_subrange) rest) ≡ nat_lt (k + 1) (length (counts s))
unfolding counts
rows_behind s rest k are = rows_found subrange_count (is_child s.entry.depth tag_subrange) (entries_inside s) rest k are

pub no_rows_behind : (s : Standing) (k : ℕ) → length (entries_inside s) ≤ k → nat_lt (k + 1) (length (counts s)) ≡ false
unfolding counts
no_rows_behind s k past = rows_past subrange_count (is_child s.entry.depth tag_subrange) (entries_inside s) k past

pub past_behind : (s : Standing) (rest : List Entry) (k n : ℕ) → filter (is_child s.entry.depth tag_subrange) rest ≡ drop k (filter (is_child s.entry.depth tag_subrange) (entries_inside s))
    → is_past (drop k (counts s)) n ≡ past_by subrange_count (find (is_child s.entry.depth tag_subrange) rest) n
unfolding counts
past_behind s rest k n are = past_found subrange_count (is_child s.entry.depth tag_subrange) (entries_inside s) rest k n are

-- ---- the same where entries were looked for

renamed : (s : Standing) (rest inside : List Entry) (depth k : ℕ) → depth ≡ s.entry.depth → inside ≡ entries_inside s
    → filter (is_child depth tag_subrange) rest ≡ drop k (filter (is_child depth tag_subrange) inside)
    → filter (is_child s.entry.depth tag_subrange) rest ≡ drop k (filter (is_child s.entry.depth tag_subrange) (entries_inside s))
renamed s rest inside depth k d i are =
    ap (λ (n : ℕ). filter (is_child n tag_subrange) rest) (sym d) ∙ are ∙ ap (λ (n : ℕ). drop k (filter (is_child n tag_subrange) inside)) d
    ∙ ap (λ (es : List Entry). drop k (filter (is_child s.entry.depth tag_subrange) es)) i

pub rows_told : (s : Standing) (e : Entry) (rest inside : List Entry) (k : ℕ) (found : Bool) → e ≡ s.entry → inside ≡ entries_inside s
    → filter (is_child e.depth tag_subrange) rest ≡ drop (k + 1) (filter (is_child e.depth tag_subrange) inside) → found ≡ is_some (find (is_child e.depth tag_subrange) rest)
    → found ≡ nat_lt (k + 1) (length (counts s))
rows_told s e rest inside k found same i are is =
    let d : e.depth ≡ s.entry.depth = ap (λ (x : Entry). x.depth) same in
    is ∙ ap (λ (n : ℕ). is_some (find (is_child n tag_subrange) rest)) d ∙ rows_behind s rest k (renamed s rest inside e.depth (k + 1) d i are)

pub none_told : (s : Standing) (inside : List Entry) (k : ℕ) → inside ≡ entries_inside s → length inside ≤ k → nat_lt k (length inside) ≡ nat_lt (k + 1) (length (counts s))
none_told s inside k i past =
    let here : length (entries_inside s) ≤ k = let same = ap length i in omega arith in
    let none : nat_lt k (length inside) ≡ false = grind (arith, nat_tests) in
    none ∙ sym (no_rows_behind s k here)

past_told : (s : Standing) (rest inside : List Entry) (depth k n : ℕ) (found : Option Entry) → depth ≡ s.entry.depth → inside ≡ entries_inside s
    → filter (is_child depth tag_subrange) rest ≡ drop k (filter (is_child depth tag_subrange) inside) → found ≡ find (is_child depth tag_subrange) rest
    → past_by subrange_count found n ≡ is_past (drop k (counts s)) n
past_told s rest inside depth k n found d i are is =
    ap (λ (e : Option Entry). past_by subrange_count e n) (is ∙ ap (λ (m : ℕ). find (is_child m tag_subrange) rest) d) ∙ sym (past_behind s rest k n (renamed s rest inside depth k d i are))

-- where none is left, and where one is that has a count or none
pub past_none : (s : Standing) (e : Entry) (rest inside : List Entry) (k n : ℕ) → e ≡ s.entry → inside ≡ entries_inside s
    → filter (is_child e.depth tag_subrange) rest ≡ drop k (filter (is_child e.depth tag_subrange) inside) → None ≡ find (is_child e.depth tag_subrange) rest → false ≡ is_past (drop k (counts s)) n
past_none s e rest inside k n same i are is = past_told s rest inside e.depth k n None (ap (λ (x : Entry). x.depth) same) i are is

pub past_counted : (s : Standing) (e : Entry) (rest inside : List Entry) (k n : ℕ) (sub : Entry) (count m : ℕ) → e ≡ s.entry → inside ≡ entries_inside s
    → filter (is_child e.depth tag_subrange) rest ≡ drop k (filter (is_child e.depth tag_subrange) inside) → Some sub ≡ find (is_child e.depth tag_subrange) rest → Some count ≡ subrange_count sub → m ≡ n
    → nat_le count m ≡ is_past (drop k (counts s)) n
past_counted s e rest inside k n sub count m same i are is counted by =
    ap (λ (x : ℕ). nat_le count x) by ∙ ap (λ (c : Option ℕ). is_past (c ∷ []) n) counted ∙ past_told s rest inside e.depth k n (Some sub) (ap (λ (x : Entry). x.depth) same) i are is

pub past_uncounted : (s : Standing) (e : Entry) (rest inside : List Entry) (k n : ℕ) (sub : Entry) → e ≡ s.entry → inside ≡ entries_inside s
    → filter (is_child e.depth tag_subrange) rest ≡ drop k (filter (is_child e.depth tag_subrange) inside) → Some sub ≡ find (is_child e.depth tag_subrange) rest → None ≡ subrange_count sub
    → false ≡ is_past (drop k (counts s)) n
past_uncounted s e rest inside k n sub same i are is none =
    ap (λ (c : Option ℕ). is_past (c ∷ []) n) none ∙ past_told s rest inside e.depth k n (Some sub) (ap (λ (x : Entry). x.depth) same) i are is

-- ---- what is known

past_known : (cs : List (Option ℕ)) (k n : ℕ) → is_past_known (slice_get cs k) n ≡ is_past (drop k cs) n
past_known [] zero n = refl
past_known [] (suc k) n = refl
past_known (None ∷ cs) zero n = refl
past_known (Some c ∷ cs) zero n = refl
past_known (c ∷ cs) (suc k) n = past_known cs k n

pub past_in_rows : (s : Standing) (cs : List (Option ℕ)) (k n : ℕ) (count : Option (Option ℕ)) (b : Bool) → b ≡ is_past_known count n → count ≡ slice_get cs k → cs ≡ counts s
    → b ≡ is_past (drop k (counts s)) n
past_in_rows s cs k n count b is at are =
    is ∙ ap (λ (o : Option (Option ℕ)). is_past_known o n) at ∙ past_known cs k n ∙ ap (λ (cs : List (Option ℕ)). is_past (drop k cs) n) are
