-- Sizes of arrays from the innermost subrange outwards, and the entries behind the first subranges.
use Rattle.std.proofs.Common.{◌≡◌, ℕ, zero, suc, ◌+◌, ◌<◌, Bool, true, false, List, [], ◌∷◌, ◌++◌, length, take, drop, get_or, Option, Some, None, refl, sym, ap, ◌∙◌, arith}
use Rattle.std.specs.Prelude.{map, filter, find, nat_lt, ◌||◌, if◌then◌else◌}
use Rattle.std.specs.Option.{is_some}
use Rattle.std.proofs.lemmas.Bool.Decides.{nat_tests}
use Rattle.std.proofs.lemmas.List.Elements.{filter-append}
use Rattle.std.proofs.lemmas.List.{map-append, take_more}
use Rattle.std.proofs.Math.Seq.{take-length}
use Rattle.dwarf_info.specs.declared.entry.Entry.{Entry}
use Rattle.dwarf_entries.specs.Tags.{tag_subrange}
use Rattle.dwarf_entries.specs.Standing.{Standing, is_child, entries_inside, children_tagged}
use Rattle.dwarf_types.specs.Counts.{subrange_count, one_at_least, counts}
use Rattle.dwarf_types.specs.Products.{times, array_size}
use Rattle.dwarf_types.specs.Sizes.{rows_size}

array_append : (xs ys : List (Option ℕ)) (size : Option ℕ) → array_size (xs ++ ys) size ≡ array_size xs (array_size ys size)
unfolding array_size
array_append [] ys size = refl
array_append (x ∷ xs) ys size = ap (times x) (array_append xs ys size)

one_counts : {E : Type 0} (count : E → Option ℕ) (p : E → Bool) (front : List E) (e : E) (size : Option ℕ)
    → array_size (map count (filter p (front ++ e ∷ []))) size ≡ array_size (map count (filter p front)) (array_size (map count (filter p (e ∷ []))) size)
one_counts count p front e size =
    ap (λ (es : List _). array_size (map count es) size) (filter-append p front (e ∷ []))
    ∙ ap (λ (cs : List (Option ℕ)). array_size cs size) (map-append count (filter p front) (filter p (e ∷ [])))
    ∙ array_append (map count (filter p front)) (map count (filter p (e ∷ []))) size

by_test : {E : Type 0} (count : E → Option ℕ) (e : E) (size : Option ℕ) (b : Bool)
    → array_size (map count (if b then e ∷ [] else [])) size ≡ (if b then times (count e) size else size)
unfolding array_size
by_test count e size true = refl
by_test count e size false = refl

last_by : {E : Type 0} (count : E → Option ℕ) (p : E → Bool) (xs : List E) (k : ℕ) (e : E) (size : Option ℕ) (b : Bool) → k < length xs → e ≡ get_or xs k e → p e ≡ b
    → array_size (map count (filter p (take (k + 1) xs))) size ≡ array_size (map count (filter p (take k xs))) (if b then times (count e) size else size)
last_by count p xs k e size b lt is test =
    let front = take k xs in
    ap (λ (es : List _). array_size (map count (filter p es)) size) (take_more xs k e lt ∙ ap (λ (x : _). front ++ (x ∷ [])) (sym is))
    ∙ one_counts count p front e size
    ∙ ap (array_size (map count (filter p front))) (by_test count e size (p e) ∙ ap (λ (t : Bool). if t then times (count e) size else size) test)

-- the last of the entries is a subrange, or it is not
pub last_counts : {E : Type 0} (count : E → Option ℕ) (p : E → Bool) (xs : List E) (k : ℕ) (e : E) (size : Option ℕ) → k < length xs → e ≡ get_or xs k e → p e ≡ true
    → array_size (map count (filter p (take (k + 1) xs))) size ≡ array_size (map count (filter p (take k xs))) (times (count e) size)
last_counts count p xs k e size lt is test = last_by count p xs k e size true lt is test

pub last_passed : {E : Type 0} (count : E → Option ℕ) (p : E → Bool) (xs : List E) (k : ℕ) (e : E) (size : Option ℕ) → k < length xs → e ≡ get_or xs k e → p e ≡ false
    → array_size (map count (filter p (take (k + 1) xs))) size ≡ array_size (map count (filter p (take k xs))) size
last_passed count p xs k e size lt is test = last_by count p xs k e size false lt is test

pub all_counts : {E : Type 0} (count : E → Option ℕ) (p : E → Bool) (xs : List E) (size : Option ℕ) → array_size (map count (filter p (take (length xs) xs))) size ≡ array_size (map count (filter p xs)) size
all_counts count p xs size = ap (λ (es : List _). array_size (map count (filter p es)) size) (take-length xs)

pub no_counts : {E : Type 0} (count : E → Option ℕ) (p : E → Bool) (xs : List E) (size : Option ℕ) → array_size (map count (filter p (take 0 xs))) size ≡ size
unfolding array_size
no_counts count p xs size = refl

-- ---- the counts of an array

none_found : {E : Type 0} (p : E → Bool) (es : List E) → is_some (find p es) ≡ false → filter p es ≡ []
none_found p [] e = refl
none_found p (x ∷ xs) e = by_tests p x xs (p x) e (none_found p xs)
  where
    by_tests : {E : Type 0} (p : E → Bool) (x : E) (xs : List E) (b : Bool) → is_some (if b then Some x else find p xs) ≡ false → (is_some (find p xs) ≡ false → filter p xs ≡ [])
        → (if b then x ∷ filter p xs else filter p xs) ≡ []
    by_tests p x xs true e h = absurd cc
    by_tests p x xs false e h = h e

some_found : {E : Type 0} (count : E → Option ℕ) (p : E → Bool) (es : List E) → is_some (find p es) ≡ true → one_at_least (map count (filter p es)) ≡ map count (filter p es)
some_found count p [] e = absurd cc
some_found count p (x ∷ xs) e = by_tests count p x xs (p x) e (some_found count p xs)
  where
    by_tests : {E : Type 0} (count : E → Option ℕ) (p : E → Bool) (x : E) (xs : List E) (b : Bool) → is_some (if b then Some x else find p xs) ≡ true
        → (is_some (find p xs) ≡ true → one_at_least (map count (filter p xs)) ≡ map count (filter p xs))
        → one_at_least (map count (if b then x ∷ filter p xs else filter p xs)) ≡ map count (if b then x ∷ filter p xs else filter p xs)
    by_tests count p x xs true e h = refl
    by_tests count p x xs false e h = h e

pub map_drop : {A B : Type 0} (f : A → B) (n : ℕ) (xs : List A) → map f (drop n xs) ≡ drop n (map f xs)
map_drop f zero xs = refl
map_drop f (suc n) [] = refl
map_drop f (suc n) (x ∷ xs) = map_drop f n xs

pub drop_none : {A : Type 0} (k : ℕ) → drop {A = A} k [] ≡ []
drop_none zero = refl
drop_none (suc k) = refl

rows_by : {E : Type 0} (count : E → Option ℕ) (p : E → Bool) (es rest : List E) (k : ℕ) (size : Option ℕ) (b : Bool) → is_some (find p es) ≡ b → (nat_lt 0 k || b) ≡ true
    → filter p rest ≡ drop k (filter p es) → array_size (map count (filter p rest)) size ≡ array_size (drop k (one_at_least (map count (filter p es)))) size
unfolding array_size
rows_by count p es rest k size true found known are =
    ap (λ (cs : List _). array_size (map count cs) size) are ∙ ap (λ (cs : List (Option ℕ)). array_size cs size) (map_drop count k (filter p es) ∙ ap (drop k) (sym (some_found count p es found)))
rows_by count p es rest zero size false found known are = absurd (let no : false ≡ true = known in cc)
rows_by count p es rest (suc k) size false found known are = rw (are, none_found p es found, drop_none {A = Option ℕ} k) refl

-- Without subranges nothing is known of the only count.
pub rows_unknown : (s : Standing) (k : ℕ) (size : Option ℕ) → (nat_lt 0 k || is_some (find (is_child s.entry.depth tag_subrange) (entries_inside s))) ≡ false → rows_size s k size ≡ None
unfolding counts array_size
rows_unknown s (suc k) size e =
    let more : nat_lt 0 (suc k) ≡ true = grind (arith, nat_tests) in
    absurd (let no : true ≡ false = ap (λ (b : Bool). b || is_some (find (is_child s.entry.depth tag_subrange) (entries_inside s))) (sym more) ∙ e in cc)
rows_unknown s zero size e = rw (none_found (is_child s.entry.depth tag_subrange) (entries_inside s) e) refl

-- the counts behind the first k of them
pub rows_known : (s : Standing) (rest : List Entry) (k : ℕ) (size : Option ℕ)
    → (nat_lt 0 k || is_some (find (is_child s.entry.depth tag_subrange) (entries_inside s))) ≡ true
    → filter (is_child s.entry.depth tag_subrange) rest ≡ drop k (children_tagged tag_subrange s)
    → array_size (map subrange_count (filter (is_child s.entry.depth tag_subrange) rest)) size ≡ rows_size s k size
unfolding counts
rows_known s rest k size known are =
    rows_by subrange_count (is_child s.entry.depth tag_subrange) (entries_inside s) rest k size (is_some (find (is_child s.entry.depth tag_subrange) (entries_inside s))) refl known are
