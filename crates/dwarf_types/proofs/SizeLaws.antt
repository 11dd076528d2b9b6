-- What is known of the subranges of an array: its counts, and its sizes from the innermost outwards.
use Rattle.std.proofs.Common.{◌≡◌, ℕ, zero, suc, ◌+◌, ◌-◌, ◌<◌, ◌≤◌, Bool, true, false, List, [], ◌∷◌, ◌++◌, Option, Some, None, length, drop, get_or, refl, sym, ap, subst, ◌∙◌, arith}
use Rattle.std.specs.Prelude.{map, slice_get, ◌==◌, nat_lt, option_map}
use Rattle.std.proofs.lemmas.Bool.Decides.{nat_tests}
use Rattle.std.proofs.lemmas.Option.{slice_get_past, slice_get-map}
use Rattle.std.proofs.lemmas.List.{length-append, length-map, map-append}
use Rattle.dwarf_entries.specs.Standing.{Standing, children_tagged}
use Rattle.dwarf_entries.specs.Tags.{tag_subrange}
use Rattle.dwarf_types.specs.Counts.{subrange_count, one_at_least, counts}
use Rattle.dwarf_types.specs.Products.{times, array_size}
use Rattle.dwarf_types.specs.Sizes.{rows_size}
use Rattle.dwarf_types.specs.calls.Subranges.{Subranges, size_behind}
use Rattle.dwarf_types.specs.declared.kept_counts.KeptCount.{KeptCount}
use Rattle.dwarf_types.specs.inner.Keeping.{count_of}
use Rattle.dwarf_types.specs.inner.Sized.{AreSizes}
use Rattle.dwarf_types.proofs.ArraySizes.{drop_none}

-- ---- without a size of the elements there is none

pub times_none : (c : Option ℕ) → times c None ≡ None
times_none None = refl
times_none (Some n) = refl

pub none_size : (cs : List (Option ℕ)) → array_size cs None ≡ None
unfolding array_size
none_size [] = refl
none_size (c ∷ cs) = ap (times c) (none_size cs) ∙ times_none c

pub rows_without : (s : Standing) (k : ℕ) (element : Option ℕ) → element ≡ None → None ≡ rows_size s k element
rows_without s k element none = sym (none_size (drop k (counts s))) ∙ ap (rows_size s k) (sym none)

pub rows_are : (s : Standing) (k element : ℕ) (rows : Subranges) (size : Option ℕ) → rows.counts ≡ counts s → rows.element ≡ element → size ≡ size_behind rows k
    → size ≡ rows_size s k (Some element)
rows_are s k element rows size are is said =
    said ∙ ap (λ (cs : List (Option ℕ)). array_size (drop k cs) (Some rows.element)) are ∙ ap (λ (n : ℕ). array_size (drop k (counts s)) (Some n)) is

-- ---- counts

-- of an array without subranges
pub one_count : (cs more : List (Option ℕ)) (s : Standing) → cs ≡ map subrange_count (children_tagged tag_subrange s) → (length cs == 0) ≡ true → more ≡ cs ++ None ∷ [] → more ≡ counts s
unfolding counts
one_count [] more s are none is = is ∙ ap one_at_least are
one_count (c ∷ cs) more s are none is = absurd (let no : length (c ∷ cs) ≡ 0 = grind (arith, nat_tests) in omega (arith, no))

pub some_counts : (cs : List (Option ℕ)) (s : Standing) → cs ≡ map subrange_count (children_tagged tag_subrange s) → (length cs == 0) ≡ false → cs ≡ counts s
unfolding counts
some_counts [] s are some = absurd (let no : true ≡ false = some in cc)
some_counts (c ∷ cs) s are some = ap one_at_least are

-- ---- sizes

-- a size that is not known makes none outside of it known
none_outside : (cs : List (Option ℕ)) (element : Option ℕ) (k n : ℕ) → k ≤ n → n < length cs → array_size (drop n cs) element ≡ None → array_size (drop k cs) element ≡ None
unfolding array_size
none_outside [] element k n le lt none = absurd (omega arith)
none_outside (c ∷ cs) element zero zero le lt none = none
none_outside (c ∷ cs) element zero (suc n) le lt none =
    let low : 0 ≤ n = omega arith in
    let less : n < length cs = omega arith in
    ap (times c) (none_outside cs element zero n low less none) ∙ times_none c
none_outside (c ∷ cs) element (suc k) zero le lt none = absurd (omega arith)
none_outside (c ∷ cs) element (suc k) (suc n) le lt none =
    let low : k ≤ n = omega arith in
    let less : n < length cs = omega arith in
    none_outside cs element k n low less none

-- with one more subrange
pub one_outside : (cs : List (Option ℕ)) (element : Option ℕ) (n : ℕ) (c : Option ℕ) → n < length cs → c ≡ get_or cs n c → array_size (drop n cs) element ≡ times c (array_size (drop (n + 1) cs) element)
unfolding array_size
one_outside [] element n c lt is = absurd (omega arith)
one_outside (x ∷ xs) element zero c lt is = ap (λ (y : Option ℕ). times y (array_size xs element)) (sym is)
one_outside (x ∷ xs) element (suc n) c lt is =
    let less : n < length xs = omega arith in
    let more : suc n + 1 ≡ suc (n + 1) = omega arith in
    rw more (one_outside xs element n c less is)

get_front : {A : Type 0} (xs : List A) (y : A) (i : ℕ) → i < length xs → slice_get (xs ++ y ∷ []) i ≡ slice_get xs i
get_front [] y i lt = absurd (omega arith)
get_front (x ∷ xs) y zero lt = refl
get_front (x ∷ xs) y (suc i) lt = let less : i < length xs = omega arith in get_front xs y i less

get_last : {A : Type 0} (xs : List A) (y : A) → slice_get (xs ++ y ∷ []) (length xs) ≡ Some y
get_last [] y = refl
get_last (x ∷ xs) y = get_last xs y

-- the sizes behind the first n subranges and more
abbrev pub AreFrom : List (Option ℕ) → ℕ → List ℕ → ℕ → Type 0
AreFrom cs element sizes n = (k : ℕ) → n ≤ k → slice_get sizes (length cs - k) ≡ array_size (drop k cs) (Some element)

size_past : (cs : List (Option ℕ)) (element k : ℕ) → length cs ≤ k → array_size (drop k cs) (Some element) ≡ Some element
unfolding array_size
size_past [] element k le = ap (λ (xs : List (Option ℕ)). array_size xs (Some element)) (drop_none {A = Option ℕ} k)
size_past (c ∷ cs) element zero le = absurd (omega arith)
size_past (c ∷ cs) element (suc k) le = let less : length cs ≤ k = omega arith in size_past cs element k less

pub first_size : (cs : List (Option ℕ)) (element n : ℕ) → n ≡ length cs → AreFrom cs element (element ∷ []) n
first_size cs element n is k le =
    let none : length cs - k ≡ 0 = omega (arith, is, le) in
    let past : length cs ≤ k = omega (arith, is, le) in
    rw none (sym (size_past cs element k past))

pub all_behind : (cs : List (Option ℕ)) (element n : ℕ) → n ≡ length cs → array_size (drop n cs) (Some element) ≡ Some element
all_behind cs element n is = let past : length cs ≤ n = omega (arith, is) in size_past cs element n past

pub one_size : (cs : List (Option ℕ)) (element : ℕ) (sizes more : List ℕ) (n next : ℕ) → n < length cs → length sizes + n ≡ length cs → AreFrom cs element sizes (n + 1) → more ≡ sizes ++ next ∷ []
    → array_size (drop n cs) (Some element) ≡ Some next → AreFrom cs element more n
one_size cs element sizes more n next lt len are is said k le =
    ap (λ (xs : List ℕ). slice_get xs (length cs - k)) is ∙ by (n == k) refl
  where
    by : (b : Bool) → (n == k) ≡ b → slice_get (sizes ++ next ∷ []) (length cs - k) ≡ array_size (drop k cs) (Some element)
    by true e =
        let same : n ≡ k = grind (arith, nat_tests) in
        let last : length cs - k ≡ length sizes = omega (arith, same, len) in
        ap (slice_get (sizes ++ next ∷ [])) last ∙ get_last sizes next ∙ sym said ∙ ap (λ (m : ℕ). array_size (drop m cs) (Some element)) same
    by false e =
        let other : n + 1 ≤ k = grind (arith, nat_tests) in
        let front : length cs - k < length sizes = omega (arith, other, len, lt) in
        get_front sizes next (length cs - k) front ∙ are k other

-- the last size that is known
pub sizes_end : (cs : List (Option ℕ)) (element : ℕ) (sizes : List ℕ) (n : ℕ) → n < length cs → length sizes + n ≡ length cs → AreFrom cs element sizes (n + 1)
    → array_size (drop n cs) (Some element) ≡ None → AreSizes cs element sizes
sizes_end cs element sizes n lt len are none k = by (nat_lt n k) refl
  where
    by : (b : Bool) → nat_lt n k ≡ b → slice_get sizes (length cs - k) ≡ array_size (drop k cs) (Some element)
    by true e = let more : n + 1 ≤ k = grind (arith, nat_tests) in are k more
    by false e =
        let low : k ≤ n = grind (arith, nat_tests) in
        let past : length sizes ≤ length cs - k = omega (arith, low, len) in
        slice_get_past sizes (length cs - k) past ∙ sym (none_outside cs (Some element) k n low lt none)

pub sizes_all : (cs : List (Option ℕ)) (element : ℕ) (sizes : List ℕ) (n : ℕ) → n ≡ 0 → AreFrom cs element sizes n → AreSizes cs element sizes
sizes_all cs element sizes n none are k = let low : n ≤ k = omega (arith, none) in are k low

-- ---- turns

-- what is known behind n of the subranges
pub record Behind (cs : List (Option ℕ)) (element : ℕ) (ss : List ℕ) (n size : ℕ) : Type 0 where
  pub within : n ≤ length cs
  pub count : length ss + n ≡ length cs + 1
  pub from : AreFrom cs element ss n
  pub last : array_size (drop n cs) (Some element) ≡ Some size

pub begun : (cs : List (Option ℕ)) (element n : ℕ) (none ss : List ℕ) → none ≡ [] → ss ≡ none ++ element ∷ [] → n ≡ length cs → Behind cs element ss n element
begun cs element n none ss empty is all =
    let one : ss ≡ element ∷ [] = is ∙ ap (λ (xs : List ℕ). xs ++ element ∷ []) empty in
    let count : length ss ≡ 1 = ap length one in
    record {
      within = omega (arith, all);
      count = omega (arith, all, count);
      from = subst (λ (xs : List ℕ). AreFrom cs element xs n) (sym one) (first_size cs element n all);
      last = all_behind cs element n all;
    }

sized_by : (cs : List (Option ℕ)) (element m n size : ℕ) (c : Option ℕ) → m < length cs → n ≡ m + 1 → c ≡ get_or cs m c → array_size (drop n cs) (Some element) ≡ Some size
    → array_size (drop m cs) (Some element) ≡ times c (Some size)
sized_by cs element m n size c lt same is last = one_outside cs (Some element) m c lt is ∙ ap (times c) (ap (λ (k : ℕ). array_size (drop k cs) (Some element)) (sym same) ∙ last)

pub further : (cs : List (Option ℕ)) (element : ℕ) (ss more : List ℕ) (m n size next : ℕ) (c : Option ℕ) → Behind cs element ss n size → n ≡ m + 1 → c ≡ get_or cs m c → Some next ≡ times c (Some size)
    → more ≡ ss ++ next ∷ [] → Behind cs element more m next
further cs element ss more m n size next c h same is product all =
    let lt : m < length cs = omega (arith, same, h.within) in
    let count : length ss + m ≡ length cs = omega (arith, same, h.count) in
    let one : length more ≡ length ss + 1 = ap length all ∙ length-append ss (next ∷ []) in
    let last : array_size (drop m cs) (Some element) ≡ Some next = sized_by cs element m n size c lt same is h.last ∙ sym product in
    record {
      within = omega (arith, lt);
      count = omega (arith, count, one);
      from = one_size cs element ss more m next lt count (subst (AreFrom cs element ss) same h.from) all last;
      last = last;
    }

pub ended : (cs : List (Option ℕ)) (element : ℕ) (ss : List ℕ) (m n size : ℕ) (c : Option ℕ) → Behind cs element ss n size → n ≡ m + 1 → c ≡ get_or cs m c → None ≡ times c (Some size) → AreSizes cs element ss
ended cs element ss m n size c h same is none =
    let lt : m < length cs = omega (arith, same, h.within) in
    let count : length ss + m ≡ length cs = omega (arith, same, h.count) in
    sizes_end cs element ss m lt count (subst (AreFrom cs element ss) same h.from) (sized_by cs element m n size c lt same is h.last ∙ sym none)

pub all_sized : (cs : List (Option ℕ)) (element : ℕ) (ss : List ℕ) (n size : ℕ) → Behind cs element ss n size → n ≡ 0 → AreSizes cs element ss
all_sized cs element ss n size h none = sizes_all cs element ss n none h.from

-- ---- counts as they are kept

pub count_pushed : (old new : List KeptCount) (k : KeptCount) (c : Option ℕ) → new ≡ old ++ k ∷ [] → count_of k ≡ c → map count_of new ≡ map count_of old ++ c ∷ []
count_pushed old new k c is counted = ap (map count_of) is ∙ map-append count_of old (k ∷ []) ∙ ap (λ (x : Option ℕ). map count_of old ++ x ∷ []) counted

pub count_got : (ks : List KeptCount) (i : ℕ) (o : Option KeptCount) → slice_get ks i ≡ o → slice_get (map count_of ks) i ≡ option_map count_of o
count_got ks i o is = slice_get-map count_of ks i ∙ ap (option_map count_of) is

pub counts_length : (ks : List KeptCount) → length (map count_of ks) ≡ length ks
counts_length ks = length-map ks count_of
