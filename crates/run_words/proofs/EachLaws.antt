-- Lists that are read element by element.
use Rattle.std.proofs.Common.{◌≡◌, ℕ, suc, Bool, ◌+◌, ◌<◌, ◌≤◌, List, [], ◌∷◌, ◌++◌, length, map, drop, get_or, Option, Some, None, refl, sym, ap, ◌∙◌, append_assoc, add-one, drop-cons, arith}
use Rattle.std.proofs.lemmas.List.{append-nil, drop_all}
use Rattle.std.proofs.lemmas.List.Splits.{length-slice_split}
use Rattle.std.specs.List.{slice_split}
use Rattle.host_replies.specs.Replies.{one_more}
use Rattle.run_words.specs.Invocations.{each}

-- what was read, in front of what is still to be read
abbrev pub in_front : {B : Type 0} → List B → Option (List B) → Option (List B)
in_front done (Some ys) = Some (done ++ ys)
in_front done None = None

each_next : {A B : Type 0} (read : A → Option B) (x : A) (xs : List A) → each read (x ∷ xs) ≡ one_more (read x) (each read xs)
unfolding each
each_next read x xs = refl

each_none : {A B : Type 0} (read : A → Option B) → each read [] ≡ Some []
unfolding each
each_none read = refl

-- nothing was read yet
pub at_first : {B : Type 0} (o : Option (List B)) → o ≡ in_front [] o
at_first (Some ys) = refl
at_first None = refl

one_in_front : {B : Type 0} (done : List B) (y : B) (o : Option (List B)) → in_front done (one_more (Some y) o) ≡ in_front (done ++ y ∷ []) o
one_in_front done y (Some ys) = ap Some (sym (append_assoc done (y ∷ []) ys))
one_in_front done y None = refl

-- one more is read
pub one_read : {A B : Type 0} (read : A → Option B) (all : Option (List B)) (done : List B) (x : A) (xs here : List A) (y : B) → all ≡ in_front done (each read here) → here ≡ x ∷ xs → read x ≡ Some y → all ≡ in_front (done ++ y ∷ []) (each read xs)
one_read read all done x xs here y so_far is one = so_far ∙ ap (in_front done) (ap (each read) is ∙ each_next read x xs ∙ ap (λ o. one_more o (each read xs)) one) ∙ one_in_front done y (each read xs)

-- one reads as nothing
pub one_refused : {A B : Type 0} (read : A → Option B) (all : Option (List B)) (done : List B) (x : A) (xs here : List A) → all ≡ in_front done (each read here) → here ≡ x ∷ xs → read x ≡ None → all ≡ None
one_refused read all done x xs here so_far is none = so_far ∙ ap (in_front done) (ap (each read) is ∙ each_next read x xs ∙ ap (λ o. one_more o (each read xs)) none)

-- all are read
pub all_read : {A B : Type 0} (read : A → Option B) (all : Option (List B)) (done : List B) (here : List A) → all ≡ in_front done (each read here) → here ≡ [] → all ≡ Some done
all_read read all done here so_far is = so_far ∙ ap (in_front done) (ap (each read) is ∙ each_none read) ∙ ap Some (append-nil done)

-- the elements that are left, seen through a function
pub left_now : {A B : Type 0} (now : A → B) (xs : List A) (i : ℕ) (other : A) → i < length xs → map now (drop i xs) ≡ now (get_or xs i other) ∷ map now (drop (i + 1) xs)
left_now now xs i other lt = let rest : drop i xs ≡ get_or xs i other ∷ drop (i + 1) xs = rw (drop-cons xs i other, add-one) refl in ap (map now) rest

pub none_left : {A B : Type 0} (now : A → B) (xs : List A) (i : ℕ) → length xs ≤ i → map now (drop i xs) ≡ []
none_left now xs i le = ap (map now) (drop_all i xs le)

-- there are as many as were read
pub as_many : {A B : Type 0} (read : A → Option B) (xs : List A) (ys : List B) → each read xs ≡ Some ys → length xs ≡ length ys
unfolding each
as_many read [] ys e = let same : [] ≡ ys = cc in ap length same
as_many {A} {B} read (x ∷ xs) ys e = cases (read x) (each read xs) (λ zs is. as_many read xs zs is) e where
  cases : (o : Option B) (rest : Option (List B)) → ((zs : List B) → rest ≡ Some zs → length xs ≡ length zs) → one_more o rest ≡ Some ys → length (x ∷ xs) ≡ length ys
  cases (Some y) (Some zs) many is = let same : y ∷ zs ≡ ys = cc in ap suc (many zs refl) ∙ ap length same
  cases (Some y) None many is = absurd cc
  cases None rest many is = absurd cc

-- parts of a list are at least one
pub some_parts : {A B : Type 0} (read : List A → Option B) (p : A → Bool) (xs : List A) (ys : List B) → each read (slice_split p xs) ≡ Some ys → 0 < length ys
some_parts read p xs ys e = let many = as_many read (slice_split p xs) ys e in omega (arith, many, length-slice_split p xs)
