-- Words that are all different.
use Rattle.std.proofs.Common.{◌≡◌, Bool, true, false, not, ◌&&◌, ◌||◌, List, [], ◌∷◌, ◌++◌, map, refl, ap, ◌∙◌, Option, Some}
use Rattle.std.proofs.lemmas.Cmp.{nat_list_eq_equiv}
use Rattle.std.proofs.lemmas.List.Folds.{list_any-append}
use Rattle.std.specs.List.{list_any, find}
use Rattle.std.specs.Option.{option_map}
use Rattle.std.specs.Prelude.{if◌then◌else◌}
use Rattle.std.specs.Str.{bytes_eq}
use Rattle.commands.specs.Reading.{Word, is_among, is_distinct}
use Rattle.std.proofs.lemmas.Bool.{and_parts, or_parts}

same_turned : (v w : Word) → bytes_eq v w ≡ bytes_eq w v
same_turned v w = nat_list_eq_equiv.symm v w

-- a word stands among others, or among those in front of them
among_front : (front rest : List Word) (w : Word) → is_among (front ++ rest) w ≡ (is_among front w || is_among rest w)
among_front front rest w = list_any-append (λ v. bytes_eq v w) front rest

-- the tests of one step, as facts on tests
first_new : (a d s : Bool) → (not a && d) ≡ true → s ≡ false → (not (a || (s || false)) && d) ≡ true
first_new true d s e f = e
first_new false d true e f = absurd cc
first_new false d false e f = e

-- a new word may stand behind different ones
pub distinct_more : (words : List Word) (w : Word) → is_distinct words ≡ true → is_among words w ≡ false → is_distinct (words ++ w ∷ []) ≡ true
distinct_more [] w e new = refl
distinct_more (v ∷ words) w e new =
    let parts = and_parts (not (is_among words v)) (is_distinct words) e in
    let others = or_parts (bytes_eq v w) (is_among words w) new in
    let later : is_distinct (words ++ w ∷ []) ≡ true = distinct_more words w parts.1 others.1 in
    let other : bytes_eq w v ≡ false = same_turned w v ∙ others.0 in
    rw (among_front words (w ∷ []) v, later) (first_new (is_among words v) true (bytes_eq w v) (rw parts.0 refl) other)

second_same : (b a c d : Bool) (here : (b || a) ≡ true) → (s : Bool) → s ≡ b → (a ≡ true → d ≡ false) → (n : Bool) → (not (n || (s || c)) && d) ≡ false
second_same true a c d here true e rest true = refl
second_same true a c d here true e rest false = refl
second_same true a c d here false e rest n = absurd cc
second_same false a c d here s e rest n = rw (rest here) (and_false (not (n || (s || c))))
  where
    and_false : (x : Bool) → (x && false) ≡ false
    and_false true = refl
    and_false false = refl

-- a word that stands twice
pub distinct_not : (front : List Word) (w : Word) (rest : List Word) → is_among front w ≡ true → is_distinct (front ++ w ∷ rest) ≡ false
distinct_not [] w rest e = absurd cc
distinct_not (v ∷ front) w rest e =
    rw (among_front front (w ∷ rest) v) (second_same (bytes_eq v w) (is_among front w) (is_among rest v) (is_distinct (front ++ w ∷ rest)) e (bytes_eq w v) (same_turned w v) (distinct_not front w rest) (is_among front v))

-- words among others that are seen through a function
pub among_map : {X : Type 0} (now : X → Word) (xs : List X) (w : Word) → list_any (λ x. bytes_eq (now x) w) xs ≡ is_among (map now xs) w
among_map now [] w = refl
among_map now (x ∷ xs) w = ap (λ b. bytes_eq (now x) w || b) (among_map now xs w)

pub among_pairs : {X : Type 0} (now also : X → Word) (xs : List X) (w : Word) → list_any (λ x. bytes_eq (now x) w) xs ≡ is_among (map (λ (g : Word × Word). g.0) (map (λ x. (now x, also x)) xs)) w
among_pairs now also [] w = refl
among_pairs now also (x ∷ xs) w = ap (λ b. bytes_eq (now x) w || b) (among_pairs now also xs w)

-- the first pair with this word
pub found_pairs : {X : Type 0} (now also : X → Word) (xs : List X) (w : Word) → option_map also (find (λ x. bytes_eq (now x) w) xs) ≡ option_map (λ (g : Word × Word). g.1) (find (λ (g : Word × Word). bytes_eq g.0 w) (map (λ x. (now x, also x)) xs))
found_pairs now also [] w = refl
found_pairs {X} now also (x ∷ xs) w = cases (bytes_eq (now x) w) (find (λ y. bytes_eq (now y) w) xs) (find (λ (g : Word × Word). bytes_eq g.0 w) (map (λ y. (now y, also y)) xs)) (found_pairs now also xs w) where
  cases : (b : Bool) (found : Option X) (shown : Option (Word × Word)) → option_map also found ≡ option_map (λ (g : Word × Word). g.1) shown
      → option_map also (if b then Some x else found) ≡ option_map (λ (g : Word × Word). g.1) (if b then Some (now x, also x) else shown)
  cases true found shown e = refl
  cases false found shown e = e
