-- Arrays of values, by their rows.
use Rattle.std.proofs.Common.{◌≡◌, ℕ, zero, suc, ◌+◌, ◌-◌, ◌*◌, ◌<◌, ◌≤◌, List, [], ◌∷◌, ◌++◌, Option, Some, None, Ok, length, drop, refl, sym, ap, subst, ◌∙◌, arith}
use Rattle.std.specs.Prelude.{ℤ, pos, ◌+ℤ◌, map, IsSome, unwrap_or}
use Rattle.std.specs.List.{range_with_len}
use Rattle.std.proofs.lemmas.Int.{ints}
use Rattle.std.proofs.Math.ListN.{drop_of_length-le}
use Rattle.dwarf_types.specs.declared.behind.Typed.{Typed}
use Rattle.dwarf_types.specs.Products.{array_size}
use Rattle.dwarf_types.specs.calls.Subranges.{Subranges, size_behind}
use Rattle.var_values.specs.Places.{Place, further}
use Rattle.var_values.specs.Values.{Text, in_place, braced, dots, row_size, array_text}
use Rattle.var_values.specs.declared.levels.Level.{Level}
use Rattle.var_values.specs.calls.Told.{Tells}
use Rattle.var_values.specs.inner.Odometer.{levels, sized_levels, levels_behind, shown, rows_text}
use Rattle.var_values.proofs.BehindLaws.{sized_are}
use Rattle.var_values.proofs.ValueLaws.{text_tells}

sum_of : (x : ℤ) (a b : ℕ) → ((x +ℤ pos a) +ℤ pos b) ≡ (x +ℤ pos (a + b))
sum_of x a b = omega (arith, ints)

further_twice : (p : Place) (a b : ℕ) → further (further p (pos a)) (pos b) ≡ further p (pos (a + b))
further_twice p a b = ap (λ (z : ℤ). record { source = p.source; offset = z; bits = None }) (sum_of p.offset a b)

map_same : {A B : Type 0} (f g : A → B) (xs : List A) → ((x : A) → f x ≡ g x) → map f xs ≡ map g xs
map_same f g [] h = refl
map_same f g (x ∷ xs) h = ap (λ (y : _). y ∷ map f xs) (h x) ∙ ap (λ (ys : List _). g x ∷ ys) (map_same f g xs h)

-- rows that stand so many bytes from the start of the array on
rows_are : (text : Place → Text) (cs : List (Option ℕ)) (size : ℕ) (p : Place) (z : ℕ)
    → in_place (array_text text cs size (further p (pos z))) ≡ rows_text (λ y. in_place (text (further p (pos y)))) (levels cs size) z
unfolding rows_text
rows_are text [] size p z = refl
rows_are text (c ∷ cs) size p z =
    let n = unwrap_or c 0 in
    let step = row_size cs size in
    let item : ℕ → List ℕ = λ y. in_place (text (further p (pos y))) in
    let one : (i : ℕ) → in_place (array_text text cs size (further (further p (pos z)) (pos (i * step)))) ≡ rows_text item (levels cs size) (z + i * step) =
    λ i. ap (λ (q : Place). in_place (array_text text cs size q)) (further_twice p z (i * step)) ∙ rows_are text cs size p (z + i * step) in
    ap (λ (ts : List (List ℕ)). braced (ts ++ dots n))
    (map_same (λ i. in_place (array_text text cs size (further (further p (pos z)) (pos (i * step))))) (λ i. rows_text item (levels cs size) (z + i * step)) (range_with_len 0 (shown n)) one)

-- an array of rows
array_is : (text : Place → Text) (c : Option ℕ) (cs : List (Option ℕ)) (size : ℕ) (p : Place)
    → array_text text (c ∷ cs) size p ≡ Ok (rows_text (λ y. in_place (text (further p (pos y)))) (levels (c ∷ cs) size) 0)
unfolding rows_text
array_is text c cs size p =
    let n = unwrap_or c 0 in
    let step = row_size cs size in
    let item : ℕ → List ℕ = λ y. in_place (text (further p (pos y))) in
    ap (λ (ts : List (List ℕ)). Ok (braced (ts ++ dots n)))
    (map_same (λ i. in_place (array_text text cs size (further p (pos (i * step))))) (λ i. rows_text item (levels cs size) (0 + i * step)) (range_with_len 0 (shown n))
    (λ i. rows_are text cs size p (i * step) ∙ ap (rows_text item (levels cs size)) (sym (start (i * step)))))
  where
    start : (n : ℕ) → 0 + n ≡ n
    start n = omega arith

-- behind all subranges
pub rows_none : (text : Place → Text) (a : Subranges) (k : ℕ) (p : Place) → length a.counts ≤ k → array_text text (drop k a.counts) a.element p ≡ text p
rows_none text a k p past = ap (λ (cs : List (Option ℕ)). array_text text cs a.element p) (drop_of_length-le a.counts past)

some_behind : (cs : List (Option ℕ)) (k : ℕ) → k < length cs → drop k cs ≡ [] → ⊥
some_behind [] k lt none = omega arith
some_behind (c ∷ cs) zero lt none = let no : c ∷ cs ≡ [] = none in cc
some_behind (c ∷ cs) (suc k) lt none = let less : k < length cs = omega arith in some_behind cs k less none

rows_by : (text : Place → Text) (cs : List (Option ℕ)) (size : ℕ) (p : Place) (old new : List ℕ) → (cs ≡ [] → ⊥) → IsSome (array_size cs (Some size))
    → new ≡ old ++ rows_text (λ y. in_place (text (further p (pos y)))) (sized_levels cs (Some size)) 0 → Tells (array_text text cs size p) None old new
rows_by text [] size p old new some h written = absurd (some refl)
rows_by text (c ∷ cs) size p old new some h written =
    text_tells (array_text text (c ∷ cs) size p) (rows_text (λ y. in_place (text (further p (pos y)))) (levels (c ∷ cs) size) 0) old new (array_is text c cs size p)
    (written ∙ ap (λ (ls : List Level). old ++ rows_text (λ y. in_place (text (further p (pos y)))) ls 0) (sized_are (c ∷ cs) size h))

pub rows_tell : (text : Place → Text) (a : Subranges) (k : ℕ) (p : Place) (old new : List ℕ) → k < length a.counts → IsSome (size_behind a k)
    → new ≡ old ++ rows_text (λ y. in_place (text (further p (pos y)))) (levels_behind a k) 0 → Tells (array_text text (drop k a.counts) a.element p) None old new
rows_tell text a k p old new lt h written = rows_by text (drop k a.counts) a.element p old new (some_behind a.counts k lt) h written

-- of what is known of an array
pub array_known : (value : Typed → Place → Text) (t u : Typed) (a : Subranges) (cs : List (Option ℕ)) (k size : ℕ) (p : Place) → t ≡ u → a.counts ≡ cs → a.element ≡ size
    → array_text (value t) (drop k a.counts) a.element p ≡ array_text (value u) (drop k cs) size p
array_known value t u a cs k size p is are sized =
    ap (λ (x : Typed). array_text (value x) (drop k a.counts) a.element p) is ∙ ap (λ (xs : List (Option ℕ)). array_text (value u) (drop k xs) a.element p) are
    ∙ ap (λ (n : ℕ). array_text (value u) (drop k cs) n p) sized

pub size_known : (a : Subranges) (cs : List (Option ℕ)) (k size : ℕ) → a.counts ≡ cs → a.element ≡ size → IsSome (array_size (drop k cs) (Some size)) → IsSome (size_behind a k)
size_known a cs k size are sized h =
    subst (λ (o : Option ℕ). IsSome o) (sym (ap (λ (xs : List (Option ℕ)). array_size (drop k xs) (Some a.element)) are ∙ ap (λ (n : ℕ). array_size (drop k cs) (Some n)) sized)) h
