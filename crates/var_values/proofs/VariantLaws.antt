-- Variants: the numbers in lists, and what stands in a structure.
use Rattle.std.proofs.Common.{◌≡◌, ℕ, zero, suc, ◌-◌, ◌*◌, ◌<◌, ◌≤◌, Bool, true, false, List, [], ◌∷◌, ◌++◌, length, Option, Some, None, Ok, Err, refl, sym, ap, ◌∙◌, append_assoc, cond, arith}
use Rattle.std.specs.Prelude.{◌&&◌, ◌||◌, nat_le, ℤ, filter, slice_get, if◌then◌else◌}
use Rattle.std.specs.List.{flat_map, cons_option}
use Rattle.std.proofs.lemmas.List.{append-nil}
use Rattle.std.proofs.lemmas.Bool.{and_parts}
use Rattle.std.proofs.lemmas.Bool.Decides.{nat_tests}
use Rattle.dwarf_info.specs.declared.entry.Entry.{Entry}
use Rattle.dwarf_info.specs.declared.entry.Unit.{Unit as UnitTree}
use Rattle.dwarf_info.specs.declared.entry.UnitAnswer.{UnitAnswer}
use Rattle.dwarf_entries.specs.Origins.{longest_chain}
use Rattle.dwarf_entries.specs.Standing.{Standing, standing_in, entries_inside, inside, is_child}
use Rattle.dwarf_entries.specs.Tags.{tag_member}
use Rattle.dwarf_types.specs.Structures.{tag_variant_part}
use Rattle.dwarf_types.specs.calls.Inside.{picked}
use Rattle.dwarf_types.specs.calls.Contents.{stands_in, contents}
use Rattle.dwarf_types.specs.Types.{class_at}
use Rattle.wasm_bytes.specs.Place.{Place as Where}
use Rattle.var_values.specs.declared.mark.Mark.TheVariants.{TypeTooDeep}
use Rattle.var_values.specs.declared.item.Item.{Item}
use Rattle.var_values.specs.declared.item.Item.TheVariants.{Member, Unknown}
use Rattle.var_values.specs.Bytes.{Recorded}
use Rattle.var_values.specs.Places.{Place}
use Rattle.var_values.specs.Scalars.{bits_of}
use Rattle.var_values.specs.Suits.{suits}
use Rattle.var_values.specs.Lists.{range_item, is_in, in_or, is_listed}
use Rattle.var_values.specs.Variants.{is_discrete, variant_of, variant_items, child_items, items}
use Rattle.var_values.proofs.ScalarLaws.{suits_narrow}

-- ---- discriminants

pub discriminant_short : (s : Standing) (p : Place) (size : ℕ) → (is_discrete (class_at s) && nat_le size 8 && suits s p size) ≡ true → size ≤ 8
discriminant_short s p size h =
    let both : (is_discrete (class_at s) && nat_le size 8) ≡ true = (and_parts (is_discrete (class_at s) && nat_le size 8) (suits s p size) h).0 in
    let short : nat_le size 8 ≡ true = (and_parts (is_discrete (class_at s)) (nat_le size 8) both).1 in
    grind (arith, nat_tests)

pub discriminant_narrow : (s : Standing) (p : Place) (size : ℕ) → (is_discrete (class_at s) && nat_le size 8 && suits s p size) ≡ true → (bits_of p size).count ≤ 64
discriminant_narrow s p size h =
    let narrow : (bits_of p size).count ≤ 8 * size = suits_narrow s p size (and_parts (is_discrete (class_at s) && nat_le size 8) (suits s p size) h).1 in
    let short : size ≤ 8 = discriminant_short s p size h in
    omega (arith, narrow, short)

-- ---- the numbers in a list

none_listed : (n : ℕ) (s : Bool) (z : ℤ) (p : Where) → n ≡ 0 → is_listed n s z p ≡ false
unfolding is_listed
none_listed zero s z p e = refl
none_listed (suc n) s z p e = absurd (omega arith)

more_listed : (n : ℕ) (s : Bool) (z : ℤ) (p : Where) → 0 < n → is_listed n s z p ≡ in_or (is_listed (n - 1) s z) z (range_item s p)
unfolding is_listed
more_listed zero s z p h = absurd (omega arith)
more_listed (suc n) s z p h = let less : suc n - 1 ≡ n = omega arith in rw less refl

pub listed_ends : (whole : Bool) (n : ℕ) (s : Bool) (z : ℤ) (p : Where) → whole ≡ is_listed n s z p → n ≡ 0 → false ≡ whole
listed_ends whole n s z p is none = sym (is ∙ none_listed n s z p none)

pub listed_stops : (whole : Bool) (n : ℕ) (s : Bool) (z : ℤ) (p : Where) (at : ℕ) → whole ≡ is_listed n s z p → 0 < n → range_item s p ≡ Err at → false ≡ whole
listed_stops whole n s z p at is some read = sym (is ∙ more_listed n s z p some ∙ ap (in_or (is_listed (n - 1) s z) z) read)

pub listed_in : (whole : Bool) (n : ℕ) (s : Bool) (z : ℤ) (r : ℤ × ℤ) (p q : Where) → whole ≡ is_listed n s z p → 0 < n → range_item s p ≡ Ok (r, q) → is_in z r ≡ true → true ≡ whole
listed_in whole n s z r p q is some read test =
    sym (is ∙ more_listed n s z p some ∙ ap (in_or (is_listed (n - 1) s z) z) read ∙ ap (λ (t : Bool). t || is_listed (n - 1) s z q) test)

pub listed_on : (whole : Bool) (n : ℕ) (s : Bool) (z : ℤ) (r : ℤ × ℤ) (p q : Where) → whole ≡ is_listed n s z p → 0 < n → range_item s p ≡ Ok (r, q) → is_in z r ≡ false → whole ≡ is_listed (n - 1) s z q
listed_on whole n s z r p q is some read test =
    is ∙ more_listed n s z p some ∙ ap (in_or (is_listed (n - 1) s z) z) read ∙ ap (λ (t : Bool). t || is_listed (n - 1) s z q) test

-- ---- what stands in a structure

pub no_items : (units : List UnitAnswer) (m : Recorded) (p : Place) (n : ℕ) (s : Standing) → n ≡ 0 → items units m p n s ≡ Unknown TypeTooDeep ∷ []
unfolding items
no_items units m p zero s none = refl
no_items units m p (suc n) s none = absurd (omega arith)

pub more_items : (units : List UnitAnswer) (m : Recorded) (p : Place) (n : ℕ) (s : Standing) → 0 < n
    → items units m p n s ≡ flat_map (child_items units m p (items units m p (n - 1)) s.entry.depth) (inside s)
unfolding items
more_items units m p zero s some = absurd (omega arith)
more_items units m p (suc n) s some = let less : suc n - 1 ≡ n = omega arith in rw less refl

-- the items of one entry behind those before it
pub one_pushed : (f : Standing → List Item) (total mid new : List Item) (x : Standing) (xs : List Standing) → total ≡ mid ++ flat_map f (x ∷ xs) → new ≡ mid ++ f x → total ≡ new ++ flat_map f xs
one_pushed f total mid new x xs is here =
    is ∙ sym (append_assoc mid (f x) (flat_map f xs)) ∙ ap (λ (t : List Item). t ++ flat_map f xs) (sym here)

-- those of all entries
pub all_pushed : (units : List UnitAnswer) (m : Recorded) (p : Place) (n : ℕ) (s : Standing) (old new : List Item) (left : List Entry) → 0 < n → length left < 1
    → old ++ flat_map (child_items units m p (items units m p (n - 1)) s.entry.depth) (inside s) ≡ new ++ flat_map (child_items units m p (items units m p (n - 1)) s.entry.depth) (standing_in s.unit left)
    → new ≡ old ++ items units m p n s
all_pushed units m p n s old new [] some none is = sym (ap (λ (t : List Item). old ++ t) (more_items units m p n s some) ∙ is ∙ append-nil new)
all_pushed units m p n s old new (e ∷ es) some none is = absurd (omega arith)

-- ---- where it is known which children tell of a structure

filtered : {A B : Type 0} (f : A → List B) (p : A → Bool) (xs : List A) → ((x : A) → p x ≡ false → f x ≡ []) → flat_map f (filter p xs) ≡ flat_map f xs
filtered f p [] none = refl
filtered f p (x ∷ xs) none = by_test f (filter p xs) xs x (p x) (filtered f p xs none) (none x)
  where
    by_test : {A B : Type 0} (f : A → List B) (picked xs : List A) (x : A) (b : Bool) → flat_map f picked ≡ flat_map f xs → (b ≡ false → f x ≡ []) → flat_map f (cond b (x ∷ picked) picked) ≡ flat_map f (x ∷ xs)
    by_test f picked xs x true rest none = ap (λ (ys : List _). f x ++ ys) rest
    by_test f picked xs x false rest none = rest ∙ ap (λ (ys : List _). ys ++ flat_map f xs) (sym (none refl))

other_by : {A : Type 0} (b c : Bool) (x : A) (xs : List A) → (b || c) ≡ false → (if b then x ∷ [] else (if c then xs else [])) ≡ []
other_by true c x xs e = absurd (let no : true ≡ false = e in cc)
other_by false true x xs e = absurd (let no : true ≡ false = e in cc)
other_by false false x xs e = refl

-- all others tell nothing
other_child : (units : List UnitAnswer) (m : Recorded) (p : Place) (content : Standing → List Item) (depth : ℕ) (x : Standing) → stands_in depth x ≡ false → child_items units m p content depth x ≡ []
other_child units m p content depth x e =
    other_by (is_child depth tag_member x.entry) (is_child depth tag_variant_part x.entry) (Member x) (variant_items content (variant_of units m p x)) e

-- a child at a position, if it is there
pub none_placed : (f : Standing → List Item) (old : List Item) (k : ℕ) (xs : List Standing) → None ≡ slice_get xs k → old ≡ old ++ flat_map f (picked (k ∷ []) xs)
none_placed f old k xs none = sym (append-nil old) ∙ ap (λ (o : Option Standing). old ++ flat_map f (cons_option o [])) none

pub one_placed : (f : Standing → List Item) (old new : List Item) (k : ℕ) (xs : List Standing) (x : Standing) → Some x ≡ slice_get xs k → new ≡ old ++ f x
    → new ≡ old ++ flat_map f (picked (k ∷ []) xs)
one_placed f old new k xs x there is =
    is ∙ ap (λ (ys : List Item). old ++ ys) (sym (append-nil (f x))) ∙ ap (λ (o : Option Standing). old ++ flat_map f (cons_option o [])) there

-- the items of one position behind those before it
joined : (f : Standing → List Item) (o : Option Standing) (xs : List Standing) → flat_map f (cons_option o xs) ≡ flat_map f (cons_option o []) ++ flat_map f xs
joined f None xs = refl
joined f (Some x) xs = ap (λ (ys : List Item). ys ++ flat_map f xs) (sym (append-nil (f x)))

pub next_placed : (f : Standing → List Item) (total mid new : List Item) (k : ℕ) (ks : List ℕ) (xs : List Standing) → total ≡ mid ++ flat_map f (picked (k ∷ ks) xs)
    → new ≡ mid ++ flat_map f (picked (k ∷ []) xs) → total ≡ new ++ flat_map f (picked ks xs)
next_placed f total mid new k ks xs is here =
    is ∙ ap (λ (ys : List Item). mid ++ ys) (joined f (slice_get xs k) (picked ks xs))
    ∙ sym (append_assoc mid (flat_map f (picked (k ∷ []) xs)) (flat_map f (picked ks xs))) ∙ ap (λ (t : List Item). t ++ flat_map f (picked ks xs)) (sym here)

pub known_items : (units : List UnitAnswer) (m : Recorded) (p : Place) (s t : Standing) (e : Entry) (u : UnitTree) (es : List Entry) (further : ℕ) (positions ks : List ℕ) (old new : List Item)
    → picked positions (inside s) ≡ contents s → e ≡ s.entry → t ≡ s → u ≡ t.unit → es ≡ entries_inside s → ks ≡ positions → further ≡ longest_chain - 1
    → new ≡ old ++ flat_map (child_items units m p (items units m p further) e.depth) (picked ks (standing_in u es)) → new ≡ old ++ items units m p longest_chain s
known_items units m p s t e u es further positions ks old new told is alike unit those same less pushed =
    let some : 0 < longest_chain = omega arith in
    let f : Standing → List Item = child_items units m p (items units m p (longest_chain - 1)) s.entry.depth in
    pushed ∙ ap (λ (n : ℕ). old ++ flat_map (child_items units m p (items units m p n) e.depth) (picked ks (standing_in u es))) less
    ∙ ap (λ (x : Entry). old ++ flat_map (child_items units m p (items units m p (longest_chain - 1)) x.depth) (picked ks (standing_in u es))) is
    ∙ ap (λ (x : UnitTree). old ++ flat_map f (picked ks (standing_in x es))) (unit ∙ ap (λ (x : Standing). x.unit) alike)
    ∙ ap (λ (ys : List Entry). old ++ flat_map f (picked ks (standing_in s.unit ys))) those
    ∙ ap (λ (js : List ℕ). old ++ flat_map f (picked js (inside s))) same
    ∙ ap (λ (ys : List Standing). old ++ flat_map f ys) told
    ∙ ap (λ (ys : List Item). old ++ ys)
    (filtered f (stands_in s.entry.depth) (inside s) (λ x none. other_child units m p (items units m p (longest_chain - 1)) s.entry.depth x none) ∙ sym (more_items units m p longest_chain s some))
