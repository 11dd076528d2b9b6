-- Texts of values, case by case.
use Rattle.std.proofs.Common.{◌≡◌, ℕ, zero, suc, ◌+◌, ◌-◌, ◌<◌, Bool, true, false, List, [], ◌∷◌, ◌++◌, Option, Some, None, Ok, Err, length, drop, get_or, refl, sym, ap, subst, ◌∙◌, append_assoc, arith}
use Rattle.std.specs.Prelude.{map, filter, if◌then◌else◌, codes}
use Rattle.std.proofs.lemmas.List.{append-nil}
use Rattle.dwarf_info.specs.declared.entry.UnitAnswer.{UnitAnswer}
use Rattle.dwarf_entries.specs.Standing.{Standing}
use Rattle.dwarf_types.specs.declared.class.Class.{Class}
use Rattle.dwarf_types.specs.declared.class.Class.TheVariants as classes
use Rattle.dwarf_types.specs.declared.behind.Typed.{Typed}
use Rattle.dwarf_types.specs.declared.behind.Typed.TheVariants as typeds
use Rattle.dwarf_types.specs.Types.{class_at, type_of}
use Rattle.dwarf_types.specs.Sizes.{type_size}
use Rattle.var_values.specs.declared.mark.Mark.{Mark}
use Rattle.var_values.specs.declared.mark.Mark.TheVariants.{TypeTooDeep, UnsupportedType}
use Rattle.var_values.specs.declared.source.Source.{Source}
use Rattle.var_values.specs.declared.source.Source.TheVariants.{Lost, Single, Pieces}
use Rattle.var_values.specs.Bytes.{Recorded}
use Rattle.var_values.specs.Marks.{mark_text}
use Rattle.var_values.specs.Places.{Place}
use Rattle.var_values.specs.Suits.{suits}
use Rattle.var_values.specs.Values.{Text, in_place, content_as, unless_lost, sized_text, value_as, value_text, braced}
use Rattle.var_values.specs.calls.Told.{Tells}
use Rattle.var_values.specs.inner.Parts.{joined, separator}
use Rattle.dwarf_bytes.proofs.Loops.{next}

pub tells_as : (v w : Text) (mark : Option Mark) (old new : List ℕ) → v ≡ w → Tells w mark old new → Tells v mark old new
tells_as v w mark old new is h = subst (λ (t : Text). Tells t mark old new) (sym is) h

-- nothing is written where there is a mark
pub mark_tells : (v : Text) (m : Mark) (old : List ℕ) → v ≡ Err m → Tells v (Some m) old old
mark_tells v m old is = tells_as v (Err m) (Some m) old old is (record { mark = refl; text = sym (append-nil old) })

pub text_tells : (v : Text) (t : List ℕ) (old new : List ℕ) → v ≡ Ok t → new ≡ old ++ t → Tells v None old new
text_tells v t old new is text = tells_as v (Ok t) None old new is (record { mark = refl; text = text })

-- ---- by the type

nothing_is : (units : List UnitAnswer) (m : Recorded) (n : ℕ) (p : Place) → value_text units m n typeds.Nothing p ≡ Err UnsupportedType
unfolding value_text
nothing_is units m zero p = refl
nothing_is units m (suc n) p = refl

deep_is : (units : List UnitAnswer) (m : Recorded) (n : ℕ) (s : Standing) (k : ℕ) (p : Place) → n ≡ 0 → value_text units m n (typeds.At s k) p ≡ Err TypeTooDeep
unfolding value_text
deep_is units m zero s k p none = refl
deep_is units m (suc n) s k p none = absurd (omega arith)

pub nothing_tells : (units : List UnitAnswer) (m : Recorded) (n : ℕ) (p : Place) (old : List ℕ) → Tells (value_text units m n typeds.Nothing p) (Some UnsupportedType) old old
nothing_tells units m n p old = mark_tells (value_text units m n typeds.Nothing p) UnsupportedType old (nothing_is units m n p)

pub deep_tells : (units : List UnitAnswer) (m : Recorded) (n : ℕ) (s : Standing) (k : ℕ) (p : Place) (old : List ℕ) → n ≡ 0 → Tells (value_text units m n (typeds.At s k) p) (Some TypeTooDeep) old old
deep_tells units m n s k p old none = mark_tells (value_text units m n (typeds.At s k) p) TypeTooDeep old (deep_is units m n s k p none)

more_is : (units : List UnitAnswer) (m : Recorded) (n : ℕ) (s : Standing) (k : ℕ) (p : Place) → 0 < n → value_text units m n (typeds.At s k) p ≡ value_as (class_at s) units m (value_text units m (n - 1)) s k p
unfolding value_text
more_is units m zero s k p some = absurd (omega arith)
more_is units m (suc n) s k p some = let less : suc n - 1 ≡ n = omega arith in rw less refl

pub passed_is : (units : List UnitAnswer) (m : Recorded) (n : ℕ) (s : Standing) (k : ℕ) (p : Place) → 0 < n → class_at s ≡ classes.Passed
    → value_text units m n (typeds.At s k) p ≡ value_text units m (n - 1) (type_of units s.entry.attributes) p
passed_is units m n s k p some class = more_is units m n s k p some ∙ ap (λ (c : Class). value_as c units m (value_text units m (n - 1)) s k p) class

by_class : (c : Class) (units : List UnitAnswer) (m : Recorded) (value : Typed → Place → Text) (s : Standing) (k : ℕ) (p : Place) → (c ≡ classes.Passed → ⊥)
    → value_as c units m value s k p ≡ sized_text (type_size units (typeds.At s k)) units m value s k p
by_class classes.Passed units m value s k p other = absurd (other refl)
by_class classes.Pointing units m value s k p other = refl
by_class classes.Members units m value s k p other = refl
by_class classes.Array units m value s k p other = refl
by_class classes.Enumeration units m value s k p other = refl
by_class classes.Base units m value s k p other = refl
by_class classes.Another units m value s k p other = refl

-- no other type stands behind this one
pub sized_is : (units : List UnitAnswer) (m : Recorded) (n : ℕ) (t : Typed) (s : Standing) (k : ℕ) (p : Place) (size : Option ℕ) → t ≡ typeds.At s k → 0 < n → (class_at s ≡ classes.Passed → ⊥)
    → size ≡ type_size units t → value_text units m n t p ≡ sized_text size units m (value_text units m (n - 1)) s k p
sized_is units m n t s k p size is some class sized =
    ap (λ (x : Typed). value_text units m n x p) is ∙ more_is units m n s k p some ∙ by_class (class_at s) units m (value_text units m (n - 1)) s k p class
    ∙ ap (λ (z : Option ℕ). sized_text z units m (value_text units m (n - 1)) s k p) (ap (type_size units) (sym is) ∙ sym sized)

-- ---- by the place

by_suits : (units : List UnitAnswer) (m : Recorded) (value : Typed → Place → Text) (s : Standing) (k size : ℕ) (p : Place) (b : Bool) → b ≡ suits s p size
    → sized_text (Some size) units m value s k p ≡ (if b then unless_lost p.source (content_as (class_at s) units m value s k size p) else Err UnsupportedType)
by_suits units m value s k size p b is =
    ap (λ (t : Bool). if t then unless_lost p.source (content_as (class_at s) units m value s k size p) else Err UnsupportedType) (sym is)

pub unsuited_tells : (units : List UnitAnswer) (m : Recorded) (value : Typed → Place → Text) (s : Standing) (k size : ℕ) (p : Place) (old : List ℕ) → false ≡ suits s p size
    → Tells (sized_text (Some size) units m value s k p) (Some UnsupportedType) old old
unsuited_tells units m value s k size p old test = mark_tells _ UnsupportedType old (by_suits units m value s k size p false test)

pub lost_tells : (units : List UnitAnswer) (m : Recorded) (value : Typed → Place → Text) (s : Standing) (k size : ℕ) (p : Place) (mark : Mark) (old : List ℕ) → true ≡ suits s p size → p.source ≡ Lost mark
    → Tells (sized_text (Some size) units m value s k p) (Some mark) old old
lost_tells units m value s k size p mark old test lost =
    mark_tells _ mark old (by_suits units m value s k size p true test ∙ ap (λ (x : Source). unless_lost x (content_as (class_at s) units m value s k size p)) lost)

-- it is somewhere
abbrev pub IsSomewhere : Source → Type 0
IsSomewhere (Lost m) = ⊥
IsSomewhere (Single place) = Unit {0}
IsSomewhere (Pieces ps) = Unit {0}

not_lost : (x : Source) (t : Text) → IsSomewhere x → unless_lost x t ≡ t
not_lost (Lost m) t h = absurd h
not_lost (Single place) t h = refl
not_lost (Pieces ps) t h = refl

pub content_tells : (units : List UnitAnswer) (m : Recorded) (value : Typed → Place → Text) (s : Standing) (k size : ℕ) (p : Place) (mark : Option Mark) (old new : List ℕ) → true ≡ suits s p size → IsSomewhere p.source
    → Tells (content_as (class_at s) units m value s k size p) mark old new → Tells (sized_text (Some size) units m value s k p) mark old new
content_tells units m value s k size p mark old new test here h =
    tells_as _ _ mark old new (by_suits units m value s k size p true test ∙ not_lost p.source (content_as (class_at s) units m value s k size p) here) h

-- ---- marks in place

pub marked_in_place : (v : Text) (m : Mark) (old mid new : List ℕ) → Tells v (Some m) old mid → new ≡ mid ++ mark_text m → new ≡ old ++ in_place v
marked_in_place (Ok t) m old mid new h e = absurd (let no : Some m ≡ None = h.mark in cc)
marked_in_place (Err k) m old mid new h e =
    let same : Some m ≡ Some k = h.mark in
    let is : m ≡ k = cc in
    e ∙ ap (λ (t : List ℕ). t ++ mark_text m) (h.text ∙ append-nil old) ∙ ap (λ (n : Mark). old ++ mark_text n) is

pub text_in_place : (v : Text) (old new : List ℕ) → Tells v None old new → new ≡ old ++ in_place v
text_in_place (Ok t) old new h = h.text
text_in_place (Err k) old new h = absurd (let no : None ≡ Some k = h.mark in cc)

-- ---- members

pub joined_next : (first : Bool) (x : List ℕ) (xs : List (List ℕ)) → joined first (x ∷ xs) ≡ separator first ++ (x ++ joined false xs)
joined_next true x xs = refl
joined_next false x xs = refl

-- a text in front of the others
pub one_joined : (text mid new total : List ℕ) (first : Bool) (x : List ℕ) (xs : List (List ℕ)) → mid ≡ text ++ separator first → new ≡ mid ++ x
    → text ++ (joined first (x ∷ xs) ++ codes "}") ≡ total → new ++ (joined false xs ++ codes "}") ≡ total
one_joined text mid new total first x xs between here all =
    let rest = joined false xs ++ codes "}" in
    ap (λ (t : List ℕ). t ++ rest) (here ∙ ap (λ (t : List ℕ). t ++ x) between ∙ append_assoc text (separator first) x)
    ∙ append_assoc text (separator first ++ x) rest
    ∙ ap (λ (t : List ℕ). text ++ t) (append_assoc (separator first) x rest ∙ ap (λ (t : List ℕ). separator first ++ t) (sym (append_assoc x (joined false xs) (codes "}")))
    ∙ sym (append_assoc (separator first) (x ++ joined false xs) (codes "}")) ∙ ap (λ (t : List ℕ). t ++ codes "}") (sym (joined_next first x xs)))
    ∙ all

pub joined_begins : (old text : List ℕ) (xs : List (List ℕ)) → text ≡ old ++ codes "{" → text ++ (joined true xs ++ codes "}") ≡ old ++ braced xs
joined_begins old text xs is =
    ap (λ (t : List ℕ). t ++ (joined true xs ++ codes "}")) is ∙ append_assoc old (codes "{") (joined true xs ++ codes "}")

pub joined_ends : (text new total : List ℕ) (first : Bool) → new ≡ text ++ codes "}" → text ++ (joined first [] ++ codes "}") ≡ total → new ≡ total
joined_ends text new total true is all = is ∙ all
joined_ends text new total false is all = is ∙ all

-- that of an item of a list
pub item_joined : {E : Type 0} (f : E → List ℕ) (xs : List E) (i : ℕ) (x : E) (text mid new total : List ℕ) (first : Bool) → i < length xs → x ≡ get_or xs i x → mid ≡ text ++ separator first → new ≡ mid ++ f x
    → text ++ (joined first (map f (drop i xs)) ++ codes "}") ≡ total → new ++ (joined false (map f (drop (i + 1) xs)) ++ codes "}") ≡ total
item_joined {E = E} f xs i x text mid new total first lt is between here all =
    one_joined text mid new total first (f x) (map f (drop (i + 1) xs)) between here (ap (λ (ys : List E). text ++ (joined first (map f ys) ++ codes "}")) (sym (next xs i x lt is)) ∙ all)

pub filter_takes : {E : Type 0} (test : E → Bool) (xs : List E) (i : ℕ) (x : E) → i < length xs → x ≡ get_or xs i x → test x ≡ true → filter test (drop i xs) ≡ x ∷ filter test (drop (i + 1) xs)
filter_takes test xs i x lt is passes = ap (filter test) (next xs i x lt is) ∙ ap (λ (b : Bool). if b then x ∷ filter test (drop (i + 1) xs) else filter test (drop (i + 1) xs)) passes

pub filter_passes : {E : Type 0} (test : E → Bool) (xs : List E) (i : ℕ) (x : E) → i < length xs → x ≡ get_or xs i x → test x ≡ false → filter test (drop i xs) ≡ filter test (drop (i + 1) xs)
filter_passes test xs i x lt is fails = ap (filter test) (next xs i x lt is) ∙ ap (λ (b : Bool). if b then x ∷ filter test (drop (i + 1) xs) else filter test (drop (i + 1) xs)) fails
