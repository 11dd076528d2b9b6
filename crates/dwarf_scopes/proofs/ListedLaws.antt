-- Of entries with one list it is enough to ask the first.
use Rattle.std.proofs.Common.{◌≡◌, ℕ, ◌+◌, ◌<◌, Bool, true, false, cond, List, [], ◌∷◌, ◌++◌, length, drop, get_or, Option, Some, None, refl, sym, ap, subst, ◌∙◌, arith}
use Rattle.std.specs.Prelude.{ℤ, is_some, ◌||◌, if◌then◌else◌, IfSome}
use Rattle.std.specs.Ordering.{nat_cmp, is_eq}
use Rattle.std.specs.BTreeMap.{BTreeMap, get}
use Rattle.std.specs.List.{list_any}
use Rattle.std.proofs.Math.Bool.{or-true}
use Rattle.std.proofs.lemmas.Bool.{ltb-true}
use Rattle.std.proofs.lemmas.List.{append_assoc, append-nil}
use Rattle.std.proofs.lemmas.Option.{same_Some, slice_get-get_or}
use Rattle.dwarf_info.specs.Attributes.{valued, as_offset, ranges}
use Rattle.dwarf_info.specs.Sections.{SectionBytes5}
use Rattle.dwarf_entries.specs.Standing.{Standing}
use Rattle.dwarf_scopes.specs.Ranges.{bounds_of, in_list, holds, holds_by}
use Rattle.dwarf_scopes.specs.declared.known.ListPlace.{ListPlace}
use Rattle.dwarf_scopes.specs.calls.Knowing.{place_of}
use Rattle.dwarf_scopes.specs.calls.Numbered.{numbers_from, passes, is_before, first_or}
use Rattle.dwarf_scopes.specs.inner.Listing.{list_at, list_of, held_at, is_listed, holds_numbered, AreListed, SoFar, IsAsked, AreSeen}
use Rattle.dwarf_scopes.proofs.AskedLaws.{held_right}
use Rattle.dwarf_scopes.proofs.Filters.{next_part}
use Rattle.dwarf_scopes.proofs.NumberLaws.{least_first}

-- ---- a number that is left out

-- Behind a number that is not before this one, none of these counts.
passed_by : (test : ℕ → Bool) (named : Option ℕ) (index : ℕ) (ys : List Standing) → is_before named index ≡ true
    → first_or test named (numbers_from is_listed (index + 1) ys) ≡ named
passed_by test None index ys before = absurd cc
passed_by test (Some n) index ys before =
    let less : n < index = ltb-true n index before in
    least_first is_listed test n (index + 1) ys (omega (arith, less))

last_out : (test : ℕ → Bool) (named : Option ℕ) (index : ℕ) (ys : List Standing) (b t : Bool) → is_before named index ≡ b → (t ≡ true → false ≡ true)
    → first_or test named (numbers_from is_listed (index + 1) ys)
    ≡ (if b then named else (if t then Some index else first_or test named (numbers_from is_listed (index + 1) ys)))
last_out test named index ys true t before some = passed_by test named index ys before
last_out test named index ys false true before some = absurd (let no : false ≡ true = some refl in cc)
last_out test named index ys false false before some = refl

one_front : (named : Option ℕ) (first : ℕ) (any goes : Bool) (left right : Option ℕ) (b t : Bool) → (goes ≡ true → t || any ≡ true) → ((goes ≡ true → any ≡ true) → left ≡ right)
    → (if b then named else (if t then Some first else left)) ≡ (if b then named else (if t then Some first else right))
one_front named first any goes left right true t some same = refl
one_front named first any goes left right false true some same = refl
one_front named first any goes left right false false some same = same some

left_out : (test : ℕ → Bool) (named : Option ℕ) (index : ℕ) (ys : List Standing) (front : List ℕ) → (test index ≡ true → list_any test front ≡ true)
    → first_or test named (front ++ numbers_from is_listed (index + 1) ys) ≡ first_or test named (front ++ index ∷ numbers_from is_listed (index + 1) ys)
left_out test named index ys [] some = last_out test named index ys (is_before named index) (test index) refl some
left_out test named index ys (n ∷ ns) some =
    one_front named n (list_any test ns) (test index) (first_or test named (ns ++ numbers_from is_listed (index + 1) ys)) (first_or test named (ns ++ index ∷ numbers_from is_listed (index + 1) ys))
    (is_before named n) (test n) some (left_out test named index ys ns)

-- ---- entries by their lists

held_by : (s : SectionBytes5) (a : ℕ) (x : Standing) (p : ListPlace) (o : Option (ℕ × ℤ)) (list : Option ℕ) → valued as_offset ranges x.entry.attributes ≡ list
    → list_at x.unit o list ≡ Some p → holds_by s x a o ≡ held_at s a p
held_by s a x p (Some b) list is e = absurd cc
held_by s a x p None None is e = absurd cc
held_by s a x p None (Some at) is e = ap (in_list s x.unit a) is ∙ sym (held_right s x.unit a at) ∙ ap (held_at s a) (same_Some (place_of x.unit at) p e)

held_numbered : (s : SectionBytes5) (a : ℕ) (xs : List Standing) (index : ℕ) (x : Standing) (p : ListPlace) → index < length xs → x ≡ get_or xs index x → list_of x ≡ Some p
    → holds_numbered s a xs index ≡ held_at s a p
held_numbered s a xs index x p lt is e =
    ap (passes (holds s a)) (slice_get-get_or xs index x lt ∙ ap Some (sym is))
    ∙ held_by s a x p (bounds_of x.entry) (valued as_offset ranges x.entry.attributes) refl e

from_here : (xs : List Standing) (index : ℕ) (x : Standing) (o : Option ListPlace) → index < length xs → x ≡ get_or xs index x → list_of x ≡ o
    → numbers_from is_listed index (drop index xs)
    ≡ (if is_some o then (index ∷ numbers_from is_listed (index + 1) (drop (index + 1) xs)) else numbers_from is_listed (index + 1) (drop (index + 1) xs))
from_here xs index x o lt is e =
    ap (numbers_from is_listed index) (next_part xs index x lt is)
    ∙ ap (λ (l : Option ListPlace). if is_some l then (index ∷ numbers_from is_listed (index + 1) (drop (index + 1) xs)) else numbers_from is_listed (index + 1) (drop (index + 1) xs)) e

-- ---- the loop

pub none_yet : (xs : List Standing) (numbers : List ℕ) → numbers ≡ [] → SoFar xs 0 numbers
none_yet xs numbers none s a named = ap (λ (ns : List ℕ). first_or (holds_numbered s a xs) named (ns ++ numbers_from is_listed 0 xs)) none

pub all_listed : (xs : List Standing) (index : ℕ) (numbers : List ℕ) → drop index xs ≡ [] → SoFar xs index numbers → AreListed xs numbers
all_listed xs index numbers past so_far s a named =
    ap (first_or (holds_numbered s a xs) named) (sym (append-nil numbers) ∙ ap (λ (ys : List Standing). numbers ++ numbers_from is_listed index ys) (sym past))
    ∙ so_far s a named

-- An entry without a list goes by.
pub without_list : (xs : List Standing) (index : ℕ) (x : Standing) (numbers : List ℕ) → index < length xs → x ≡ get_or xs index x → list_of x ≡ None → SoFar xs index numbers
    → SoFar xs (index + 1) numbers
without_list xs index x numbers lt is e so_far s a named =
    ap (λ (ns : List ℕ). first_or (holds_numbered s a xs) named (numbers ++ ns)) (sym (from_here xs index x None lt is e)) ∙ so_far s a named

-- One with the list of an earlier one is left out.
pub with_seen : (xs : List Standing) (index : ℕ) (x : Standing) (p : ListPlace) (numbers : List ℕ) → index < length xs → x ≡ get_or xs index x → list_of x ≡ Some p → IsAsked xs numbers p
    → SoFar xs index numbers → SoFar xs (index + 1) numbers
with_seen xs index x p numbers lt is e asked so_far s a named =
    left_out (holds_numbered s a xs) named index (drop (index + 1) xs) numbers (λ holds. asked s a (sym (held_numbered s a xs index x p lt is e) ∙ holds))
    ∙ ap (λ (ns : List ℕ). first_or (holds_numbered s a xs) named (numbers ++ ns)) (sym (from_here xs index x (Some p) lt is e))
    ∙ so_far s a named

-- One with another list is asked.
pub with_new : (xs : List Standing) (index : ℕ) (x : Standing) (p : ListPlace) (numbers after : List ℕ) → index < length xs → x ≡ get_or xs index x → list_of x ≡ Some p
    → after ≡ numbers ++ index ∷ [] → SoFar xs index numbers → SoFar xs (index + 1) after
with_new xs index x p numbers after lt is e pushed so_far s a named =
    let rest = numbers_from is_listed (index + 1) (drop (index + 1) xs) in
    ap (first_or (holds_numbered s a xs) named) (ap (λ (ns : List ℕ). ns ++ rest) pushed ∙ append_assoc numbers (index ∷ []) rest)
    ∙ ap (λ (ns : List ℕ). first_or (holds_numbered s a xs) named (numbers ++ ns)) (sym (from_here xs index x (Some p) lt is e))
    ∙ so_far s a named

-- ---- the lists that were seen

pub seen_asked : (xs : List Standing) (numbers : List ℕ) (seen : BTreeMap ℕ ListPlace) (number : ℕ) (k p : ListPlace) → get nat_cmp seen number ≡ Some k → k ≡ p → AreSeen xs numbers seen
    → IsAsked xs numbers p
seen_asked xs numbers seen number k p got same all =
    let here : IsAsked xs numbers k = subst (λ (o : Option ListPlace). IfSome o (IsAsked xs numbers)) got (all number) in
    subst (IsAsked xs numbers) same here

more_front : (any more : Bool) (t : Bool) → t || any ≡ true → (any ≡ true → more ≡ true) → t || more ≡ true
more_front any more true some goes = refl
more_front any more false some goes = goes some

any_more : (test : ℕ → Bool) (ns more : List ℕ) → list_any test ns ≡ true → list_any test (ns ++ more) ≡ true
any_more test [] more some = absurd cc
any_more test (n ∷ ns) more some = more_front (list_any test ns) (list_any test (ns ++ more)) (test n) some (any_more test ns more)

any_last : (test : ℕ → Bool) (ns : List ℕ) (index : ℕ) → test index ≡ true → list_any test (ns ++ index ∷ []) ≡ true
any_last test [] index passes = ap (λ (b : Bool). b || false) passes
any_last test (n ∷ ns) index passes = ap (λ (b : Bool). test n || b) (any_last test ns index passes) ∙ or-true (test n)

kept_by : (xs : List Standing) (numbers after : List ℕ) (index : ℕ) (p : ListPlace) (b : Bool) (o : Option ListPlace) → after ≡ numbers ++ index ∷ []
    → ((s : SectionBytes5) (a : ℕ) → holds_numbered s a xs index ≡ held_at s a p) → IfSome o (IsAsked xs numbers)
    → IfSome (cond b (Some p) o) (IsAsked xs after)
kept_by xs numbers after index p true o pushed same old =
    λ s a held. ap (list_any (holds_numbered s a xs)) pushed ∙ any_last (holds_numbered s a xs) numbers index (same s a ∙ held)
kept_by xs numbers after index p false (Some q) pushed same old =
    λ s a held. ap (list_any (holds_numbered s a xs)) pushed ∙ any_more (holds_numbered s a xs) numbers (index ∷ []) (old s a held)
kept_by xs numbers after index p false None pushed same old = old

pub seen_kept : (xs : List Standing) (index : ℕ) (x : Standing) (p : ListPlace) (numbers after : List ℕ) (before new : BTreeMap ℕ ListPlace) (number : ℕ) → index < length xs → x ≡ get_or xs index x
    → list_of x ≡ Some p → after ≡ numbers ++ index ∷ [] → ((q : ℕ) → get nat_cmp new q ≡ cond (is_eq (nat_cmp number q)) (Some p) (get nat_cmp before q)) → AreSeen xs numbers before
    → AreSeen xs after new
seen_kept xs index x p numbers after before new number lt is e pushed updates seen q =
    subst (λ (o : Option ListPlace). IfSome o (IsAsked xs after)) (sym (updates q))
    (kept_by xs numbers after index p (is_eq (nat_cmp number q)) (get nat_cmp before q) pushed (λ s a. held_numbered s a xs index x p lt is e) (seen q))
