-- Tests one after the other, and what is found in the parts of a list.
use Rattle.std.proofs.Common.{◌≡◌, ℕ, suc, ◌+◌, ◌<◌, Bool, true, false, List, [], ◌∷◌, ◌++◌, length, drop, get_or, append_assoc, Option, Some, None, refl, sym, ap, ◌∙◌, add-one, drop-cons}
use Rattle.std.specs.Option.{option_or}
use Rattle.std.specs.Prelude.{filter, find, flat_map, reverse, not, ◌&&◌, ◌==◌, if◌then◌else◌}
use Rattle.std.proofs.lemmas.List.{reverse-append}
use Rattle.std.proofs.lemmas.List.Elements.{filter-append}
use Rattle.std.proofs.lemmas.List.Folds.{find-append}
use Rattle.dwarf_info.specs.declared.entry.Entry.{Entry}
use Rattle.dwarf_info.specs.declared.entry.Unit.{Unit as UnitTree}
use Rattle.dwarf_info.specs.declared.entry.UnitAnswer.{UnitAnswer}
use Rattle.dwarf_info.specs.Sections.{SectionBytes5}
use Rattle.dwarf_entries.specs.Standing.{Standing, standing, standing_in, of_unit, entries_inside, inside}
use Rattle.dwarf_entries.specs.Tags.{tag_subprogram}
use Rattle.dwarf_entries.proofs.Found.{found_first, found_later}
use Rattle.dwarf_scopes.specs.Ranges.{holds}
use Rattle.dwarf_scopes.specs.Scopes.{declares, is_removed, variables_of, is_subprogram_at, subprogram_at, is_scope_at, scopes_in}
use Rattle.dwarf_scopes.specs.inner.Picks.{is_variable_of, is_inlined, is_wanted, is_kept, kept_of, kept}

both_step : {A : Type 0} (f g : A → Bool) (x : A) (xs : List A) (b : Bool) → filter f (filter g xs) ≡ filter (λ y. g y && f y) xs
    → filter f (if b then (x ∷ filter g xs) else filter g xs) ≡ (if b && f x then (x ∷ filter (λ y. g y && f y) xs) else filter (λ y. g y && f y) xs)
both_step f g x xs true e = rw e refl
both_step f g x xs false e = e

filter_both : {A : Type 0} (f g : A → Bool) (xs : List A) → filter f (filter g xs) ≡ filter (λ y. g y && f y) xs
filter_both f g [] = refl
filter_both f g (x ∷ xs) = both_step f g x xs (g x) (filter_both f g xs)

pub variables_are : (x : Standing) → filter (is_variable_of x.entry.depth) (inside x) ≡ variables_of x
unfolding variables_of
variables_are x = sym (filter_both declares (λ t. t.entry.depth == suc x.entry.depth) (inside x))

-- ---- from the last on

pub last_first : {A : Type 0} (f : A → Bool) (xs : List A) (x : A) → reverse (filter f (xs ++ x ∷ [])) ≡ reverse (filter f (x ∷ [])) ++ reverse (filter f xs)
last_first f xs x = rw (filter-append f xs (x ∷ [])) (reverse-append (filter f xs) (filter f (x ∷ [])))

-- one more from the last on, which passes or does not

pub last_passes : {A : Type 0} (f : A → Bool) (xs all out more total : List A) (x : A) → all ≡ xs ++ x ∷ [] → f x ≡ true → more ≡ out ++ x ∷ [] → total ≡ out ++ reverse (filter f all) → total ≡ more ++ reverse (filter f xs)
last_passes {A = A} f xs all out more total x parts passes grown so_far =
    let one : reverse (filter f (x ∷ [])) ≡ x ∷ [] = rw passes refl in
    so_far ∙ ap (λ (ys : List A). out ++ reverse (filter f ys)) parts ∙ ap (λ (ys : List A). out ++ ys) (last_first f xs x ∙ ap (λ (ys : List A). ys ++ reverse (filter f xs)) one)
    ∙ sym (append_assoc out (x ∷ []) (reverse (filter f xs))) ∙ ap (λ (ys : List A). ys ++ reverse (filter f xs)) (sym grown)

pub last_fails : {A : Type 0} (f : A → Bool) (xs all out total : List A) (x : A) → all ≡ xs ++ x ∷ [] → f x ≡ false → total ≡ out ++ reverse (filter f all) → total ≡ out ++ reverse (filter f xs)
last_fails {A = A} f xs all out total x parts fails so_far =
    let none : reverse (filter f (x ∷ [])) ≡ [] = rw fails refl in
    so_far ∙ ap (λ (ys : List A). out ++ reverse (filter f ys)) parts ∙ ap (λ (ys : List A). out ++ ys) (last_first f xs x ∙ ap (λ (ys : List A). ys ++ reverse (filter f xs)) none)

-- ---- those that pass a second test too

second_step : {A : Type 0} (f g : A → Bool) (x : A) (xs : List A) (t u : Bool) → f x ≡ t → filter f (filter (λ y. f y && g y) xs) ≡ filter f (filter g xs)
    → filter f (if t && u then (x ∷ filter (λ y. f y && g y) xs) else filter (λ y. f y && g y) xs) ≡ filter f (if u then (x ∷ filter g xs) else filter g xs)
second_step {A = A} f g x xs true true e h = ap (λ (ys : List A). if f x then (x ∷ ys) else ys) h
second_step f g x xs true false e h = h
second_step f g x xs false true e h = rw e h
second_step f g x xs false false e h = h

second_alone : {A : Type 0} (f g : A → Bool) (xs : List A) → filter f (filter (λ y. f y && g y) xs) ≡ filter f (filter g xs)
second_alone f g [] = refl
second_alone f g (x ∷ xs) = second_step f g x xs (f x) (g x) refl (second_alone f g xs)

pub inlined_alone : (s : SectionBytes5) (a : ℕ) (x : Standing)
    → reverse (filter is_inlined (x ∷ filter (is_wanted false s a) (inside x))) ≡ reverse (filter is_inlined (scopes_in s a x))
inlined_alone s a x = ap (λ (ys : List Standing). reverse (if is_inlined x then (x ∷ ys) else ys)) (second_alone is_inlined (is_scope_at s a) (inside x))

-- an entry and those in it that pass, gathered
pub all_inside : (f : Standing → Bool) (x : Standing) (u : UnitTree) (es : List Entry) (none one all : List Standing) → none ≡ [] → one ≡ none ++ x ∷ [] → u ≡ x.unit → es ≡ entries_inside x
    → all ≡ one ++ filter f (standing_in u es) → all ≡ x ∷ filter f (inside x)
all_inside f x u es none one all en eo eu ees ea =
    ea ∙ ap (λ (ys : List Standing). ys ++ filter f (standing_in u es)) (eo ∙ ap (λ (ys : List Standing). ys ++ x ∷ []) en)
    ∙ ap (λ (v : UnitTree). x ∷ filter f (standing_in v es)) eu
    ∙ ap (λ (fs : List Entry). x ∷ filter f (standing_in x.unit fs)) ees

-- ---- subprograms that were gathered

parts : (p q r b : Bool) → p && q ≡ b → p && q && r ≡ b && r
parts true q r b e = ap (λ (t : Bool). t && r) e
parts false q r b e = ap (λ (t : Bool). t && r) e

tested : (s : SectionBytes5) (a : ℕ) (x : Standing) (b : Bool) → is_kept x ≡ b → is_subprogram_at s a x ≡ b && holds s a x
tested s a x b e = parts (x.entry.tag == tag_subprogram) (not (is_removed x)) (holds s a x) b e

pub kept_held : (s : SectionBytes5) (a : ℕ) (x : Standing) → is_kept x ≡ true → is_subprogram_at s a x ≡ holds s a x
kept_held s a x e = tested s a x true e

pub left_out : (s : SectionBytes5) (a : ℕ) (x : Standing) → is_kept x ≡ false → is_subprogram_at s a x ≡ false
left_out s a x e = tested s a x false e

found_by : (s : SectionBytes5) (a : ℕ) (x : Standing) (xs : List Standing) (b : Bool) → is_kept x ≡ b → find (is_subprogram_at s a) xs ≡ find (holds s a) (filter is_kept xs)
    → find (is_subprogram_at s a) (x ∷ xs) ≡ find (holds s a) (filter is_kept (x ∷ xs))
found_by s a x xs true e h =
    let same : is_subprogram_at s a x ≡ holds s a x = tested s a x true e in
    rw (same, e) (ap (λ (o : Option Standing). if holds s a x then Some x else o) h)
found_by s a x xs false e h =
    let same : is_subprogram_at s a x ≡ false = tested s a x false e in
    rw (same, e) h

found_in : (s : SectionBytes5) (a : ℕ) (xs : List Standing) → find (is_subprogram_at s a) xs ≡ find (holds s a) (filter is_kept xs)
found_in s a [] = refl
found_in s a (x ∷ xs) = found_by s a x xs (is_kept x) refl (found_in s a xs)

found_in_units : (s : SectionBytes5) (a : ℕ) (units : List UnitAnswer) → find (is_subprogram_at s a) (standing units) ≡ find (holds s a) (kept units)
found_in_units s a [] = refl
found_in_units s a (u ∷ units) =
    find-append (is_subprogram_at s a) (of_unit u) (standing units)
    ∙ ap (λ (o : Option Standing). option_or o (find (is_subprogram_at s a) (standing units))) (found_in s a (of_unit u))
    ∙ ap (λ (o : Option Standing). option_or (find (holds s a) (kept_of u)) o) (found_in_units s a units)
    ∙ sym (find-append (holds s a) (kept_of u) (kept units))

pub found_kept : (s : SectionBytes5) (a : ℕ) (units : List UnitAnswer) → subprogram_at s units a ≡ find (holds s a) (kept units)
unfolding subprogram_at
found_kept s a units = found_in_units s a units

-- ---- what is found in the part of one element after the other

pub next_part : {A : Type 0} (xs : List A) (i : ℕ) (x : A) → i < length xs → x ≡ get_or xs i x → drop i xs ≡ x ∷ drop (i + 1) xs
next_part xs i x lt is = drop-cons xs i x lt ∙ ap (λ y. y ∷ drop (suc i) xs) (sym is) ∙ ap (λ (n : ℕ). x ∷ drop n xs) (sym (add-one i))

pub part_holds : {A B : Type 0} (test : B → Bool) (part : A → List B) (xs : List A) (i : ℕ) (x : A) (y : B) → i < length xs → x ≡ get_or xs i x → find test (part x) ≡ Some y
    → find test (flat_map part (drop i xs)) ≡ Some y
part_holds test part xs i x y lt is e = ap (λ rest. find test (flat_map part rest)) (next_part xs i x lt is) ∙ found_first test (part x) (flat_map part (drop (i + 1) xs)) y e

pub part_lacks : {A B : Type 0} (test : B → Bool) (part : A → List B) (xs : List A) (i : ℕ) (x : A) → i < length xs → x ≡ get_or xs i x → find test (part x) ≡ None
    → find test (flat_map part (drop i xs)) ≡ find test (flat_map part (drop (i + 1) xs))
part_lacks test part xs i x lt is e = ap (λ rest. find test (flat_map part rest)) (next_part xs i x lt is) ∙ found_later test (part x) (flat_map part (drop (i + 1) xs)) e
