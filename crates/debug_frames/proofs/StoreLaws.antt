-- What is kept of line programs gives what the programs at their offsets say.
use Rattle.std.proofs.Common.{◌≡◌, ℕ, zero, suc, ◌+◌, ◌<◌, ◌^◌, ℤ, Bool, true, false, cond, eqb, List, [], ◌∷◌, ◌++◌, length, drop, Option, Some, None, refl, sym, ap, subst, ◌∙◌, arith}
use Rattle.std.specs.Prelude.{find, get_or, option_map}
use Rattle.std.specs.Option.{is_some, option_or}
use Rattle.std.specs.List.{list_any, position_from}
use Rattle.std.proofs.lemmas.Bool.{eqb-true, or_parts}
use Rattle.std.proofs.lemmas.Option.{same_Some}
use Rattle.std.proofs.lemmas.List.Elements.{All-from_recursion, All-get_or}
use Rattle.dwarf_info.specs.Sections.{SectionBytes5}
use Rattle.dwarf_line.specs.declared.hull.Hull.{Hull}
use Rattle.dwarf_line.specs.declared.lines.Lines.{Lines}
use Rattle.dwarf_line.specs.declared.lines.Row.{Row}
use Rattle.dwarf_line.specs.Program.{lines_at}
use Rattle.dwarf_line.specs.Place.{Located, place}
use Rattle.dwarf_line.specs.calls.Hulls.{no_hull, hull_if, is_inside}
use Rattle.dwarf_line.proofs.HeldLaws.{is_placed}
use Rattle.dwarf5_line.specs.Layout5.{texts_of, layout5}
use Rattle.dwarf_scopes.specs.Ranges.{is_between}
use Rattle.dwarf_scopes.specs.calls.Numbered.{ranges_from, is_within}
use Rattle.dwarf_scopes.specs.calls.Steps.{Answer, answer}
use Rattle.dwarf_scopes.specs.declared.steps.Step.{Step}
use Rattle.dwarf_scopes.proofs.NumberLaws.{first_numbered}
use Rattle.debug_frames.specs.declared.programs.Program.{Program}
use Rattle.debug_frames.specs.declared.programs.Program.TheVariants.{Read, Unreadable}
use Rattle.debug_frames.specs.declared.rows.RowPlace.{RowPlace}
use Rattle.debug_frames.specs.declared.stored.Stored.{Stored}
use Rattle.debug_frames.specs.declared.stored.Stored.TheVariants.{Whole, Bounded}
use Rattle.debug_frames.specs.declared.stored.Stored.TheVariants as stored
use Rattle.debug_frames.specs.Programs.{program_of, program_there, located, located_in}
use Rattle.debug_frames.specs.calls.Kept.{program_at, located_among}
use Rattle.debug_frames.specs.inner.Paths.{row_place, path_in, path_in_program}
use Rattle.debug_frames.specs.inner.Stores.{hull_in, Serves, IsStored, AreStored, seen, Shows, is_read, can_be_read, claims_of, claims_in, places_among}
use Rattle.debug_frames.proofs.HullLaws.{none_outside}
use Rattle.debug_frames.proofs.PlacingLaws.{held_placed}
use Rattle.debug_frames.proofs.Kept.{flipped, none_there}

-- ---- one program

-- what is kept whole
pub whole_place : (p : Program) (lines : Lines) (a : ℕ) → p ≡ Read lines → option_map row_place (located lines a) ≡ option_map row_place (located_in p a)
whole_place p lines a e = ap (λ (q : Program). option_map row_place (located_in q a)) (sym e)

pub unreadable_place : (p : Program) (a : ℕ) → p ≡ Unreadable → ◌≡◌ {A = Option RowPlace} None (option_map row_place (located_in p a))
unreadable_place p a e = ap (λ (q : Program). option_map row_place (located_in q a)) (sym e)

-- what bounds are kept of
pub unread_bounds : (p : Program) → hull_in p ≡ None → p ≡ Unreadable
unread_bounds Unreadable e = refl
unread_bounds (Read lines) e = absurd cc

bounds_there : (o : Option Lines) → hull_in (program_of o) ≡ hull_if o
bounds_there None = refl
bounds_there (Some lines) = refl

pub scanned : (s : SectionBytes5) (at : ℕ) (section : List ℕ) (b : Option Hull) → section ≡ s.base.line → b ≡ hull_if (lines_at (layout5 (texts_of s)) section at) → hull_in (program_there s at) ≡ b
scanned s at section b same e =
    bounds_there (lines_at (layout5 (texts_of s)) s.base.line at) ∙ ap (λ (l : List ℕ). hull_if (lines_at (layout5 (texts_of s)) l at)) (sym same) ∙ sym e

-- Outside of its bounds a program has no row.
pub outside_place : (p : Program) (h : Hull) (a : ℕ) → hull_in p ≡ Some h → is_inside h a ≡ false → located_in p a ≡ None
outside_place Unreadable h a e outside = refl
outside_place (Read lines) h a e outside =
    let row : Row → Located = λ (r : Row). record { lines = lines; row = r } in
    let out = ap (λ (k : Hull). is_inside k a) (same_Some _ _ e) ∙ outside in
    let nowhere : place a lines.sequences ≡ None = none_there _ (is_placed a lines.sequences ∙ none_outside lines.sequences no_hull a out) in
    ap (option_map row) nowhere

pub no_place : (p : Program) (h : Hull) (a : ℕ) → hull_in p ≡ Some h → is_inside h a ≡ false → ◌≡◌ {A = Option RowPlace} None (option_map row_place (located_in p a))
no_place p h a e outside = ap (option_map row_place) (sym (outside_place p h a e outside))

-- Where it is not claimed that it holds an address, it has no row of it.
unclaimed : (p : Program) (x : Stored) (a : ℕ) → Serves p x → list_any (λ (b : ℕ × ℤ). is_between b a) (claims_of x) ≡ false → located_in p a ≡ None
unclaimed p (Whole lines) a e none = ap (λ (q : Program). located_in q a) e ∙ none_there _ (sym (held_placed a (Read lines)) ∙ none)
unclaimed p stored.Unreadable a e none = ap (λ (q : Program). located_in q a) e
unclaimed p (Bounded h) a e none = outside_place p h a e (or_parts (is_inside h a) false none).0

pub whole_path : (p : Program) (lines : Lines) (n : ℕ) → p ≡ Read lines → path_in lines n ≡ path_in_program p n
whole_path p lines n e = ap (λ (q : Program). path_in_program q n) (sym e)

pub unreadable_path : (p : Program) (n : ℕ) → p ≡ Unreadable → None ≡ path_in_program p n
unreadable_path p n e = ap (λ (q : Program). path_in_program q n) (sym e)

pub served_read : (p : Program) (x : Stored) → Serves p x → can_be_read x ≡ is_read p
served_read p (Whole lines) e = ap is_read (sym e)
served_read p stored.Unreadable e = ap is_read (sym e)
served_read (Read lines) (Bounded h) e = refl
served_read Unreadable (Bounded h) e = absurd cc

-- ---- by offsets

shown_by : (there here : Program) (x : ℕ × Stored) (later : Option Program) (found : Option (ℕ × Stored)) (t : Bool) → (t ≡ true → here ≡ there) → Serves here x.1
    → Shows there later (option_map (λ (x : ℕ × Stored). x.1) found)
    → Shows there (cond t (Some here) later) (option_map (λ (x : ℕ × Stored). x.1) (cond t (Some x) found))
shown_by there here x later found true same serves rest = (ap Some (same refl), subst (λ (p : Program). Serves p x.1) (same refl) serves)
shown_by there here x later found false same serves rest = rest

pub shown_at : (s : SectionBytes5) (at : ℕ) (xs : List (ℕ × Stored)) → AreStored s xs
    → Shows (program_there s at) (program_at (seen s xs) at) (option_map (λ (x : ℕ × Stored). x.1) (find (λ (x : ℕ × Stored). eqb x.0 at) xs))
shown_at s at [] all = refl
shown_at s at (x ∷ xs) all =
    let later = program_at (seen s xs) at in
    let found = find (λ (x : ℕ × Stored). eqb x.0 at) xs in
    subst (λ (t : Bool). Shows (program_there s at) (cond (eqb at x.0) (Some (program_there s x.0)) later) (option_map (λ (x : ℕ × Stored). x.1) (cond t (Some x) found))) (flipped at x.0)
    (shown_by (program_there s at) (program_there s x.0) x later found (eqb at x.0) (λ e. ap (program_there s) (sym (eqb-true at x.0 e))) all.0 (shown_at s at xs all.1))

-- the same of what was found
pub shown_of : (s : SectionBytes5) (at : ℕ) (xs : List (ℕ × Stored)) (o : Option Stored) → AreStored s xs → o ≡ option_map (λ (x : ℕ × Stored). x.1) (find (λ (x : ℕ × Stored). eqb x.0 at) xs)
    → Shows (program_there s at) (program_at (seen s xs) at) o
shown_of s at xs o all e = subst (Shows (program_there s at) (program_at (seen s xs) at)) (sym e) (shown_at s at xs all)

pub some_shown : (there : Program) (p : Option Program) (o : Option Stored) → Shows there p o → is_some o ≡ is_some p
some_shown there p None h = sym (ap is_some h)
some_shown there p (Some x) h = sym (ap is_some h.0)

-- ---- one more

pub stored_more : (s : SectionBytes5) (xs after : List (ℕ × Stored)) (at : ℕ) (x : Stored) → AreStored s xs → Serves (program_there s at) x → after ≡ xs ++ (at, x) ∷ [] → AreStored s after
stored_more s xs after at x all serves e = subst (AreStored s) (sym e) (behind xs all)
  where
    behind : (ys : List (ℕ × Stored)) → AreStored s ys → AreStored s (ys ++ (at, x) ∷ [])
    behind [] all = (serves, tt)
    behind (y ∷ ys) all = (all.0, behind ys all.1)

pub element_stored : (s : SectionBytes5) (xs : List (ℕ × Stored)) (k : ℕ) (x : ℕ × Stored) → AreStored s xs → k < length xs → x ≡ get_or xs k x → IsStored s x
element_stored s xs k x all lt is = subst (IsStored s) (sym is) (All-get_or (IsStored s) xs k x lt (All-from_recursion (IsStored s) xs all))

-- ---- the first place

-- the first number that is claimed, against the first place
abbrev Behind : SectionBytes5 → ℕ → ℕ → List (ℕ × Stored) → Option ℕ → Type 0
Behind s a index xs None = places_among s xs a ≡ None
Behind s a index xs (Some n) = (k : ℕ) × ((n ≡ index + k) × (places_among s (drop k xs) a ≡ places_among s xs a))

passed : (s : SectionBytes5) (a index : ℕ) (x : ℕ × Stored) (xs : List (ℕ × Stored)) (o : Option ℕ) → places_among s (x ∷ xs) a ≡ places_among s xs a → Behind s a (index + 1) xs o → Behind s a index (x ∷ xs) o
passed s a index x xs None same h = same ∙ h
passed s a index x xs (Some n) same h =
    let number : n ≡ (index + 1) + h.0 = h.1.0 in
    (suc h.0, (omega (arith, number), h.1.1 ∙ sym same))

claimed_from : (s : SectionBytes5) (a index : ℕ) (xs : List (ℕ × Stored)) → AreStored s xs → Behind s a index xs (position_from (is_within claims_in a) index xs)
claimed_from s a index [] all = refl
claimed_from s a index (x ∷ xs) all = by (is_within claims_in a x) refl (claimed_from s a (index + 1) xs all.1)
  where
    by : (t : Bool) → is_within claims_in a x ≡ t → Behind s a (index + 1) xs (position_from (is_within claims_in a) (index + 1) xs)
        → Behind s a index (x ∷ xs) (cond t (Some index) (position_from (is_within claims_in a) (index + 1) xs))
    by true e later = (0, (omega arith, refl))
    by false e later =
        let none : located_in (program_there s x.0) a ≡ None = unclaimed (program_there s x.0) x.1 a all.0 e in
        passed s a index x xs (position_from (is_within claims_in a) (index + 1) xs) (ap (λ (o : Option Located). option_or (option_map row_place o) (places_among s xs a)) none) later

answered : (s : SectionBytes5) (a : ℕ) (xs : List (ℕ × Stored)) (steps : List Step) → a < 2 ^ 32 → AreStored s xs → Answer (ranges_from claims_in 0 xs) steps → Behind s a 0 xs (answer steps a)
answered s a xs steps small all answers = subst (Behind s a 0 xs) (sym (answers a small ∙ first_numbered claims_in a 0 xs)) (claimed_from s a 0 xs all)

pub none_claimed : (s : SectionBytes5) (a : ℕ) (xs : List (ℕ × Stored)) (steps : List Step) → a < 2 ^ 32 → AreStored s xs → Answer (ranges_from claims_in 0 xs) steps
    → answer steps a ≡ None → None ≡ places_among s xs a
none_claimed s a xs steps small all answers e = sym (subst (Behind s a 0 xs) e (answered s a xs steps small all answers))

pub first_claimed : (s : SectionBytes5) (a : ℕ) (xs : List (ℕ × Stored)) (steps : List Step) (n : ℕ) → a < 2 ^ 32 → AreStored s xs → Answer (ranges_from claims_in 0 xs) steps
    → answer steps a ≡ Some n → places_among s (drop n xs) a ≡ places_among s xs a
first_claimed s a xs steps n small all answers e =
    let h : Behind s a 0 xs (Some n) = subst (Behind s a 0 xs) e (answered s a xs steps small all answers) in
    let number : n ≡ 0 + h.0 = h.1.0 in
    let same : n ≡ h.0 = omega (arith, number) in
    ap (λ (k : ℕ). places_among s (drop k xs) a) same ∙ h.1.1

pub stored_behind : (s : SectionBytes5) (n : ℕ) (xs : List (ℕ × Stored)) → AreStored s xs → AreStored s (drop n xs)
stored_behind s zero xs all = all
stored_behind s (suc n) [] all = tt
stored_behind s (suc n) (x ∷ xs) all = stored_behind s n xs all.1

map_or : {A B : Type 0} (f : A → B) (o p : Option A) → option_or (option_map f o) (option_map f p) ≡ option_map f (option_or o p)
map_or f None p = refl
map_or f (Some x) p = refl

pub places_seen : (s : SectionBytes5) (xs : List (ℕ × Stored)) (a : ℕ) → places_among s xs a ≡ option_map row_place (located_among (seen s xs) a)
places_seen s [] a = refl
places_seen s (x ∷ xs) a =
    let here = located_in (program_there s x.0) a in
    ap (option_or (option_map row_place here)) (places_seen s xs a) ∙ map_or row_place here (located_among (seen s xs) a)

pub read_shown : (s : SectionBytes5) (at : ℕ) (xs : List (ℕ × Stored)) (x : Stored) → AreStored s xs → Some x ≡ option_map (λ (x : ℕ × Stored). x.1) (find (λ (x : ℕ × Stored). eqb x.0 at) xs)
    → Some (can_be_read x) ≡ option_map is_read (program_at (seen s xs) at)
read_shown s at xs x all e =
    let h = shown_of s at xs (Some x) all e in
    ap Some (served_read (program_there s at) x h.1) ∙ sym (ap (option_map is_read) h.0)

pub none_shown : (s : SectionBytes5) (at : ℕ) (xs : List (ℕ × Stored)) → AreStored s xs → None ≡ option_map (λ (x : ℕ × Stored). x.1) (find (λ (x : ℕ × Stored). eqb x.0 at) xs)
    → None ≡ option_map is_read (program_at (seen s xs) at)
none_shown s at xs all e = sym (ap (option_map is_read) (shown_of s at xs None all e))
