-- Which entries of its unit stand in an entry, and the one at a position among them.
use Rattle.std.proofs.Common.{◌≡◌, ℕ, zero, suc, ◌+◌, ◌<◌, ◌≤◌, Bool, true, false, List, [], ◌∷◌, length, drop, take, get_or, Option, Some, None, refl, sym, ap, subst, ◌∙◌, arith}
use Rattle.std.specs.Prelude.{◌==◌, nat_lt, find, slice_get, if◌then◌else◌}
use Rattle.std.specs.Option.{option_or}
use Rattle.std.proofs.Math.Seq.{drop-cons}
use Rattle.std.proofs.lemmas.List.Folds.{find-append, length-prefix_len}
use Rattle.dwarf_info.specs.declared.entry.Entry.{Entry}
use Rattle.dwarf_info.specs.declared.entry.Unit.{Unit as UnitTree}
use Rattle.dwarf_info.specs.declared.entry.UnitAnswer.{UnitAnswer}
use Rattle.dwarf_info.specs.declared.entry.UnitAnswer.TheVariants.{Tree, Unreadable}
use Rattle.dwarf_info.specs.declared.places.EntryPlace.{EntryPlace}
use Rattle.dwarf_info.specs.Units.{entries_in}
use Rattle.dwarf_info.specs.calls.EntryPlaces.{place, place_in, place_among}
use Rattle.dwarf_entries.specs.Standing.{Standing, stands, standing_in, of_unit, standing, stands_at, standing_at, entries_inside}
use Rattle.dwarf_types.specs.declared.entry_range.EntryRange.{EntryRange}
use Rattle.dwarf_types.specs.calls.Inside.{in_range, AreInside}

-- ---- the entries of a range

pub dropped_all : (n : ℕ) (es : List Entry) → length es ≤ n → drop n es ≡ []
dropped_all zero [] h = refl
dropped_all (suc n) [] h = refl
dropped_all zero (e ∷ es) h = absurd (omega arith)
dropped_all (suc n) (e ∷ es) h = let less : length es ≤ n = omega arith in dropped_all n es less

taken_all : (n : ℕ) (es : List Entry) → length es ≤ n → take n es ≡ es
taken_all zero [] h = refl
taken_all (suc n) [] h = refl
taken_all zero (e ∷ es) h = absurd (omega arith)
taken_all (suc n) (e ∷ es) h = let less : length es ≤ n = omega arith in ap (λ (xs : List Entry). e ∷ xs) (taken_all n es less)

pub range_past : (r : EntryRange) (es : List Entry) → length es < r.first → take 0 es ≡ in_range r es
range_past r es past =
    let less : length es ≤ r.first = omega arith in
    sym (ap (λ (xs : List Entry). take r.count xs) (dropped_all r.first es less) ∙ taken_all r.count [] (omega arith))

pub range_long : (r : EntryRange) (es from : List Entry) → from ≡ drop r.first es → length from < r.count → from ≡ in_range r es
range_long r es from is long =
    let less : length from ≤ r.count = omega arith in
    sym (ap (λ (xs : List Entry). take r.count xs) (sym is) ∙ taken_all r.count from less)

-- ---- the entry at a position

-- the next entry, of those that are left
pub next_left : (es : List Entry) (k : ℕ) (e : Entry) → k < length es → e ≡ get_or es k e → drop k es ≡ e ∷ drop (k + 1) es
next_left es k e lt is =
    let next : suc k ≡ k + 1 = omega arith in
    drop-cons es k e lt ∙ ap (λ (x : Entry). x ∷ drop (suc k) es) (sym is) ∙ ap (λ (n : ℕ). e ∷ drop n es) next

pub among_past : (u : UnitTree) (es : List Entry) (k : ℕ) → length es ≤ k → slice_get (standing_in u es) k ≡ None
among_past u [] k h = refl
among_past u (x ∷ xs) zero h = absurd (omega arith)
among_past u (x ∷ xs) (suc k) h = let less : length xs ≤ k = omega arith in among_past u xs k less

pub among_there : (u : UnitTree) (es : List Entry) (k : ℕ) (e : Entry) → k < length es → e ≡ get_or es k e → slice_get (standing_in u es) k ≡ Some (stands u e (drop (k + 1) es))
among_there u [] k e lt is = absurd (omega arith)
among_there u (x ∷ xs) zero e lt is = ap (λ (y : Entry). Some (stands u y xs)) (sym is)
among_there u (x ∷ xs) (suc k) e lt is =
    let less : k < length xs = omega arith in
    let more : suc k + 1 ≡ suc (k + 1) = omega arith in
    rw more (among_there u xs k e less is)

-- ---- what stands behind the entry at a place

-- a place and an entry: behind the place stands what stands behind the entry
abbrev Behind : Option EntryPlace → Option Standing → Type 0
Behind None None = ◌≡◌ {A = ℕ} 0 0
Behind (Some p) (Some s) = drop (p.entry + 1) s.unit.entries ≡ s.behind
Behind _ _ = ⊥

dropped_next : (n : ℕ) (xs es : List Entry) (e : Entry) → drop n xs ≡ e ∷ es → drop (n + 1) xs ≡ es
dropped_next zero [] es e is = absurd (let no : [] ≡ e ∷ es = is in cc)
dropped_next (suc n) [] es e is = absurd (let no : [] ≡ e ∷ es = is in cc)
dropped_next zero (x ∷ xs) es e is = let both : x ∷ xs ≡ e ∷ es = is in cc
dropped_next (suc n) (x ∷ xs) es e is = let more : suc n + 1 ≡ suc (n + 1) = omega arith in rw more (dropped_next n xs es e is)

behind_by : (m n : ℕ) (u : UnitTree) (e : Entry) (es : List Entry) (inner more : Option EntryPlace) (found rest : Option Standing) (b : Bool) → drop (n + 1) u.entries ≡ es
    → Behind (option_or inner more) (option_or found rest) → Behind (option_or (option_or (if b then Some (place m n) else None) inner) more) (option_or (if b then Some (stands u e es) else found) rest)
behind_by m n u e es inner more found rest true tie h = tie
behind_by m n u e es inner more found rest false tie h = h

behind_in : (at m n : ℕ) (u : UnitTree) (es : List Entry) (more : Option EntryPlace) (rest : Option Standing) → drop n u.entries ≡ es → Behind more rest
    → Behind (option_or (place_in m n es at) more) (option_or (find (stands_at at) (standing_in u es)) rest)
behind_in at m n u [] more rest tie h = h
behind_in at m n u (e ∷ es) more rest tie h =
    let next : drop (n + 1) u.entries ≡ es = dropped_next n u.entries es e tie in
    behind_by m n u e es (place_in m (n + 1) es at) more (find (stands_at at) (standing_in u es)) rest (e.at == at) next (behind_in at m (n + 1) u es more rest next h)

behind_unit : (at m : ℕ) (u : UnitAnswer) (more : Option EntryPlace) (rest : Option Standing) → Behind more rest
    → Behind (option_or (place_in m 0 (entries_in u) at) more) (option_or (find (stands_at at) (of_unit u)) rest)
behind_unit at m (Tree u) more rest h = behind_in at m 0 u u.entries more rest refl h
behind_unit at m (Unreadable section o) more rest h = h

behind_among : (at m : ℕ) (us : List UnitAnswer) → Behind (place_among m us at) (find (stands_at at) (standing us))
behind_among at m [] = refl
behind_among at m (u ∷ us) =
    subst (λ (o : Option Standing). Behind (place_among m (u ∷ us) at) o) (sym (find-append (stands_at at) (of_unit u) (standing us)))
    (behind_unit at m u (place_among (m + 1) us at) (find (stands_at at) (standing us)) (behind_among at (m + 1) us))

behind_found : (units : List UnitAnswer) (at : ℕ) (p : EntryPlace) (s : Standing) → place_among 0 units at ≡ Some p → standing_at units at ≡ Some s → drop (p.entry + 1) s.unit.entries ≡ s.behind
unfolding standing_at
behind_found units at p s placed found =
    subst (λ (o : Option Standing). Behind (Some p) o) found (subst (λ (o : Option EntryPlace). Behind o (find (stands_at at) (standing units))) placed (behind_among at 0 units))

-- ---- what stands in it

pub range_found : (units : List UnitAnswer) (at : ℕ) (p : EntryPlace) (s : Standing) (r : EntryRange) → Some p ≡ place_among 0 units at → Some s ≡ standing_at units at
    → r.first ≡ p.entry + 1 → r.count ≡ length (entries_inside s) → AreInside s r
range_found units at p s r placed found first count =
    ap (λ (n : ℕ). take n (drop r.first s.unit.entries)) count ∙ ap (λ (n : ℕ). take (length (entries_inside s)) (drop n s.unit.entries)) first
    ∙ ap (λ (xs : List Entry). take (length (entries_inside s)) xs) (behind_found units at p s (sym placed) (sym found))
    ∙ ap (λ (n : ℕ). take n s.behind) (length-prefix_len (λ e. nat_lt s.entry.depth e.depth) s.behind)
