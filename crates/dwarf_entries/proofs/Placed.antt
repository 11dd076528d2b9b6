-- The entry at an offset is the one at the place of its offset.
use Rattle.std.proofs.Common.{◌≡◌, ℕ, zero, suc, ◌+◌, ◌<◌, ◌≤◌, Bool, true, false, List, [], ◌∷◌, ◌++◌, length, drop, get_or, Option, Some, None, refl, sym, ap, ◌∙◌, arith}
use Rattle.std.specs.Prelude.{find, option_and_then, ◌==◌, if◌then◌else◌}
use Rattle.std.specs.Option.{option_or}
use Rattle.dwarf_info.specs.declared.entry.Entry.{Entry}
use Rattle.dwarf_info.specs.declared.entry.Unit.{Unit as UnitTree}
use Rattle.dwarf_info.specs.declared.entry.UnitAnswer.{UnitAnswer}
use Rattle.dwarf_info.specs.declared.entry.UnitAnswer.TheVariants.{Tree, Unreadable}
use Rattle.dwarf_info.specs.declared.places.EntryPlace.{EntryPlace}
use Rattle.dwarf_info.specs.Units.{entries_in}
use Rattle.dwarf_info.specs.calls.EntryPlaces.{place, place_in, place_among}
use Rattle.dwarf_entries.specs.Standing.{Standing, stands, standing_in, of_unit, standing, stands_at, standing_at}
use Rattle.dwarf_entries.specs.inner.Numbered.{numbered, numbered_of, there}
use Rattle.dwarf_entries.proofs.Found.{found_first, found_later}

-- ---- by its number

pub numbered_at : (u : UnitTree) (es : List Entry) (k : ℕ) (e : Entry) → k < length es → e ≡ get_or es k e → numbered u es k ≡ Some (stands u e (drop (k + 1) es))
numbered_at u [] k e lt is = absurd (omega arith)
numbered_at u (x ∷ xs) zero e lt is = ap (λ (y : Entry). Some (stands u y xs)) (sym is)
numbered_at u (x ∷ xs) (suc k) e lt is =
    let less : k < length xs = omega arith in
    let more : suc k + 1 ≡ suc (k + 1) = omega arith in
    rw more (numbered_at u xs k e less is)

pub numbered_past : (u : UnitTree) (es : List Entry) (k : ℕ) → length es ≤ k → numbered u es k ≡ None
numbered_past u [] k h = refl
numbered_past u (x ∷ xs) zero h = absurd (omega arith)
numbered_past u (x ∷ xs) (suc k) h = let less : length xs ≤ k = omega arith in numbered_past u xs k less

pub there_at : (us : List UnitAnswer) (j k : ℕ) (u : UnitAnswer) → j < length us → u ≡ get_or us j u → there us j k ≡ numbered_of u k
there_at [] j k u lt is = absurd (omega arith)
there_at (x ∷ xs) zero k u lt is = ap (λ (y : UnitAnswer). numbered_of y k) (sym is)
there_at (x ∷ xs) (suc j) k u lt is = let less : j < length xs = omega arith in there_at xs j k u less is

pub there_past : (us : List UnitAnswer) (j k : ℕ) → length us ≤ j → there us j k ≡ None
there_past [] j k h = refl
there_past (x ∷ xs) zero k h = absurd (omega arith)
there_past (x ∷ xs) (suc j) k h = let less : length xs ≤ j = omega arith in there_past xs j k less

-- ---- by its offset

entry_by : (at m n : ℕ) (u : UnitTree) (x : Entry) (xs : List Entry) (rest : Option Standing) (more : Option EntryPlace) (h : EntryPlace → Option Standing) (t : Bool)
    → h (place m n) ≡ Some (stands u x xs)
    → option_or (find (stands_at at) (standing_in u xs)) rest ≡ option_and_then h (option_or (place_in m (n + 1) xs at) more)
    → option_or (if t then Some (stands u x xs) else find (stands_at at) (standing_in u xs)) rest
    ≡ option_and_then h (option_or (option_or (if t then Some (place m n) else None) (place_in m (n + 1) xs at)) more)
entry_by at m n u x xs rest more h true here later = sym here
entry_by at m n u x xs rest more h false here later = later

entries_found : (at m n : ℕ) (u : UnitTree) (es : List Entry) (rest : Option Standing) (more : Option EntryPlace) (h : EntryPlace → Option Standing)
    → ((k : ℕ) → h (place m (n + k)) ≡ numbered u es k) → rest ≡ option_and_then h more
    → option_or (find (stands_at at) (standing_in u es)) rest ≡ option_and_then h (option_or (place_in m n es at) more)
entries_found at m n u [] rest more h each base = base
entries_found at m n u (x ∷ xs) rest more h each base =
    let same : n + 0 ≡ n = omega arith in
    entry_by at m n u x xs rest more h (x.at == at)
    (ap (λ (y : ℕ). h (place m y)) (sym same) ∙ each 0)
    (entries_found at m (n + 1) u xs rest more h
    (λ k. let turned : (n + 1) + k ≡ n + suc k = omega arith in ap (λ (y : ℕ). h (place m y)) turned ∙ each (suc k)) base)

joined_by : (f : Standing → Bool) (xs ys : List Standing) (o : Option Standing) → find f xs ≡ o → find f (xs ++ ys) ≡ option_or o (find f ys)
joined_by f xs ys (Some x) is = found_first f xs ys x is
joined_by f xs ys None is = found_later f xs ys is

unit_found : (at m : ℕ) (u : UnitAnswer) (rest : Option Standing) (more : Option EntryPlace) (h : EntryPlace → Option Standing)
    → ((k : ℕ) → h (place m k) ≡ numbered_of u k) → rest ≡ option_and_then h more
    → option_or (find (stands_at at) (of_unit u)) rest ≡ option_and_then h (option_or (place_in m 0 (entries_in u) at) more)
unit_found at m (Tree u) rest more h each base =
    entries_found at m 0 u u.entries rest more h (λ k. let same : 0 + k ≡ k = omega arith in ap (λ (y : ℕ). h (place m y)) same ∙ each k) base
unit_found at m (Unreadable section o) rest more h each base = base

units_found : (at m : ℕ) (us : List UnitAnswer) (h : EntryPlace → Option Standing) → ((j k : ℕ) → h (place (m + j) k) ≡ there us j k)
    → find (stands_at at) (standing us) ≡ option_and_then h (place_among m us at)
units_found at m [] h each = refl
units_found at m (u ∷ us) h each =
    let same : m + 0 ≡ m = omega arith in
    joined_by (stands_at at) (of_unit u) (standing us) (find (stands_at at) (of_unit u)) refl
    ∙ unit_found at m u (find (stands_at at) (standing us)) (place_among (m + 1) us at) h
    (λ k. ap (λ (y : ℕ). h (place y k)) (sym same) ∙ each 0 k)
    (units_found at (m + 1) us h (λ j k. let turned : (m + 1) + j ≡ m + suc j = omega arith in ap (λ (y : ℕ). h (place y k)) turned ∙ each (suc j) k))

pub found_there : (units : List UnitAnswer) (at : ℕ) → standing_at units at ≡ option_and_then (λ p. there units p.unit p.entry) (place_among 0 units at)
unfolding standing_at
found_there units at =
    units_found at 0 units (λ p. there units p.unit p.entry) (λ j k. let same : 0 + j ≡ j = omega arith in ap (λ (y : ℕ). there units y k) same)
