-- Subprograms by the places where they stand.
use Rattle.std.proofs.Common.{◌≡◌, ℕ, zero, suc, ◌+◌, ◌≤◌, Bool, true, false, List, [], ◌∷◌, ◌++◌, length, map, drop, Option, Some, None, refl, sym, ap, ◌∙◌, arith, add-one}
use Rattle.std.specs.Prelude.{filter, slice_get, option_and_then, if◌then◌else◌}
use Rattle.std.proofs.lemmas.List.{map-append}
use Rattle.dwarf_info.specs.declared.entry.Entry.{Entry}
use Rattle.dwarf_info.specs.declared.entry.Unit.{Unit as UnitTree}
use Rattle.dwarf_info.specs.declared.entry.UnitAnswer.{UnitAnswer}
use Rattle.dwarf_info.specs.declared.entry.UnitAnswer.TheVariants.{Tree, Unreadable}
use Rattle.dwarf_entries.specs.Standing.{Standing, stands, standing_in}
use Rattle.dwarf_scopes.specs.declared.table.EntryPlace.{EntryPlace}
use Rattle.dwarf_scopes.specs.inner.Picks.{is_kept, kept_of, kept}
use Rattle.dwarf_scopes.specs.calls.Tabled.{first_standing, placed_in, placed, AreAt, places_in, places_of, places_from}

-- ---- what is left of a list

past_end : (u : UnitTree) (es : List Entry) (n : ℕ) → length es ≤ n → first_standing u (drop n es) ≡ None
past_end u [] zero le = refl
past_end u [] (suc n) le = refl
past_end u (e ∷ es) zero le = absurd (omega (arith, le))
past_end u (e ∷ es) (suc n) le = let less : length es ≤ n = omega (arith, le) in past_end u es n less

pub none_past : (u : UnitTree) (n : ℕ) → length u.entries ≤ n → None ≡ first_standing u (drop n u.entries)
none_past u n le = sym (past_end u u.entries n le)

there : {A : Type 0} (xs : List A) (n : ℕ) (x : A) (rest : List A) → x ∷ rest ≡ drop n xs → slice_get xs n ≡ Some x
there [] zero x rest e = absurd cc
there [] (suc n) x rest e = absurd cc
there (y ∷ ys) zero x rest e = cc
there (y ∷ ys) (suc n) x rest e = there ys n x rest e

behind : {A : Type 0} (xs : List A) (n : ℕ) (x : A) (rest : List A) → x ∷ rest ≡ drop n xs → rest ≡ drop (suc n) xs
behind [] zero x rest e = absurd cc
behind [] (suc n) x rest e = absurd cc
behind (y ∷ ys) zero x rest e = cc
behind (y ∷ ys) (suc n) x rest e = behind ys n x rest e

next : {A : Type 0} (xs : List A) (n : ℕ) (x : A) (rest : List A) → x ∷ rest ≡ drop n xs → rest ≡ drop (n + 1) xs
next xs n x rest e = behind xs n x rest e ∙ ap (λ (m : ℕ). drop m xs) (sym (add-one n))

-- ---- the places are those of the subprograms

at_place : (units : List UnitAnswer) (n number : ℕ) (u : UnitTree) (e : Entry) (es : List Entry) → slice_get units n ≡ Some (Tree u) → e ∷ es ≡ drop number u.entries
    → placed units (record { unit = n; entry = number }) ≡ Some (stands u e es)
at_place units n number u e es is from = ap (λ (o : Option UnitAnswer). placed_in o number) is ∙ ap (first_standing u) (sym from)

one_more : (units : List UnitAnswer) (p : EntryPlace) (places : List EntryPlace) (x : Standing) (xs : List Standing) (b : Bool) → placed units p ≡ Some x → AreAt units places xs
    → AreAt units (if b then (p ∷ places) else places) (if b then (x ∷ xs) else xs)
one_more units p places x xs true is rest = ap (λ (o : Option Standing). o ∷ map (placed units) places) is ∙ ap (λ (os : List (Option Standing)). Some x ∷ os) rest
one_more units p places x xs false is rest = rest

in_unit : (units : List UnitAnswer) (n : ℕ) (u : UnitTree) → slice_get units n ≡ Some (Tree u) → (es : List Entry) (number : ℕ) → es ≡ drop number u.entries
    → AreAt units (places_in u n number es) (filter is_kept (standing_in u es))
in_unit units n u is [] number from = refl
in_unit units n u is (e ∷ es) number from =
    one_more units (record { unit = n; entry = number }) (places_in u n (number + 1) es) (stands u e es) (filter is_kept (standing_in u es)) (is_kept (stands u e es))
    (at_place units n number u e es is from) (in_unit units n u is es (number + 1) (next u.entries number e es from))

joined : (units : List UnitAnswer) (ps qs : List EntryPlace) (xs ys : List Standing) → AreAt units ps xs → AreAt units qs ys → AreAt units (ps ++ qs) (xs ++ ys)
joined units ps qs xs ys e f =
    map-append (placed units) ps qs
    ∙ ap (λ (os : List (Option Standing)). os ++ map (placed units) qs) e
    ∙ ap (λ (os : List (Option Standing)). map Some xs ++ os) f
    ∙ sym (map-append Some xs ys)

of_answer : (units : List UnitAnswer) (n : ℕ) (u : UnitAnswer) → slice_get units n ≡ Some u → AreAt units (places_of n u) (kept_of u)
of_answer units n (Tree u) is = in_unit units n u is u.entries 0 refl
of_answer units n (Unreadable section at) is = refl

in_units : (units : List UnitAnswer) (us : List UnitAnswer) (n : ℕ) → us ≡ drop n units → AreAt units (places_from n us) (kept us)
in_units units [] n from = refl
in_units units (u ∷ us) n from =
    joined units (places_of n u) (places_from (n + 1) us) (kept_of u) (kept us) (of_answer units n u (there units n u us from)) (in_units units us (n + 1) (next units n u us from))

pub all_at : (units : List UnitAnswer) → AreAt units (places_from 0 units) (kept units)
all_at units = in_units units units 0 refl

-- ---- the one of a number

heads : {A : Type 0} (x y : A) (xs ys : List A) → x ∷ xs ≡ y ∷ ys → x ≡ y
heads x y xs ys e = cc

tails : {A : Type 0} (x y : A) (xs ys : List A) → x ∷ xs ≡ y ∷ ys → xs ≡ ys
tails x y xs ys e = cc

got : {A B : Type 0} (f : A → Option B) (ps : List A) (xs : List B) (i : ℕ) → map f ps ≡ map Some xs → option_and_then f (slice_get ps i) ≡ slice_get xs i
got f [] [] i e = refl
got f [] (x ∷ xs) i e = absurd cc
got f (p ∷ ps) [] i e = absurd cc
got f (p ∷ ps) (x ∷ xs) zero e = heads (f p) (Some x) (map f ps) (map Some xs) e
got f (p ∷ ps) (x ∷ xs) (suc i) e = got f ps xs i (tails (f p) (Some x) (map f ps) (map Some xs) e)

pub got_kept : (units : List UnitAnswer) (places : List EntryPlace) (i : ℕ) → places ≡ places_from 0 units → option_and_then (placed units) (slice_get places i) ≡ slice_get (kept units) i
got_kept units places i is = ap (λ (ps : List EntryPlace). option_and_then (placed units) (slice_get ps i)) is ∙ got (placed units) (places_from 0 units) (kept units) i (all_at units)

pub got_number : (units : List UnitAnswer) (places : List EntryPlace) (o : Option ℕ) → places ≡ places_from 0 units
    → option_and_then (placed units) (option_and_then (slice_get places) o) ≡ option_and_then (slice_get (kept units)) o
got_number units places (Some i) is = got_kept units places i is
got_number units places None is = refl
