-- Entries whose offsets ascend are those at their offsets.
use Rattle.std.proofs.Common.{◌≡◌, ℕ, ◌+◌, ◌≤◌, Bool, true, false, cond, List, [], ◌∷◌, ◌++◌, Option, Some, None, refl, sym, ap, subst, ◌∙◌, arith, ltb-false, eq-eqb, ne_eqb}
use Rattle.std.specs.Prelude.{find, nat_lt, option_and_then, if◌then◌else◌}
use Rattle.dwarf_info.specs.declared.entry.Entry.{Entry}
use Rattle.dwarf_info.specs.declared.entry.Unit.{Unit as UnitTree}
use Rattle.dwarf_info.specs.declared.entry.UnitAnswer.{UnitAnswer}
use Rattle.dwarf_info.specs.declared.entry.UnitAnswer.TheVariants.{Tree, Unreadable}
use Rattle.dwarf_entries.specs.Standing.{Standing, stands, standing_in, standing, stands_at, standing_at}
use Rattle.var_eval.specs.calls.Offsets.{rises_in, rises, IsAt, AreAt, AllAreAt}

-- what is found from an offset on is found among those that are left
abbrev Left : List Standing → List Standing → ℕ → Type 0
Left all xs n = (at : ℕ) → n ≤ at → find (stands_at at) all ≡ find (stands_at at) xs

found_here : (x : Standing) (xs : List Standing) → find (stands_at x.entry.at) (x ∷ xs) ≡ Some x
found_here x xs = ap (λ (b : Bool). cond b (Some x) (find (stands_at x.entry.at) xs)) (eq-eqb x.entry.at x.entry.at refl)

passed : (all : List Standing) (x : Standing) (xs : List Standing) (n : ℕ) → n ≤ x.entry.at → Left all (x ∷ xs) n → Left all xs (x.entry.at + 1)
passed all x xs n low left at high =
    let more : n ≤ at = omega (arith, low, high) in
    left at more ∙ ap (λ (b : Bool). cond b (Some x) (find (stands_at at) xs)) (ne_eqb x.entry.at at (λ same. omega (arith, same, high)))

one_at : (units : List UnitAnswer) (u : UnitTree) (e : Entry) (es : List Entry) (rest : List Standing) (n : ℕ) → n ≤ e.at → Left (standing units) (stands u e es ∷ rest) n → IsAt units u e
unfolding standing_at
one_at units u e es rest n low left = (es, left e.at low ∙ found_here (stands u e es) rest)

entry_at : (units : List UnitAnswer) (u : UnitTree) (e : Entry) (es : List Entry) (rest : List Standing) (n m : ℕ) (b : Bool) → nat_lt e.at n ≡ b
    → (Left (standing units) (standing_in u es ++ rest) (e.at + 1) → rises_in (e.at + 1) es ≡ Some m → AreAt units u es × Left (standing units) rest m)
    → Left (standing units) (stands u e es ∷ (standing_in u es ++ rest)) n → (if b then None else rises_in (e.at + 1) es) ≡ Some m → AreAt units u (e ∷ es) × Left (standing units) rest m
entry_at units u e es rest n m true tie more left is = absurd cc
entry_at units u e es rest n m false tie more left is =
    let low : n ≤ e.at = ltb-false e.at n tie in
    let behind = more (passed (standing units) (stands u e es) (standing_in u es ++ rest) n low left) is in
    ((one_at units u e es (standing_in u es ++ rest) n low left, behind.0), behind.1)

entries_at : (units : List UnitAnswer) (u : UnitTree) (es : List Entry) (rest : List Standing) (n m : ℕ) → Left (standing units) (standing_in u es ++ rest) n → rises_in n es ≡ Some m
    → AreAt units u es × Left (standing units) rest m
entries_at units u [] rest n m left is =
    let same : n ≡ m = cc in
    (tt, subst (λ (k : ℕ). Left (standing units) rest k) same left)
entries_at units u (e ∷ es) rest n m left is = entry_at units u e es rest n m (nat_lt e.at n) refl (entries_at units u es rest (e.at + 1) m) left is

unit_at : (units : List UnitAnswer) (u : UnitTree) (us : List UnitAnswer) (n m : ℕ) (o : Option ℕ) → rises_in n u.entries ≡ o → Left (standing units) (standing_in u u.entries ++ standing us) n
    → ((k : ℕ) → Left (standing units) (standing us) k → rises k us ≡ Some m → AllAreAt units us) → option_and_then (λ k. rises k us) o ≡ Some m → AllAreAt units (Tree u ∷ us)
unit_at units u us n m None from left more is = absurd cc
unit_at units u us n m (Some k) from left more is = let here = entries_at units u u.entries (standing us) n k left from in (here.0, more k here.1 is)

units_at : (units us : List UnitAnswer) (n m : ℕ) → Left (standing units) (standing us) n → rises n us ≡ Some m → AllAreAt units us
units_at units [] n m left is = tt
units_at units (Tree u ∷ us) n m left is = unit_at units u us n m (rises_in n u.entries) refl left (λ k. units_at units us k m) is
units_at units (Unreadable section at ∷ us) n m left is = (tt, units_at units us n m left is)

pub all_at : (units : List UnitAnswer) (o : Option ℕ) (m : ℕ) → o ≡ rises 0 units → o ≡ Some m → AllAreAt units units
all_at units o m is some = units_at units units 0 m (λ at low. refl) (sym is ∙ some)
