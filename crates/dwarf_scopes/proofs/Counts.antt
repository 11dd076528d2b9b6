-- Counts of the entries in entries.
use Rattle.std.proofs.Common.{◌≡◌, ℕ, zero, suc, ◌+◌, ◌<◌, ◌≤◌, Bool, true, false, cond, List, [], ◌∷◌, ◌++◌, length, take, drop, get_or, append_assoc, refl, sym, ap, ◌∙◌, arith, add-one, drop-cons}
use Rattle.std.specs.Prelude.{filter, flat_map, nat_lt, nat_eq, if◌then◌else◌}
use Rattle.std.proofs.lemmas.Bool.{ltb-true, eqb-true}
use Rattle.std.proofs.lemmas.Grind.{flat_map-append}
use Rattle.std.proofs.lemmas.List.{length-drop, drop-drop}
use Rattle.std.proofs.lemmas.List.Elements.{filter-append}
use Rattle.std.proofs.lemmas.List.Sums.{prefix_len-le-length}
use Rattle.dwarf_info.specs.declared.entry.Entry.{Entry}
use Rattle.dwarf_info.specs.declared.entry.Unit.{Unit as UnitTree}
use Rattle.dwarf_info.specs.Sections.{SectionBytes5}
use Rattle.dwarf_entries.specs.Standing.{Standing, stands, standing_in, entries_inside, inside}
use Rattle.dwarf_scopes.specs.Scopes.{is_scope_at, scopes_in, variables_of}
use Rattle.dwarf_scopes.specs.inner.Picks.{is_variable_of}
use Rattle.dwarf_scopes.specs.inner.Insides.{deeper, insides}
use Rattle.dwarf_scopes.proofs.Filters.{variables_are}
use Rattle.pm_text.proofs.Lists.{take_first}

pub insides_drop : (n : ℕ) (es : List Entry) → insides (drop n es) ≡ drop n (insides es)
insides_drop zero es = refl
insides_drop (suc n) [] = refl
insides_drop (suc n) (e ∷ es) = insides_drop n es

pub insides_length : (es : List Entry) → length (insides es) ≡ length es
insides_length [] = refl
insides_length (e ∷ es) = ap suc (insides_length es)

pub count_at : (es : List Entry) (i : ℕ) (other : Entry) (k : ℕ) → i < length es → get_or (insides es) i k ≡ deeper (get_or es i other).depth (drop (i + 1) es)
count_at [] i other k lt = absurd (omega arith)
count_at (e ∷ es) zero other k lt = refl
count_at (e ∷ es) (suc i) other k lt =
    let less : i < length es = omega arith in
    let more : suc i + 1 ≡ suc (i + 1) = omega arith in
    rw more (count_at es i other k less)

-- ---- passing over what stands in an entry

deeper_yet : (d n m : ℕ) → d < n → nat_lt n m ≡ true → nat_lt d m ≡ true
deeper_yet d n m lt e = grind (arith, lt, e)

drop_one : (k : ℕ) (f : Entry) (fs : List Entry) → drop (1 + k) (f ∷ fs) ≡ drop k fs
drop_one k f fs = let e : 1 + k ≡ suc k = omega arith in rw e refl

jump_by : (d n m : ℕ) (fs : List Entry) (f : Entry) (b : Bool) → d < n → nat_lt n f.depth ≡ b → deeper d fs ≡ deeper n fs + deeper d (drop (deeper n fs) fs)
    → deeper d (f ∷ fs) ≡ cond b (1 + deeper n fs) 0 + deeper d (drop (cond b (1 + deeper n fs) 0) (f ∷ fs))
jump_by d n m fs f true lt e h =
    let this : nat_lt d f.depth ≡ true = deeper_yet d n f.depth lt e in
    let there : deeper d (drop (1 + deeper n fs) (f ∷ fs)) ≡ deeper d (drop (deeper n fs) fs) = ap (deeper d) (drop_one (deeper n fs) f fs) in
    rw this (omega (arith, h, there))
jump_by d n m fs f false lt e h = let same : 0 + deeper d (f ∷ fs) ≡ deeper d (f ∷ fs) = omega arith in sym same

pub jump : (d n : ℕ) (es : List Entry) → d < n → deeper d es ≡ deeper n es + deeper d (drop (deeper n es) es)
jump d n [] lt = refl
jump d n (f ∷ fs) lt = jump_by d n 0 fs f (nat_lt n f.depth) lt refl (jump d n fs lt)

-- ---- steps over entries by their counts

pub fits : (es : List Entry) (counts : List ℕ) (i : ℕ) (other : Entry) (k count : ℕ) → i < length es → counts ≡ insides es → count ≡ get_or counts i k → i + count + 1 ≤ length es
fits es counts i other k count lt all is =
    let counted : count ≡ deeper (get_or es i other).depth (drop (i + 1) es) = is ∙ ap (λ (cs : List ℕ). get_or cs i k) all ∙ count_at es i other k lt in
    let most : deeper (get_or es i other).depth (drop (i + 1) es) ≤ length (drop (i + 1) es) = prefix_len-le-length _ (drop (i + 1) es) in
    omega (arith, lt, counted, most, length-drop (i + 1) es)

pub first_is : (es : List Entry) (i : ℕ) (e other : Entry) → i < length es → e ≡ get_or es i other → drop i es ≡ e ∷ drop (i + 1) es
first_is es i e other lt is = rw (drop-cons es i other lt, ← is, add-one) refl

-- one more that is deeper, with all in it
pub steps : (d : ℕ) (es : List Entry) (counts : List ℕ) (i : ℕ) (e other : Entry) (k count : ℕ) → i < length es → e ≡ get_or es i other → counts ≡ insides es → count ≡ get_or counts i k → d < e.depth
    → deeper d (drop i es) ≡ (count + 1) + deeper d (drop (i + (count + 1)) es)
steps d es counts i e other k count lt is all counted deep =
    let n : count ≡ deeper e.depth (drop (i + 1) es) = counted ∙ ap (λ (cs : List ℕ). get_or cs i k) all ∙ count_at es i other k lt ∙ ap (λ (f : Entry). deeper f.depth (drop (i + 1) es)) (sym is) in
    let test : nat_lt d e.depth ≡ true = grind (arith, deep) in
    let one : deeper d (drop i es) ≡ 1 + deeper d (drop (i + 1) es) = rw (first_is es i e other lt is, test) refl in
    let more : deeper d (drop (i + 1) es) ≡ count + deeper d (drop count (drop (i + 1) es)) = jump d e.depth (drop (i + 1) es) deep ∙ ap (λ (c : ℕ). c + deeper d (drop c (drop (i + 1) es))) (sym n) in
    let place : drop count (drop (i + 1) es) ≡ drop (i + (count + 1)) es = drop-drop count (i + 1) es ∙ ap (λ (m : ℕ). drop m es) (let sum : i + 1 + count ≡ i + (count + 1) = omega arith in sum) in
    let there : deeper d (drop count (drop (i + 1) es)) ≡ deeper d (drop (i + (count + 1)) es) = ap (deeper d) place in
    omega (arith, one, more, there)

-- ---- children

skipped_by : (d n : ℕ) (u : UnitTree) (f : Entry) (fs : List Entry) (b : Bool) → d < n → nat_lt n f.depth ≡ b
    → filter (is_variable_of d) (standing_in u fs) ≡ filter (is_variable_of d) (standing_in u (drop (deeper n fs) fs))
    → filter (is_variable_of d) (standing_in u (f ∷ fs)) ≡ filter (is_variable_of d) (standing_in u (drop (deeper n (f ∷ fs)) (f ∷ fs)))
skipped_by d n u f fs true lt e h =
    let other : nat_eq f.depth (suc d) ≡ false = grind (arith, lt, e) in
    let one : filter (is_variable_of d) (standing_in u (f ∷ fs)) ≡ filter (is_variable_of d) (standing_in u fs) = rw other refl in
    let count : deeper n (f ∷ fs) ≡ 1 + deeper n fs = rw e refl in
    let place : drop (deeper n (f ∷ fs)) (f ∷ fs) ≡ drop (deeper n fs) fs = ap (λ (c : ℕ). drop c (f ∷ fs)) count ∙ drop_one (deeper n fs) f fs in
    one ∙ h ∙ ap (λ (es : List Entry). filter (is_variable_of d) (standing_in u es)) (sym place)
skipped_by d n u f fs false lt e h =
    let count : deeper n (f ∷ fs) ≡ 0 = rw e refl in
    ap (λ (c : ℕ). filter (is_variable_of d) (standing_in u (drop c (f ∷ fs)))) (sym count)

-- No child stands in a child.
skipped : (d n : ℕ) (u : UnitTree) (es : List Entry) → d < n → filter (is_variable_of d) (standing_in u es) ≡ filter (is_variable_of d) (standing_in u (drop (deeper n es) es))
skipped d n u [] lt = refl
skipped d n u (f ∷ fs) lt = skipped_by d n u f fs (nat_lt n f.depth) lt refl (skipped d n u fs lt)

pub step_fits : (i count step n : ℕ) (b : Bool) → step ≡ (if b then count + 1 else 1) → i + count + 1 ≤ n → i + step ≤ n
step_fits i count step n true is most = omega (arith, is, most)
step_fits i count step n false is most = omega (arith, is, most)

passed_by : (d : ℕ) (u : UnitTree) (es : List Entry) (i count step : ℕ) (e : Entry) (b : Bool) → nat_eq e.depth (suc d) ≡ b → count ≡ deeper e.depth (drop (i + 1) es) → step ≡ (if b then count + 1 else 1)
    → filter (is_variable_of d) (standing_in u (drop (i + 1) es)) ≡ filter (is_variable_of d) (standing_in u (drop (i + step) es))
passed_by d u es i count step e true test is by =
    let deep : d < e.depth = let same : e.depth ≡ suc d = eqb-true e.depth (suc d) test in omega (arith, same) in
    let place : drop (deeper e.depth (drop (i + 1) es)) (drop (i + 1) es) ≡ drop (i + step) es =
    ap (λ (c : ℕ). drop c (drop (i + 1) es)) (sym is) ∙ drop-drop count (i + 1) es ∙ ap (λ (m : ℕ). drop m es) (let sum : i + 1 + count ≡ i + step = omega (arith, by) in sum) in
    skipped d e.depth u (drop (i + 1) es) deep ∙ ap (λ (fs : List Entry). filter (is_variable_of d) (standing_in u fs)) place
passed_by d u es i count step e false test is by = ap (λ (n : ℕ). filter (is_variable_of d) (standing_in u (drop (i + n) es))) (sym by)

pub child_step : (d : ℕ) (u : UnitTree) (es : List Entry) (counts : List ℕ) (i : ℕ) (e other : Entry) (k count step : ℕ) (behind : List Entry) (total out more : List Standing)
    → i < length es → e ≡ get_or es i other → counts ≡ insides es → count ≡ get_or counts i k → step ≡ (if nat_eq e.depth (suc d) then count + 1 else 1) → behind ≡ drop (i + 1) es
    → more ≡ out ++ filter (is_variable_of d) (stands u e behind ∷ []) → total ≡ out ++ filter (is_variable_of d) (standing_in u (drop i es))
    → total ≡ more ++ filter (is_variable_of d) (standing_in u (drop (i + step) es))
child_step d u es counts i e other k count step behind total out more lt is all counted by rest one so_far =
    let p = is_variable_of d in
    let n : count ≡ deeper e.depth (drop (i + 1) es) = counted ∙ ap (λ (cs : List ℕ). get_or cs i k) all ∙ count_at es i other k lt ∙ ap (λ (f : Entry). deeper f.depth (drop (i + 1) es)) (sym is) in
    let front : filter p (standing_in u (drop i es)) ≡ filter p (stands u e behind ∷ []) ++ filter p (standing_in u (drop (i + 1) es)) =
    ap (λ (fs : List Entry). filter p (standing_in u fs)) (first_is es i e other lt is) ∙ filter-append p (stands u e (drop (i + 1) es) ∷ []) (standing_in u (drop (i + 1) es))
    ∙ ap (λ (fs : List Entry). filter p (stands u e fs ∷ []) ++ filter p (standing_in u (drop (i + 1) es))) (sym rest) in
    so_far ∙ ap (λ (xs : List Standing). out ++ xs) front ∙ sym (append_assoc out (filter p (stands u e behind ∷ [])) (filter p (standing_in u (drop (i + 1) es))))
    ∙ ap (λ (xs : List Standing). xs ++ filter p (standing_in u (drop (i + 1) es))) (sym one)
    ∙ ap (λ (xs : List Standing). more ++ xs) (passed_by d u es i count step e (nat_eq e.depth (suc d)) refl n by)

-- ---- the entries in one of them

deeper_taken_by : (d n : ℕ) (g : Entry) (gs : List Entry) (b : Bool) → d < n → nat_lt d g.depth ≡ b → deeper n (take (deeper d gs) gs) ≡ deeper n gs → deeper n (take (deeper d (g ∷ gs)) (g ∷ gs)) ≡ deeper n (g ∷ gs)
deeper_taken_by d n g gs true lt e h =
    let count : deeper d (g ∷ gs) ≡ 1 + deeper d gs = rw e refl in
    let front : take (deeper d (g ∷ gs)) (g ∷ gs) ≡ g ∷ take (deeper d gs) gs = ap (λ (c : ℕ). take c (g ∷ gs)) count ∙ take_first (deeper d gs) g gs in
    ap (deeper n) front ∙ ap (λ (c : ℕ). cond (nat_lt n g.depth) (1 + c) 0) h
deeper_taken_by d n g gs false lt e h =
    let count : deeper d (g ∷ gs) ≡ 0 = rw e refl in
    let none : nat_lt n g.depth ≡ false = grind (arith, lt, e) in
    ap (λ (c : ℕ). deeper n (take c (g ∷ gs))) count ∙ rw none refl

deeper_taken : (d n : ℕ) (es : List Entry) → d < n → deeper n (take (deeper d es) es) ≡ deeper n es
deeper_taken d n [] lt = refl
deeper_taken d n (g ∷ gs) lt = deeper_taken_by d n g gs (nat_lt d g.depth) lt refl (deeper_taken d n gs lt)

insides_taken_by : (d : ℕ) (f : Entry) (fs : List Entry) (b : Bool) → nat_lt d f.depth ≡ b → take (deeper d fs) (insides fs) ≡ insides (take (deeper d fs) fs)
    → take (deeper d (f ∷ fs)) (insides (f ∷ fs)) ≡ insides (take (deeper d (f ∷ fs)) (f ∷ fs))
insides_taken_by d f fs true e h =
    let count : deeper d (f ∷ fs) ≡ 1 + deeper d fs = rw e refl in
    let lt : d < f.depth = ltb-true d f.depth e in
    let front : take (deeper d (f ∷ fs)) (f ∷ fs) ≡ f ∷ take (deeper d fs) fs = ap (λ (c : ℕ). take c (f ∷ fs)) count ∙ take_first (deeper d fs) f fs in
    let counts : take (deeper d (f ∷ fs)) (insides (f ∷ fs)) ≡ deeper f.depth fs ∷ take (deeper d fs) (insides fs) = ap (λ (c : ℕ). take c (insides (f ∷ fs))) count ∙ take_first (deeper d fs) (deeper f.depth fs) (insides fs) in
    counts ∙ ap (λ (c : ℕ). c ∷ take (deeper d fs) (insides fs)) (sym (deeper_taken d f.depth fs lt)) ∙ ap (λ (cs : List ℕ). deeper f.depth (take (deeper d fs) fs) ∷ cs) h ∙ ap insides (sym front)
insides_taken_by d f fs false e h =
    let count : deeper d (f ∷ fs) ≡ 0 = rw e refl in
    ap (λ (c : ℕ). take c (insides (f ∷ fs))) count ∙ ap (λ (c : ℕ). insides (take c (f ∷ fs))) (sym count)

insides_taken : (d : ℕ) (es : List Entry) → take (deeper d es) (insides es) ≡ insides (take (deeper d es) es)
insides_taken d [] = refl
insides_taken d (f ∷ fs) = insides_taken_by d f fs (nat_lt d f.depth) refl (insides_taken d fs)

pub taken : (d n : ℕ) (es : List Entry) (counts : List ℕ) → n ≡ deeper d es → counts ≡ insides es → take n counts ≡ insides (take n es)
taken d n es counts is all = ap (λ (cs : List ℕ). take n cs) all ∙ ap (λ (m : ℕ). take m (insides es)) is ∙ insides_taken d es ∙ ap (λ (m : ℕ). insides (take m es)) (sym is)

pub within : (d n : ℕ) (es : List Entry) → n ≡ deeper d es → n ≤ length es
within d n es is = let most : deeper d es ≤ length es = prefix_len-le-length _ es in omega (arith, is, most)

pub scope_variables : (u : UnitTree) (e : Entry) (behind : List Entry) (n : ℕ) → n ≡ deeper e.depth behind → filter (is_variable_of e.depth) (standing_in u (take n behind)) ≡ variables_of (stands u e behind)
scope_variables u e behind n is = ap (λ (m : ℕ). filter (is_variable_of e.depth) (standing_in u (take m behind))) is ∙ variables_are (stands u e behind)

-- ---- scopes

pub scope_step : (q : Standing → Bool) (u : UnitTree) (es : List Entry) (i : ℕ) (e other : Entry) (behind : List Entry) (total out more : List Standing)
    → i < length es → e ≡ get_or es i other → behind ≡ drop (i + 1) es → more ≡ out ++ flat_map variables_of (filter q (stands u e behind ∷ []))
    → total ≡ out ++ flat_map variables_of (filter q (standing_in u (drop i es))) → total ≡ more ++ flat_map variables_of (filter q (standing_in u (drop (i + 1) es)))
scope_step q u es i e other behind total out more lt is rest one so_far =
    let F = λ (xs : List Standing). flat_map variables_of (filter q xs) in
    let front : F (standing_in u (drop i es)) ≡ F (stands u e behind ∷ []) ++ F (standing_in u (drop (i + 1) es)) =
    ap (λ (fs : List Entry). F (standing_in u fs)) (first_is es i e other lt is) ∙ ap (flat_map variables_of) (filter-append q (stands u e (drop (i + 1) es) ∷ []) (standing_in u (drop (i + 1) es)))
    ∙ flat_map-append variables_of (filter q (stands u e (drop (i + 1) es) ∷ [])) (filter q (standing_in u (drop (i + 1) es)))
    ∙ ap (λ (fs : List Entry). F (stands u e fs ∷ []) ++ F (standing_in u (drop (i + 1) es))) (sym rest) in
    so_far ∙ ap (λ (xs : List Standing). out ++ xs) front ∙ sym (append_assoc out (F (stands u e behind ∷ [])) (F (standing_in u (drop (i + 1) es))))
    ∙ ap (λ (xs : List Standing). xs ++ F (standing_in u (drop (i + 1) es))) (sym one)

pub all_variables : (s : SectionBytes5) (a : ℕ) (x : Standing) (u : UnitTree) (d : ℕ) (es : List Entry) (none first all : List Standing) → u ≡ x.unit → d ≡ x.entry.depth → es ≡ entries_inside x
    → none ≡ [] → first ≡ none ++ filter (is_variable_of d) (standing_in u es) → all ≡ first ++ flat_map variables_of (filter (is_scope_at s a) (standing_in u es)) → all ≡ flat_map variables_of (scopes_in s a x)
all_variables s a x u d es none first all eu ed ees en ef ea =
    let own : filter (is_variable_of d) (standing_in u es) ≡ variables_of x = rw (eu, ed, ees) (variables_are x) in
    let inner : flat_map variables_of (filter (is_scope_at s a) (standing_in u es)) ≡ flat_map variables_of (filter (is_scope_at s a) (inside x)) = rw (eu, ees) refl in
    ea ∙ ap (λ (xs : List Standing). xs ++ flat_map variables_of (filter (is_scope_at s a) (standing_in u es))) (ef ∙ ap (λ (xs : List Standing). xs ++ filter (is_variable_of d) (standing_in u es)) en ∙ own) ∙ ap (λ (xs : List Standing). variables_of x ++ xs) inner

pub counted_at : (es : List Entry) (counts : List ℕ) (i : ℕ) (e other : Entry) (k : ℕ) → i < length es → e ≡ get_or es i other → counts ≡ insides es → get_or counts i k ≡ deeper e.depth (drop (i + 1) es)
counted_at es counts i e other k lt is all = ap (λ (cs : List ℕ). get_or cs i k) all ∙ count_at es i other k lt ∙ ap (λ (f : Entry). deeper f.depth (drop (i + 1) es)) (sym is)
