-- What a name means is an entry of its unit, which is found at its offset again.
use Rattle.std.proofs.Common.{◌≡◌, ℕ, zero, suc, ◌≤◌, Bool, true, false, List, [], ◌∷◌, ◌++◌, length, take, Option, Some, None, refl, sym, ap, subst, ◌∙◌}
use Rattle.std.specs.Prelude.{filter, find, flat_map, reverse, nat_le, option_map, option_and_then, IfSome, if◌then◌else◌}
use Rattle.std.specs.Option.{option_or}
use Rattle.std.proofs.lemmas.List.{reverse-append}
use Rattle.dwarf_info.specs.declared.entry.Entry.{Entry}
use Rattle.dwarf_info.specs.declared.entry.Unit.{Unit as UnitTree}
use Rattle.dwarf_info.specs.declared.entry.UnitAnswer.{UnitAnswer}
use Rattle.dwarf_info.specs.declared.entry.UnitAnswer.TheVariants.{Tree, Unreadable}
use Rattle.dwarf_info.specs.Sections.{SectionBytes5}
use Rattle.dwarf_entries.specs.Standing.{Standing, stands, standing_in, standing, standing_at, entries_inside, inside}
use Rattle.dwarf_scopes.specs.Scopes.{is_subprogram_at, subprogram_at, is_scope_at, scopes_in, scopes_from, scopes_at, declares, variables_of, variables_at}
use Rattle.var_eval.specs.declared.known_names.NameTable.{NameTable}
use Rattle.var_eval.specs.Chosen.{is_named, is_unit_variable, unit_variable, reach, global_entries, is_global, globals, first_global, beyond_scopes, chosen_in, chosen}
use Rattle.var_eval.specs.calls.Offsets.{AreAt, AllAreAt}
use Rattle.var_eval.specs.calls.Names.{look, offset_found, IsTable, bare, AreSame}
use Rattle.var_eval.specs.inner.Named.{longest_name}
use Rattle.var_eval.specs.inner.Adding.{meant_in}

-- ---- each of a list

abbrev Each : (Standing → Type 0) → List Standing → Type 0
Each P [] = Unit {0}
Each P (x ∷ xs) = P x × Each P xs

each_joined : (P : Standing → Type 0) (xs ys : List Standing) → Each P xs → Each P ys → Each P (xs ++ ys)
each_joined P [] ys one two = two
each_joined P (x ∷ xs) ys one two = (one.0, each_joined P xs ys one.1 two)

each_picked : (P : Standing → Type 0) (test : Standing → Bool) (xs : List Standing) → Each P xs → Each P (filter test xs)
each_picked P test [] each = tt
each_picked P test (x ∷ xs) each = by (test x) (each_picked P test xs each.1)
  where
    by : (b : Bool) → Each P (filter test xs) → Each P (if b then x ∷ filter test xs else filter test xs)
    by true more = (each.0, more)
    by false more = more

each_turned : (P : Standing → Type 0) (xs : List Standing) → Each P xs → Each P (reverse xs)
each_turned P [] each = tt
each_turned P (x ∷ xs) each = subst (λ (ys : List Standing). Each P ys) (sym (reverse-append (x ∷ []) xs)) (each_joined P (reverse xs) (x ∷ []) (each_turned P xs each.1) (each.0, tt))

each_part : (P : Standing → Type 0) (part : Standing → List Standing) (xs : List Standing) → ((x : Standing) → P x → Each P (part x)) → Each P xs → Each P (flat_map part xs)
each_part P part [] parts each = tt
each_part P part (x ∷ xs) parts each = each_joined P (part x) (flat_map part xs) (parts x each.0) (each_part P part xs parts each.1)

found_one : (P : Standing → Type 0) (test : Standing → Bool) (xs : List Standing) → Each P xs → IfSome (find test xs) P
found_one P test [] each = tt
found_one P test (x ∷ xs) each = by (test x) (found_one P test xs each.1)
  where
    by : (b : Bool) → IfSome (find test xs) P → IfSome (if b then Some x else find test xs) P
    by true more = each.0
    by false more = more

either : (P : Standing → Type 0) (o p : Option Standing) → IfSome o P → IfSome p P → IfSome (option_or o p) P
either P (Some x) p one two = one
either P None p one two = two

-- ---- entries that are at their offsets

-- so is an entry, and so are those behind it and those of its unit
abbrev Own : List UnitAnswer → Standing → Type 0
Own units x = AreAt units x.unit (x.entry ∷ x.behind) × AreAt units x.unit x.unit.entries

first_at : (units : List UnitAnswer) (u : UnitTree) (n : ℕ) (es : List Entry) → AreAt units u es → AreAt units u (take n es)
first_at units u zero es are = tt
first_at units u (suc n) [] are = tt
first_at units u (suc n) (e ∷ es) are = (are.0, first_at units u n es are.1)

owns : (units : List UnitAnswer) (u : UnitTree) (es : List Entry) → AreAt units u u.entries → AreAt units u es → Each (Own units) (standing_in u es)
owns units u [] all are = tt
owns units u (e ∷ es) all are = ((are, all), owns units u es all are.1)

owns_inside : (units : List UnitAnswer) (x : Standing) → Own units x → Each (Own units) (inside x)
owns_inside units x own = owns units x.unit (entries_inside x) own.1 (first_at units x.unit _ x.behind own.0.1)

owns_variables : (units : List UnitAnswer) (x : Standing) → Own units x → Each (Own units) (variables_of x)
unfolding variables_of
owns_variables units x own = each_picked (Own units) declares _ (each_picked (Own units) _ (inside x) (owns_inside units x own))

owns_all : (units us : List UnitAnswer) → AllAreAt units us → Each (Own units) (standing us)
owns_all units [] all = tt
owns_all units (Tree u ∷ us) all = each_joined (Own units) (standing_in u u.entries) (standing us) (owns units u u.entries all.0 all.0) (owns_all units us all.1)
owns_all units (Unreadable section at ∷ us) all = owns_all units us all.1

owns_subprogram : (s : SectionBytes5) (units : List UnitAnswer) (address : ℕ) → AllAreAt units units → IfSome (subprogram_at s units address) (Own units)
unfolding subprogram_at
owns_subprogram s units address all = found_one (Own units) (is_subprogram_at s address) (standing units) (owns_all units units all)

owns_globals_in : (units : List UnitAnswer) (u : UnitTree) (n : ℕ) (es : List Entry) → AreAt units u u.entries → AreAt units u es → Each (Own units) (global_entries u n es)
unfolding global_entries
owns_globals_in units u n [] all are = tt
owns_globals_in units u n (e ∷ es) all are =
    by (nat_le e.depth n) (owns_globals_in units u (reach e) es all are.1) (owns_globals_in units u n es all are.1)
  where
    by : (b : Bool) → Each (Own units) (global_entries u (reach e) es) → Each (Own units) (global_entries u n es)
        → Each (Own units) (if b then stands u e es ∷ global_entries u (reach e) es else global_entries u n es)
    by true with without = ((are, all), with)
    by false with without = without

owns_globals : (units us : List UnitAnswer) → AllAreAt units us → Each (Own units) (flat_map globals us)
owns_globals units [] all = tt
owns_globals units (Tree u ∷ us) all =
    each_joined (Own units) (global_entries u 0 u.entries) (flat_map globals us) (owns_globals_in units u 0 u.entries all.0 all.0) (owns_globals units us all.1)
owns_globals units (Unreadable section at ∷ us) all = owns_globals units us all.1

-- ---- what a name means

owns_meant : (s : SectionBytes5) (units : List UnitAnswer) (address : ℕ) (name : List ℕ) (x : Standing) → AllAreAt units units → Own units x
    → IfSome (meant_in s units address (Some x) x.unit name) (Own units)
owns_meant s units address name x all own =
    let P = Own units in
    let scopes : Each P (scopes_in s address x) = (own, each_picked P (is_scope_at s address) (inside x) (owns_inside units x own)) in
    let visible : Each P (reverse (flat_map variables_of (scopes_in s address x))) =
    each_turned P (flat_map variables_of (scopes_in s address x)) (each_part P variables_of (scopes_in s address x) (owns_variables units) scopes)
    in
    either P (find (is_named units name) (reverse (flat_map variables_of (scopes_in s address x)))) (beyond_scopes units name x.unit)
    (found_one P (is_named units name) (reverse (flat_map variables_of (scopes_in s address x))) visible)
    (either P (unit_variable units name x.unit) _
    (found_one P (is_unit_variable units name) (standing_in x.unit x.unit.entries) (owns units x.unit x.unit.entries own.1 own.1))
    (either P (find (is_global units name) (global_entries x.unit 0 x.unit.entries)) (first_global units name units)
    (found_one P (is_global units name) (global_entries x.unit 0 x.unit.entries) (owns_globals_in units x.unit 0 x.unit.entries own.1 own.1))
    (found_one P (is_global units name) (flat_map globals units) (owns_globals units units all))))

-- in the subprogram at the address
meant_is : (s : SectionBytes5) (units : List UnitAnswer) (address : ℕ) (name : List ℕ) (x : Standing) → subprogram_at s units address ≡ Some x
    → chosen s units address name ≡ meant_in s units address (Some x) x.unit name
unfolding chosen variables_at scopes_at
meant_is s units address name x is =
    ap (λ (o : Option Standing). chosen_in s units address name o) is
    ∙ ap (λ (o : Option Standing). option_or (find (is_named units name) (reverse (flat_map variables_of (scopes_from s address o)))) (beyond_scopes units name x.unit)) is

meant_none : (s : SectionBytes5) (units : List UnitAnswer) (address : ℕ) (name : List ℕ) → subprogram_at s units address ≡ None → chosen s units address name ≡ None
unfolding chosen
meant_none s units address name is = ap (λ (o : Option Standing). chosen_in s units address name o) is

owns_chosen : (s : SectionBytes5) (units : List UnitAnswer) (address : ℕ) (name : List ℕ) → AllAreAt units units → IfSome (chosen s units address name) (Own units)
owns_chosen s units address name all = by (subprogram_at s units address) refl (owns_subprogram s units address all)
  where
    by : (o : Option Standing) → subprogram_at s units address ≡ o → IfSome o (Own units) → IfSome (chosen s units address name) (Own units)
    by None is own = subst (λ (p : Option Standing). IfSome p (Own units)) (sym (meant_none s units address name is)) tt
    by (Some x) is own = subst (λ (p : Option Standing). IfSome p (Own units)) (sym (meant_is s units address name x is)) (owns_meant s units address name x all own)

-- ---- the table

pub table_meant : (s : SectionBytes5) (units us : List UnitAnswer) (address : ℕ) (t : NameTable) (subprogram : Option Standing) (x : Standing) (u : UnitTree) → subprogram ≡ subprogram_at s units address
    → subprogram ≡ Some x → u ≡ x.unit → us ≡ units → AllAreAt us us
    → ((q : List ℕ) → length q ≤ longest_name → look t q ≡ offset_found (meant_in s units address subprogram u q)) → IsTable s units address t
table_meant s units us address t subprogram x u here some unit same all told = (
  subst (λ (us : List UnitAnswer). AllAreAt us us) same all,
  λ q short. told q short ∙ ap (λ (o : Option Standing). offset_found (meant_in s units address o u q)) some
      ∙ ap (λ (v : UnitTree). offset_found (meant_in s units address (Some x) v q)) unit
      ∙ ap offset_found (sym (meant_is s units address q x (sym here ∙ some))),
)

-- a table that was made is kept with its address
pub table_kept : (s : SectionBytes5) (units : List UnitAnswer) (address n : ℕ) (made : Option NameTable) → n ≡ address → IfSome made (IsTable s units address) → IfSome made (IsTable s units n)
table_kept s units address n made here is = subst (λ (k : ℕ). IfSome made (IsTable s units k)) (sym here) is

same_found : (units : List UnitAnswer) (c : Option Standing) (l : Option ℕ) → l ≡ offset_found c → IfSome c (Own units) → AreSame (option_and_then (standing_at units) l) c
same_found units None l is own = ap (λ (o : Option ℕ). option_map bare (option_and_then (standing_at units) o)) is
same_found units (Some x) l is own = ap (λ (o : Option ℕ). option_map bare (option_and_then (standing_at units) o)) is ∙ ap (λ (o : Option Standing). option_map bare o) own.0.0.1

pub meant_here : (s : SectionBytes5) (units : List UnitAnswer) (address : ℕ) (t : NameTable) (name : List ℕ) (o : Option Standing) → IsTable s units address t → length name ≤ longest_name
    → o ≡ option_and_then (standing_at units) (look t name) → AreSame o (chosen s units address name)
meant_here s units address t name o table short is =
    ap (λ (p : Option Standing). option_map bare p) is
    ∙ same_found units (chosen s units address name) (look t name) (table.1 name short) (owns_chosen s units address name table.0)

pub meant_else : (s : SectionBytes5) (units : List UnitAnswer) (address : ℕ) (name : List ℕ) (subprogram o : Option Standing) → subprogram ≡ subprogram_at s units address
    → o ≡ chosen_in s units address name subprogram → AreSame o (chosen s units address name)
unfolding chosen
meant_else s units address name subprogram o here is = ap (λ (p : Option Standing). option_map bare p) (is ∙ ap (λ (p : Option Standing). chosen_in s units address name p) here)
