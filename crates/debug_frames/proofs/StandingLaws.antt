-- The line program that the unit of an entry names is kept.
use Rattle.std.proofs.Common.{◌≡◌, ℕ, suc, ◌<◌, Bool, true, false, List, [], ◌∷◌, ◌++◌, Option, Some, None, refl, sym, ap, subst, ◌∙◌, arith}
use Rattle.std.specs.Prelude.{fold, length, get_or, ◌==◌, find, filter, reverse, is_some, nat_eq, if◌then◌else◌, cond, IfSome}
use Rattle.std.specs.List.{All, AllByRecursion}
use Rattle.std.proofs.lemmas.List.{reverse-append}
use Rattle.std.proofs.lemmas.List.Elements.{All-from_recursion, All-nil, All-cons, All-append, All-filter, All-push, All-get_or}
use Rattle.dwarf_info.specs.declared.entry.Entry.{Entry}
use Rattle.dwarf_info.specs.declared.entry.Unit.{Unit as UnitTree}
use Rattle.dwarf_info.specs.declared.entry.UnitAnswer.{UnitAnswer}
use Rattle.dwarf_info.specs.declared.entry.UnitAnswer.TheVariants.{Tree, Unreadable}
use Rattle.dwarf_info.specs.Sections.{SectionBytes5}
use Rattle.dwarf_entries.specs.Standing.{Standing, stands, standing_in, of_unit, standing, inside, entries_inside}
use Rattle.dwarf_entries.specs.Tags.{tag_inlined_subroutine}
use Rattle.dwarf_scopes.specs.Scopes.{is_subprogram_at, subprogram_at, scopes_from, scopes_at, inlined_at}
use Rattle.debug_frames.specs.declared.programs.Program.{Program}
use Rattle.debug_frames.specs.Information.{SourceInformation}
use Rattle.debug_frames.specs.Programs.{named, named_by, program_there}
use Rattle.debug_frames.specs.calls.Kept.{program_at, with_program, programs_of, IsKept}
use Rattle.debug_frames.specs.inner.Standings.{IsOfKept}
use Rattle.debug_frames.proofs.UnitRowLaws.{Right, with_right}

-- ---- what is kept of units

found_more : (ps : List (ℕ × Program)) (q : ℕ × Program) (at : ℕ) (p : Program) → program_at ps at ≡ Some p → program_at (ps ++ q ∷ []) at ≡ Some p
found_more [] q at p e = absurd cc
found_more (r ∷ ps) q at p e = by (nat_eq at r.0) e (found_more ps q at p)
  where
    by : (b : Bool) → (if b then Some r.1 else program_at ps at) ≡ Some p → (program_at ps at ≡ Some p → program_at (ps ++ q ∷ []) at ≡ Some p) → (if b then Some r.1 else program_at (ps ++ q ∷ []) at) ≡ Some p
    by true e more = e
    by false e more = more e

found_right : (s : SectionBytes5) (ps : List (ℕ × Program)) (at : ℕ) → Right s ps → is_some (program_at ps at) ≡ true → program_at ps at ≡ Some (program_there s at)
found_right s [] at right e = absurd cc
found_right s (p ∷ ps) at right e = by (nat_eq at p.0) refl e (found_right s ps at right.1)
  where
    by : (b : Bool) → nat_eq at p.0 ≡ b → is_some (if b then Some p.1 else program_at ps at) ≡ true → (is_some (program_at ps at) ≡ true → program_at ps at ≡ Some (program_there s at))
        → (if b then Some p.1 else program_at ps at) ≡ Some (program_there s at)
    by true e there more =
        let same : at ≡ p.0 = grind (arith, e) in
        ap Some (right.0 ∙ ap (program_there s) (sym same))
    by false e there more = more there

found_last : (s : SectionBytes5) (ps : List (ℕ × Program)) (at : ℕ) → is_some (program_at ps at) ≡ false → program_at (ps ++ (at, program_there s at) ∷ []) at ≡ Some (program_there s at)
found_last s [] at e = let here : nat_eq at at ≡ true = grind arith in rw here refl
found_last s (p ∷ ps) at e = by (nat_eq at p.0) e (found_last s ps at)
  where
    by : (b : Bool) → is_some (if b then Some p.1 else program_at ps at) ≡ false → (is_some (program_at ps at) ≡ false → program_at (ps ++ (at, program_there s at) ∷ []) at ≡ Some (program_there s at))
        → (if b then Some p.1 else program_at (ps ++ (at, program_there s at) ∷ []) at) ≡ Some (program_there s at)
    by true e more = absurd cc
    by false e more = more e

-- behind a unit that names it
found_named : (s : SectionBytes5) (ps : List (ℕ × Program)) (at : ℕ) → Right s ps → program_at (with_program s ps (Some at)) at ≡ Some (program_there s at)
found_named s ps at right = by (is_some (program_at ps at)) refl
  where
    by : (b : Bool) → is_some (program_at ps at) ≡ b → program_at (if b then ps else ps ++ (at, program_there s at) ∷ []) at ≡ Some (program_there s at)
    by true e = found_right s ps at right e
    by false e = found_last s ps at e

-- behind another one
still_found : (s : SectionBytes5) (ps : List (ℕ × Program)) (o : Option ℕ) (at : ℕ) (p : Program) → program_at ps at ≡ Some p → program_at (with_program s ps o) at ≡ Some p
still_found s ps None at p e = e
still_found s ps (Some new) at p e = by (is_some (program_at ps new))
  where
    by : (b : Bool) → program_at (if b then ps else ps ++ (new, program_there s new) ∷ []) at ≡ Some p
    by true = e
    by false = found_more ps (new, program_there s new) at p e

abbrev with_units : SectionBytes5 → List (ℕ × Program) → List UnitAnswer → List (ℕ × Program)
with_units s ps units = fold (λ programs u. with_program s programs (named u)) ps units

found_behind : (s : SectionBytes5) (units : List UnitAnswer) (ps : List (ℕ × Program)) (at : ℕ) (p : Program) → program_at ps at ≡ Some p → program_at (with_units s ps units) at ≡ Some p
found_behind s [] ps at p e = e
found_behind s (u ∷ units) ps at p e = found_behind s units (with_program s ps (named u)) at p (still_found s ps (named u) at p e)

abbrev IsFound : SectionBytes5 → List (ℕ × Program) → Option ℕ → Type 0
IsFound s ps None = Unit {0}
IsFound s ps (Some at) = program_at ps at ≡ Some (program_there s at)

each_found : (s : SectionBytes5) (units : List UnitAnswer) (ps : List (ℕ × Program)) → Right s ps → AllByRecursion (λ u. IsFound s (with_units s ps units) (named u)) units
each_found s [] ps right = tt
each_found s (u ∷ units) ps right = (here (named u), each_found s units (with_program s ps (named u)) (with_right s ps (named u) right))
  where
    here : (o : Option ℕ) → IsFound s (with_units s (with_program s ps o) units) o
    here None = tt
    here (Some at) = found_behind s units (with_program s ps (Some at)) at (program_there s at) (found_named s ps at right)

-- what is found is kept
found_kept : (s : SectionBytes5) (units : List UnitAnswer) (o : Option ℕ) → IsFound s (with_units s [] units) o → IsKept s units o
unfolding programs_of
found_kept s units None h = tt
found_kept s units (Some at) h = h

kept_by : (s : SectionBytes5) (all units : List UnitAnswer) → AllByRecursion (λ u. IsFound s (with_units s [] all) (named u)) units → AllByRecursion (λ u. IsKept s all (named u)) units
kept_by s all [] h = tt
kept_by s all (u ∷ units) h = (found_kept s all (named u) h.0, kept_by s all units h.1)

each_kept : (s : SectionBytes5) (units : List UnitAnswer) → AllByRecursion (λ u. IsKept s units (named u)) units
each_kept s units = kept_by s units units (each_found s units [] tt)

-- of the unit at an index
pub unit_kept : (s : SectionBytes5) (units items : List UnitAnswer) (k : ℕ) (u : UnitAnswer) → items ≡ units → k < length items → u ≡ get_or items k u → IsKept s units (named u)
unit_kept s units items k u same lt is =
    let inside : k < length units = subst (λ (l : List UnitAnswer). k < length l) same lt in
    let there : u ≡ get_or units k u = subst (λ (l : List UnitAnswer). u ≡ get_or l k u) same is in
    let all : All (λ u. IsKept s units (named u)) units = All-from_recursion (λ u. IsKept s units (named u)) units (each_kept s units) in
    subst (λ u. IsKept s units (named u)) (sym there) (All-get_or (λ u. IsKept s units (named u)) units k u inside all)

-- ---- of entries

module _ (x : SourceInformation) where
  in_unit : (u : UnitTree) (es : List Entry) → IsKept x.sections x.units (named_by u.entries) → All (IsOfKept x) (standing_in u es)
  in_unit u [] kept = All-nil (IsOfKept x)
  in_unit u (e ∷ es) kept = All-cons (IsOfKept x) (stands u e es) (standing_in u es) kept (in_unit u es kept)

  of_one : (u : UnitAnswer) → IsKept x.sections x.units (named u) → All (IsOfKept x) (of_unit u)
  of_one (Tree u) kept = in_unit u u.entries kept
  of_one (Unreadable section at) kept = All-nil (IsOfKept x)

  of_units : (units : List UnitAnswer) → AllByRecursion (λ u. IsKept x.sections x.units (named u)) units → All (IsOfKept x) (standing units)
  of_units [] kept = All-nil (IsOfKept x)
  of_units (u ∷ units) kept = All-append (IsOfKept x) (of_unit u) (standing units) (of_one u kept.0) (of_units units kept.1)

  first_of : (test : Standing → Bool) (xs : List Standing) → All (IsOfKept x) xs → IfSome (find test xs) (IsOfKept x)
  first_of test [] all = tt
  first_of test (s ∷ xs) all = by (test s) (all 0 s (omega arith)) (first_of test xs (λ k d lt. all (suc k) d (omega (arith, lt))))
    where
      by : (b : Bool) → IsOfKept x s → IfSome (find test xs) (IsOfKept x) → IfSome (cond b (Some s) (find test xs)) (IsOfKept x)
      by true here more = here
      by false here more = more

  backwards : (xs : List Standing) → All (IsOfKept x) xs → All (IsOfKept x) (reverse xs)
  backwards [] all = All-nil (IsOfKept x)
  backwards (s ∷ xs) all =
      let last : reverse (s ∷ xs) ≡ reverse xs ++ s ∷ [] = reverse-append (s ∷ []) xs in
      subst (All (IsOfKept x)) (sym last) (All-push (IsOfKept x) (reverse xs) s (backwards xs (λ k d lt. all (suc k) d (omega (arith, lt)))) (all 0 s (omega arith)))

  in_scopes : (address : ℕ) (o : Option Standing) → IfSome o (IsOfKept x) → All (IsOfKept x) (scopes_from x.sections address o)
  in_scopes address None kept = All-nil (IsOfKept x)
  in_scopes address (Some s) kept = All-cons (IsOfKept x) s _ kept (All-filter _ (IsOfKept x) (inside s) (in_unit s.unit (entries_inside s) kept))

  pub inlined_kept : (address : ℕ) → All (IsOfKept x) (inlined_at x.sections x.units address)
  unfolding inlined_at scopes_at subprogram_at
  inlined_kept address =
      let is_there : Standing → Bool = is_subprogram_at x.sections address in
      let is_inlined : Standing → Bool = λ k. k.entry.tag == tag_inlined_subroutine in
      let found : Option Standing = find is_there (standing x.units) in
      let scopes : All (IsOfKept x) (scopes_from x.sections address found) = in_scopes address found (first_of is_there (standing x.units) (of_units x.units (each_kept x.sections x.units))) in
      backwards (filter is_inlined (scopes_from x.sections address found)) (All-filter is_inlined (IsOfKept x) (scopes_from x.sections address found) scopes)
