-- What is known of arrays and structures, where it is known of one more.
use Rattle.std.proofs.Common.{◌≡◌, ℕ, Bool, true, false, cond, eqb, Some, None, Option, refl, sym, ap, subst, ◌∙◌}
use Rattle.std.specs.Prelude.{IfSome, List}
use Rattle.std.specs.Ordering.{nat_cmp, is_eq}
use Rattle.std.specs.BTreeMap.{get}
use Rattle.std.proofs.lemmas.Bool.{eqb-true}
use Rattle.pm_text.proofs.Lists.{is_eq_at}
use Rattle.dwarf_info.specs.declared.entry.UnitAnswer.{UnitAnswer}
use Rattle.dwarf_info.specs.declared.entry.Entry.{Entry}
use Rattle.dwarf_entries.specs.Standing.{Standing, standing_at, inside}
use Rattle.dwarf_types.specs.Counts.{counts}
use Rattle.dwarf_types.specs.calls.Subranges.{Subranges, AreOf}
use Rattle.dwarf_types.specs.calls.Known.{AreKnown}
use Rattle.dwarf_types.specs.calls.Inside.{AreInside, picked}
use Rattle.dwarf_types.specs.calls.Contents.{contents, AreContentsOf, AreContents}
use Rattle.dwarf_types.specs.declared.arrays.Arrays.{Arrays}
use Rattle.dwarf_types.specs.calls.Numbers.{AreFirst, AreFirstOf}
use Rattle.dwarf_types.specs.declared.enumerators.Enumerators.{Enumerators}
use Rattle.dwarf_types.specs.declared.structures.MemberPositions.{MemberPositions}
use Rattle.dwarf_types.specs.declared.structures.Structures.{Structures}

-- of one more offset
pub one_kept : {A : Type 0} (P : ℕ → A → Type 0) (before after : ℕ → Option A) (at : ℕ) (x : A) → ((q : ℕ) → after q ≡ cond (is_eq (nat_cmp at q)) (Some x) (before q))
    → ((q : ℕ) → IfSome (before q) (P q)) → P at x → (q : ℕ) → IfSome (after q) (P q)
one_kept {A} P before after at x updates are is q =
    subst (λ (o : Option A). IfSome o (P q)) (sym (updates q ∙ ap (λ (b : Bool). cond b (Some x) (before q)) (is_eq_at at q))) (by (eqb at q) refl)
  where
    by : (b : Bool) → eqb at q ≡ b → IfSome (cond b (Some x) (before q)) (P q)
    by true tie = subst (λ (n : ℕ). P n x) (eqb-true at q tie) is
    by false tie = are q

-- ---- arrays

-- those of an entry that was found at an offset
pub array_kept : (units : List UnitAnswer) (before after : Arrays) (at : ℕ) (s : Standing) (rows : Subranges)
    → ((q : ℕ) → get nat_cmp after.known q ≡ cond (is_eq (nat_cmp at q)) (Some rows) (get nat_cmp before.known q)) → AreKnown units before → Some s ≡ standing_at units at → rows.counts ≡ counts s
    → AreKnown units after
array_kept units before after at s rows updates are found is =
    one_kept (λ q. AreOf (standing_at units q)) (get nat_cmp before.known) (get nat_cmp after.known) at rows updates are (subst (λ (o : Option Standing). AreOf o rows) found is)

-- what is known at the offset of an entry
pub rows_known : (units : List UnitAnswer) (arrays : Arrays) (o : Option Subranges) (s : Standing) (e : Entry) → e ≡ s.entry → ((us : List UnitAnswer) → AreKnown us arrays → IfSome o (AreOf (standing_at us e.at)))
    → AreKnown units arrays → standing_at units s.entry.at ≡ Some s → IfSome o (AreOf (Some s))
rows_known units arrays o s e is got are found =
    subst (λ (x : Option Standing). IfSome o (AreOf x)) (ap (λ (x : Entry). standing_at units x.at) is ∙ found) (got units are)

pub rows_got : (units : List UnitAnswer) (arrays : Arrays) (at : ℕ) (o : Option Subranges) → o ≡ get nat_cmp arrays.known at → AreKnown units arrays → IfSome o (AreOf (standing_at units at))
rows_got units arrays at o is are = subst (λ (x : Option Subranges). IfSome x (AreOf (standing_at units at))) (sym is) (are at)

pub rows_here : (o : Option Subranges) (rows : Subranges) (s : Standing) → o ≡ Some rows → IfSome o (AreOf (Some s)) → rows.counts ≡ counts s
rows_here o rows s is are = subst (λ (x : Option Subranges). IfSome x (AreOf (Some s))) is are

-- ---- what stands in structures

pub contents_known : (units : List UnitAnswer) (structures : Option Structures) (o : Option MemberPositions) (s : Standing) (e : Entry) → e ≡ s.entry
    → ((us : List UnitAnswer) → IfSome structures (AreContents us) → IfSome o (AreContentsOf (standing_at us e.at)))
    → IfSome structures (AreContents units) → standing_at units s.entry.at ≡ Some s → IfSome o (AreContentsOf (Some s))
contents_known units structures o s e is got are found =
    subst (λ (x : Option Standing). IfSome o (AreContentsOf x)) (ap (λ (x : Entry). standing_at units x.at) is ∙ found) (got units are)

pub contents_got : (units : List UnitAnswer) (structures : Structures) (at : ℕ) (o : Option MemberPositions) → o ≡ get nat_cmp structures.members at → AreContents units structures
    → IfSome o (AreContentsOf (standing_at units at))
contents_got units structures at o is are = subst (λ (x : Option MemberPositions). IfSome x (AreContentsOf (standing_at units at))) (sym is) (are.members at)

pub range_told : (o : Option MemberPositions) (s : Standing) → IfSome o (AreContentsOf (Some s)) → IfSome o (λ m. AreInside s m.range)
range_told None s are = tt
range_told (Some m) s are = are.range

pub told_here : (o : Option MemberPositions) (s : Standing) → IfSome o (AreContentsOf (Some s)) → IfSome o (λ m. picked m.positions (inside s) ≡ contents s)
told_here None s are = tt
told_here (Some m) s are = are.told

-- ---- enumerators

pub numbers_known : (units : List UnitAnswer) (structures : Option Structures) (o : Option Enumerators) (s : Standing) (e : Entry) → e ≡ s.entry
    → ((us : List UnitAnswer) → IfSome structures (AreContents us) → IfSome o (AreFirstOf (standing_at us e.at)))
    → IfSome structures (AreContents units) → standing_at units s.entry.at ≡ Some s → IfSome o (AreFirstOf (Some s))
numbers_known units structures o s e is got are found =
    subst (λ (x : Option Standing). IfSome o (AreFirstOf x)) (ap (λ (x : Entry). standing_at units x.at) is ∙ found) (got units are)

pub numbers_got : (units : List UnitAnswer) (structures : Structures) (at : ℕ) (o : Option Enumerators) → o ≡ get nat_cmp structures.numbers at → AreContents units structures
    → IfSome o (AreFirstOf (standing_at units at))
numbers_got units structures at o is are = subst (λ (x : Option Enumerators). IfSome x (AreFirstOf (standing_at units at))) (sym is) (are.numbers at)

pub first_range : (o : Option Enumerators) (e : Enumerators) (s : Standing) → o ≡ Some e → IfSome o (AreFirstOf (Some s)) → AreInside s e.range
first_range o e s is are = (subst (λ (x : Option Enumerators). IfSome x (AreFirstOf (Some s))) is are).range

pub first_here : (o : Option Enumerators) (e : Enumerators) (s : Standing) → o ≡ Some e → IfSome o (AreFirstOf (Some s)) → AreFirst s e
first_here o e s is are = (subst (λ (x : Option Enumerators). IfSome x (AreFirstOf (Some s))) is are).first
