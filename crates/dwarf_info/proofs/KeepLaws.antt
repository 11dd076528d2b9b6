-- Tables that were read stay what they are where others are read.
use Rattle.std.proofs.Common.{◌≡◌, ℕ, ◌+◌, ◌≤◌, Bool, true, false, cond, eqb, List, [], ◌∷◌, ◌++◌, length, Option, Some, None, refl, sym, ap, subst, ◌∙◌, arith, length-append}
use Rattle.std.specs.Prelude.{option_map, IfSome}
use Rattle.std.specs.Ordering.{nat_cmp, is_eq}
use Rattle.std.specs.BTreeMap.{get, is_at}
use Rattle.std.specs.Map.{lookup}
use Rattle.std.proofs.lemmas.Bool.{eqb-true}
use Rattle.pm_text.proofs.Lists.{is_eq_at}
use Rattle.dwarf_abbrev.specs.calls.Shared.{list_of}
use Rattle.dwarf_abbrev.proofs.LinkLaws.{list_last}
use Rattle.dwarf_info.specs.declared.form.Shape.{Shape}
use Rattle.dwarf_info.specs.declared.tables.Tables.{Tables}
use Rattle.dwarf_info.specs.Sections.{SectionBytes5}
use Rattle.dwarf_info.specs.calls.Keeping.{Rows, IsTable, kept_at, numbered, IsThere, Keeps, KeepsIf}
use Rattle.dwarf_info.proofs.RowLaws.{number_front}

-- what is known of an offset, by the lists of the tables
abbrev Good : Rows → List ℕ → ℕ → Option (Option ℕ) → List (List Shape) → Type 0
Good rows section q o lists = IfSome o (λ t. IsTable rows section q (option_map (list_of lists) t) × IfSome t (λ n. n ≤ length lists))

-- ---- one table more

module _ (before after : Tables) (made : List Shape) (more : after.lists ≡ before.lists ++ made ∷ []) where
  pub number_stays : (table : Option ℕ) → IsThere before table → numbered after table ≡ numbered before table
  number_stays table there = ap (λ (ls : List (List Shape)). option_map (list_of ls) table) more ∙ number_front before.lists (made ∷ []) table there

  pub there_stays : (table : Option ℕ) → IsThere before table → IsThere after table
  there_stays None there = tt
  there_stays (Some n) there = omega (arith, there, ap length more, length-append before.lists (made ∷ []))

  kept_by : (rows : Rows) (section : List ℕ) (at : ℕ) (o : Option (Option ℕ))
      → IfSome o (λ table. IsTable rows section at (numbered before table) × IsThere before table) → IfSome o (λ table. IsTable rows section at (numbered after table) × IsThere after table)
  kept_by rows section at None h = tt
  kept_by rows section at (Some table) h = (subst (λ (t : Option (List Shape)). IsTable rows section at t) (sym (number_stays table h.1)) h.0, there_stays table h.1)

  pub keeps_more : after.read ≡ before.read → KeepsIf before after
  keeps_more same rows s keeps at =
      subst (λ (o : Option (Option ℕ)). IfSome o (λ table. IsTable rows s.base.abbreviations at (numbered after table) × IsThere after table)) (sym (ap (λ m. get nat_cmp m at) same))
      (kept_by rows s.base.abbreviations at (kept_at before at) (keeps at))

  -- the new one has a value in front of another one
  pub number_made : (n : ℕ) (shape : Shape) (behind : ℕ) → n ≡ length before.lists + 1 → made ≡ shape ∷ list_of before.lists behind → numbered after (Some n) ≡ option_map (λ rows. shape ∷ rows) (numbered before (Some behind))
  number_made n shape behind is begins = ap Some (ap (λ (ls : List (List Shape)). list_of ls n) more ∙ list_last before.lists made n is ∙ begins)

-- ---- the same tables

module _ (before after : Tables) (same : after.lists ≡ before.lists) where
  pub number_same : (table : Option ℕ) → numbered after table ≡ numbered before table
  number_same table = ap (λ (ls : List (List Shape)). option_map (list_of ls) table) same

  pub there_same : (table : Option ℕ) → IsThere before table → IsThere after table
  there_same table there = subst (λ (ls : List (List Shape)). IfSome table (λ n. n ≤ length ls)) (sym same) there

  pub table_same : (rows : Rows) (section : List ℕ) (at : ℕ) (table : Option ℕ) → IsTable rows section at (numbered before table) → IsTable rows section at (numbered after table)
  table_same rows section at table is = subst (λ (t : Option (List Shape)). IsTable rows section at t) (sym (number_same table)) is

  pub keeps_same : after.read.entries ≡ before.read.entries → KeepsIf before after
  keeps_same read rows s keeps at =
      subst (λ (o : Option (Option ℕ)). Good rows s.base.abbreviations at o after.lists) (sym (ap (λ es. lookup (is_at (nat_cmp at)) es) read))
      (subst (λ (ls : List (List Shape)). Good rows s.base.abbreviations at (kept_at before at) ls) (sym same) (keeps at))

-- ---- one offset more

pub keeps_at : (before after : Tables) (at : ℕ) (table : Option ℕ) → after.lists ≡ before.lists → ((q : ℕ) → get nat_cmp after.read q ≡ cond (is_eq (nat_cmp at q)) (Some table) (get nat_cmp before.read q))
    → IsThere before table → (rows : Rows) (s : SectionBytes5) → Keeps rows s before → IsTable rows s.base.abbreviations at (numbered before table) → Keeps rows s after
keeps_at before after at table same updates there rows s keeps is q = by (eqb at q) refl
  where
    by : (b : Bool) → eqb at q ≡ b → IfSome (kept_at after q) (λ t. IsTable rows s.base.abbreviations q (numbered after t) × IsThere after t)
    by true tie =
        let known : kept_at after q ≡ Some table = updates q ∙ ap (λ (b : Bool). cond b (Some table) (get nat_cmp before.read q)) (is_eq_at at q ∙ tie) in
        let here = subst (λ (n : ℕ). IsTable rows s.base.abbreviations n (numbered before table)) (eqb-true at q tie) is in
        subst (λ (o : Option (Option ℕ)). Good rows s.base.abbreviations q o after.lists) (sym known) (subst (λ (ls : List (List Shape)). Good rows s.base.abbreviations q (Some table) ls) (sym same) (here, there))
    by false tie =
        let known : kept_at after q ≡ kept_at before q = updates q ∙ ap (λ (b : Bool). cond b (Some table) (get nat_cmp before.read q)) (is_eq_at at q ∙ tie) in
        subst (λ (o : Option (Option ℕ)). Good rows s.base.abbreviations q o after.lists) (sym known) (subst (λ (ls : List (List Shape)). Good rows s.base.abbreviations q (kept_at before q) ls) (sym same) (keeps q))
