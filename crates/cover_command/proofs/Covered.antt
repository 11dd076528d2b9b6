-- The text of counted steps.
use Rattle.std.proofs.Common.{◌≡◌, ℕ, zero, suc, ◌+◌, ◌<◌, ◌≤◌, ◌^◌, List, [], ◌∷◌, ◌++◌, map, length, drop, Bool, cond, Option, Some, None, Result, Ok, Err, refl, sym, ap, ap₂, subst, ◌∙◌, arith}
use Rattle.std.specs.Prelude.{OnOk, fold, count_by, slice_get, is_none, unwrap_or}
use Rattle.std.specs.List.{flat_map, AllByRecursion}
use Rattle.std.specs.Option.{option_or, option_map}
use Rattle.std.specs.BTreeMap.{BTreeMap, IsOrdered}
use Rattle.std.proofs.lemmas.List.Sums.{count_by-le-length}
use Rattle.cover_command.specs.declared.merging.NamedLine.{NamedLine}
use Rattle.wasm_syntax.specs.declared.module.ModuleParts.{ModuleParts as Module}
use Rattle.machine_steps.specs.Places.{Place}
use Rattle.dwarf_line.specs.declared.lines.Row.{Row}
use Rattle.dwarf_line.specs.declared.lines.Lines.{Lines}
use Rattle.dwarf_line.specs.Place.{Located, place}
use Rattle.debug_frames.specs.declared.programs.Program.{Program}
use Rattle.debug_frames.specs.declared.programs.Program.TheVariants.{Read, Unreadable}
use Rattle.debug_frames.specs.Information.{SourceInformation}
use Rattle.debug_frames.specs.Programs.{located_at}
use Rattle.debug_frames.specs.calls.Kept.{programs_of, readable, located_among}
use Rattle.debug_frames.proofs.UnitRowLaws.{by_units}
use Rattle.line_coverage.specs.declared.spots.Spot.{Spot}
use Rattle.line_coverage.specs.declared.spots.LineCount.{LineCount}
use Rattle.line_coverage.specs.calls.Spots.{spot, spot_of, spot_from}
use Rattle.line_coverage.specs.Covers.{address_of, fallen, Covered, Covers}
use Rattle.cover_command.specs.SourceLines.{SourceLine, line_of, source_line, falls_on}
use Rattle.cover_command.specs.CoverText.{CoverText, count_text, sums_text}
use Rattle.cover_command.specs.inner.Merging.{file_line_cmp, seen_counts, counted_on, HaveSteps, file_at, spot_line, spot_falls_on, merged}
use Rattle.cover_command.proofs.Merges.{seen_sorted, seen_lookup}

-- ---- where a step falls

module _ (tables : List Lines) where
  there : (n : ℕ) (l : Lines) (ls ts : List Lines) → drop n ts ≡ l ∷ ls → slice_get ts n ≡ Some l
  there zero l ls [] e = absurd cc
  there zero l ls (t ∷ ts) e = let same : t ≡ l = cc in ap Some same
  there (suc n) l ls [] e = absurd cc
  there (suc n) l ls (t ∷ ts) e = there n l ls ts e

  rest : (n : ℕ) (l : Lines) (ls ts : List Lines) → drop n ts ≡ l ∷ ls → drop (suc n) ts ≡ ls
  rest zero l ls [] e = absurd cc
  rest zero l ls (t ∷ ts) e = cc
  rest (suc n) l ls [] e = absurd cc
  rest (suc n) l ls (t ∷ ts) e = rest n l ls ts e

  abbrev as_line : Option Spot → Option SourceLine
  as_line o = option_map (spot_line tables) o

  in_program : (n : ℕ) (l : Lines) (row : Row) → slice_get tables n ≡ Some l → spot_line tables (spot_of n row) ≡ line_of (record { lines = l; row = row })
  in_program n l row e = ap (λ o. record { file = file_at o row.file; line = row.line }) e

  first_or : (n : ℕ) (l : Lines) (o : Option Row) (later : Option Spot) (other : Option Located) → slice_get tables n ≡ Some l → as_line later ≡ option_map line_of other
      → as_line (option_or (option_map (spot_of n) o) later) ≡ option_map line_of (option_or (option_map (λ row. record { lines = l; row = row }) o) other)
  first_or n l (Some row) later other e same = ap Some (in_program n l row e)
  first_or n l None later other e same = same

  placed : (n : ℕ) (programs : List (ℕ × Program)) (address : ℕ) → drop n tables ≡ readable programs → as_line (spot_from n (readable programs) address) ≡ option_map line_of (located_among programs address)
  placed n [] address e = refl
  placed n ((at, Read l) ∷ programs) address e =
      first_or n l (place address l.sequences) (spot_from (suc n) (readable programs) address) (located_among programs address) (there n l (readable programs) tables e) (placed (suc n) programs address (rest n l (readable programs) tables e))
  placed n ((at, Unreadable) ∷ programs) address e = placed n programs address e

module _ (tables : List Lines) (x : SourceInformation) (are : tables ≡ readable (programs_of x.sections x.units)) (m : Module) where
  spot_is : (address : ℕ) → option_map (spot_line tables) (spot tables address) ≡ option_map line_of (located_at x.sections x.units address)
  unfolding spot
  spot_is address =
      ap (λ ts. option_map (spot_line tables) (spot_from 0 ts address)) are ∙ placed tables 0 (programs_of x.sections x.units) address are
      ∙ ap (option_map line_of) (by_units x.sections x.units address)

  line_is : (at : Option Place) → option_map (spot_line tables) (fallen tables m at) ≡ source_line x m at
  line_is None = refl
  line_is (Some p) = spot_is (address_of m p)

  falls : (q : SourceLine) (o : Option Spot) → falls_on q (option_map (spot_line tables) o) ≡ spot_falls_on tables q o
  falls q None = refl
  falls q (Some s) = refl

  none : (o : Option Spot) → is_none (option_map (spot_line tables) o) ≡ is_none o
  none None = refl
  none (Some s) = refl

  counted_from : {A B S : Type 0} (p : A → Bool) (q : B → Bool) (f : S → A) (g : S → B) → ((s : S) → p (f s) ≡ q (g s)) → (xs : List S) (k : ℕ) → fold (λ n x. n + cond (p x) 1 0) k (map f xs) ≡ fold (λ n x. n + cond (q x) 1 0) k (map g xs)
  counted_from p q f g same [] k = refl
  counted_from p q f g same (x ∷ xs) k = ap (λ b. fold (λ n x. n + cond (p x) 1 0) (k + cond b 1 0) (map f xs)) (same x) ∙ counted_from p q f g same xs (k + cond (q (g x)) 1 0)

  counted_alike : {A B S : Type 0} (p : A → Bool) (q : B → Bool) (f : S → A) (g : S → B) → ((s : S) → p (f s) ≡ q (g s)) → (xs : List S) → count_by p (map f xs) ≡ count_by q (map g xs)
  counted_alike p q f g same xs = counted_from p q f g same xs 0

  mapped : {A B : Type 0} (f : A → B) (xs : List A) → length (map f xs) ≡ length xs
  mapped f [] = refl
  mapped f (x ∷ xs) = ap suc (mapped f xs)

  module _ (seen : List (Option Place)) where
    on_line : (q : SourceLine) → count_by (falls_on q) (map (source_line x m) seen) ≡ count_by (spot_falls_on tables q) (map (fallen tables m) seen)
    on_line q = counted_alike (falls_on q) (spot_falls_on tables q) (source_line x m) (fallen tables m) (λ at. ap (falls_on q) (sym (line_is at)) ∙ falls q (fallen tables m at)) seen

    on_none : count_by is_none (map (source_line x m) seen) ≡ count_by is_none (map (fallen tables m) seen)
    on_none = counted_alike is_none is_none (source_line x m) (fallen tables m) (λ at. ap is_none (sym (line_is at)) ∙ none (fallen tables m at)) seen

    as_many : length (map (source_line x m) seen) ≡ length (map (fallen tables m) seen)
    as_many = mapped (source_line x m) seen ∙ sym (mapped (fallen tables m) seen)

    module _ (c : Covered) (covers : Covers c (map (fallen tables m) seen)) where
      and_none : (n : ℕ) → n ≡ n + 0
      and_none n = omega arith

      sum_is : (q : SourceLine) → merged tables c.lines q ≡ count_by (falls_on q) (map (source_line x m) seen)
      sum_is q = and_none (merged tables c.lines q) ∙ covers.sums (spot_falls_on tables q) ∙ sym (on_line q)

      small : (q : SourceLine) → length seen < 2 ^ 64 → merged tables c.lines q < 2 ^ 64
      small q few =
          let most : count_by (falls_on q) (map (source_line x m) seen) ≤ length (map (source_line x m) seen) = count_by-le-length (falls_on q) (map (source_line x m) seen) in
          let same = sum_is q in
          let all = mapped (source_line x m) seen in
          omega (arith, most, same, all, few)

      -- what was written behind the ending
      pub covered : (counts : BTreeMap NamedLine ℕ) (before behind after : List ℕ) → length seen < 2 ^ 64
          → ((q : SourceLine) → merged tables c.lines q < 2 ^ 64 → counted_on counts q ≡ merged tables c.lines q)
          → (AllByRecursion (λ (l : LineCount). 0 < l.steps) c.lines → HaveSteps counts)
          → IsOrdered file_line_cmp counts
          → behind ≡ before ++ flat_map count_text (seen_counts counts.entries)
          → after ≡ behind ++ sums_text c.unplaced c.steps
          → CoverText before (map (source_line x m) seen) after
      covered counts before behind after few sums some ordered text ends = record {
        counts = seen_counts counts.entries;
        are = record {
          ascend = seen_sorted counts.entries ordered;
          have_steps = λ q n at. some covers.counted q n (sym (seen_lookup q counts.entries) ∙ at);
          steps = λ q. ap (λ o. unwrap_or o 0) (seen_lookup q counts.entries) ∙ sums q (small q few) ∙ sum_is q;
        };
        is = ends ∙ ap₂ (λ t u. t ++ u) text (ap₂ sums_text (covers.unplaced ∙ sym on_none) (covers.steps ∙ sym as_many));
      }

      -- the same as the code comes to it
      pub covered_by : (counts : BTreeMap NamedLine ℕ) (before behind after : List ℕ) (told : List LineCount) (unplaced steps : ℕ) → told ≡ c.lines → unplaced ≡ c.unplaced → steps ≡ c.steps → length seen < 2 ^ 64
          → ((q : SourceLine) → merged tables told q < 2 ^ 64 → counted_on counts q ≡ merged tables told q)
          → (AllByRecursion (λ (l : LineCount). 0 < l.steps) told → HaveSteps counts)
          → IsOrdered file_line_cmp counts
          → behind ≡ before ++ flat_map count_text (seen_counts counts.entries)
          → after ≡ behind ++ sums_text unplaced steps
          → CoverText before (map (source_line x m) seen) after
      covered_by counts before behind after told unplaced steps is none_is all_is few sums some ordered text ends =
          covered counts before behind after few
          (subst (λ ls. (q : SourceLine) → merged tables ls q < 2 ^ 64 → counted_on counts q ≡ merged tables ls q) is sums)
          (subst (λ ls. AllByRecursion (λ (l : LineCount). 0 < l.steps) ls → HaveSteps counts) is some)
          ordered text (ends ∙ ap₂ (λ u n. behind ++ sums_text u n) none_is all_is)

pub map_on_ok : {T E : Type 0} (r : Result T E) (P Q : Type 0) → (P → Q) → OnOk r P → OnOk r Q
map_on_ok (Ok x) P Q to y = to y
map_on_ok (Err e) P Q to y = tt
