-- Tables of abbreviations, row by row.
use Rattle.std.proofs.Common.{◌≡◌, ℕ, zero, suc, ◌+◌, ◌-◌, ◌<◌, ◌≤◌, List, [], ◌∷◌, ◌++◌, length, Option, Some, None, refl, sym, ap, subst, ◌∙◌, arith}
use Rattle.std.specs.Prelude.{option_map, IfSome, Result, Ok, Err}
use Rattle.wasm_bytes.specs.declared.faults.ItemFault.{ItemFault}
use Rattle.wasm_bytes.specs.declared.faults.ItemFault.TheVariants as faults
use Rattle.wasm_bytes.specs.Place.{Place, Read}
use Rattle.wasm_bytes.specs.calls.Answers.{Fails, Gives}
use Rattle.wasm_bytes.specs.Reading.{◌>>=◌}
use Rattle.dwarf_bytes.specs.Items.{ended_from, reading_of, read_at}
use Rattle.dwarf_abbrev.specs.calls.Shared.{list_of}
use Rattle.dwarf_abbrev.proofs.LinkLaws.{list_front}
use Rattle.dwarf_info.specs.declared.form.Shape.{Shape}
use Rattle.dwarf_info.specs.declared.form.Slot.{Slot}
use Rattle.dwarf_info.specs.declared.tables.PlacedRow.{PlacedRow}
use Rattle.dwarf_info.specs.calls.Keeping.{Rows, FirstRow, IsTable, row_item, rows_of}
use Rattle.dwarf_info.specs.inner.Rows.{IsRow, Leads}

-- ---- a list that an end mark ends, by its first item

module _ {A : Type 0} (f : Place → Read (Option A)) (p q : Place) where
  more_read : (x : A) (r : Read (List A)) → reading_of (r >>= λ xs. Ok (x ∷ xs.0, xs.1)) ≡ option_map (λ more. x ∷ more) (reading_of r)
  more_read x (Ok xs) = refl
  more_read x (Err at) = refl

  pub first_read : (x : A) (n : ℕ) → f p ≡ Ok (Some x, q) → reading_of (ended_from f (suc n) p) ≡ option_map (λ more. x ∷ more) (reading_of (ended_from f n q))
  unfolding ended_from
  first_read x n e = rw e (more_read x (ended_from f n q))

  pub end_read : (n : ℕ) → f p ≡ Ok (None, q) → reading_of (ended_from f (suc n) p) ≡ Some []
  unfolding ended_from
  end_read n e = rw e refl

  pub none_read : (at n : ℕ) → f p ≡ Err at → reading_of (ended_from f (suc n) p) ≡ None
  unfolding ended_from
  none_read at n e = rw e refl

-- ---- first rows

module _ (f : Place → Read (Option Shape)) (p q : Place) where
  pub plain_gives : (o : Option Shape) → f p ≡ Ok (o, q) → FirstRow (ended_from f) p (Ok o) q
  plain_gives (Some x) e = λ n. first_read f p q x n e
  plain_gives None e = λ n. end_read f p q n e

  pub plain_fails : (e : ItemFault) → Fails e (f p) → FirstRow (ended_from f) p (Err e) q
  plain_fails (faults.At at) h = λ n. none_read f p q at n h
  plain_fails faults.NoMemory h = tt

pub first_row : (pair : Place → Read (Option Slot)) (p q : Place) (row : Result (Option Shape) ItemFault) → Gives row q (row_item pair p) → FirstRow (rows_of pair) p row q
first_row pair p q (Ok o) h = plain_gives (row_item pair) p q o h
first_row pair p q (Err e) h = plain_fails (row_item pair) p q e h

-- ---- rows that lead from one offset to another

pub place_is : (p : Place) (section : List ℕ) → p.block ≡ section → p ≡ record { block = section; at = p.at }
place_is p section e = ap (λ (b : List ℕ). record { block = b; at = p.at }) e

module _ (rows : Rows) (section : List ℕ) where
  pub is_row : (at next : ℕ) (shape : Shape) (p q : Place) → p ≡ record { block = section; at = at } → q ≡ record { block = section; at = next } → at ≤ length section → at < next
      → ((n : ℕ) → reading_of (rows (suc n) p) ≡ option_map (λ more. shape ∷ more) (reading_of (rows n q))) → IsRow rows section at shape next
  is_row at next shape p q ep eq inside moves reads = record {
    inside = inside;
    moves = moves;
    reads = λ n. ap (λ (x : Place). reading_of (rows (suc n) x)) (sym ep) ∙ reads n ∙ ap (λ (x : Place). option_map (λ more. shape ∷ more) (reading_of (rows n x))) eq;
  }

  -- the table at a place of which every count of rows gives the same
  pub first_table : (at : ℕ) (p : Place) (table : Option (List Shape)) → p ≡ record { block = section; at = at } → at ≤ length section → ((n : ℕ) → reading_of (rows (suc n) p) ≡ table) → IsTable rows section at table
  first_table at p table ep inside reads zero room = absurd (omega (arith, room, inside))
  first_table at p table ep inside reads (suc n) room = ap (λ (x : Place). reading_of (rows (suc n) x)) (sym ep) ∙ reads n

  pub leads_on : (rs : List PlacedRow) (at to next : ℕ) (r : PlacedRow) → Leads rows section rs at to → r.at ≡ to → IsRow rows section to r.shape next → Leads rows section (rs ++ r ∷ []) at next
  leads_on [] at to next r same placed row = (next, placed ∙ sym same, subst (λ (n : ℕ). IsRow rows section n r.shape next) (sym same) row, refl)
  leads_on (x ∷ rs) at to next r led placed row = (led.0, led.1, led.2, leads_on rs led.0 to next r led.3 placed row)

  pub leads_back : (rs : List PlacedRow) (at to : ℕ) (r : PlacedRow) → Leads rows section (rs ++ r ∷ []) at to → Leads rows section rs at r.at × IsRow rows section r.at r.shape to
  leads_back [] at to r led = (sym led.1, subst (λ (n : ℕ). IsRow rows section n r.shape to) (sym led.1) (subst (λ (n : ℕ). IsRow rows section at r.shape n) led.3 led.2))
  leads_back (x ∷ rs) at to r led =
      let more = leads_back rs led.0 to r led.3 in
      ((led.0, led.1, led.2, more.0), more.1)

  -- No row is left.
  pub leads_end : (rs : List PlacedRow) (at to : ℕ) → (0 < length rs → ⊥) → Leads rows section rs at to → at ≡ to
  leads_end [] at to none led = led
  leads_end (r ∷ rs) at to none led = absurd (none (omega arith))

  -- the table that begins with a row
  pub with_first : (at next : ℕ) (shape : Shape) (table : Option (List Shape)) → IsRow rows section at shape next → IsTable rows section next table → IsTable rows section at (option_map (λ more. shape ∷ more) table)
  with_first at next shape table row behind zero room = absurd (omega (arith, room, row.inside))
  with_first at next shape table row behind (suc n) room = row.reads n ∙ ap (option_map (λ more. shape ∷ more)) (behind n (omega (arith, room, row.moves, row.inside)))

  -- The last row is taken away: it leads to the table that begins with it.
  pub last_table : (rs before : List PlacedRow) (r : PlacedRow) (at to : ℕ) (table : Option (List Shape)) → rs ≡ before ++ r ∷ [] → Leads rows section rs at to → IsTable rows section to table
      → Leads rows section before at r.at × IsTable rows section r.at (option_map (λ more. r.shape ∷ more) table)
  last_table rs before r at to table is led behind =
      let back = leads_back before at to r (subst (λ (xs : List PlacedRow). Leads rows section xs at to) is led) in
      (back.0, with_first r.at to r.shape table back.1 behind)

-- ---- tables that are read, row by row

pub none_of : (pair : Place → Read (Option Slot)) (p : Place) → reading_of (rows_of pair 0 p) ≡ None
unfolding ended_from
none_of pair p = refl

module _ (shapes : Place → Read (List Shape)) (rows : Rows) (are : (p : Place) → shapes p ≡ rows (length p.block + 1 - p.at) p) (section : List ℕ) where
  pub none_past : ((p : Place) → reading_of (rows 0 p) ≡ None) → (at : ℕ) → length section < at → read_at shapes section at ≡ None
  none_past none at past =
      let p : Place = record { block = section; at = at } in
      let zero : length section + 1 - at ≡ 0 = omega (arith, past) in
      ap reading_of (are p) ∙ ap (λ (n : ℕ). reading_of (rows n p)) zero ∙ none p

  pub table_read : (at : ℕ) (table : Option (List Shape)) → IsTable rows section at table → read_at shapes section at ≡ table
  table_read at table is =
      let p : Place = record { block = section; at = at } in
      ap reading_of (are p) ∙ is (length section + 1 - at) (omega arith)

-- ---- numbers of tables stay

pub number_front : {A : Type 0} (before more : List (List A)) (o : Option ℕ) → IfSome o (λ n. n ≤ length before) → option_map (list_of (before ++ more)) o ≡ option_map (list_of before) o
number_front before more None there = refl
number_front before more (Some n) there = ap Some (list_front before more n there)
