-- Where the addresses are that the sequences of line programs take.
use Rattle.std.proofs.Common.{◌≡◌, ℕ, suc, Bool, true, false, cond, List, [], ◌∷◌, Option, Some, None, refl, ap, ◌∙◌}
use Rattle.std.specs.Prelude.{◌&&◌, not, nat_lt, nat_le, ◌==◌, filter, find, option_map, option_and_then, is_some}
use Rattle.std.specs.List.{reduce}
use Rattle.std.specs.Option.{option_or}
use Rattle.dwarf_line.specs.declared.lines.Row.{Row}
use Rattle.dwarf_line.specs.declared.lines.Sequence.{Sequence}
use Rattle.dwarf_line.specs.declared.lines.Lines.{Lines}
use Rattle.dwarf_line.specs.Place.{holds, holds_from, nearest, greater, place}
use Rattle.line_coverage.specs.declared.spots.Spot.{Spot}
use Rattle.line_coverage.specs.calls.Spots.{spot_of, spot_from, spot}
use Rattle.line_coverage.specs.inner.Placing.{Spotting, in_sequences, in_tables}

-- a sequence that holds an address has a row of it
row_there : (a : ℕ) (rows : List Row) (last : ℕ) → holds_from a rows last ≡ true → is_some (nearest a rows) ≡ true
row_there a [] last h = absurd cc
row_there a (first ∷ rows) last h = by (nat_le first.address a) (not (first.address == 0)) (nat_lt first.address 0xfffffffe) h
  where
    by : (b n k : Bool) → (n && (k && (b && nat_lt a last))) ≡ true → is_some (reduce greater (cond b (first ∷ filter (λ (r : Row). nat_le r.address a) rows) (filter (λ (r : Row). nat_le r.address a) rows))) ≡ true
    by true n k h = refl
    by false true true h = absurd cc
    by false true false h = absurd cc
    by false false k h = absurd cc

first_row : (table : ℕ) (o : Option Row) (others : Option Spot) → is_some o ≡ true → option_map (spot_of table) o ≡ option_or (option_map (spot_of table) o) others
first_row table None others h = absurd cc
first_row table (Some row) others h = refl

sequences_place : (table : ℕ) (ss : List Sequence) (others : Spotting) (a : ℕ) → in_sequences table ss others a ≡ option_or (option_map (spot_of table) (place a ss)) (others a)
unfolding place
sequences_place table [] others a = refl
sequences_place table (s ∷ ss) others a = by (holds a s) refl (sequences_place table ss others a)
  where
    by : (b : Bool) → holds a s ≡ b → in_sequences table ss others a ≡ option_or (option_map (spot_of table) (option_and_then (λ (s : Sequence). nearest a s.rows) (find (holds a) ss))) (others a)
        → cond b (option_map (spot_of table) (nearest a s.rows)) (in_sequences table ss others a) ≡ option_or (option_map (spot_of table) (option_and_then (λ (s : Sequence). nearest a s.rows) (cond b (Some s) (find (holds a) ss)))) (others a)
    by true h later = first_row table (nearest a s.rows) (others a) (row_there a s.rows s.«end» h)
    by false h later = later

tables_place : (table : ℕ) (ls : List Lines) (a : ℕ) → in_tables table ls (λ _. None) a ≡ spot_from table ls a
tables_place table [] a = refl
tables_place table (l ∷ ls) a = sequences_place table l.sequences (in_tables (suc table) ls (λ _. None)) a ∙ ap (option_or (option_map (spot_of table) (place a l.sequences))) (tables_place (suc table) ls a)

pub placed : (ls : List Lines) (a : ℕ) → in_tables 0 ls (λ _. None) a ≡ spot ls a
unfolding spot
placed ls a = tables_place 0 ls a
