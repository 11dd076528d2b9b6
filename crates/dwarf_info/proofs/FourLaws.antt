-- Tables of abbreviations of version 4, by pairs that have the forms of their codes.
use Rattle.std.proofs.Common.{◌≡◌, ℕ, zero, suc, ◌+◌, ◌-◌, Bool, true, false, List, ◌∷◌, length, map, Option, Some, None, refl, sym, ap, ◌∙◌}
use Rattle.std.specs.Prelude.{◌==◌, option_map, Ok, Err}
use Rattle.wasm_bytes.specs.Place.{Place, Read}
use Rattle.wasm_bytes.specs.Reading.{◌>>=◌, ◌⊗◌, ◌▷◌, mapped, done_item, one_of_item, u64_item}
use Rattle.dwarf_bytes.specs.Items.{and_more, ended_from, ended_item}
use Rattle.dwarf_abbrev.specs.declared.abbrev.Pair.{Pair}
use Rattle.dwarf_abbrev.specs.Reading.{pair_of, is_end, behind_pair, pair_item, is_flag, is_one, behind_code, table_item, abbrev_of, abbrevs_item}
use Rattle.dwarf_info.specs.declared.form.Slot.{Slot}
use Rattle.dwarf_info.specs.declared.form.Shape.{Shape}
use Rattle.dwarf_info.specs.Forms.{forms4}
use Rattle.dwarf_info.specs.Version4.{slot_of, shape_in, shapes4_item}
use Rattle.dwarf_info.specs.calls.Keeping.{shape_of, row_item, rows_of}
use Rattle.dwarf_info.specs.calls.Rows4.{pair4}

-- ---- lists that an end mark ends, of values that are made of others

module _ {A B : Type 0} (to : A → B) where
  one_more : (x : A) (r : Read (List A)) → ((r >>= λ xs. Ok (map to xs.0, xs.1)) >>= λ xs. Ok (to x ∷ xs.0, xs.1)) ≡ ((r >>= λ xs. Ok (x ∷ xs.0, xs.1)) >>= λ xs. Ok (map to xs.0, xs.1))
  one_more x (Ok xs) = refl
  one_more x (Err at) = refl

  more_made : (f : Place → Read (List A)) (g : Place → Read (List B)) (o : Option A) (q : Place) → g q ≡ mapped (map to) f q → and_more g (option_map to o) q ≡ (and_more f o q >>= λ xs. Ok (map to xs.0, xs.1))
  more_made f g None q same = refl
  more_made f g (Some x) q same = ap (λ (r : Read (List B)). r >>= λ xs. Ok (to x ∷ xs.0, xs.1)) same ∙ one_more x (f q)

  turn_made : (f : Place → Read (List A)) (g : Place → Read (List B)) (r : Read (Option A)) → ((q : Place) → g q ≡ mapped (map to) f q)
      → ((r >>= λ x. Ok (option_map to x.0, x.1)) >>= λ x. and_more g x.0 x.1) ≡ ((r >>= λ x. and_more f x.0 x.1) >>= λ xs. Ok (map to xs.0, xs.1))
  turn_made f g (Ok x) same = more_made f g x.0 x.1 (same x.1)
  turn_made f g (Err at) same = refl

  ended_made : (f : Place → Read (Option A)) (g : Place → Read (Option B)) → ((p : Place) → g p ≡ mapped (option_map to) f p) → (n : ℕ) (p : Place) → ended_from g n p ≡ mapped (map to) (ended_from f n) p
  unfolding ended_from
  ended_made f g same zero p = refl
  ended_made f g same (suc n) p = ap (λ (r : Read (Option B)). r >>= λ x. and_more (ended_from g n) x.0 x.1) (same p) ∙ turn_made (ended_from f n) (ended_from g n) (f p) (ended_made f g same n)

-- ---- pairs

end_made : (x : Pair) (q : Place) (b : Bool) → is_end x ≡ b → behind_pair (λ y. done_item (slot_of forms4 y)) x q ≡ (behind_pair done_item x q >>= λ o. Ok (option_map (slot_of forms4) o.0, o.1))
end_made x q true e = rw e refl
end_made x q false e = rw e refl

pair_made : (r : Read Pair) → (r >>= λ x. behind_pair (λ y. done_item (slot_of forms4 y)) x.0 x.1) ≡ ((r >>= λ x. behind_pair done_item x.0 x.1) >>= λ o. Ok (option_map (slot_of forms4) o.0, o.1))
pair_made (Ok x) = end_made x.0 x.1 (is_end x.0) refl
pair_made (Err at) = refl

pair_is : (p : Place) → pair4 p ≡ mapped (option_map (slot_of forms4)) (pair_item done_item) p
unfolding pair_item
pair_is p = pair_made (mapped pair_of (u64_item ⊗ u64_item) p)

slots_are : (p : Place) → ended_item pair4 p ≡ mapped (map (slot_of forms4)) (ended_item (pair_item done_item)) p
unfolding ended_item
slots_are p = ended_made (slot_of forms4) (pair_item done_item) pair4 pair_is (length p.block + 1 - p.at) p

-- ---- rows

abbrev with_front : {A B : Type 0} → A → Read B → Read (A × B)
with_front x r = r >>= λ y. Ok ((x, y.0), y.1)

module _ (code : ℕ) (flag : Place → Read Bool) (f : Place → Read (List Pair)) (g : Place → Read (List Slot)) (same : (q : Place) → g q ≡ mapped (map (slot_of forms4)) f q) where
  abbrev shaped : Read (ℕ × (Bool × List Slot)) → Read (Option Shape)
  shaped r = r >>= λ x. Ok (Some (shape_of code x.0.0 x.0.1.0 x.0.1.1), x.1)

  -- the same of a row whose pairs have codes
  abbrev formed : Read (ℕ × (Bool × List Pair)) → Read (Option Shape)
  formed r = (r >>= λ x. Ok (Some (abbrev_of code x.0.0 x.0.1.0 x.0.1.1), x.1)) >>= λ o. Ok (option_map (shape_in forms4) o.0, o.1)

  with_pairs : (tag : ℕ) (children : Bool) (r : Read (List Pair))
      → shaped (with_front tag (with_front children (r >>= λ xs. Ok (map (slot_of forms4) xs.0, xs.1)))) ≡ formed (with_front tag (with_front children r))
  with_pairs tag children (Ok xs) = refl
  with_pairs tag children (Err at) = refl

  with_flag : (tag : ℕ) (r : Read Bool) → shaped (with_front tag (r >>= λ x. with_front x.0 (g x.1))) ≡ formed (with_front tag (r >>= λ x. with_front x.0 (f x.1)))
  with_flag tag (Ok x) = ap (λ (r : Read (List Slot)). shaped (with_front tag (with_front x.0 r))) (same x.1) ∙ with_pairs tag x.0 (f x.1)
  with_flag tag (Err at) = refl

  with_tag : (r : Read ℕ) → shaped (r >>= λ x. with_front x.0 ((flag ⊗ g) x.1)) ≡ formed (r >>= λ x. with_front x.0 ((flag ⊗ f) x.1))
  with_tag (Ok x) = with_flag x.0 (flag x.1)
  with_tag (Err at) = refl

code_made : (code : ℕ) (q : Place) (b : Bool) → (code == 0) ≡ b → behind_code shape_of pair4 code q ≡ (behind_code abbrev_of (pair_item done_item) code q >>= λ o. Ok (option_map (shape_in forms4) o.0, o.1))
code_made code q true e = rw e refl
code_made code q false e = rw e (with_tag code (mapped is_one (one_of_item is_flag)) (ended_item (pair_item done_item)) (ended_item pair4) slots_are (u64_item q))

row_made : (r : Read ℕ) → (r >>= λ x. behind_code shape_of pair4 x.0 x.1) ≡ ((r >>= λ x. behind_code abbrev_of (pair_item done_item) x.0 x.1) >>= λ o. Ok (option_map (shape_in forms4) o.0, o.1))
row_made (Ok x) = code_made x.0 x.1 (x.0 == 0) refl
row_made (Err at) = refl

pub rows_are : (p : Place) → shapes4_item p ≡ rows_of pair4 (length p.block + 1 - p.at) p
unfolding shapes4_item abbrevs_item table_item ended_item
rows_are p = sym (ended_made (shape_in forms4) (u64_item ▷ behind_code abbrev_of (pair_item done_item)) (row_item pair4) (λ q. row_made (u64_item q)) (length p.block + 1 - p.at) p)
