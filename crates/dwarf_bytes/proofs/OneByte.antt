-- A byte is a number of one byte.
use Rattle.std.proofs.Common.{◌≡◌, ℕ, suc, ◌-◌, true, false, leb, List, ◌∷◌, length, take, drop, get_or, Some, refl, inl, inr, drop-cons, arith}
use Rattle.std.specs.List.{slice_get}
use Rattle.std.proofs.lemmas.Bool.{cases_lt}
use Rattle.std.proofs.lemmas.Option.{slice_get-get_or, slice_get_past}
use Rattle.wasm_bytes.specs.Place.{Place}
use Rattle.wasm_bytes.specs.Reading.{byte_item, run_item}
use Rattle.dwarf_bytes.specs.Items.{little_endian, number_item}

one_byte : (b : ℕ) (bs : List ℕ) → little_endian (take 1 (b ∷ bs)) ≡ b
one_byte b bs = omega arith

pub byte_is_number : (p : Place) → number_item 1 p ≡ byte_item p
unfolding number_item run_item byte_item
byte_is_number p = elim (cases_lt p.at (length p.block)) [
  | inl lt ↦
      let room : leb 1 (length p.block - p.at) ≡ true = grind (arith, lt) in
      let here : slice_get p.block p.at ≡ Some (get_or p.block p.at 0) = slice_get-get_or p.block p.at 0 lt in
      let first : drop p.at p.block ≡ get_or p.block p.at 0 ∷ drop (suc p.at) p.block = drop-cons p.block p.at 0 lt in
      rw (room, here, first, one_byte (get_or p.block p.at 0) (drop (suc p.at) p.block)) refl
  | inr le ↦
      let room : leb 1 (length p.block - p.at) ≡ false = grind (arith, le) in
      rw (room, slice_get_past p.block p.at le) refl
]
