-- How far bytes that have to be there take a place.
use Rattle.std.proofs.Common.{◌≡◌, ℕ, ◌+◌, ◌≤◌, List, [], ◌∷◌, length, Option, Some, None, ap, sym, inl, inr, arith}
use Rattle.std.specs.Prelude.{◌==◌, slice_get}
use Rattle.wasm_bytes.specs.Place.{Place}
use Rattle.wasm_bytes.specs.Reading.{◌>>=◌, byte_of, if_passes, byte_item, one_of_item, fixed_item, bytes_item}
use Rattle.wasm_bytes.specs.Laws.{got}
use Rattle.wasm_bytes.proofs.Places.{got_is, bind_ok}
use Rattle.wasm_leb.proofs.Tools.{chosen}
use Rattle.wasm_bytes.specs.Tables.{header}

byte_at : (o : Option ℕ) (p q : Place) (c : ℕ) → byte_of p o ≡ got c q → q.at ≡ p.at + 1
byte_at (Some b) p q c read = let same = got_is b c (record p { at = p.at + 1 }) q read in ap (λ (r : Place). r.at) (sym same.1)
byte_at None p q c read = absurd cc

fixed_at : (b : ℕ) (p q : Place) (u : Unit {0}) → fixed_item b p ≡ got u q → q.at ≡ p.at + 1
unfolding byte_item one_of_item fixed_item
fixed_at b p q u read =
    let made = bind_ok (byte_of p (slice_get p.block p.at) >>= if_passes (λ c. c == b) p.at) (λ x. got tt x.1) u q read in
    let tested = bind_ok (byte_of p (slice_get p.block p.at)) (if_passes (λ c. c == b) p.at) made.0 made.1 made.2 in
    let last = got_is tt u made.1 q made.3 in
    elim (chosen (tested.0 == b) _ _ (got made.0 made.1) tested.3) [
      | inl h ↦
          let same = got_is tested.0 made.0 tested.1 made.1 h.1 in
          let here = byte_at (slice_get p.block p.at) p tested.1 tested.0 tested.2 in
          omega (arith, here, ap (λ (r : Place). r.at) same.1, ap (λ (r : Place). r.at) last.1)
      | inr h ↦ absurd cc
    ]

bytes_at : (bs : List ℕ) (p q : Place) (u : Unit {0}) → bytes_item bs p ≡ got u q → q.at ≡ p.at + length bs
unfolding bytes_item
bytes_at [] p q u read = let same = got_is tt u p q read in omega (arith, ap (λ (r : Place). r.at) same.1)
bytes_at (b ∷ bs) p q u read =
    let one = bind_ok (fixed_item b p) (λ x. bytes_item bs x.1) u q read in
    omega (arith, fixed_at b p one.1 one.0 one.2, bytes_at bs one.1 q u one.3)

pub header_at : (p q : Place) (u : Unit {0}) → bytes_item header p ≡ got u q → 8 ≤ q.at
header_at p q u read = omega (arith, bytes_at header p q u read)
