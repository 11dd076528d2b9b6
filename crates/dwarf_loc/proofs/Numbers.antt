-- Addresses past the end of a table.
use Rattle.std.proofs.Common.{◌≡◌, ℕ, ◌-◌, ◌<◌, List, length, None, refl, arith}
use Rattle.wasm_bytes.specs.Reading.{run_item}
use Rattle.dwarf_bytes.specs.Items.{number_item, read_at}

pub past_section : (section : List ℕ) (at : ℕ) → length section < at → read_at (number_item 4) section at ≡ None
unfolding number_item run_item
past_section section at past = let none : length section - at ≡ 0 = omega arith in rw none refl
