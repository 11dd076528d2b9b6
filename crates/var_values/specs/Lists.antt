-- Lists of the values of a variant (DWARF 4, 5.5.9 and 7.18): labels, which are one value, and ranges.
use Rattle.std.specs.Prelude.{ℕ, zero, suc, ◌==◌, ◌&&◌, ◌||◌, Bool, false, ℤ, pos, int_le, Ok, Err, if◌then◌else◌}
use Rattle.wasm_bytes.specs.Place.{Place, Read}
use Rattle.wasm_bytes.specs.Reading.{◌>>=◌, ◌⊗◌, mapped, u64_item, s64_item}

-- as the type of the discriminant has its numbers
abbrev pub value_item : Bool → Place → Read ℤ
value_item signed p = if signed then s64_item p else mapped pos u64_item p

-- the least value and the greatest one, behind their descriptor
abbrev pub range_by : Bool → ℕ × Place → Read (ℤ × ℤ)
range_by signed d =
    if d.0 == 0 then mapped (λ z. (z, z)) (value_item signed) d.1
    else (if d.0 == 1 then (value_item signed ⊗ value_item signed) d.1
    else Err d.1.at)

unfoldable pub range_item : Bool → Place → Read (ℤ × ℤ)
range_item signed p = u64_item p >>= range_by signed

abbrev pub is_in : ℤ → ℤ × ℤ → Bool
is_in z range = int_le range.0 z && int_le z range.1

abbrev pub in_or : (Place → Bool) → ℤ → Read (ℤ × ℤ) → Bool
in_or more z (Ok r) = is_in z r.0 || more r.1
in_or more z (Err at) = false

-- a number is in the first n labels and ranges, up to one that has no reading
unfoldable pub is_listed : ℕ → Bool → ℤ → Place → Bool
is_listed zero signed z p = false
is_listed (suc n) signed z p = in_or (is_listed n signed z) z (range_item signed p)
