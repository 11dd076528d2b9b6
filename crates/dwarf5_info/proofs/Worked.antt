-- Worked expressions, by computation. The answers are those of a program written apart from these definitions.
use Rattle.std.specs.Prelude.{◌≡◌, ℕ, [], ◌∷◌, map, Option, Some, None, ◌==◌, if◌then◌else◌, refl}
use Rattle.wasm_leb.specs.Reading.{unsigned_at, u64_at, signed_at, s64_at, last_signed}
use Rattle.wasm_bytes.specs.Reading.{byte_item, run_item, u64_item, s64_item}
use Rattle.dwarf_bytes.specs.Items.{number_item}
use Rattle.dwarf_bytes.specs.Format.{read}
use Rattle.dwarf_expr.specs.Operators.{behind}
use Rattle.dwarf5_info.specs.Plain.{address_item, plain, plain_from}

-- a table with one entry, 8, of index 1
abbrev table : ℕ → Option ℕ
table index = if index == 1 then Some 8 else None

-- replaced; between others; without an entry, and then replaced; behind an operator that is not known; inside an operand; cut; behind
-- a cut operator; behind a deref_size of another size
plains : map (plain table)
    ((0xa1 ∷ 0x01 ∷ []) ∷ (0x31 ∷ 0xa1 ∷ 0x01 ∷ 0x22 ∷ []) ∷ (0xa1 ∷ 0x02 ∷ 0xa1 ∷ 0x01 ∷ []) ∷ (0xe0 ∷ 0xa1 ∷ 0x01 ∷ []) ∷ (0x03 ∷ 0xa1 ∷ 0x01 ∷ 0x00 ∷ 0x00 ∷ []) ∷ (0x31 ∷ 0xa1 ∷ 0x80 ∷ []) ∷ (0x0a ∷ 0xa1 ∷ []) ∷ (0x94 ∷ 0x03 ∷ 0xa1 ∷ 0x01 ∷ []) ∷ [] ∷ [])
    ≡ (0x03 ∷ 0x08 ∷ 0x00 ∷ 0x00 ∷ 0x00 ∷ []) ∷ (0x31 ∷ 0x03 ∷ 0x08 ∷ 0x00 ∷ 0x00 ∷ 0x00 ∷ 0x22 ∷ []) ∷ (0xa1 ∷ 0x02 ∷ 0x03 ∷ 0x08 ∷ 0x00 ∷ 0x00 ∷ 0x00 ∷ []) ∷ (0xe0 ∷ 0xa1 ∷ 0x01 ∷ []) ∷ (0x03 ∷ 0xa1 ∷ 0x01 ∷ 0x00 ∷ 0x00 ∷ []) ∷ (0x31 ∷ 0xa1 ∷ 0x80 ∷ []) ∷ (0x0a ∷ 0xa1 ∷ []) ∷ (0x94 ∷ 0x03 ∷ 0x03 ∷ 0x08 ∷ 0x00 ∷ 0x00 ∷ 0x00 ∷ []) ∷ [] ∷ []
unfolding plain plain_from address_item behind read number_item u64_item byte_item run_item s64_item unsigned_at u64_at signed_at s64_at last_signed
plains = refl
