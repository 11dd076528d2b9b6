-- Bytes of the recorded memory in lines.
use Rattle.std.specs.Prelude.{ℕ, ◌+◌, ◌*◌, ◌/◌, nat_le, List, ◌++◌, flat_map, length, Option, Some, None, if◌then◌else◌, codes}
use Rattle.std.specs.List.{range_with_len}
use Rattle.linear_memory.specs.Memory.{Memory, window}
use Rattle.pm_text.specs.Hex.{hex_padded}

abbrev pub row_bytes : ℕ
row_bytes = 16

abbrev pub byte_text : ℕ → List ℕ
byte_text b = codes " " ++ hex_padded 2 b

-- the bytes of a row behind the address of the first
unfoldable pub row_text : ℕ → List ℕ → List ℕ
row_text at row = hex_padded 8 at ++ codes ":" ++ flat_map byte_text row ++ codes "\n"

-- the row of a number, of bytes from an address on
abbrev pub row_of : ℕ → List ℕ → ℕ → List ℕ
row_of at bytes k = row_text (at + row_bytes * k) (window bytes (row_bytes * k) row_bytes)

abbrev pub row_count : ℕ → ℕ
row_count n = (n + 15) / row_bytes

unfoldable pub rows_text : ℕ → List ℕ → List ℕ
rows_text at bytes = flat_map (row_of at bytes) (range_with_len 0 (row_count (length bytes)))

abbrev pub bytes_text : List ℕ → ℕ → ℕ → List ℕ
bytes_text bytes at n = if nat_le (at + n) (length bytes) then rows_text at (window bytes at n) else codes "<outside memory>\n"

-- n bytes from an address on
abbrev pub examined_text : Option Memory → ℕ → ℕ → List ℕ
examined_text None at n = codes "<not recorded>\n"
examined_text (Some m) at n = bytes_text m.bytes at n
