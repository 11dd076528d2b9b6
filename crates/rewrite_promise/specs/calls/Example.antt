-- The bytes of the example (Core 5.5), which exports its one function, a division of signed numbers, as `div`.
use Rattle.std.specs.Prelude.{ℕ, List, [], ◌∷◌, ◌++◌}
use Rattle.wasm_bytes.specs.Tables.{header}

-- one type, with two i32 and an i32
abbrev types : List ℕ
types = 0x01 ∷ 0x07 ∷ 0x01 ∷ 0x60 ∷ 0x02 ∷ 0x7f ∷ 0x7f ∷ 0x01 ∷ 0x7f ∷ []

abbrev functions : List ℕ
functions = 0x03 ∷ 0x02 ∷ 0x01 ∷ 0x00 ∷ []

abbrev exports : List ℕ
exports = 0x07 ∷ 0x07 ∷ 0x01 ∷ 0x03 ∷ 0x64 ∷ 0x69 ∷ 0x76 ∷ 0x00 ∷ 0x00 ∷ []

-- `local.get 0`, `local.get 1`, `i32.div_s`, `end`
abbrev code : List ℕ
code = 0x0a ∷ 0x09 ∷ 0x01 ∷ 0x07 ∷ 0x00 ∷ 0x20 ∷ 0x00 ∷ 0x20 ∷ 0x01 ∷ 0x6d ∷ 0x0b ∷ []

abbrev pub divider_bytes : List ℕ
divider_bytes = header ++ (types ++ (functions ++ (exports ++ code)))
