-- The table where an instance starts, filled segment by segment.
use Rattle.std.specs.Prelude.{ℕ, List, length, map, take, Option, Some}
use Rattle.wasm_syntax.specs.Run.{over}

-- the entries that lie inside of the table are put over it
abbrev pub put_inside : List (Option ℕ) → ℕ → List ℕ → List (Option ℕ)
put_inside table at functions = take (length table) (over table at (map Some functions))
