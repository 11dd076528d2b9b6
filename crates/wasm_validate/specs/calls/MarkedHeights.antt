-- The heights of operands, as the marks of the validation algorithm have them.
use Rattle.std.specs.Prelude.{◌≡◌, ℕ, ◌<◌, ◌≤◌, List, map, slice_get, Option, Some, None}
use Rattle.wasm_syntax.specs.declared.quantity.Quantity.TheVariants as quantities
use Rattle.wasm_syntax.specs.Quantity.{greatest}
use Rattle.validate_body.specs.declared.marks.Mark.{Mark}

abbrev pub height_or_zero : Option Mark → ℕ
height_or_zero None = 0
height_or_zero (Some k) = k.height

abbrev pub heights_of : List (List (Option Mark)) → List (List ℕ)
heights_of all = map (map height_or_zero) all

-- the greatest height of the marks, or 0
pub record IsGreatest (marks : List (Option Mark)) (n : ℕ) : Type 0 where
  pub most : (i : ℕ) (k : Mark) → slice_get marks i ≡ Some (Some k) → k.height ≤ n
  pub there : 0 < n → (i : ℕ) × (k : Mark) × (slice_get marks i ≡ Some (Some k)) × (k.height ≡ n)

abbrev pub LowMarks : List (Option Mark) → Type 0
LowMarks marks = (i : ℕ) (k : Mark) → slice_get marks i ≡ Some (Some k) → k.height ≤ greatest quantities.Height

-- the first list of marks with a greater height, and its greatest one
abbrev pub FirstHighMarks : List (List (Option Mark)) → Option ℕ → Type 0
FirstHighMarks all None = (i : ℕ) (marks : List (Option Mark)) → slice_get all i ≡ Some marks → LowMarks marks
FirstHighMarks all (Some n) =
    (i : ℕ) × (marks : List (Option Mark)) × (slice_get all i ≡ Some marks) × IsGreatest marks n × (greatest quantities.Height < n)
    × ((j : ℕ) (earlier : List (Option Mark)) → j < i → slice_get all j ≡ Some earlier → LowMarks earlier)
