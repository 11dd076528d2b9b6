-- Bytes in parts between separators.
use Rattle.std.specs.Prelude.{ℕ, ◌==◌, List, [], Option, Some, None}
use Rattle.std.specs.List.{slice_split}
use Rattle.std.proofs.Common.{Bor}

-- the parts of what stands behind a separator
abbrev pub parts_behind : ℕ → Option (Bor (List ℕ)) → List (List ℕ)
parts_behind separator None = []
parts_behind separator (Some rest) = slice_split (λ b. b == separator) rest.now
