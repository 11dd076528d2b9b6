-- One ASCII byte is a text.
use Rattle.std.proofs.Common.{ℕ, zero, suc, ◌<◌, [], ◌∷◌, lit<}
use Rattle.std.specs.Prelude.{slice_index}
use Rattle.std.specs.Str.{IsUtf8}
use Rattle.std.proofs.lemmas.Str.{IsUtf8-from_ascii}

ascii : (b : ℕ) → b < 128 → (i : ℕ) → slice_index (b ∷ []) i < 128
ascii b lt zero = lt
ascii b lt (suc i) = lit< tt

pub one_ascii : (b : ℕ) → b < 128 → IsUtf8 (b ∷ [])
one_ascii b lt = IsUtf8-from_ascii (b ∷ []) (ascii b lt)
