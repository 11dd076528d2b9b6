-- A place in a block of bytes, and what reading there gives.
use Rattle.std.specs.Prelude.{ℕ, ◌<◌, ◌≤◌, ◌≡◌, List, Result}

-- The block is all bytes of the input up to the block's end, so that a place counts from the input's first byte.
pub record Place : Type 0 where
  pub block : List ℕ
  pub at : ℕ

-- what is read and the place behind it, or the offset of the first item without a reading
abbrev pub Read : Type 0 → Type 0
Read A = Result (A × Place) ℕ

-- The place went on in the same block.
abbrev pub Moves : Place → Place → Type 0
Moves old new = (old.at < new.at) × (new.block ≡ old.block)

-- The place went on, or stands where it stood.
abbrev pub Stays : Place → Place → Type 0
Stays old new = (old.at ≤ new.at) × (new.block ≡ old.block)
