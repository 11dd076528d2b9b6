-- Reading a file whole.
use Rattle.std.specs.Prelude.{◌≡◌, ℕ, ◌<◌, List, length, Option, None, IsSomeAnd}
use Rattle.pm_outside.specs.declared.whole.FileError.{FileError}
use Rattle.pm_outside.specs.declared.whole.FileError.TheVariants as errors

-- what a refusal to read a file says of it
abbrev pub Refuses : ℕ → Option (List ℕ) → FileError → Type 0
Refuses limit file errors.Missing = file ≡ None
Refuses limit file errors.TooLong = IsSomeAnd file (λ bytes. limit < length bytes)
Refuses limit file errors.Failed = Unit {0}
Refuses limit file errors.NoMemory = Unit {0}
