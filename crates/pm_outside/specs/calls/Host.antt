-- What real files are seen as.
use Rattle.std.specs.Prelude.{ℕ, List}

-- the names created, and how often a call has failed
pub record RealFiles : Type 0 where
  pub created : List (List ℕ)
  pub faults : ℕ
