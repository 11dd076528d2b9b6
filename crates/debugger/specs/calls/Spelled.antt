-- A word, and the path that it spells.
use Rattle.std.specs.Prelude.{ℕ, List}
use Rattle.var_path.specs.declared.path.Path.{Path}

pub record Spelled : Type 0 where
  pub word : List ℕ
  pub path : Path
