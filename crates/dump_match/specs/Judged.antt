-- What the answer of a match says.
use Rattle.std.specs.Prelude.{◌≡◌, ◌<◌, ◌^◌, length, Result, Ok, Err}
use Rattle.wasm_syntax.specs.declared.module.ModuleParts.{ModuleParts as Module}
use Rattle.dump_format.specs.declared.dump.Dump.{Dump}
use Rattle.dump_format.specs.calls.Contained.{IsContained}
use Rattle.dump_match.specs.declared.mismatch.Mismatch.{Mismatch}
use Rattle.dump_match.specs.Matching.{Matches, FirstMismatch}

-- a module and a dump of it
pub record Match : Type 0 where
  pub module_ : Module
  pub dump : Dump

-- what is kept of the two
pub record Kept (m : Module) (dump : Dump) : Type 0 where
  pub matches : Matches m dump
  pub frames : length dump.frames < 2 ^ 32
  pub globals : length dump.globals < 2 ^ 32
  pub contained : IsContained dump

-- The dump matches, and both are lent; or the first test that fails.
abbrev pub Judged : Result Match Mismatch → Module → Dump → Type 0
Judged (Ok x) m dump = Matches m dump × (x.module_ ≡ m) × (x.dump ≡ dump)
Judged (Err row) m dump = FirstMismatch m dump row
