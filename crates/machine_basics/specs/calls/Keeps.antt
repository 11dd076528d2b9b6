-- What an instruction leaves as it is.
use Rattle.std.specs.Prelude.{◌≡◌, List, length}
use Rattle.wasm_syntax.specs.declared.value.Value.{Value}
use Rattle.wasm_syntax.specs.Effect.{Effect, gives, fails, unfit}
use Rattle.wasm_syntax.specs.Host.{World}

pub record Keeps (w : World) (locals : List Value) (w' : World) (locals' : List Value) : Type 0 where
  pub locals_count : length locals' ≡ length locals
  pub globals_count : length w'.globals ≡ length w.globals
  pub table : w'.table ≡ w.table
  pub replies : w'.replies ≡ w.replies
  pub served : w'.served ≡ w.served

-- what an effect gives has the same number of locals and globals, and the same table, replies and served calls
abbrev pub EffectKeeps : World → List Value → Effect → Type 0
EffectKeeps w ls (gives w' ls' vs) = Keeps w ls w' ls'
EffectKeeps w ls (fails kind) = Unit {0}
EffectKeeps w ls unfit = Unit {0}
