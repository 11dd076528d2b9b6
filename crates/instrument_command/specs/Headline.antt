-- What files hold where `instrument` is done.
use Rattle.std.specs.Prelude.{◌≡◌, ℕ, List, Some, Ok}
use Rattle.pm_outside.specs.Contents.{Contents}
use Rattle.wasm_syntax.specs.declared.module.ModuleParts.{ModuleParts as Module}
use Rattle.wasm_syntax.specs.Valid.{Valid}
use Rattle.wasm_decode.specs.Decode.{module_from}
use Rattle.rewrite_promise.specs.Admitted.{Admits}

-- The file that was read held a valid module, and the one that was written holds bytes that are admitted for it: they decode as a module that
-- does what this one does, on equal replies of its host, and hands over the dump of each trap.
pub record HoldsRewriting (source out : List ℕ) (old new : Contents) : Type 0 where
  pub bytes : List ℕ
  pub was_read : old source ≡ Some bytes
  pub taken : Module
  pub decoded : module_from bytes ≡ Ok taken
  pub valid : Valid taken
  pub written : List ℕ
  pub holds : new out ≡ Some written
  pub admitted : Admits taken written
