-- The bodies of the functions of a rewritten module.
use Rattle.std.specs.Prelude.{◌≡◌, List, map}
use Rattle.std.specs.List.{AllByRecursion}
use Rattle.wasm_syntax.specs.declared.parts.Body.{Body}
use Rattle.wasm_syntax.specs.declared.module.ModuleParts.{ModuleParts as Module}
use Rattle.unwind_rewrite.specs.calls.Rewritten.{Ascends}
use Rattle.wasm_syntax.specs.SameCode.{body_code}
use Rattle.rewrite_modules.specs.calls.Instrument.{new_module}
use Rattle.rewrite_modules.specs.Instrumentable.{program_of}
use Rattle.rewrite_promise.specs.calls.Promise.{Accepted}

-- The bodies are those of the rewriting of an accepted module, but for offsets: of its functions, of wrappers and of helpers.
pub record AreBodies (m : Module) (bodies : List Body) : Type 0 where
  pub accepted : Accepted m
  pub code : map body_code bodies ≡ map body_code (new_module (program_of m accepted.premises.whole)).bodies
  pub ascend : AllByRecursion Ascends bodies
