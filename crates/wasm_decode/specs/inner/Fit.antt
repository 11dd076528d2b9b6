-- What holds of every module that is spelled, and keeps its counts within the numbers of the machine.
use Rattle.std.specs.Prelude.{◌≡◌, ◌<◌, ◌^◌, length, map, sum}
use Rattle.std.specs.List.{AllByRecursion}
use Rattle.wasm_syntax.specs.declared.parts.Body.{Body}
use Rattle.wasm_syntax.specs.Sizes.{ShortType}
use Rattle.wasm_format.specs.declared.module.SpelledModule.{SpelledModule}

-- A function has fewer than 2 ^ 32 locals beside its parameters.
abbrev pub FewLocals : Body → Type 0
FewLocals body = sum (map (λ g. g.count) body.groups) < 2 ^ 32

pub record Fit (s : SpelledModule) : Type 0 where
  pub imports : length s.imports < 2 ^ 32
  pub types : AllByRecursion ShortType s.parts.types
  pub few : AllByRecursion FewLocals s.parts.bodies
  pub same : length s.parts.functions ≡ length s.parts.bodies
