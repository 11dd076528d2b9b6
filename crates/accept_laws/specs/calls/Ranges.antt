-- The numbers of a module that a dump of it shows as they are.
use Rattle.std.specs.Prelude.{◌≡◌, ◌<◌, ◌^◌, [], Some}
use Rattle.std.specs.List.{AllByRecursion}
use Rattle.wasm_syntax.specs.declared.value.Value.{Value}
use Rattle.wasm_syntax.specs.declared.module.ModuleParts.{ModuleParts as Module}
use Rattle.wasm_syntax.specs.Numbers.{IsValue}
use Rattle.wasm_syntax.specs.Module.{const_value}

-- Offsets of instructions are numbers of 32 bits, and the first value of a global is one of its type, as in each module that is decoded.
pub record InRanges (m : Module) : Type 0 where
  pub offsets : AllByRecursion (λ body. AllByRecursion (λ o. o.at < 2 ^ 32) body.ops) m.bodies
  pub globals : AllByRecursion (λ g. (v : Value) → const_value [] g.init.ops ≡ Some v → IsValue v) m.globals
