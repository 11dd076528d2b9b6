-- A module within the limits of the decoder on locals, nesting, table, memory and operands.
use Rattle.std.specs.Prelude.{◌≡◌, ℕ, ◌+◌, ◌<◌, ◌≤◌, List, length, slice_get, Some}
use Rattle.std.specs.List.{AllByRecursion}
use Rattle.wasm_syntax.specs.declared.quantity.Quantity.TheVariants.{Locals, Nesting, Table, Memory, Height}
use Rattle.wasm_syntax.specs.declared.value.ValType.{ValType}
use Rattle.wasm_syntax.specs.declared.parts.FuncType.{FuncType}
use Rattle.wasm_syntax.specs.declared.parts.Body.{Body}
use Rattle.wasm_syntax.specs.declared.module.ModuleParts.{ModuleParts as Module}
use Rattle.wasm_syntax.specs.Quantity.{greatest}
use Rattle.wasm_syntax.specs.Module.{type_at}
use Rattle.wasm_syntax.specs.FlatTyping.{TypesBefore}
use Rattle.wasm_syntax.specs.Sizes.{local_count, nesting}
use Rattle.wasm_syntax.specs.Valid.{AtIndex}

pub record LowSizes (m : Module) : Type 0 where
  pub locals : AtIndex m.bodies (λ i body. local_count (type_at m (length m.imports + i)) body ≤ greatest Locals)
  pub nested : AllByRecursion (λ body. nesting body ≤ greatest Nesting) m.bodies
  pub tables : AllByRecursion (λ l. l.min ≤ greatest Table) m.tables
  pub memories : AllByRecursion (λ l. l.min ≤ greatest Memory) m.memories

-- no function has more operands before a live instruction than validation admits
abbrev pub LowHeights : Module → Type 0
LowHeights m =
    (i op : ℕ) (body : Body) (type : FuncType) (types : List ValType) → slice_get m.bodies i ≡ Some body → op < length body.ops → type_at m (length m.imports + i) ≡ Some type → TypesBefore m type body op types → length types ≤ greatest Height
