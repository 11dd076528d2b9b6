-- Valid programs, and what their runs keep (Core, appendix "Soundness").
use Rattle.std.specs.Prelude.{◌≡◌, ℕ, List, [], ◌∷◌, map, length, Option, Some, None, slice_get}
use Rattle.wasm_syntax.specs.declared.parts.FuncType.{FuncType}
use Rattle.wasm_syntax.specs.declared.parts.Limits.{Limits}
use Rattle.wasm_syntax.specs.declared.module.ModuleParts.{ModuleParts as Module}
use Rattle.wasm_syntax.specs.Numbers.{types}
use Rattle.wasm_syntax.specs.Module.{Program, IsProgram, type_at}
use Rattle.wasm_syntax.specs.Valid.{Valid}
use Rattle.wasm_syntax.specs.Host.{World}
use Rattle.wasm_syntax.specs.Machine.{Stepped, next, ends, traps, no_reply, bad_reply, stuck}
use Rattle.linear_memory.specs.Memory.{Memory}

-- a valid module with the trees that its bodies write out
pub record ValidProgram (p : Program) : Type 0 where
  pub writes : IsProgram p
  pub paired : length p.module_.bodies ≡ length p.module_.functions
  pub valid : Valid p.module_

-- a memory is there exactly where one is declared
abbrev pub MemoryFits : List Limits → Option Memory → Type 0
MemoryFits [] o = o ≡ None
MemoryFits (l ∷ ls) None = ⊥
MemoryFits (l ∷ ls) (Some m) = Unit {0}

-- each global has a value of its type, and what is in the table is a function
pub record WorldFits (m : Module) (w : World) : Type 0 where
  pub globals : types w.globals ≡ map (λ g. g.vtype) m.globals
  pub memory : MemoryFits m.memories w.memory
  pub table : (i g : ℕ) → slice_get w.table i ≡ Some (Some g) → (type : FuncType) × (type_at m g ≡ Some type)

-- it is not stuck, and where it ends or traps, the world fits
abbrev pub RunFits : Module → Stepped → Type 0
RunFits m (next c) = Unit {0}
RunFits m (ends w vs co) = WorldFits m w
RunFits m (traps k c) = WorldFits m c.world
RunFits m (no_reply call c) = Unit {0}
RunFits m (bad_reply call r c) = Unit {0}
RunFits m stuck = ⊥
