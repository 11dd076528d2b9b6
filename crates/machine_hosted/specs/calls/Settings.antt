-- What a run begins with.
use Rattle.std.specs.Prelude.{◌≡◌, ℕ, ◌+◌, ◌<◌, ◌≤◌, ◌^◌, Bool, true, List, [], length, option_map, slice_get, Some}
use Rattle.wasm_syntax.specs.declared.value.Value.{Value}
use Rattle.wasm_syntax.specs.declared.parts.Import.{Import}
use Rattle.wasm_syntax.specs.declared.parts.FuncType.{FuncType}
use Rattle.wasm_syntax.specs.declared.module.ModuleParts.{ModuleParts as Module}
use Rattle.wasm_syntax.specs.declared.host.Reply.{Reply}
use Rattle.wasm_syntax.specs.Numbers.{types}
use Rattle.wasm_syntax.specs.Module.{Program, IsProgram, IsModule, type_at}
use Rattle.wasm_syntax.specs.Valid.{Valid}
use Rattle.wasm_syntax.specs.Host.{World}
use Rattle.host_devices.specs.calls.HostSides.{Origin}
use Rattle.machine_steps.specs.declared.machine.Machine.{Machine}
use Rattle.machine_code.specs.declared.prepared.Prepared.{Prepared}
use Rattle.machine_code.specs.calls.Prepares.{IsPrepared}
use Rattle.machine_hosted.specs.calls.Safe.{WorldFits}

-- a valid module that is prepared, with fewer than 2 ^ 32 functions
pub record Sound (m : Module) (prepared : Prepared) : Type 0 where
  pub whole : IsModule m
  pub valid : Valid m
  pub few : length m.imports + length m.functions < 2 ^ 32
  pub is_prepared : (p : Program) → p.module_ ≡ m → IsProgram p → IsPrepared p prepared

-- the world of a machine, with these replies left and nothing served
abbrev pub world_of : Machine → List Reply → World
world_of m replies = record { globals = m.shared.globals; memory = option_map (λ k. k.memory) m.shared.memory; table = m.table; replies = replies; served = [] }

-- what is outside the frames fits the module
abbrev pub MachineFits : Module → Machine → Type 0
MachineFits m machine = WorldFits m (world_of machine [])

-- a function of the module takes these arguments
abbrev pub Takes : Module → ℕ → List Value → Type 0
Takes m f args = (type : FuncType) × (type_at m f ≡ Some type) × (types args ≡ type.params)

-- each import is served with the type that the module gives it
abbrev pub ServesAll : (Import → FuncType → Bool) → Module → Type 0
ServesAll serving m = (f : ℕ) (i : Import) (type : FuncType) → slice_get m.imports f ≡ Some i → slice_get m.types i.ftype ≡ Some type → serving i type ≡ true

-- a host side knows each import of the module by its index
abbrev pub Knows : Origin → Module → Type 0
Knows origin m = (f : ℕ) (i : Import) → slice_get m.imports f ≡ Some i → slice_get origin.imports f ≡ Some i

-- a host side that may be lent to runs of the module
pub record HostServes (origin : Origin) (serving : Import → FuncType → Bool) (m : Module) : Type 0 where
  pub knows : Knows origin m
  pub serves : ServesAll serving m

-- What never changes of a host side did not change, and no count of faults fell.
pub record HostKept {H : Type 0} (origin : H → Origin) (collecting : H → Bool) (serving : H → Import → FuncType → Bool) (fault_count : H → List ℕ → ℕ) (old new : H) : Type 0 where
  pub origin_is : origin new ≡ origin old
  pub collecting_is : collecting new ≡ collecting old
  pub serving_is : (i : Import) (type : FuncType) → serving new i type ≡ serving old i type
  pub later : (name : List ℕ) → fault_count old name ≤ fault_count new name
