-- Which modules are rewritten, and the programs that they are.
use Rattle.std.specs.Prelude.{◌≡◌, ℕ, ◌+◌, ◌≤◌, false, Some, List, length, slice_get, bytes_eq, codes}
use Rattle.std.specs.List.{AllByRecursion}
use Rattle.wasm_syntax.specs.declared.instruction.Instr.{Instr}
use Rattle.wasm_syntax.specs.declared.instruction.Instr.TheVariants as instrs
use Rattle.wasm_syntax.specs.declared.parts.Import.{Import}
use Rattle.wasm_syntax.specs.declared.quantity.Quantity.TheVariants.{InstrumentLocals, InstrumentParameters, InstrumentHeight, InstrumentNesting, Weight}
use Rattle.wasm_syntax.specs.declared.module.ModuleParts.{ModuleParts as Module}
use Rattle.wasm_syntax.specs.Quantity as limits
use Rattle.wasm_syntax.specs.Sizes.{WithinLimits, local_count, nesting}
use Rattle.wasm_syntax.specs.Module.{Program, IsModule, type_at}
use Rattle.wasm_syntax.specs.Valid.{Valid, AtIndex}
use Rattle.rewrite_bodies.specs.calls.Offsets.{SmallOffset}
use Rattle.rewrite_modules.specs.Weight.{height_at, AreHeights, weight}

-- a module with the trees that its bodies write out
abbrev pub program_of : (m : Module) → IsModule m → Program
program_of m whole = record { module_ = m; trees = whole.trees }

abbrev pub SmallInstr : Instr → Type 0
SmallInstr (instrs.Basic i) = SmallOffset i
SmallInstr i = Unit {0}

-- the limits of the rewriting
pub record LightEnough (m : Module) : Type 0 where
  -- the locals of each function, with its parameters
  pub few_locals : AtIndex m.bodies (λ i body. local_count (type_at m (length m.imports + i)) body ≤ limits.greatest InstrumentLocals)
  pub few_parameters : AllByRecursion (λ type. length type.params ≤ limits.greatest InstrumentParameters) m.types
  pub heights : List (List ℕ)
  pub heights_are : AreHeights m heights
  pub low : (i op : ℕ) → height_at heights i op ≤ limits.greatest InstrumentHeight
  pub shallow : AllByRecursion (λ body. nesting body ≤ limits.greatest InstrumentNesting) m.bodies
  pub light : weight m heights ≤ limits.greatest Weight

pub record Instrumentable (m : Module) : Type 0 where
  pub whole : IsModule m
  pub valid : Valid m
  -- within the limits of the decoder; offsets of accesses are numbers of 32 bits, as they are in each module that a program holds
  pub limits_ : WithinLimits m
  pub small : AllByRecursion (λ body. AllByRecursion (λ o. SmallInstr o.code) body.ops) m.bodies
  -- it imports nothing from the collector's module, and does not export the name under which its memory is exported
  pub no_collision : (f : ℕ) (i : Import) → slice_get m.imports f ≡ Some i → bytes_eq i.«module» (codes "coredump") ≡ false
  pub no_export_collision : AllByRecursion (λ e. bytes_eq e.name (codes "coredump.memory") ≡ false) m.exports
  pub lightness : LightEnough m
