-- What the rewriting of a module does step by step, and what is promised of each of its bodies: the promises of layers.
use Rattle.std.specs.Prelude.{◌≡◌, ℕ, ◌+◌, ◌*◌, ◌≤◌, List, length, slice_get, Some, true}
use Rattle.wasm_syntax.specs.declared.parts.Body.{Body}
use Rattle.wasm_syntax.specs.declared.quantity.Quantity.TheVariants.{Locals, Nesting}
use Rattle.wasm_syntax.specs.declared.module.ModuleParts.{ModuleParts as Module}
use Rattle.wasm_syntax.specs.Quantity.{greatest}
use Rattle.wasm_syntax.specs.Module.{IsModule, type_at}
use Rattle.wasm_syntax.specs.Machine.{Config}
use Rattle.wasm_syntax.specs.Run.{engine}
use Rattle.wasm_syntax.specs.Sizes.{local_count, nesting}
use Rattle.wasm_syntax.specs.Valid.{BodyFine}
use Rattle.wasm_encode.specs.Encoding.{entry_bytes}
use Rattle.rewrite_bodies.specs.calls.Steps.{run}
use Rattle.rewrite_modules.specs.calls.Instrument.{instrument, new_module}
use Rattle.rewrite_modules.specs.Instrumentable.{program_of}
use Rattle.rewrite_modules.specs.Multiple.{half}
use Rattle.rewrite_modules.specs.Weight.{height_at, AreHeights, ops_weight}
use Rattle.rewrite_modules.specs.calls.Bare.{bare_config, bare_stepped}
use Rattle.rewrite_modules.specs.calls.Unwinding.{Unwinds}

-- What the weight of a module gives to the code entry of its i-th body (Core 5.5.13): eight bytes for each that it takes, and what its
-- function, its locals and its instructions weigh.
abbrev pub share : Module → List (List ℕ) → ℕ → Body → ℕ
share m heights i b = 8 * length (entry_bytes b) + (192 + 16 * local_count (type_at m (length m.imports + i)) b + ops_weight (height_at heights i) 0 b.ops)

-- the i-th body of the rewriting, in place of this one of the module
pub record BodyPromised (m : Module) (whole : IsModule m) (i : ℕ) (old new : Body) : Type 0 where
  -- it is well typed in the rewritten module (Core 3.3, 3.4.1)
  pub typed : BodyFine (new_module (program_of m whole)) (length (new_module (program_of m whole)).imports + i) new
  -- it is within the limits of the decoder
  pub few_locals : local_count (type_at (new_module (program_of m whole)) (length (new_module (program_of m whole)).imports + i)) new ≤ greatest Locals
  pub shallow : nesting new ≤ greatest Nesting
  -- its code entry takes at most its share of the weight
  pub short : (heights : List (List ℕ)) → AreHeights m heights → length (entry_bytes new) ≤ share m heights i old

pub record Layered (m other : Module) : Type 0 where
  pub whole : IsModule m
  pub other_whole : IsModule other
  -- Each step of the original is followed, and where it traps each frame hands over its values, and then the wrapper: each in at most half of
  -- the multiple of the steps. So it is in the rewriting whose instructions stand at offset 0.
  pub unwinds : (heights : List (List ℕ)) → AreHeights m heights → (depth : ℕ) → Unwinds (program_of m whole) (half m heights) depth
  -- The other module makes the same steps but for offsets: so it is in it too.
  pub steps : (depth k : ℕ) (c c' : Config) → bare_config c ≡ bare_config c' → bare_stepped (run (engine (program_of other other_whole) true depth) k c) ≡ bare_stepped (run (engine (instrument (program_of m whole)) true depth) k c')
  pub bodies : (i : ℕ) (old new : Body) → slice_get m.bodies i ≡ Some old → slice_get other.bodies i ≡ Some new → BodyPromised m whole i old new
