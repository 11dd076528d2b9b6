-- The dump of a configuration, as a value.
use Rattle.std.specs.Prelude.{ℕ, List, [], ◌∷◌, map, reverse, Option, option_map}
use Rattle.wasm_syntax.specs.declared.value.Value.{Value}
use Rattle.wasm_syntax.specs.Machine.{Config, Frame, offset_of, operands}

-- operands stand bottom first
pub record DumpFrame : Type 0 where
  pub function : ℕ
  pub offset : ℕ
  pub locals : List Value
  pub operands : List Value

-- one module and one instance of this name, and the frames innermost first
pub record Dump : Type 0 where
  pub name : List ℕ
  pub frames : List DumpFrame
  pub globals : List Value
  pub memory : Option (List ℕ)

-- at an offset
abbrev pub frame_image : ℕ → Frame → DumpFrame
frame_image at f = record { function = f.function; offset = at; locals = f.locals; operands = reverse (operands f) }

-- the innermost frame stands at its next instruction, each other at its call
abbrev pub frame_images : List Frame → List DumpFrame
frame_images [] = []
frame_images (f ∷ fs) = frame_image (offset_of f.labels) f ∷ map (λ g. frame_image g.call g) fs

abbrev pub image : Config → List ℕ → Dump
image c name = record {
  name = name;
  frames = frame_images c.frames;
  globals = c.world.globals;
  memory = option_map (λ m. m.bytes) c.world.memory;
}
