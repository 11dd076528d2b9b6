-- What a machine shows of its frames: its values stand in one vector, for each frame its locals and above them its operands, frame over
-- frame.
use Rattle.std.specs.Prelude.{ℕ, ◌+◌, ◌-◌, ◌^◌, min, List, [], ◌∷◌, take, drop, reverse, length, slice_get, Option, Some, None, option_map, unwrap_or}
use Rattle.wasm_syntax.specs.declared.value.Value.{Value}
use Rattle.wasm_syntax.specs.Module.{option_then}
use Rattle.machine_code.specs.declared.code.Code.{Code}
use Rattle.machine_steps.specs.declared.layout.CallFrame.{CallFrame}
use Rattle.machine_steps.specs.declared.machine.Machine.{Machine}
use Rattle.machine_code.specs.declared.prepared.Prepared.{Prepared}
use Rattle.dump_write.specs.Image.{DumpFrame}
use Rattle.wasm_machine.specs.declared.frames.Extent.{Extent}

-- the values from one place up to another
abbrev pub between : List Value → ℕ → ℕ → List Value
between vs from to = take (to - from) (drop from vs)

-- the code offset of an instruction of a function
abbrev pub offset_at : List Code → ℕ → ℕ → ℕ
offset_at codes f at = unwrap_or (option_then (slice_get codes f) (λ code. option_map (λ o. o.at) (slice_get code.body.now.ops at))) 0

-- the index of a defined function among all functions
abbrev pub numbered : ℕ → ℕ → ℕ
numbered imports f = min (imports + f) (2 ^ 32 - 1)

module _ (imports : ℕ) (codes : List Code) (values : List Value) where
  -- a frame whose values go up to a place and which stands at an instruction
  abbrev pub frame_shown : CallFrame → ℕ → ℕ → DumpFrame
  frame_shown e top at = record {
    function = numbered imports e.function;
    offset = offset_at codes e.function at;
    locals = between values e.base e.floor;
    operands = between values e.floor top;
  }

  -- a frame and those below it, each of which stands at its call
  abbrev pub frames_shown : List CallFrame → ℕ → ℕ → List DumpFrame
  frames_shown [] top at = []
  frames_shown (e ∷ es) top at = frame_shown e top at ∷ frames_shown es e.base (e.returns_to - 1)

-- all frames of a machine, innermost first
abbrev pub all_shown : Prepared → Machine → List DumpFrame
all_shown prepared m = frames_shown prepared.imports prepared.codes.items (reverse m.stack.values) m.stack.frames (length m.stack.values) m.stack.position

-- the extent of a frame that waits for the one above
abbrev pub extent_under : Option CallFrame → Extent
extent_under None = record { top = 0; at = 0 }
extent_under (Some above) = record { top = above.base; at = above.returns_to - 1 }
