-- The start of an instance (Core 4.5.4), step by step.
use Rattle.std.specs.Prelude.{ℕ, List, [], map, unwrap_or, Option, Some}
use Rattle.linear_memory.specs.Memory.{Memory}
use Rattle.wasm_syntax.specs.declared.value.Value.{Value}
use Rattle.wasm_syntax.specs.declared.parts.Global.{Global}
use Rattle.wasm_syntax.specs.declared.parts.ElementSeg.{ElementSeg}
use Rattle.wasm_syntax.specs.declared.parts.DataSeg.{DataSeg}
use Rattle.wasm_syntax.specs.declared.module.ModuleParts.{ModuleParts as Module}
use Rattle.wasm_syntax.specs.Module.{const_value}
use Rattle.wasm_syntax.specs.Machine.{zero_of}
use Rattle.wasm_syntax.specs.Run.{over, element_at, data_at}

-- the value that a global has first
abbrev pub initial_value : Global → Value
initial_value g = unwrap_or (const_value [] g.init.ops) (zero_of g.vtype)

-- a table with the functions of an element segment, and a memory with the bytes of a data segment
abbrev pub put_element : Module → List (Option ℕ) → ElementSeg → List (Option ℕ)
put_element m table e = over table (element_at m e) (map Some e.functions)

abbrev pub put_data : Module → Memory → DataSeg → Memory
put_data m k s = record k { bytes = over k.bytes (data_at m s) s.bytes }
