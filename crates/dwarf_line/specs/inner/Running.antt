-- A program that is being read: an opcode is read and done, and no list of opcodes is made.
use Rattle.std.specs.Prelude.{ℕ, List}
use Rattle.wasm_bytes.specs.Place.{Place, Read}
use Rattle.wasm_bytes.specs.Reading.{mapped}
use Rattle.dwarf_bytes.specs.Format.{read}
use Rattle.dwarf_line.specs.declared.opcodes.Opcode.{Opcode}
use Rattle.dwarf_line.specs.declared.lines.Lines.{Lines}
use Rattle.dwarf_line.specs.declared.matrix.Matrix.{Matrix}
use Rattle.dwarf_line.specs.declared.matrix.Running.{Running}
use Rattle.dwarf_line.specs.Parameters.{Parameters}
use Rattle.dwarf_line.specs.Opcodes.{opcode}
use Rattle.dwarf_line.specs.Rows.{step}

-- what a matrix says behind what a header says
abbrev pub lines_by : ℕ → List (List ℕ) → Matrix → Lines
lines_by first directories m = record { first = first; directories = directories; files = m.files; sequences = m.sequences }

abbrev pub running : Parameters → Matrix → Running
running h m = record { parameters = h; matrix = m }

abbrev pub running_step : Running → Place → Read Running
running_step r = mapped (λ (op : Opcode). running r.parameters (step r.parameters r.matrix op)) (read (opcode r.parameters))
