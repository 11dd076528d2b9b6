-- What the opcodes of a line program make (DWARF 4 sections 6.2.2 and 6.2.5).
use Rattle.std.specs.Prelude.{ℕ, ◌+◌, ◌-◌, ◌*◌, ◌/◌, ◌%◌, ◌^◌, ℤ, pos, negsuc, ◌+ℤ◌, List, [], ◌∷◌, ◌++◌, fold}
use Rattle.dwarf_line.specs.declared.lines.Row.{Row}
use Rattle.dwarf_line.specs.declared.lines.LineFile.{LineFile}
use Rattle.dwarf_line.specs.declared.opcodes.Opcode.{Opcode}
use Rattle.dwarf_line.specs.declared.opcodes.Opcode.TheVariants.{Special, Copy, AdvancePc, AdvanceLine, SetFile, SetColumn, ConstAddPc, FixedAdvancePc, EndSequence, SetAddress, DefineFile, Passed}
use Rattle.dwarf_line.specs.declared.matrix.Matrix.{Matrix}
use Rattle.dwarf_line.specs.Parameters.{Parameters}

-- what is left of a number in 32 bits
abbrev pub low : ℕ → ℕ
low n = n % 2 ^ 32

abbrev pub low_signed : ℤ → ℕ
low_signed (pos n) = low n
low_signed (negsuc n) = 2 ^ 32 - 1 - low n

-- ---- the registers, which a row copies (6.2.2)

abbrev pub first_registers : Row
first_registers = record { address = 0; file = 1; line = 1; column = 0 }

abbrev pub with_address : ℕ → Row → Row
with_address n r = record r { address = low (r.address + n) }

abbrev pub with_line : ℤ → Row → Row
with_line z r = record r { line = low_signed (pos r.line +ℤ z) }

-- by how much a special opcode, counted from `opcode_base`, advances the address and the line (6.2.5.1)
abbrev pub address_advance : Parameters → ℕ → ℕ
address_advance h n = h.minimum_instruction_length * (n / h.line_range)

abbrev pub line_advance : Parameters → ℕ → ℤ
line_advance h n = h.line_base +ℤ pos (n % h.line_range)

abbrev pub advanced : Parameters → ℕ → Row → Row
advanced h n r = with_line (line_advance h n) (with_address (address_advance h n) r)

-- ---- rows and sequences

abbrev pub first_matrix : List LineFile → Matrix
first_matrix files = record { sequences = []; rows = []; registers = first_registers; files = files }

abbrev pub moved : (Row → Row) → Matrix → Matrix
moved f m = record m { registers = f m.registers }

-- a row of the registers
abbrev pub appended : Matrix → Matrix
appended m = record m { rows = m.rows ++ m.registers ∷ [] }

-- The rows are a sequence that ends at the address of the registers.
abbrev pub ended : Matrix → Matrix
ended m = record { sequences = m.sequences ++ record { rows = m.rows; «end» = m.registers.address } ∷ []; rows = []; registers = first_registers; files = m.files }

-- what an opcode makes of what was made so far
unfoldable pub step : Parameters → Matrix → Opcode → Matrix
step h m (Special n) = appended (moved (advanced h n) m)
step h m Copy = appended m
step h m (AdvancePc n) = moved (with_address (h.minimum_instruction_length * n)) m
step h m (AdvanceLine z) = moved (with_line z) m
step h m (SetFile n) = moved (λ r. record r { file = low n }) m
step h m (SetColumn n) = moved (λ r. record r { column = low n }) m
-- the address as of special opcode 255
step h m ConstAddPc = moved (with_address (address_advance h (255 - h.opcode_base))) m
step h m (FixedAdvancePc n) = moved (with_address n) m
step h m EndSequence = ended m
step h m (SetAddress n) = moved (λ r. record r { address = n }) m
step h m (DefineFile f) = record m { files = m.files ++ f ∷ [] }
step h m Passed = m

-- What a program makes. Rows that no `end_sequence` follows belong to no sequence.
abbrev pub matrix : Parameters → List LineFile → List Opcode → Matrix
matrix h files opcodes = fold (step h) (first_matrix files) opcodes
