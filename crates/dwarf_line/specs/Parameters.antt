-- What the header of a line program says to its opcodes (DWARF 4 section 6.2.4, items 4 to 10).
use Rattle.std.specs.Prelude.{ℕ, ◌-◌, ℤ, List, Bool, not, ◌&&◌, ◌==◌}
use Rattle.std.specs.Int.{w8, cast_signed}
use Rattle.dwarf_bytes.specs.Format.{Format, made, run, number, only_if, fixed}

pub record Parameters : Type 0 where
  pub minimum_instruction_length : ℕ
  pub line_base : ℤ
  pub line_range : ℕ
  pub opcode_base : ℕ
  -- how many operands the standard opcodes from 1 on have
  pub opcode_lengths : List ℕ

-- behind `opcode_base`
abbrev pub with_lengths : ℕ → ℤ → ℕ → ℕ → Format Parameters
with_lengths minimum base range opcodes = run (opcodes - 1) (λ lengths. made (record { minimum_instruction_length = minimum; line_base = base; line_range = range; opcode_base = opcodes; opcode_lengths = lengths }))

abbrev pub is_usable : ℕ → ℕ → Bool
is_usable range opcodes = not (range == 0) && not (opcodes == 0)

-- behind `default_is_stmt`
abbrev pub ranges : ℕ → Format Parameters
ranges minimum = number 1 (λ base. number 1 (λ range. number 1 (λ opcodes. only_if (is_usable range opcodes) (with_lengths minimum (cast_signed w8 base) range opcodes))))

-- Behind the minimum length stand the bytes that a version fixes there. `default_is_stmt` is not used.
abbrev pub parameters : List ℕ → Format Parameters
parameters operations = number 1 (λ minimum. fixed operations (number 1 (λ is_stmt. ranges minimum)))
