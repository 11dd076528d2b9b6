-- The opcodes of line programs (DWARF 4 sections 6.2.5 and 7.21).
use Rattle.std.specs.Prelude.{ℕ, zero, suc, ◌-◌, List, slice_index_or, nat_le, ◌==◌, if◌then◌else◌}
use Rattle.dwarf_bytes.specs.Format.{Format, made, unsigned, signed, run, text, sized, number}
use Rattle.dwarf_line.specs.declared.lines.LineFile.{LineFile}
use Rattle.dwarf_line.specs.declared.opcodes.Opcode.{Opcode}
use Rattle.dwarf_line.specs.declared.opcodes.Opcode.TheVariants.{Special, Copy, AdvancePc, AdvanceLine, SetFile, SetColumn, ConstAddPc, FixedAdvancePc, EndSequence, SetAddress, DefineFile, Passed}
use Rattle.dwarf_line.specs.Parameters.{Parameters}

-- so many numbers that are not used
abbrev pub skipping : {A : Type 0} → ℕ → Format A → Format A
skipping zero f = f
skipping (suc n) f = unsigned (λ _. skipping n f)

-- a file behind its name: its directory, its time and its length (6.2.4), of which the last two are not used
abbrev pub file_behind : {A : Type 0} → List ℕ → (LineFile → Format A) → Format A
file_behind name f = unsigned (λ directory. skipping 2 (f (record { name = name; directory = directory })))

-- 6.2.5.3, behind a length that counts the opcode too
abbrev pub extended : ℕ → ℕ → Format Opcode
extended length opcode =
    if opcode == 1 then made EndSequence
    else (if opcode == 2 then number 4 (λ address. made (SetAddress address))
    else (if opcode == 3 then text (λ name. file_behind name (λ file. made (DefineFile file)))
    else (if opcode == 4 then unsigned (λ discriminator. made Passed)
    else run (length - 1) (λ bytes. made Passed))))

-- 6.2.5.2: negate_stmt, set_basic_block, set_prologue_end, set_epilogue_begin and set_isa change no register that is used.
-- Past the twelfth an opcode has as many operands as the header says.
abbrev pub standard : Parameters → ℕ → Format Opcode
standard h opcode =
    if opcode == 1 then made Copy
    else (if opcode == 2 then unsigned (λ n. made (AdvancePc n))
    else (if opcode == 3 then signed (λ z. made (AdvanceLine z))
    else (if opcode == 4 then unsigned (λ n. made (SetFile n))
    else (if opcode == 5 then unsigned (λ n. made (SetColumn n))
    else (if opcode == 8 then made ConstAddPc
    else (if opcode == 9 then number 2 (λ n. made (FixedAdvancePc n))
    else (if opcode == 12 then unsigned (λ isa. made Passed)
    else (if nat_le opcode 12 then made Passed
    else skipping (slice_index_or h.opcode_lengths (opcode - 1) 0) (made Passed)))))))))

-- what stands behind the first byte
abbrev pub behind : Parameters → ℕ → Format Opcode
behind h opcode =
    if nat_le h.opcode_base opcode then made (Special (opcode - h.opcode_base))
    else (if opcode == 0 then sized (λ length. number 1 (extended length))
    else standard h opcode)

abbrev pub opcode : Parameters → Format Opcode
opcode h = number 1 (behind h)
