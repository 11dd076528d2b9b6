use Rattle.std.proofs.Common.{◌≡◌, ◌-◌}
use Rattle.wasm_bytes.specs.Place.{Stays}
use Rattle.dwarf_bytes.specs.Format.{read, made}
use Rattle.dwarf_line.specs.declared.opcodes.Opcode.{Opcode}
use Rattle.dwarf_line.specs.declared.opcodes.Opcode.TheVariants.{Passed}
use Rattle.dwarf_line.specs.Opcodes.{skipping}
use Rattle.dwarf_line.proofs.opcodes.skip.Given as goal

abbrev pub invariant-loop : goal.invariant-loop
invariant-loop l = record {
  so_far : read {A = Opcode} (skipping l.count (made Passed)) l.initial.reader ≡ read {A = Opcode} (skipping (l.count - l.counter) (made Passed)) l.reader;
  stays : Stays l.initial.reader l.reader;
}
