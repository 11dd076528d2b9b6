use Rattle.std.proofs.Common.{◌≡◌, take}
use Rattle.std.specs.Prelude.{map}
use Rattle.dwarf5_line.specs.Entries.{name_of}
use Rattle.dwarf5_line.proofs.entries.names.Given as goal

abbrev pub invariant-loop-file : goal.invariant-loop-file
invariant-loop-file l = l.names ≡ map name_of (take l.file-index l.files)
