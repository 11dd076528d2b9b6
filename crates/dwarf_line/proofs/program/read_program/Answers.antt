use Rattle.std.proofs.Common.{refl, arith}
use Rattle.dwarf_line.proofs.Standing.{none_behind}
use Rattle.dwarf_line.proofs.program.read_program.Goals as goal

pub returns-then-at-section : goal.returns-then-at-section
returns-then-at-section g c = record { there = (refl, none_behind (g.V.Versions.layouts c.args.versions.now) c.args.section.now c.args.at (omega (arith, c.if-at-section.true))) }
