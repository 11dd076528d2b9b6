use Rattle.std.proofs.Common.{refl, inl}
use Rattle.pm_outside.specs.declared.answers.WriteAnswer.TheVariants as write
use Rattle.instrument_command.proofs.HeldFiles.{front_left}
use Rattle.selftest_command.specs.SelftestAnswer.{module_file, rewritten_file}
use Rattle.selftest_command.specs.Stops.{Left}
use Rattle.selftest_command.proofs.Files.{both_stops, fault_stops}
use Rattle.selftest_command.proofs.writing.write_both.Goals as goal

pub returns-in-Done-clause-stops : goal.returns-in-Done-clause-stops
returns-in-Done-clause-stops g c =
    both_stops module_file c.args.bytes.now rewritten_file c.args.rewritten.now (g.F.Files.told c.args.files.now) (g.F.Files.told c.write_file.new.files) (g.F.Files.told c.write_last.new.files) c.write_last.result c.in-Done.ensures.content c.write_last.ensures.stops

pub returns-in-Failed-clause-stops : goal.returns-in-Failed-clause-stops
returns-in-Failed-clause-stops g c =
    let part = front_left module_file c.args.bytes.now write.Failed (g.F.Files.told c.args.files.now) (g.F.Files.told c.write_file.new.files) c.in-Failed.ensures.content in
    fault_stops (λ stop. Left stop module_file c.args.bytes.now rewritten_file c.args.rewritten.now (g.F.Files.told c.args.files.now) (g.F.Files.told c.write_file.new.files)) module_file c.about_file.result (inl (tt, part)) (inl (refl, part)) c.about_file.ensures

pub returns-in-Failed-clause-names : goal.returns-in-Failed-clause-names
returns-in-Failed-clause-names g c = (g.F.Files.created c.write_file.new.files, c.write_file.ensures.names, inl refl)

pub returns-in-NoMemory-clause-names : goal.returns-in-NoMemory-clause-names
returns-in-NoMemory-clause-names g c = (g.F.Files.created c.write_file.new.files, c.write_file.ensures.names, inl refl)
