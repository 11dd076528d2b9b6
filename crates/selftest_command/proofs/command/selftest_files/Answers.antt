use Rattle.std.proofs.Common.{refl, inl}
use Rattle.selftest_command.proofs.command.selftest_files.Goals as goal

pub returns-in_err-bytes-clause-names : goal.returns-in_err-bytes-clause-names
returns-in_err-bytes-clause-names g c = (g.F.Files.created c.args.files.now, inl refl, inl refl)
