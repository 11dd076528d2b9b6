use Rattle.std.proofs.Common.{refl, inl, subst}
use Rattle.instrument_command.specs.calls.Steps.{IsRewritten}
use Rattle.selftest_command.proofs.Steps.{never_refused}
use Rattle.selftest_command.proofs.command.test_module.Goals as goal

pub returns-in_err-rewritten-clause-names : goal.returns-in_err-rewritten-clause-names
returns-in_err-rewritten-clause-names g c = (g.F.Files.created c.args.files.now, inl refl, inl refl)

pub returns-in-Refused-clause-names : goal.returns-in-Refused-clause-names
returns-in-Refused-clause-names g c = (g.F.Files.created c.args.files.now, inl refl, inl refl)

pub returns-in-Refused-clause-told : goal.returns-in-Refused-clause-told
returns-in-Refused-clause-told g c = absurd (never_refused c.args.count c.args.source.now c.in-Refused.refusal c.requires.selftest (subst (IsRewritten c.args.source.now) c.in-Refused.is c.in_ok-rewritten.ensures.told))
