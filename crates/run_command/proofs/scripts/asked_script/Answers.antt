use Rattle.std.proofs.Common.{None, refl}
use Rattle.run_command.specs.declared.scripts.Script.TheVariants.{Whole}
use Rattle.run_command.proofs.Commands.{asked_none, asked_whole, asked_refused}
use Rattle.run_command.proofs.scripts.asked_script.Goals as goal

pub returns-in_default-clause-told : goal.returns-in_default-clause-told
returns-in_default-clause-told g c = asked_none (g.F.Files.told c.args.files.now) c.args.replies.now (Whole None) c.in_default.is refl

pub returns-in_ok-script-in-Value-clause-told : goal.returns-in_ok-script-in-Value-clause-told
returns-in_ok-script-in-Value-clause-told g c =
    asked_whole (g.F.Files.told c.args.files.now) c.args.replies.now _ c.as_str.result.now c.in_ok-input.input c.in-Value.bytes c.deref.result.now c.in_ok-script-in-Value.script
    c.in-Some.is c.as_str.ensures.value c.deref.ensures.value c.in-Value.is c.in_ok-input.ensures.told c.in_ok-script-in-Value.ensures

pub returns-in-Refused-clause-told : goal.returns-in-Refused-clause-told
returns-in-Refused-clause-told g c =
    asked_refused (g.F.Files.told c.args.files.now) c.args.replies.now _ c.as_str.result.now c.in_ok-input.input c.in-Refused.refusal
    c.in-Some.is c.as_str.ensures.value c.in-Refused.is c.in_ok-input.ensures.told
