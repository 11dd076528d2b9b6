use Rattle.std.proofs.Common.{sym, subst}
use Rattle.wasm_syntax.specs.declared.module.ModuleParts.{ModuleParts as Module}
use Rattle.debugger.specs.Subject.{Spells}
use Rattle.debug_command.proofs.Judged.{matched_told, mismatch_told}
use Rattle.debug_command.proofs.answering.judged.Goals as goal

pub told-requires : goal.told-requires
told-requires c = subst (λ (m : Module). Spells c.args.bytes.now m) (sym c.in-Ok.ensures.1) c.requires.spells

pub returns-in-Ok-clause-value : goal.returns-in-Ok-clause-value
returns-in-Ok-clause-value c = matched_told c.args.commands.now c.args.bytes.now c.args.m.now c.args.dump.now c.in-Ok.matched c.told.result c.in-Ok.ensures c.told.ensures.value

pub returns-in-Err-clause-value : goal.returns-in-Err-clause-value
returns-in-Err-clause-value c = mismatch_told c.args.commands.now c.args.bytes.now c.args.m.now c.args.dump.now c.in-Err.row c.mismatched.result c.in-Err.ensures c.mismatched.ensures.value
