use Rattle.std.proofs.Common.{subst, ◌∙◌}
use Rattle.wasm_syntax.specs.Module.{IsModule}
use Rattle.selftest_command.proofs.running.run_module.Goals as goal

pub returns-in-Err : goal.returns-in-Err
returns-in-Err g c = c.not_begun.ensures c.args.source.now c.args.own.now (subst IsModule (c.parts.ensures.value ∙ c.module.ensures.value) c.parts.ensures.whole) c.in-Err.ensures
