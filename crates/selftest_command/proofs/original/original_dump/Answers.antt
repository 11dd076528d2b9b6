use Rattle.std.proofs.Common.{subst, ◌∙◌}
use Rattle.wasm_syntax.specs.Module.{IsModule}
use Rattle.selftest_command.proofs.original.original_dump.Goals as goal

pub returns-in-Err : goal.returns-in-Err
returns-in-Err g c = c.no_dump.ensures c.args.count c.args.source.now (subst IsModule (c.parts.ensures.value ∙ c.module.ensures.value) c.parts.ensures.whole) c.in-Err.ensures
