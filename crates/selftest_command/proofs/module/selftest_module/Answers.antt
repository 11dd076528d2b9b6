use Rattle.std.proofs.Common.{subst, sym, ◌∙◌}
use Rattle.wasm_syntax.specs.Module.{IsModule}
use Rattle.wasm_syntax.specs.Valid.{Valid}
use Rattle.selftest_command.proofs.Whole.{is_module, is_valid}
use Rattle.selftest_command.proofs.module.selftest_module.Goals as goal

pub new-requires : goal.new-requires
new-requires c = subst IsModule (sym c.in_ok-parts.ensures) (is_module c.args.count)

pub returns-clause-valid : goal.returns-clause-valid
returns-clause-valid c = subst Valid (sym (c.new.ensures ∙ c.in_ok-parts.ensures)) (is_valid c.args.count c.requires.least)
