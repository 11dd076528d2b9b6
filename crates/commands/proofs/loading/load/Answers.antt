use Rattle.commands.proofs.Loads.{validated}
use Rattle.commands.proofs.loading.load.Goals as goal

pub returns-in-Ok-validate-clause-told : goal.returns-in-Ok-validate-clause-told
returns-in-Ok-validate-clause-told c = validated c.in-Ok-validate.valid c.in-Ok.m _ c.in-Ok.ensures.exact c.in-Ok-validate.ensures
