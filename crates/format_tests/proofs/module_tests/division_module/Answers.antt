use Rattle.format_tests.proofs.SampleModules.{built_is}
use Rattle.format_tests.proofs.module_tests.division_module.Goals as goal

pub new-requires : goal.new-requires
new-requires c = built_is c.in_ok-parts.parts c.in_ok-parts.ensures
