use Rattle.format_tests.proofs.SampleModules.{built_short}
use Rattle.format_tests.proofs.module_tests.is_written.Goals as goal

pub encode-requires : goal.encode-requires
encode-requires c = built_short c.args.source.now c.requires
