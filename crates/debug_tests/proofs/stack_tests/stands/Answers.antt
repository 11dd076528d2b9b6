use Rattle.std.proofs.lemmas.Option.{slice_get_within}
use Rattle.debug_tests.proofs.stack_tests.stands.Goals as goal

pub has_types-requires : goal.has_types-requires
has_types-requires c = let found = c.in-Some.ensures in (found.0, found.2, slice_get_within found.0.ops c.in-Some.op found.1 found.3)
