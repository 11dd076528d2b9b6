use Rattle.std.proofs.Common.{refl}
use Rattle.rewrite_tests.proofs.modules.valid.Goals as goal

pub checked-requires-clause-sized : goal.checked-requires-clause-sized
checked-requires-clause-sized c = c.spelled_is_sized.ensures c.args.bytes.now c.in-Ok.m ((c.in-Ok.ensures.found c.in-Ok.m).only refl)
