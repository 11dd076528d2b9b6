use Rattle.rewrite_code.proofs.Pieces.{emits_then}
use Rattle.rewrite_code.proofs.Loads.{when_ok}
use Rattle.unwind_rewrite.proofs.wrappers.set_flag.Goals as goal

pub returns : goal.returns
returns c = when_ok (emits_then c.in_ok-const_value.ensures) c.basic.result c.basic.ensures
