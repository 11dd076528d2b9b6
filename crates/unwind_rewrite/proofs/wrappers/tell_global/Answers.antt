use Rattle.rewrite_code.proofs.Loads.{when_ok}
use Rattle.unwind_rewrite.proofs.Bodies.{told}
use Rattle.unwind_rewrite.proofs.wrappers.tell_global.Goals as goal

pub returns : goal.returns
returns c = when_ok (told c.args.map.now c.args.index c.value_import.result c.args.t c.value_import.ensures c.in_ok-basic.ensures) c.call.result c.call.ensures
