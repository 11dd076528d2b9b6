use Rattle.rewrite_code.proofs.Pieces.{emits_stop}
use Rattle.rewrite_code.proofs.Loads.{when_ok}
use Rattle.unwind_rewrite.proofs.branches.branch_table.Goals as goal

pub returns-then-has_room : goal.returns-then-has_room
returns-then-has_room c = when_ok emits_stop c.branch_table.result c.branch_table.ensures
