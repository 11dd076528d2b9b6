use Rattle.rewrite_code.proofs.Pieces.{emits_last, emits_stop}
use Rattle.rewrite_code.proofs.Loads.{when_ok}
use Rattle.unwind_rewrite.proofs.helpers.select.Goals as goal

pub returns-then-has_room : goal.returns-then-has_room
returns-then-has_room c = when_ok (λ p. emits_last c.in_ok-basic.ensures (emits_stop p)) c.branch_table.result c.branch_table.ensures
