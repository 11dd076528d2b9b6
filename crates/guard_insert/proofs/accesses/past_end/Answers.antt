use Rattle.rewrite_code.proofs.Pieces.{emits_then}
use Rattle.rewrite_code.proofs.Loads.{when_ok}
use Rattle.guard_insert.proofs.accesses.past_end.Goals as goal

pub returns : goal.returns
returns c =
    when_ok (λ last. emits_then c.in_ok-get_length.ensures (emits_then c.in_ok-const_value.ensures (emits_then c.in_ok-basic.ensures last))) c.basic-2.result c.basic-2.ensures
