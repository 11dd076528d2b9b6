use Rattle.rewrite_code.proofs.Pieces.{emits_then}
use Rattle.rewrite_code.proofs.Loads.{when_ok}
use Rattle.guard_insert.proofs.accesses.out_test.Goals as goal

pub returns : goal.returns
returns c =
    when_ok (λ last. emits_then c.in_ok-basic.ensures (emits_then c.in_ok-get_length.ensures (emits_then c.in_ok-beyond_word.ensures last))) c.basic-2.result c.basic-2.ensures
