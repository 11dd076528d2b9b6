use Rattle.rewrite_code.proofs.Pieces.{emits_then}
use Rattle.rewrite_code.proofs.Loads.{when_ok}
use Rattle.guard_insert.proofs.Guarding.{some_beyond}
use Rattle.guard_insert.proofs.accesses.beyond_word.Goals as goal

pub returns : goal.returns
returns c =
    when_ok (λ last. some_beyond c.args.count c.if-count-eq-WORD.false (emits_then c.in_ok-const_value.ensures last)) c.basic.result c.basic.ensures
