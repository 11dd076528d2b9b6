use Rattle.rewrite_code.proofs.Pieces.{emits_then}
use Rattle.rewrite_code.proofs.Loads.{when_ok}
use Rattle.rewrite_code.proofs.measuring.memory_length.Goals as goal

pub returns : goal.returns
returns c =
    when_ok (λ last. emits_then c.in_ok-basic.ensures (emits_then c.in_ok-basic-2.ensures (emits_then c.in_ok-const_value.ensures (emits_then c.in_ok-basic-3.ensures (emits_then c.in_ok-const_value-2.ensures last))))) c.basic-4.result c.basic-4.ensures
