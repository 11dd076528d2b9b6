use Rattle.rewrite_code.proofs.Pieces.{emits_then, emits_last, emits_within, emits_arms}
use Rattle.rewrite_code.proofs.laws.pieces_compose.Goals as goal

pub returns : goal.returns
returns c = record {
  in_order = λ P Q a b c p q. emits_then p q;
  last = λ P nodes a b c p q. emits_last p q;
  within = λ P inner a b c d o i e. emits_within o i e;
  arms = λ t arm other a b c d e f o i x j z. emits_arms o i x j z;
}
