use Rattle.rewrite_code.proofs.Pieces.{emitted_nodes, last_nodes}
use Rattle.rewrite_code.proofs.laws.nodes_are_written_out.Goals as goal

pub returns : goal.returns
returns c = record {
  piece = λ P a b p. emitted_nodes p;
  last = λ nodes a b p. last_nodes p;
  whole = λ nodes w p. last_nodes p;
}
