use Rattle.rewrite_promise.proofs.Admitted.{written, spelled}
use Rattle.rewrite_promise.proofs.laws.written_promises_are_admitted.Goals as goal

pub returns : goal.returns
returns c = record {
  encoded = written;
  spelled = spelled;
}
