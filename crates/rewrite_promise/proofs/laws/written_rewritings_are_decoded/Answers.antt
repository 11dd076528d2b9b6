use Rattle.rewrite_promise.proofs.Written.{written, spelled}
use Rattle.rewrite_promise.proofs.laws.written_rewritings_are_decoded.Goals as goal

pub returns : goal.returns
returns c = record {
  encoded = written;
  spelled = spelled;
}
