use Rattle.rewrite_promise.proofs.Decoded.{accepted}
use Rattle.rewrite_promise.proofs.Kept.{promised}
use Rattle.rewrite_promise.proofs.laws.rewriting_promises.Goals as goal

pub returns : goal.returns
returns c = record {
  modules = promised;
  bytes = λ bytes m other a r. promised m other (accepted bytes m a) r;
}
