use Rattle.rewrite_promise.proofs.Offsets.{fitting}
use Rattle.rewrite_promise.proofs.Spelled.{spelled, decoded}
use Rattle.rewrite_promise.proofs.sizes.offsets_are_small.Goals as goal

pub returns : goal.returns
returns c = record {
  fitting = fitting;
  spelled = spelled;
  decoded = decoded;
}
