use Rattle.rewrite_promise.proofs.Decoded.{whole, limits, accepted}
use Rattle.rewrite_promise.proofs.laws.decoded_modules_are_accepted.Goals as goal

pub returns : goal.returns
returns c = record {
  whole = whole;
  limits = limits;
  accepted = accepted;
}
