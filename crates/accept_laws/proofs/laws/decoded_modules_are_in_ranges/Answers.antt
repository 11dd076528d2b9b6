use Rattle.accept_laws.proofs.Spelled.{spelled, decoded}
use Rattle.accept_laws.proofs.laws.decoded_modules_are_in_ranges.Goals as goal

pub returns : goal.returns
returns c = record {
  spelled = spelled;
  decoded = decoded;
}
