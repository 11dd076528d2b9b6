use Rattle.rewrite_modules.proofs.Divider.{weighs, multiplies}
use Rattle.rewrite_modules.proofs.laws.weight_of_the_example.Goals as goal

pub returns : goal.returns
returns c = record {
  weight = weighs;
  multiple = multiplies;
}
