use Rattle.rewrite_promise.proofs.Bodies.{light, all_codes_short}
use Rattle.rewrite_promise.proofs.sizes.rewritten_bodies_weigh.Goals as goal

pub returns : goal.returns
returns c = record {
  each = light;
  together = all_codes_short;
}
