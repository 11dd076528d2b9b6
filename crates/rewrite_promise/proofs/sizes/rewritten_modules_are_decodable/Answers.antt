use Rattle.std.proofs.Common.{arith}
use Rattle.rewrite_promise.proofs.Lists.{within}
use Rattle.rewrite_promise.proofs.Whole.{encoding_weighs}
use Rattle.rewrite_promise.proofs.sizes.rewritten_modules_are_decodable.Goals as goal

pub returns : goal.returns
returns c = record {
  limits = λ m other x sized e none. within m other x sized e none;
  bytes = λ m other x sized e. (let a = encoding_weighs m x sized other e in omega (arith, a, x.lightness.light));
}
