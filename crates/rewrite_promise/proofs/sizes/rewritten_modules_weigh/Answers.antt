use Rattle.rewrite_promise.proofs.Whole.{encoding_weighs}
use Rattle.rewrite_promise.proofs.sizes.rewritten_modules_weigh.Goals as goal

pub returns : goal.returns
returns c = λ m other x sized e. encoding_weighs m x sized other e
