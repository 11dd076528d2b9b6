use Rattle.std.proofs.lemmas.List.Sorted.{searched}
use Rattle.rewrite_code.proofs.Rises.{found_as}
use Rattle.rewrite_code.proofs.offsets.is_found.Goals as goal

pub returns : goal.returns
returns c = λ rises.
    found_as c.args.items.now c.args.offset c.binary_search.result c.is_ok.result c.is_ok.ensures.value (searched c.args.items.now c.args.offset c.binary_search.result c.binary_search.ensures.position rises)
