use Rattle.std.proofs.Common.{◌∙◌}
use Rattle.rewrite_code.proofs.Rises.{any_among}
use Rattle.rewrite_code.proofs.offsets.is_among.Goals as goal

pub returns : goal.returns
returns c = c.contains.ensures.value ∙ any_among c.args.offset c.args.items.now
