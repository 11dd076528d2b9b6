use Rattle.std.proofs.Common.{sym}
use Rattle.std.specs.Prelude.{◌==◌}
use Rattle.host_replies.proofs.Splits.{split_none, split_cut}
use Rattle.host_replies.proofs.parts.first_part.Goals as goal

pub returns-in-None-clause-parts : goal.returns-in-None-clause-parts
returns-in-None-clause-parts c = split_none (λ b. b == c.args.separator) c.args.bytes.now (sym c.in-None.ensures.offset)

pub returns-in-Some-clause-parts : goal.returns-in-Some-clause-parts
returns-in-Some-clause-parts c =
    split_cut (λ b. b == c.args.separator) c.args.bytes.now c.split_at.result.0.now c.split_at.result.1.now c.in-Some.at (sym c.in-Some.ensures.offset) c.split_at.ensures.front c.split_at.ensures.back
