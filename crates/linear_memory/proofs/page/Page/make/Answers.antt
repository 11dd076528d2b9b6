use Rattle.std.proofs.Common.{ap, length, ◌∙◌}
use Rattle.linear_memory.proofs.Contents.{length-zeros}
use Rattle.linear_memory.proofs.page.Page.make.Goals as goal

pub invariant_of-result : goal.invariant_of-result
invariant_of-result c = ap length c.in_ok-raw.ensures ∙ length-zeros
