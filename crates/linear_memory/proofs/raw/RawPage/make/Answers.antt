use Rattle.std.proofs.Common.{◌∙◌}
use Rattle.linear_memory.specs.inner.Table.{zeros}
use Rattle.linear_memory.proofs.raw.RawPage.make.Goals as goal

pub returns : goal.returns
unfolding zeros
returns c = c.of.ensures ∙ c.in_ok-new.ensures.ok
