use Rattle.std.proofs.Common.{rules}
use borrow.Author.Tests.{tests}
use Rattle.std.proofs.lemmas.Iterator.{YieldsList-from_slice}
use Rattle.std.proofs.lemmas.Iterator.Search.{position_from_yields_List}
use Rattle.std.proofs.lemmas.Iterator.Adapters.{position_from-zero}
use Rattle.host_set.proofs.Sets.{onto}
use Rattle.host_set.proofs.device_set.position.Goals as goal

pub returns : goal.returns
returns g c =
    onto (position_from-zero _ c.args.devices.now) (position_from_yields_List _ _ _ _ c.position.ensures.ran (YieldsList-from_slice c.args.devices.now cc) (λ x b q k. search (rules, tests)))
