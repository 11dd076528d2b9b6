use Rattle.std.proofs.lemmas.List.{length-map}
use Rattle.host_set.specs.Sets.{IsCalled}
use Rattle.host_set.proofs.Sets.{others_stay, called_at}
use Rattle.host_set.proofs.device_set.DeviceSetDevices.call.Goals as goal

pub returns-clause-others : goal.returns-clause-others
returns-clause-others g c = others_stay _ _ _ _

pub returns-clause-called : goal.returns-clause-called
returns-clause-called g c =
    called_at (λ old new. IsCalled c.ask.result c.args.call.now old new) _ _ _ _ _ c.index_mut.ensures.value (rw length-map at c.requires) (record { name = c.ask.ensures.name; log = c.ask.ensures.log; later = c.ask.ensures.later; failed = c.ask.ensures.failed })
