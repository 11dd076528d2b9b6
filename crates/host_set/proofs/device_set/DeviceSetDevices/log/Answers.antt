use Rattle.std.proofs.Common.{ap, ◌∙◌}
use Rattle.std.proofs.lemmas.List.{length-map}
use Rattle.host_set.specs.Sets.{DeviceState}
use Rattle.host_set.proofs.Sets.{shown_at}
use Rattle.host_set.proofs.device_set.DeviceSetDevices.log.Goals as goal

pub returns : goal.returns
returns g c = c.log.ensures ∙ ap (λ (d : DeviceState). d.log) (shown_at _ _ _ _ c.index.ensures (rw length-map at c.requires))
