use Rattle.host_set.proofs.Sets.{found_over}
use Rattle.host_set.proofs.device_set.DeviceSetDevices.place.Goals as goal

pub returns : goal.returns
returns g c = rw (c.position.ensures, c.deref.ensures.value) (search found_over)
