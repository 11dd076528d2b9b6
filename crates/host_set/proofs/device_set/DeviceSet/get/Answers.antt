use Rattle.std.proofs.Common.{◌<◌, ◌∙◌, length, rules}
use Rattle.host_set.proofs.Sets.{device_over, none_device, below_over, same_device}
use Rattle.host_set.proofs.device_set.DeviceSet.get.Goals as goal

pub index-requires : goal.index-requires
index-requires g c =
    let h : c.in-Some.place < length c.args.self.now.devices.items = below_over _ _ _ _ c.in-Some.ensures in search rules

pub returns-in-Some : goal.returns-in-Some
returns-in-Some g c =
    same_device _ _ c.lent.ensures.name c.lent.ensures.log c.lent.ensures.count ∙ device_over _ _ _ _ _ c.in-Some.ensures c.index.ensures

pub returns-in-None : goal.returns-in-None
returns-in-None g c = none_device _ _ c.in-None.ensures
