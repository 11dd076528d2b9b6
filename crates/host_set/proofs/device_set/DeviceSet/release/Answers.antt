use Rattle.std.proofs.Common.{◌<◌, ◌∙◌, ap, length, rules}
use Rattle.host_set.specs.Sets.{device_named}
use Rattle.host_set.proofs.Sets.{released_over, none_released, device_over, none_device, below_over, distinct_released, released_named}
use Rattle.host_set.proofs.device_set.DeviceSet.release.Goals as goal

pub remove-requires : goal.remove-requires
remove-requires g c =
    let h : c.in-Some.place < length c.args.self.now.devices.items = below_over _ _ _ _ c.in-Some.ensures in search rules

pub returns-in-Some-clause-released : goal.returns-in-Some-clause-released
returns-in-Some-clause-released g c = rw c.remove.ensures.items (released_over _ _ _ _ c.in-Some.ensures)

pub returns-in-Some-clause-back : goal.returns-in-Some-clause-back
returns-in-Some-clause-back g c = device_over _ _ _ _ _ c.in-Some.ensures c.remove.ensures.value

pub returns-in-None-clause-released : goal.returns-in-None-clause-released
returns-in-None-clause-released g c = none_released _ _ c.in-None.ensures

pub returns-in-None-clause-back : goal.returns-in-None-clause-back
returns-in-None-clause-back g c = none_device _ _ c.in-None.ensures

pub returns-in-Some-clause-distinct : goal.returns-in-Some-clause-distinct
returns-in-Some-clause-distinct g c = λ h. rw (returns-in-Some-clause-released g c) (distinct_released _ _ h)

pub returns-in-Some-clause-maps : goal.returns-in-Some-clause-maps
returns-in-Some-clause-maps g c = λ h other. rw (returns-in-Some-clause-released g c) (released_named _ _ other h)

pub returns-in-None-clause-maps : goal.returns-in-None-clause-maps
returns-in-None-clause-maps g c = λ h other. ap (λ ds. device_named ds other) (returns-in-None-clause-released g c) ∙ released_named _ _ other h
