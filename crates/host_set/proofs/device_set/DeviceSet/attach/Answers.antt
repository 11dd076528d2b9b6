use Rattle.std.proofs.Common.{◌≡◌, ◌<◌, ◌++◌, [], ◌∷◌, length, rules, sym}
use Rattle.host_set.proofs.Sets.{attached_over, added_over, device_over, none_device, below_over, unnamed_since, distinct_attached, attached_named}
use Rattle.host_set.proofs.device_set.DeviceSet.attach.Goals as goal

pub index_mut-requires : goal.index_mut-requires
index_mut-requires g c =
    let h : c.in-Some.place < length c.args.self.now.devices.items = below_over _ _ _ _ c.in-Some.ensures in search rules

pub returns-in-Some-clause-attached : goal.returns-in-Some-clause-attached
returns-in-Some-clause-attached g c = rw c.replace.ensures.after (attached_over _ _ _ _ (rw c.name_of.ensures at c.in-Some.ensures))

pub returns-in-Some-clause-replaced : goal.returns-in-Some-clause-replaced
returns-in-Some-clause-replaced g c = rw c.replace.ensures.value (device_over _ _ _ _ _ (rw c.name_of.ensures at c.in-Some.ensures) c.index_mut.ensures.value)

pub returns-in-Ok-clause-replaced : goal.returns-in-Ok-clause-replaced
returns-in-Ok-clause-replaced g c = none_device _ _ (unnamed_since _ _ _ (rw c.name_of.ensures at c.place.ensures) (λ i e. search rules))

pub returns-in-Err-clause-replacing : goal.returns-in-Err-clause-replacing
returns-in-Err-clause-replacing g c = sym (none_device _ _ (unnamed_since _ _ _ (rw c.name_of.ensures at c.place.ensures) (λ i e. search rules)))

pub returns-in-Ok-clause-attached : goal.returns-in-Ok-clause-attached
returns-in-Ok-clause-attached g c =
    let p : c.push.new.self.items ≡ c.args.self.now.devices.items ++ c.args.device ∷ [] = search rules in
    rw p (added_over _ _ _ (unnamed_since _ _ _ (rw c.name_of.ensures at c.place.ensures) (λ i e. search rules)).unnamed)

pub returns-in-Some-clause-distinct : goal.returns-in-Some-clause-distinct
returns-in-Some-clause-distinct g c = λ h. rw (returns-in-Some-clause-attached g c) (distinct_attached _ _ h)

pub returns-in-Ok-clause-distinct : goal.returns-in-Ok-clause-distinct
returns-in-Ok-clause-distinct g c = λ h. rw (returns-in-Ok-clause-attached g c) (distinct_attached _ _ h)

pub returns-in-Some-clause-maps : goal.returns-in-Some-clause-maps
returns-in-Some-clause-maps g c = λ name. rw (returns-in-Some-clause-attached g c) (attached_named _ _ name)

pub returns-in-Ok-clause-maps : goal.returns-in-Ok-clause-maps
returns-in-Ok-clause-maps g c = λ name. rw (returns-in-Ok-clause-attached g c) (attached_named _ _ name)
