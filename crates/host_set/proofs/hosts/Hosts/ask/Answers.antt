use Rattle.std.proofs.Common.{rules, ◌≡◌, [], ◌∷◌, ◌++◌, ap, length}
use Rattle.host_devices.specs.declared.host.HostAnswer.TheVariants.{NoMemory}
use Rattle.host_set.specs.declared.entry.Entry.TheVariants.{OfDevice}
use Rattle.host_set.proofs.Sets.{place_below}
use Rattle.host_set.proofs.Calls.{asked_replied, asked_failed, asked_wanting, taken_back}
use Rattle.host_set.proofs.hosts.Hosts.ask.Goals as goal

pub log-at-requires : goal.log-at-requires
log-at-requires g c =
    place_below (g.S.Devices.shown c.self.inside.devices) c.args.import.now.«module» c.args.place (rw (← c.self.view_is) at c.requires.place)

pub call-requires : goal.call-requires
call-requires g c =
    place_below (g.S.Devices.shown c.self.inside.devices) c.args.import.now.«module» c.args.place (rw (← c.self.view_is) at c.requires.place)

pub invariant_of-self-in-Replied : goal.invariant_of-self-in-Replied
invariant_of-self-in-Replied g c =
    let p : c.push.new.self ≡ c.self.inside.entries ++ OfDevice c.args.place (length c.log-at.result.now) ∷ [] = search rules in
    (asked_replied c.self.inside.imports.now (g.S.Devices.shown c.self.inside.devices) (g.S.Devices.shown c.call.new.self) c.self.inside.script c.self.inside.given c.self.inside.entries c.push.new.self c.args.import.now c.args.call.now c.in-Replied.reply c.args.place (length c.log-at.result.now) c.call.result c.self.invariant (rw (← c.self.view_is) at c.requires.there) (rw (← c.self.view_is) at c.requires.place) c.call.ensures.others c.call.ensures.called c.in-Replied.is (ap length c.log-at.ensures) p).keeps

pub returns-in-Replied : goal.returns-in-Replied
returns-in-Replied g c =
    let p : c.push.new.self ≡ c.self.inside.entries ++ OfDevice c.args.place (length c.log-at.result.now) ∷ [] = search rules in
    rw (← c.self.view_is) (asked_replied c.self.inside.imports.now (g.S.Devices.shown c.self.inside.devices) (g.S.Devices.shown c.call.new.self) c.self.inside.script c.self.inside.given c.self.inside.entries c.push.new.self c.args.import.now c.args.call.now c.in-Replied.reply c.args.place (length c.log-at.result.now) c.call.result c.self.invariant (rw (← c.self.view_is) at c.requires.there) (rw (← c.self.view_is) at c.requires.place) c.call.ensures.others c.call.ensures.called c.in-Replied.is (ap length c.log-at.ensures) p).answered

pub invariant_of-self-in-Failed : goal.invariant_of-self-in-Failed
invariant_of-self-in-Failed g c =
    let p : c.push.new.self ≡ c.self.inside.entries ++ OfDevice c.args.place (length c.log-at.result.now) ∷ [] = search rules in
    let b : c.truncate.new.self ≡ c.self.inside.entries = taken_back _ _ _ _ _ c.len-count.ensures p c.truncate.ensures in
    (asked_failed NoMemory c.self.inside.imports.now (g.S.Devices.shown c.self.inside.devices) (g.S.Devices.shown c.call.new.self) c.self.inside.script c.self.inside.given c.self.inside.entries c.truncate.new.self c.args.import.now c.args.call.now c.args.place c.call.result tt c.self.invariant (rw (← c.self.view_is) at c.requires.place) c.call.ensures.others c.call.ensures.called c.in-Failed.is b).keeps

pub returns-in-Failed : goal.returns-in-Failed
returns-in-Failed g c =
    let p : c.push.new.self ≡ c.self.inside.entries ++ OfDevice c.args.place (length c.log-at.result.now) ∷ [] = search rules in
    let b : c.truncate.new.self ≡ c.self.inside.entries = taken_back _ _ _ _ _ c.len-count.ensures p c.truncate.ensures in
    rw (← c.self.view_is) (asked_failed c.failed.result c.self.inside.imports.now (g.S.Devices.shown c.self.inside.devices) (g.S.Devices.shown c.call.new.self) c.self.inside.script c.self.inside.given c.self.inside.entries c.truncate.new.self c.args.import.now c.args.call.now c.args.place c.call.result (rw c.as_str.ensures.value at c.failed.ensures) c.self.invariant (rw (← c.self.view_is) at c.requires.place) c.call.ensures.others c.call.ensures.called c.in-Failed.is b).answered

pub invariant_of-self-in-NoMemory : goal.invariant_of-self-in-NoMemory
invariant_of-self-in-NoMemory g c =
    let p : c.push.new.self ≡ c.self.inside.entries ++ OfDevice c.args.place (length c.log-at.result.now) ∷ [] = search rules in
    let b : c.truncate-in-NoMemory.new.self ≡ c.self.inside.entries = taken_back _ _ _ _ _ c.len-count.ensures p c.truncate-in-NoMemory.ensures in
    (asked_wanting c.self.inside.imports.now (g.S.Devices.shown c.self.inside.devices) (g.S.Devices.shown c.call.new.self) c.self.inside.script c.self.inside.given c.self.inside.entries c.truncate-in-NoMemory.new.self c.args.import.now c.args.call.now c.args.place c.call.result c.self.invariant (rw (← c.self.view_is) at c.requires.place) c.call.ensures.others c.call.ensures.called c.in-NoMemory.is b).keeps

pub returns-in-NoMemory : goal.returns-in-NoMemory
returns-in-NoMemory g c =
    let p : c.push.new.self ≡ c.self.inside.entries ++ OfDevice c.args.place (length c.log-at.result.now) ∷ [] = search rules in
    let b : c.truncate-in-NoMemory.new.self ≡ c.self.inside.entries = taken_back _ _ _ _ _ c.len-count.ensures p c.truncate-in-NoMemory.ensures in
    rw (← c.self.view_is) (asked_wanting c.self.inside.imports.now (g.S.Devices.shown c.self.inside.devices) (g.S.Devices.shown c.call.new.self) c.self.inside.script c.self.inside.given c.self.inside.entries c.truncate-in-NoMemory.new.self c.args.import.now c.args.call.now c.args.place c.call.result c.self.invariant (rw (← c.self.view_is) at c.requires.place) c.call.ensures.others c.call.ensures.called c.in-NoMemory.is b).answered
