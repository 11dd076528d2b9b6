use Rattle.std.proofs.Common.{rules, ◌<◌, ◌∙◌, ap, sym, length, get_or, Some}
use Rattle.std.proofs.lemmas.List.{get_or_default}
use Rattle.wasm_syntax.specs.declared.host.Reply.{Reply}
use Rattle.wasm_syntax.specs.declared.host.Served.{Served}
use Rattle.host_devices.specs.calls.Devices.{empty_reply}
use Rattle.host_set.specs.Sets.{no_device}
use Rattle.host_set.specs.calls.Hosting.{replies_of, no_served}
use Rattle.host_set.proofs.Replies.{device_entry, script_entry}
use Rattle.host_set.proofs.hosts.Hosts.reply.Goals as goal

pub log-requires : goal.log-requires
log-requires g c = (device_entry c.self.inside.imports.now (g.S.Devices.shown c.self.inside.devices) (replies_of c.self.inside.script) c.self.inside.entries c.args.index c.index-as_slice-index.result c.in-OfDevice.place c.in-OfDevice.at c.self.invariant.inside (rw c.as_slice.ensures at c.index-as_slice-index.is) (rw (← c.self.view_is) at c.requires) c.in-OfDevice.is).place_below

pub bounds-log-at : goal.bounds-log-at
bounds-log-at g c = rw c.log.ensures (device_entry c.self.inside.imports.now (g.S.Devices.shown c.self.inside.devices) (replies_of c.self.inside.script) c.self.inside.entries c.args.index c.index-as_slice-index.result c.in-OfDevice.place c.in-OfDevice.at c.self.invariant.inside (rw c.as_slice.ensures at c.index-as_slice-index.is) (rw (← c.self.view_is) at c.requires) c.in-OfDevice.is).at_below

pub offset_bounds-log-at : goal.offset_bounds-log-at
offset_bounds-log-at g c =
    let h : c.in-OfDevice.at < length c.log.result.now = rw c.log.ensures (device_entry c.self.inside.imports.now (g.S.Devices.shown c.self.inside.devices) (replies_of c.self.inside.script) c.self.inside.entries c.args.index c.index-as_slice-index.result c.in-OfDevice.place c.in-OfDevice.at c.self.invariant.inside (rw c.as_slice.ensures at c.index-as_slice-index.is) (rw (← c.self.view_is) at c.requires) c.in-OfDevice.is).at_below in search rules

pub bounds-replies-reply : goal.bounds-replies-reply
bounds-replies-reply g c = rw c.replies.ensures (script_entry c.self.inside.imports.now (g.S.Devices.shown c.self.inside.devices) (replies_of c.self.inside.script) c.self.inside.entries c.args.index c.index-as_slice-index.result c.in-OfScript.call c.in-OfScript.reply c.self.invariant.inside (rw c.as_slice.ensures at c.index-as_slice-index.is) (rw (← c.self.view_is) at c.requires) c.in-OfScript.is).below

pub offset_bounds-replies-reply : goal.offset_bounds-replies-reply
offset_bounds-replies-reply g c =
    let h : c.in-OfScript.reply < length c.replies.result.now = rw c.replies.ensures (script_entry c.self.inside.imports.now (g.S.Devices.shown c.self.inside.devices) (replies_of c.self.inside.script) c.self.inside.entries c.args.index c.index-as_slice-index.result c.in-OfScript.call c.in-OfScript.reply c.self.invariant.inside (rw c.as_slice.ensures at c.index-as_slice-index.is) (rw (← c.self.view_is) at c.requires) c.in-OfScript.is).below in search rules

pub returns-in-OfDevice : goal.returns-in-OfDevice
returns-in-OfDevice g c =
    let d = device_entry c.self.inside.imports.now (g.S.Devices.shown c.self.inside.devices) (replies_of c.self.inside.script) c.self.inside.entries c.args.index c.index-as_slice-index.result c.in-OfDevice.place c.in-OfDevice.at c.self.invariant.inside (rw c.as_slice.ensures at c.index-as_slice-index.is) (rw (← c.self.view_is) at c.requires) c.in-OfDevice.is in
    rw (← c.self.view_is, c.log.ensures) (d.reply ∙ ap (λ (s : Served). Some s.reply) (get_or_default (get_or (g.S.Devices.shown c.self.inside.devices) c.in-OfDevice.place no_device).log c.in-OfDevice.at no_served c.index-log-at.result d.at_below))

pub returns-in-OfScript : goal.returns-in-OfScript
returns-in-OfScript g c =
    let d = script_entry c.self.inside.imports.now (g.S.Devices.shown c.self.inside.devices) (replies_of c.self.inside.script) c.self.inside.entries c.args.index c.index-as_slice-index.result c.in-OfScript.call c.in-OfScript.reply c.self.invariant.inside (rw c.as_slice.ensures at c.index-as_slice-index.is) (rw (← c.self.view_is) at c.requires) c.in-OfScript.is in
    rw (← c.self.view_is) (d.reply ∙ ap (λ (r : Reply). Some r) (get_or_default (replies_of c.self.inside.script) c.in-OfScript.reply empty_reply c.index-replies-reply.result d.below ∙ sym (rw c.replies.ensures at c.index-replies-reply.is)))
