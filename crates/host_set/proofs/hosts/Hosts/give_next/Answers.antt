use Rattle.std.proofs.Common.{rules, ◌≡◌, ◌<◌, [], ◌∷◌, ◌++◌, sym, refl, length, slice_get, Some}
use Rattle.std.proofs.lemmas.Bool.{ltb-true}
use Rattle.std.proofs.lemmas.Option.{slice_get_read}
use Rattle.host_set.specs.declared.entry.Entry.TheVariants.{OfScript}
use Rattle.host_set.proofs.Calls.{script_given}
use Rattle.host_set.proofs.hosts.Hosts.give_next.Goals as goal

pub invariant_of-self : goal.invariant_of-self
invariant_of-self g c =
    let found = c.in-Some.ensures.lookup in
    let lt : c.self.inside.given < length c.replies.result.now = ltb-true c.self.inside.given (length c.replies.result.now) (sym found.0) in
    let there : slice_get c.replies.result.now c.self.inside.given ≡ Some c.in-Some.reply.now = slice_get_read c.replies.result.now (length c.replies.result.now) c.self.inside.given c.in-Some.reply.now refl lt found.1 in
    let copy : c.in-Ok.answer ≡ c.in-Some.reply.now = search rules in
    let pushed : c.add_scripted.new.entries ≡ c.self.inside.entries ++ OfScript c.args.call.now c.self.inside.given ∷ [] = c.in-Ok-add_scripted.ensures.added in
    (script_given c.self.inside.imports.now (g.S.Devices.shown c.self.inside.devices) c.self.inside.script c.self.inside.given c.self.inside.entries c.add_scripted.new.entries c.args.import.now c.args.call.now c.in-Some.reply.now c.in-Ok.answer c.self.invariant (rw (← c.self.view_is) at c.requires.there) (rw (← c.self.view_is) at c.requires.place) (rw c.replies.ensures at lt) (rw c.replies.ensures at there) copy pushed).keeps

pub returns-in-Ok-add_scripted : goal.returns-in-Ok-add_scripted
returns-in-Ok-add_scripted g c =
    let found = c.in-Some.ensures.lookup in
    let lt : c.self.inside.given < length c.replies.result.now = ltb-true c.self.inside.given (length c.replies.result.now) (sym found.0) in
    let there : slice_get c.replies.result.now c.self.inside.given ≡ Some c.in-Some.reply.now = slice_get_read c.replies.result.now (length c.replies.result.now) c.self.inside.given c.in-Some.reply.now refl lt found.1 in
    let copy : c.in-Ok.answer ≡ c.in-Some.reply.now = search rules in
    let pushed : c.add_scripted.new.entries ≡ c.self.inside.entries ++ OfScript c.args.call.now c.self.inside.given ∷ [] = c.in-Ok-add_scripted.ensures.added in
    rw (← c.self.view_is) (script_given c.self.inside.imports.now (g.S.Devices.shown c.self.inside.devices) c.self.inside.script c.self.inside.given c.self.inside.entries c.add_scripted.new.entries c.args.import.now c.args.call.now c.in-Some.reply.now c.in-Ok.answer c.self.invariant (rw (← c.self.view_is) at c.requires.there) (rw (← c.self.view_is) at c.requires.place) (rw c.replies.ensures at lt) (rw c.replies.ensures at there) copy pushed).answered
