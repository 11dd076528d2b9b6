use Rattle.std.proofs.Common.{◌∙◌, refl, sym, ap, length, List, slice_get}
use Rattle.std.proofs.lemmas.Bool.{ltb-true}
use Rattle.std.proofs.lemmas.Option.{slice_get_read}
use Rattle.wasm_syntax.specs.declared.host.Reply.{Reply}
use Rattle.host_devices.specs.calls.Devices.{ScriptState}
use Rattle.host_devices.proofs.Replies.{next_reply}
use Rattle.host_devices.proofs.scripted.ScriptedDevice.call.Goals as goal

pub returns-in-Ok-push-clause-gives : goal.returns-in-Ok-push-clause-gives
returns-in-Ok-push-clause-gives c =
    let replies = c.as_slice.result.now in
    let given = c.self.inside.given in
    let reply = c.in-Some.reply.now in
    let found = c.in-Some.ensures.lookup in
    let there = slice_get_read replies (length replies) given reply refl (ltb-true given (length replies) (sym found.0)) found.1 in
    let held = ap (λ (rs : List Reply). slice_get rs given) (sym c.as_slice.ensures) ∙ there in
    rw c.in-Ok.ensures (ap (λ (s : ScriptState). s.left) (sym c.self.view_is) ∙ next_reply c.self.inside.replies given reply held)
