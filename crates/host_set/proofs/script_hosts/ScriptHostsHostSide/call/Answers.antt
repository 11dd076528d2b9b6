use Rattle.std.proofs.Common.{rules, ◌≡◌, ◌<◌, [], ◌∷◌, ◌++◌, ap, refl, sym, length, slice_get, Some, List}
use Rattle.std.proofs.lemmas.Bool.{ltb-true}
use Rattle.std.proofs.lemmas.Option.{slice_get_read}
use Rattle.wasm_syntax.specs.declared.host.HostCall.{HostCall}
use Rattle.host_set.specs.calls.Scripting.{ScriptState}
use Rattle.host_set.proofs.Served.{is_next, is_left, grown, served_next}
use Rattle.host_set.proofs.script_hosts.ScriptHostsHostSide.call.Goals as goal

pub returns-in-Ok-add_call-clause-calls : goal.returns-in-Ok-add_call-clause-calls
returns-in-Ok-add_call-clause-calls c =
    let found = c.in-Some.ensures.lookup in
    let lt : c.self.inside.next < length c.self.inside.replies.now = ltb-true c.self.inside.next (length c.self.inside.replies.now) (sym found.0) in
    let there : slice_get c.self.inside.replies.now c.self.inside.next ≡ Some c.in-Some.reply.now = slice_get_read c.self.inside.replies.now (length c.self.inside.replies.now) c.self.inside.next c.in-Some.reply.now refl lt found.1 in
    let given : c.in-Ok.answer ≡ c.in-Some.reply.now = search rules in
    let pushed : c.add_call.new.calls ≡ c.self.inside.calls ++ c.args.call.now ∷ [] = c.in-Ok-add_call.ensures.added in
    rw (← c.self.view_is) (served_next c.self.inside.calls c.add_call.new.calls c.args.call.now c.args.call.now c.self.inside.replies.now c.in-Some.reply.now c.in-Ok.answer c.self.inside.first c.self.inside.next c.self.invariant.0 there given pushed refl, refl)

pub returns-in-Ok-add_call-clause-exhausted : goal.returns-in-Ok-add_call-clause-exhausted
returns-in-Ok-add_call-clause-exhausted c =
    let found = c.in-Some.ensures.lookup in
    let lt : c.self.inside.next < length c.self.inside.replies.now = ltb-true c.self.inside.next (length c.self.inside.replies.now) (sym found.0) in
    let there : slice_get c.self.inside.replies.now c.self.inside.next ≡ Some c.in-Some.reply.now = slice_get_read c.self.inside.replies.now (length c.self.inside.replies.now) c.self.inside.next c.in-Some.reply.now refl lt found.1 in
    let given : c.in-Ok.answer ≡ c.in-Some.reply.now = search rules in
    rw (← c.self.view_is) (is_left c.self.inside.calls c.add_call.new.calls c.args.call.now c.args.call.now c.self.inside.replies.now c.in-Some.reply.now c.in-Ok.answer c.self.inside.first c.self.inside.next c.self.invariant.0 there given)

pub returns-in-Ok-add_call-clause-gives : goal.returns-in-Ok-add_call-clause-gives
returns-in-Ok-add_call-clause-gives c =
    let found = c.in-Some.ensures.lookup in
    let lt : c.self.inside.next < length c.self.inside.replies.now = ltb-true c.self.inside.next (length c.self.inside.replies.now) (sym found.0) in
    let there : slice_get c.self.inside.replies.now c.self.inside.next ≡ Some c.in-Some.reply.now = slice_get_read c.self.inside.replies.now (length c.self.inside.replies.now) c.self.inside.next c.in-Some.reply.now refl lt found.1 in
    let given : c.in-Ok.answer ≡ c.in-Some.reply.now = search rules in
    let pushed : c.add_call.new.calls ≡ c.self.inside.calls ++ c.args.call.now ∷ [] = c.in-Ok-add_call.ensures.added in
    rw (← c.self.view_is) (
      is_next c.self.inside.calls c.add_call.new.calls c.args.call.now c.args.call.now c.self.inside.replies.now c.in-Some.reply.now c.in-Ok.answer c.self.inside.first c.self.inside.next c.self.invariant.0 there given,
      ap (λ (cs : List HostCall). (let s : ScriptState = record { imports = c.self.inside.imports.now; replies = c.self.inside.replies.now; first = c.self.inside.first; calls = cs } in s))
          (grown c.self.inside.calls c.add_call.new.calls c.args.call.now c.args.call.now c.self.inside.replies.now c.in-Some.reply.now c.in-Ok.answer c.self.inside.first c.self.inside.next c.self.invariant.0 there given pushed refl),
    )
