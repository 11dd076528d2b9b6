use Rattle.std.proofs.Common.{◌≡◌, true, ap, subst, ◌∙◌}
use Rattle.causes.specs.Counts.{Rose}
use Rattle.commands.specs.Texts.{file_fault}
use Rattle.run_session.specs.Telling.{tells}
use Rattle.run_session.specs.RunText.{dump_name}
use Rattle.run_session.specs.inner.Turns.{turn_by, IfGoesOn, Added, Dumps}
use Rattle.run_session.proofs.Turning.{turn_added, turn_refused}
use Rattle.run_session.proofs.turns.end_turn.Goals as goal

pub returns-clause-added : goal.returns-clause-added
returns-clause-added g c = λ deliver is_delivery.
    turn_added c.in_ok-added.added c.args.instance.now.ready c.args.answer c.turn_after.result
    (Added (tells c.args.words.now.collect deliver) c.args.words.now.collect c.args.words.now.dump c.args.words.now.name c.args.instance.now c.args.answer c.args.outside.now.calls c.args.outside.now.collected.now c.args.lines.now c.add_invocation.new.lines (g.F.Files.told c.args.files.now) (g.F.Files.told c.add_invocation.new.files))
    (c.turn_after.ensures.turn ∙ ap (λ r. turn_by c.in_ok-added.added r c.args.answer) c.ready.ensures) (c.in_ok-added.ensures.added deliver is_delivery)

pub returns-clause-dumped : goal.returns-clause-dumped
returns-clause-dumped g c = λ deliver is_delivery.
    turn_refused c.in_ok-added.added c.args.instance.now.ready c.args.answer c.turn_after.result
    (λ _. Dumps (tells c.args.words.now.collect deliver) c.args.words.now.collect c.args.answer c.args.instance.now c.args.outside.now.collected.now)
    (c.turn_after.ensures.turn ∙ ap (λ r. turn_by c.in_ok-added.added r c.args.answer) c.ready.ensures) (c.in_ok-added.ensures.dumped deliver is_delivery)

pub returns-clause-refused : goal.returns-clause-refused
returns-clause-refused g c =
    turn_refused c.in_ok-added.added c.args.instance.now.ready c.args.answer c.turn_after.result
    (λ o. (o ≡ file_fault (dump_name c.args.words.now.dump c.args.lines.now.traps)) × Rose (g.F.Files.faults c.args.files.now) (g.F.Files.faults c.add_invocation.new.files))
    (c.turn_after.ensures.turn ∙ ap (λ r. turn_by c.in_ok-added.added r c.args.answer) c.ready.ensures) c.in_ok-added.ensures.refused

pub returns-clause-ready : goal.returns-clause-ready
returns-clause-ready g c = subst (λ r. IfGoesOn (r ≡ true) c.turn_after.result) c.ready.ensures c.turn_after.ensures.ready
