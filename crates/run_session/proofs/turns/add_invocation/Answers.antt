use Rattle.std.proofs.Common.{◌≡◌}
use Rattle.machine_hosted.specs.declared.answer.RunEnd.TheVariants.{NoMemory}
use Rattle.run_session.specs.Telling.{tells}
use Rattle.run_session.proofs.Tellings.{behaves}
use Rattle.run_session.proofs.Turning.{all_added, told_part, all_dumped, unwritten_part, whatever_is_given}
use Rattle.run_session.proofs.turns.add_invocation.Goals as goal

pub returns-in_err-told-clause-part : goal.returns-in_err-told-clause-part
returns-in_err-told-clause-part g c = λ deliver is_delivery.
    unwritten_part (tells c.args.words.now.collect deliver) c.args.words.now.collect c.args.words.now.dump c.args.words.now.name c.args.instance.now c.args.answer.now c.args.outside.now.collected.now c.args.lines.now.traps (g.F.Files.told c.args.files.now)

pub returns-clause-part : goal.returns-clause-part
returns-clause-part g c = λ deliver is_delivery.
    told_part (tells c.args.words.now.collect deliver) (behaves c.args.words.now.collect deliver) c.args.words.now.collect c.args.words.now.dump c.args.words.now.name c.args.instance.now c.args.answer.now c.args.outside.now.collected.now c.in_ok-told.told (c.in_ok-told.ensures.told deliver is_delivery) (g.F.Files.told c.args.files.now) (g.F.Files.told c.add_told-added.new.files) c.args.lines.now.traps c.add_told-added.ensures.front

pub returns-clause-added : goal.returns-clause-added
returns-clause-added g c = λ deliver is_delivery.
    all_added (tells c.args.words.now.collect deliver) (behaves c.args.words.now.collect deliver) c.args.words.now.collect c.args.words.now.dump c.args.words.now.name c.args.instance.now c.args.answer.now c.args.outside.now.collected.now c.in_ok-told.told (c.in_ok-told.ensures.told deliver is_delivery) (g.F.Files.told c.args.files.now) (g.F.Files.told c.add_told-added.new.files)
    c.args.outside.now.calls c.args.lines.now c.add_told-added.new.lines c.add_told-added.result c.in_ok-told.ensures.memory c.add_told-added.ensures.added c.add_told-added.ensures.torn

pub returns-clause-dumped : goal.returns-clause-dumped
returns-clause-dumped g c = λ deliver is_delivery.
    all_dumped (tells c.args.words.now.collect deliver) (behaves c.args.words.now.collect deliver) c.args.words.now.collect c.args.words.now.dump c.args.words.now.name c.args.instance.now c.args.answer.now c.args.outside.now.collected.now c.in_ok-told.told (c.in_ok-told.ensures.told deliver is_delivery) (g.F.Files.told c.args.files.now) (g.F.Files.told c.add_told-added.new.files) c.add_told-added.result c.add_told-added.ensures.dumped

pub returns-clause-memory : goal.returns-clause-memory
returns-clause-memory g c = whatever_is_given c.add_told-added.result (c.args.answer.now ≡ NoMemory → ⊥) c.in_ok-told.ensures.memory
