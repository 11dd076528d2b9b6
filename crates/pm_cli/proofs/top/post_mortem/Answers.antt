use Rattle.std.proofs.Common.{map, refl, inl}
use Rattle.std.specs.String.{string_bytes}
use Rattle.causes.specs.Counts.{Rose}
use Rattle.commands.specs.Told.{Takes}
use Rattle.pm_cli.specs.Answer.{Answered}
use Rattle.pm_cli.specs.Stops.{WordsStop}
use Rattle.pm_cli.proofs.Taken.{with_outcome}
use Rattle.pm_cli.proofs.Headline.{delivered_rewriting, want_not_done, delivered_debugging}
use Rattle.pm_cli.proofs.Stopping.{stopped_or_answered, failed_or_answered, fronts, named_fault, untaken, no_fault}
use Rattle.pm_cli.proofs.top.post_mortem.Goals as goal

pub returns-in-Ok-clause-answer : goal.returns-in-Ok-clause-answer
returns-in-Ok-clause-answer g c = with_outcome c.deliver.result c.in-Ok.outcome (Answered (g.D.Devices.shown c.args.devices.now) (g.D.Devices.shown c.respond.new.devices) (map string_bytes c.args.words.now) (g.F.Files.told c.args.files.now) (g.F.Files.told c.respond.new.files)) (λ o. Takes c.deliver.result (g.O.Sink.taken c.args.out.now) (g.O.Sink.taken c.deliver.new.out) o) (λ takes. takes.0) c.in-Ok.ensures.told c.deliver.ensures.taken

pub returns-in-Ok-clause-instrumented : goal.returns-in-Ok-clause-instrumented
returns-in-Ok-clause-instrumented g c = delivered_rewriting (g.D.Devices.shown c.args.devices.now) (g.D.Devices.shown c.respond.new.devices) (map string_bytes c.args.words.now) (g.F.Files.told c.args.files.now) (g.F.Files.told c.respond.new.files) c.in-Ok.outcome c.deliver.result
    (Takes c.deliver.result (g.O.Sink.taken c.args.out.now) (g.O.Sink.taken c.deliver.new.out) c.in-Ok.outcome) (λ takes. takes.0) c.in-Ok.ensures.told c.deliver.ensures.taken

pub returns-in-Ok-clause-debugged : goal.returns-in-Ok-clause-debugged
returns-in-Ok-clause-debugged g c = delivered_debugging (g.D.Devices.shown c.args.devices.now) (g.D.Devices.shown c.respond.new.devices) (map string_bytes c.args.words.now) (g.F.Files.told c.args.files.now) (g.F.Files.told c.respond.new.files) c.deliver.result (g.O.Sink.taken c.args.out.now) (g.O.Sink.taken c.deliver.new.out) (returns-in-Ok-clause-answer g c)

pub returns-in-Ok-clause-memory : goal.returns-in-Ok-clause-memory
returns-in-Ok-clause-memory g c = λ so. stopped_or_answered c.in-Ok.outcome (Answered (g.D.Devices.shown c.args.devices.now) (g.D.Devices.shown c.respond.new.devices) (map string_bytes c.args.words.now) (g.F.Files.told c.args.files.now) (g.F.Files.told c.respond.new.files)) (λ stop. WordsStop stop (map string_bytes c.args.words.now) (g.D.Devices.shown c.args.devices.now) (g.D.Devices.shown c.respond.new.devices) (g.F.Files.told c.args.files.now) (g.F.Files.told c.respond.new.files)) c.in-Ok.ensures.ended.memory c.in-Ok.ensures.told c.in-Ok.ensures.stops

pub returns-in-Ok-clause-failed : goal.returns-in-Ok-clause-failed
returns-in-Ok-clause-failed g c = λ so. failed_or_answered c.in-Ok.outcome (Answered (g.D.Devices.shown c.args.devices.now) (g.D.Devices.shown c.respond.new.devices) (map string_bytes c.args.words.now) (g.F.Files.told c.args.files.now) (g.F.Files.told c.respond.new.files)) (λ stop. WordsStop stop (map string_bytes c.args.words.now) (g.D.Devices.shown c.args.devices.now) (g.D.Devices.shown c.respond.new.devices) (g.F.Files.told c.args.files.now) (g.F.Files.told c.respond.new.files)) c.in-Ok.ensures.ended.memory c.in-Ok.ensures.told c.in-Ok.ensures.stops
    (Rose (g.F.Files.faults c.args.files.now) (g.F.Files.faults c.respond.new.files)) c.in-Ok.ensures.ended.fault

pub returns-in-Ok-clause-named : goal.returns-in-Ok-clause-named
returns-in-Ok-clause-named g c = named_fault c.in-Ok.outcome (Answered (g.D.Devices.shown c.args.devices.now) (g.D.Devices.shown c.respond.new.devices) (map string_bytes c.args.words.now) (g.F.Files.told c.args.files.now) (g.F.Files.told c.respond.new.files)) (λ stop. WordsStop stop (map string_bytes c.args.words.now) (g.D.Devices.shown c.args.devices.now) (g.D.Devices.shown c.respond.new.devices) (g.F.Files.told c.args.files.now) (g.F.Files.told c.respond.new.files)) c.in-Ok.ensures.ended.memory c.in-Ok.ensures.told c.in-Ok.ensures.stops
    c.deliver.result (g.O.Sink.taken c.args.out.now) (g.O.Sink.taken c.deliver.new.out) (Rose (g.F.Files.faults c.args.files.now) (g.F.Files.faults c.respond.new.files)) (Rose (g.O.Sink.faults c.args.out.now) (g.O.Sink.faults c.deliver.new.out))
    c.in-Ok.ensures.ended.fault c.deliver.ensures.fault c.deliver.ensures.whole

pub returns-in-Ok-clause-front : goal.returns-in-Ok-clause-front
returns-in-Ok-clause-front g c = fronts c.in-Ok.outcome (Answered (g.D.Devices.shown c.args.devices.now) (g.D.Devices.shown c.respond.new.devices) (map string_bytes c.args.words.now) (g.F.Files.told c.args.files.now) (g.F.Files.told c.respond.new.files)) (λ stop. WordsStop stop (map string_bytes c.args.words.now) (g.D.Devices.shown c.args.devices.now) (g.D.Devices.shown c.respond.new.devices) (g.F.Files.told c.args.files.now) (g.F.Files.told c.respond.new.files)) c.in-Ok.ensures.ended.memory c.in-Ok.ensures.told c.in-Ok.ensures.stops
    (g.O.Sink.taken c.args.out.now) (g.O.Sink.taken c.deliver.new.out) (Rose (g.F.Files.faults c.args.files.now) (g.F.Files.faults c.respond.new.files)) c.in-Ok.ensures.ended.fault c.deliver.ensures.front

pub returns-in-Err-clause-instrumented : goal.returns-in-Err-clause-instrumented
returns-in-Err-clause-instrumented g c = λ done. absurd (want_not_done done)

pub returns-in-Err-clause-memory : goal.returns-in-Err-clause-memory
returns-in-Err-clause-memory g c = λ so. inl c.in-Err.ensures.stops

pub returns-in-Err-clause-failed : goal.returns-in-Err-clause-failed
returns-in-Err-clause-failed g c = λ so. absurd (no_fault so)

pub returns-in-Err-clause-named : goal.returns-in-Err-clause-named
returns-in-Err-clause-named g c = λ so rose. absurd (no_fault so)

pub returns-in-Err-clause-front : goal.returns-in-Err-clause-front
returns-in-Err-clause-front g c = untaken (g.O.Sink.taken c.args.out.now) _

pub returns-in-Ok-clause-wanting : goal.returns-in-Ok-clause-wanting
returns-in-Ok-clause-wanting g c = λ want none. absurd (none (c.deliver.ensures.wanting want c.in-Ok.ensures.ended.memory))

pub returns-in-Err-clause-wanting : goal.returns-in-Err-clause-wanting
returns-in-Err-clause-wanting g c = λ want none. refl
