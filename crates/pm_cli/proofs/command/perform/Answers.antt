use Rattle.commands.proofs.Endings.{ended_for}
use Rattle.std.proofs.Common.{◌≡◌, refl, ap, ◌∙◌, Some}
use Rattle.causes.specs.Counts.{Rose}
use Rattle.commands.specs.Texts.{file_fault}
use Rattle.pm_cli.proofs.Respond.{check_answered, show_answered, run_answered, debug_answered, instrument_answered, selftest_answered, replay_answered, cover_answered}
use Rattle.pm_cli.specs.Words.{command}
use Rattle.pm_cli.proofs.Stopping.{check_stops, show_stops, run_stops, debug_stops, instrument_stops, selftest_stops, replay_stops, cover_stops, quiet_all, quiet_run, quiet_cover, quiet_instrument, quiet_selftest}
use Rattle.pm_cli.proofs.command.perform.Goals as goal

pub returns-in-Check-clause-told : goal.returns-in-Check-clause-told
returns-in-Check-clause-told g c = λ words is. check_answered (g.D.Devices.shown c.args.devices.now) words (g.F.Files.told c.args.files.now) (g.F.Files.told c.check_file.new.files) c.check_file.result c.check_file.ensures.files.same _ c.as_str.result.now (is ∙ ap Some c.in-Check.is) c.as_str.ensures.value c.check_file.ensures.told

pub returns-in-Run-clause-told : goal.returns-in-Run-clause-told
returns-in-Run-clause-told g c = λ words is. run_answered (g.D.Devices.shown c.args.devices.now) (g.D.Devices.shown c.run_file.new.devices) words _ (g.F.Files.told c.args.files.now) (g.F.Files.told c.run_file.new.files) c.run_file.result (is ∙ ap Some c.in-Run.is) c.run_file.ensures.told

pub returns-in-Show-clause-told : goal.returns-in-Show-clause-told
returns-in-Show-clause-told g c = λ words is. show_answered (g.D.Devices.shown c.args.devices.now) words (g.F.Files.told c.args.files.now) (g.F.Files.told c.show_file.new.files) c.show_file.result c.show_file.ensures.files.same _ c.as_str-in-Show.result.now (is ∙ ap Some c.in-Show.is) c.as_str-in-Show.ensures.value c.show_file.ensures.told

pub returns-in-Check-clause-stops : goal.returns-in-Check-clause-stops
returns-in-Check-clause-stops g c = λ words is. check_stops (g.D.Devices.shown c.args.devices.now) words (g.F.Files.told c.args.files.now) (g.F.Files.told c.check_file.new.files) c.check_file.ensures.files.same (Rose (g.F.Files.faults c.args.files.now) (g.F.Files.faults c.check_file.new.files)) c.check_file.result _ c.as_str.result.now (is ∙ ap Some c.in-Check.is) c.as_str.ensures.value c.check_file.ensures.ended

pub returns-in-Run-clause-stops : goal.returns-in-Run-clause-stops
returns-in-Run-clause-stops g c = λ words is. run_stops (g.D.Devices.shown c.args.devices.now) (g.D.Devices.shown c.run_file.new.devices) words (g.F.Files.told c.args.files.now) (g.F.Files.told c.run_file.new.files) c.run_file.result _ (is ∙ ap Some c.in-Run.is) c.run_file.ensures.stops

pub returns-in-Show-clause-stops : goal.returns-in-Show-clause-stops
returns-in-Show-clause-stops g c = λ words is. show_stops (g.D.Devices.shown c.args.devices.now) words (g.F.Files.told c.args.files.now) (g.F.Files.told c.show_file.new.files) c.show_file.ensures.files.same (Rose (g.F.Files.faults c.args.files.now) (g.F.Files.faults c.show_file.new.files)) c.show_file.result _ c.as_str-in-Show.result.now (is ∙ ap Some c.in-Show.is) c.as_str-in-Show.ensures.value c.show_file.ensures.ended

pub returns-in-Instrument-clause-told : goal.returns-in-Instrument-clause-told
returns-in-Instrument-clause-told g c = λ words is. instrument_answered (g.D.Devices.shown c.args.devices.now) words _ _ c.as_str-in-Instrument.result.now c.as_str-in-Instrument-2.result.now (g.F.Files.told c.args.files.now) (g.F.Files.told c.instrument_file.new.files) c.instrument_file.result (is ∙ ap Some c.in-Instrument.is) c.as_str-in-Instrument.ensures.value c.as_str-in-Instrument-2.ensures.value c.instrument_file.ensures.told

pub returns-in-Instrument-clause-stops : goal.returns-in-Instrument-clause-stops
returns-in-Instrument-clause-stops g c = λ words is. instrument_stops (g.D.Devices.shown c.args.devices.now) words (g.F.Files.told c.args.files.now) (g.F.Files.told c.instrument_file.new.files) c.instrument_file.result _ _ c.as_str-in-Instrument.result.now c.as_str-in-Instrument-2.result.now (is ∙ ap Some c.in-Instrument.is) c.as_str-in-Instrument.ensures.value c.as_str-in-Instrument-2.ensures.value c.instrument_file.ensures.stops

pub returns-in-Debug-clause-told : goal.returns-in-Debug-clause-told
returns-in-Debug-clause-told g c = λ words is. debug_answered (g.D.Devices.shown c.args.devices.now) words _ (g.F.Files.told c.args.files.now) (g.F.Files.told c.debug_file.new.files) c.debug_file.result (is ∙ ap Some c.in-Debug.is) c.debug_file.ensures.files.same c.debug_file.ensures.told

pub returns-in-Debug-clause-stops : goal.returns-in-Debug-clause-stops
returns-in-Debug-clause-stops g c = λ words is. debug_stops (g.D.Devices.shown c.args.devices.now) words (g.F.Files.told c.args.files.now) (g.F.Files.told c.debug_file.new.files) c.debug_file.ensures.files.same (Rose (g.F.Files.faults c.args.files.now) (g.F.Files.faults c.debug_file.new.files)) c.debug_file.result _ (is ∙ ap Some c.in-Debug.is) c.debug_file.ensures.ended

pub returns-in-Selftest-clause-told : goal.returns-in-Selftest-clause-told
returns-in-Selftest-clause-told g c = λ words is. selftest_answered (g.D.Devices.shown c.args.devices.now) words _ (g.F.Files.told c.args.files.now) (g.F.Files.told c.selftest_files.new.files) c.selftest_files.result (is ∙ ap Some c.in-Selftest.is) c.selftest_files.ensures.told

pub returns-in-Selftest-clause-stops : goal.returns-in-Selftest-clause-stops
returns-in-Selftest-clause-stops g c = λ words is. selftest_stops (g.D.Devices.shown c.args.devices.now) words (g.F.Files.told c.args.files.now) (g.F.Files.told c.selftest_files.new.files) c.selftest_files.result _ (is ∙ ap Some c.in-Selftest.is) c.selftest_files.ensures.stops

pub returns-in-Replay-clause-told : goal.returns-in-Replay-clause-told
returns-in-Replay-clause-told g c = λ words is. replay_answered (g.D.Devices.shown c.args.devices.now) words _ (g.F.Files.told c.args.files.now) (g.F.Files.told c.replay_file.new.files) c.replay_file.result (is ∙ ap Some c.in-Replay.is) c.replay_file.ensures.files.same c.replay_file.ensures.told

pub returns-in-Replay-clause-stops : goal.returns-in-Replay-clause-stops
returns-in-Replay-clause-stops g c = λ words is. replay_stops (g.D.Devices.shown c.args.devices.now) words (g.F.Files.told c.args.files.now) (g.F.Files.told c.replay_file.new.files) c.replay_file.ensures.files.same (Rose (g.F.Files.faults c.args.files.now) (g.F.Files.faults c.replay_file.new.files)) c.replay_file.result _ (is ∙ ap Some c.in-Replay.is) c.replay_file.ensures.ended

pub returns-in-Cover-clause-told : goal.returns-in-Cover-clause-told
returns-in-Cover-clause-told g c = λ words is. cover_answered (g.D.Devices.shown c.args.devices.now) (g.D.Devices.shown c.cover_file.new.devices) words _ (g.F.Files.told c.args.files.now) (g.F.Files.told c.cover_file.new.files) c.cover_file.result (is ∙ ap Some c.in-Cover.is) c.cover_file.ensures.told

pub returns-in-Cover-clause-stops : goal.returns-in-Cover-clause-stops
returns-in-Cover-clause-stops g c = λ words is. cover_stops (g.D.Devices.shown c.args.devices.now) (g.D.Devices.shown c.cover_file.new.devices) words (g.F.Files.told c.args.files.now) (g.F.Files.told c.cover_file.new.files) c.cover_file.result _ (is ∙ ap Some c.in-Cover.is) c.cover_file.ensures.stops

-- ---- however it ends

pub returns-in-Check-clause-quiet : goal.returns-in-Check-clause-quiet
returns-in-Check-clause-quiet g c = λ words is. quiet_all (command words) (g.D.Devices.shown c.args.devices.now) (g.F.Files.told c.args.files.now) (g.F.Files.told c.check_file.new.files) (g.F.Files.created c.args.files.now) (g.F.Files.created c.check_file.new.files) c.check_file.ensures.files.same c.check_file.ensures.files.names

pub returns-in-Show-clause-quiet : goal.returns-in-Show-clause-quiet
returns-in-Show-clause-quiet g c = λ words is. quiet_all (command words) (g.D.Devices.shown c.args.devices.now) (g.F.Files.told c.args.files.now) (g.F.Files.told c.show_file.new.files) (g.F.Files.created c.args.files.now) (g.F.Files.created c.show_file.new.files) c.show_file.ensures.files.same c.show_file.ensures.files.names

pub returns-in-Debug-clause-quiet : goal.returns-in-Debug-clause-quiet
returns-in-Debug-clause-quiet g c = λ words is. quiet_all (command words) (g.D.Devices.shown c.args.devices.now) (g.F.Files.told c.args.files.now) (g.F.Files.told c.debug_file.new.files) (g.F.Files.created c.args.files.now) (g.F.Files.created c.debug_file.new.files) c.debug_file.ensures.files.same c.debug_file.ensures.files.names

pub returns-in-Run-clause-quiet : goal.returns-in-Run-clause-quiet
returns-in-Run-clause-quiet g c = λ words is. quiet_run (command words) (g.D.Devices.shown c.args.devices.now) (g.D.Devices.shown c.run_file.new.devices) (g.F.Files.told c.args.files.now) (g.F.Files.told c.run_file.new.files) (g.F.Files.created c.args.files.now) (g.F.Files.created c.run_file.new.files) _ (is ∙ ap Some c.in-Run.is) c.run_file.ensures.names

pub returns-in-Instrument-clause-quiet : goal.returns-in-Instrument-clause-quiet
returns-in-Instrument-clause-quiet g c = λ words is.
    quiet_instrument (command words) (g.D.Devices.shown c.args.devices.now) (g.D.Devices.shown c.args.devices.now) (g.F.Files.told c.args.files.now) (g.F.Files.told c.instrument_file.new.files) (g.F.Files.created c.args.files.now) (g.F.Files.created c.instrument_file.new.files) _ _ c.as_str-in-Instrument-2.result.now (is ∙ ap Some c.in-Instrument.is) c.as_str-in-Instrument-2.ensures.value
    record { devices = refl; files = c.instrument_file.ensures.others; names = c.instrument_file.ensures.names }

pub returns-in-Selftest-clause-quiet : goal.returns-in-Selftest-clause-quiet
returns-in-Selftest-clause-quiet g c = λ words is.
    quiet_selftest (command words) (g.D.Devices.shown c.args.devices.now) (g.D.Devices.shown c.args.devices.now) (g.F.Files.told c.args.files.now) (g.F.Files.told c.selftest_files.new.files) (g.F.Files.created c.args.files.now) (g.F.Files.created c.selftest_files.new.files) _ (is ∙ ap Some c.in-Selftest.is)
    record { devices = refl; files = c.selftest_files.ensures.others; names = c.selftest_files.ensures.names }

pub returns-in-Replay-clause-quiet : goal.returns-in-Replay-clause-quiet
returns-in-Replay-clause-quiet g c = λ words is. quiet_all (command words) (g.D.Devices.shown c.args.devices.now) (g.F.Files.told c.args.files.now) (g.F.Files.told c.replay_file.new.files) (g.F.Files.created c.args.files.now) (g.F.Files.created c.replay_file.new.files) c.replay_file.ensures.files.same c.replay_file.ensures.files.names

pub returns-in-Cover-clause-quiet : goal.returns-in-Cover-clause-quiet
returns-in-Cover-clause-quiet g c = λ words is. quiet_cover (command words) (g.D.Devices.shown c.args.devices.now) (g.D.Devices.shown c.cover_file.new.devices) (g.F.Files.told c.args.files.now) (g.F.Files.told c.cover_file.new.files) (g.F.Files.created c.args.files.now) (g.F.Files.created c.cover_file.new.files) _ (is ∙ ap Some c.in-Cover.is) c.cover_file.ensures.files.same c.cover_file.ensures.files.names

pub returns-in-Check-clause-ended : goal.returns-in-Check-clause-ended
returns-in-Check-clause-ended g c =
    let rose = Rose (g.F.Files.faults c.args.files.now) (g.F.Files.faults c.check_file.new.files) in
    ended_for (λ o. (o ≡ file_fault c.as_str.result.now) × rose) (λ o. rose) c.check_file.result c.check_file.ensures.ended (λ o known. known.1)

pub returns-in-Show-clause-ended : goal.returns-in-Show-clause-ended
returns-in-Show-clause-ended g c =
    let rose = Rose (g.F.Files.faults c.args.files.now) (g.F.Files.faults c.show_file.new.files) in
    ended_for (λ o. (o ≡ file_fault c.as_str-in-Show.result.now) × rose) (λ o. rose) c.show_file.result c.show_file.ensures.ended (λ o known. known.1)

pub returns-in-Debug-clause-ended : goal.returns-in-Debug-clause-ended
returns-in-Debug-clause-ended g c =
    let rose = Rose (g.F.Files.faults c.args.files.now) (g.F.Files.faults c.debug_file.new.files) in
    ended_for _ (λ o. rose) c.debug_file.result c.debug_file.ensures.ended (λ o known. known.1)

pub returns-in-Replay-clause-ended : goal.returns-in-Replay-clause-ended
returns-in-Replay-clause-ended g c =
    let rose = Rose (g.F.Files.faults c.args.files.now) (g.F.Files.faults c.replay_file.new.files) in
    ended_for _ (λ o. rose) c.replay_file.result c.replay_file.ensures.ended (λ o known. known.1)
