use Rattle.std.proofs.Common.{map, refl, ap, Err}
use Rattle.std.specs.String.{string_bytes}
use Rattle.pm_cli.proofs.Respond.{usage_answered}
use Rattle.pm_cli.specs.Words.{command}
use Rattle.pm_cli.proofs.Stopping.{usage_stops, unread_stops, quiet_all}
use Rattle.pm_cli.proofs.command.respond.Goals as goal

pub returns-in-Ok-clause-told : goal.returns-in-Ok-clause-told
returns-in-Ok-clause-told g c = c.perform-answer.ensures.told (map string_bytes c.args.words.now) c.in-Ok.ensures.ok

pub returns-in-Ok-clause-stops : goal.returns-in-Ok-clause-stops
returns-in-Ok-clause-stops g c = c.perform-answer.ensures.stops (map string_bytes c.args.words.now) c.in-Ok.ensures.ok

pub returns-in-Ok-clause-quiet : goal.returns-in-Ok-clause-quiet
returns-in-Ok-clause-quiet g c = c.perform-answer.ensures.quiet (map string_bytes c.args.words.now) c.in-Ok.ensures.ok

pub returns-in-Err-Usage-clause-told : goal.returns-in-Err-Usage-clause-told
returns-in-Err-Usage-clause-told g c = usage_answered (g.D.Devices.shown c.args.devices.now) (map string_bytes c.args.words.now) (g.F.Files.told c.args.files.now) (g.F.Files.told c.args.files.now) c.plain.result refl (c.in-Err-Usage.ensures.usage (ap Err c.in-Err-Usage.field-0-is)) c.plain.ensures

pub returns-in-Err-Usage-clause-stops : goal.returns-in-Err-Usage-clause-stops
returns-in-Err-Usage-clause-stops g c = usage_stops (g.D.Devices.shown c.args.devices.now) (map string_bytes c.args.words.now) (g.F.Files.told c.args.files.now) c.plain.result c.plain.ensures

pub returns-in-Err-NoMemory-clause-stops : goal.returns-in-Err-NoMemory-clause-stops
returns-in-Err-NoMemory-clause-stops g c = unread_stops (g.D.Devices.shown c.args.devices.now) (map string_bytes c.args.words.now) (g.F.Files.told c.args.files.now)

pub returns-in-Err-Usage-clause-quiet : goal.returns-in-Err-Usage-clause-quiet
returns-in-Err-Usage-clause-quiet g c = quiet_all (command (map string_bytes c.args.words.now)) (g.D.Devices.shown c.args.devices.now) (g.F.Files.told c.args.files.now) (g.F.Files.told c.args.files.now) (g.F.Files.created c.args.files.now) (g.F.Files.created c.args.files.now) refl refl

pub returns-in-Err-NoMemory-clause-quiet : goal.returns-in-Err-NoMemory-clause-quiet
returns-in-Err-NoMemory-clause-quiet g c = quiet_all (command (map string_bytes c.args.words.now)) (g.D.Devices.shown c.args.devices.now) (g.F.Files.told c.args.files.now) (g.F.Files.told c.args.files.now) (g.F.Files.created c.args.files.now) (g.F.Files.created c.args.files.now) refl refl
