use Rattle.std.proofs.Common.{◌≡◌, refl, subst}
use Rattle.std.specs.Prelude.{IfOk}
use Rattle.causes.specs.Counts.{Rose}
use Rattle.pm_outside.specs.declared.answers.WriteAnswer.TheVariants as write
use Rattle.pm_outside.specs.Written.{OnTold, HasFile, Leaves}
use Rattle.commands.specs.Texts.{file_fault}
use Rattle.run_session.specs.calls.Creating.{MayCreate}
use Rattle.run_session.specs.calls.Sessions.{ends_badly}
use Rattle.run_command.specs.inner.Recording.{fitting}
use Rattle.run_command.proofs.Fitting.{record_whole, record_part, record_failed, record_wanting}
use Rattle.run_command.proofs.recording.write_record.Goals as goal

pub returns-in_err-text-clause-behind : goal.returns-in_err-text-clause-behind
returns-in_err-text-clause-behind g c =
    record_wanting c.args.file.now (fitting (ends_badly c.args.instance.now.last) c.args.hosts.now.served) (Rose (g.F.Files.faults c.args.files.now) (g.F.Files.faults c.args.files.now)) c.args.outcome (g.F.Files.told c.args.files.now) c.from_residual.result c.from_residual.ensures.0

pub returns-in-Done-clause-behind : goal.returns-in-Done-clause-behind
returns-in-Done-clause-behind g c =
    record_whole c.args.file.now c.as_bytes.result.now c.in_ok-text.text c.args.hosts.now.served (ends_badly c.args.instance.now.last) c.fitting_count.result c.fitting_count.ensures c.in_ok-text.ensures.text c.as_bytes.ensures
    (g.F.Files.told c.args.files.now) (g.F.Files.told c.write_file.new.files) (Rose (g.F.Files.faults c.args.files.now) (g.F.Files.faults c.write_file.new.files)) c.args.outcome c.in_ok-text.ensures.typed
    (subst (λ n. OnTold (HasFile n c.as_bytes.result.now) (g.F.Files.told c.args.files.now) (g.F.Files.told c.write_file.new.files)) c.as_str.ensures.value c.in-Done.ensures.content)

pub returns-in-Failed-clause-behind : goal.returns-in-Failed-clause-behind
returns-in-Failed-clause-behind g c =
    record_failed c.args.file.now c.as_bytes.result.now c.in_ok-text.text c.args.hosts.now.served (ends_badly c.args.instance.now.last) c.fitting_count.result c.fitting_count.ensures c.in_ok-text.ensures.text c.as_bytes.ensures
    (g.F.Files.told c.args.files.now) (g.F.Files.told c.write_file.new.files) (Rose (g.F.Files.faults c.args.files.now) (g.F.Files.faults c.write_file.new.files)) c.args.outcome c.about_file.result write.Failed
    (subst (λ n. IfOk c.about_file.result (λ q. q ≡ file_fault n)) c.as_str-in-Failed.ensures.value c.about_file.ensures)
    (c.in-Failed.ensures.failed refl)
    (subst (λ n. OnTold (Leaves n c.as_bytes.result.now write.Failed) (g.F.Files.told c.args.files.now) (g.F.Files.told c.write_file.new.files)) c.as_str.ensures.value c.in-Failed.ensures.content)

pub returns-in-NoMemory-clause-behind : goal.returns-in-NoMemory-clause-behind
returns-in-NoMemory-clause-behind g c =
    record_part c.args.file.now c.as_bytes.result.now c.in_ok-text.text c.args.hosts.now.served (ends_badly c.args.instance.now.last) c.fitting_count.result c.fitting_count.ensures c.in_ok-text.ensures.text c.as_bytes.ensures
    (g.F.Files.told c.args.files.now) (g.F.Files.told c.write_file.new.files) write.NoMemory
    (subst (λ n. OnTold (Leaves n c.as_bytes.result.now write.NoMemory) (g.F.Files.told c.args.files.now) (g.F.Files.told c.write_file.new.files)) c.as_str.ensures.value c.in-NoMemory.ensures.content)

pub returns-in-Done-clause-names : goal.returns-in-Done-clause-names
returns-in-Done-clause-names g c = subst (λ n. MayCreate n (g.F.Files.created c.args.files.now) (g.F.Files.created c.write_file.new.files)) c.as_str.ensures.value c.in-Done.ensures.names

pub returns-in-Failed-clause-names : goal.returns-in-Failed-clause-names
returns-in-Failed-clause-names g c = subst (λ n. MayCreate n (g.F.Files.created c.args.files.now) (g.F.Files.created c.write_file.new.files)) c.as_str.ensures.value c.in-Failed.ensures.names

pub returns-in-NoMemory-clause-names : goal.returns-in-NoMemory-clause-names
returns-in-NoMemory-clause-names g c = subst (λ n. MayCreate n (g.F.Files.created c.args.files.now) (g.F.Files.created c.write_file.new.files)) c.as_str.ensures.value c.in-NoMemory.ensures.names
