use Rattle.std.proofs.Common.{sym, ◌∙◌, map}
use Rattle.run_session.specs.Invocations.{invocation_of}
use Rattle.run_command.proofs.Beginning.{segments_start, segment_starts}
use Rattle.run_command.proofs.running.begin.Goals as goal

pub returns-in-Ok : goal.returns-in-Ok
returns-in-Ok g c =
    (segments_start (g.H.HostSide.serving c.args.hosts.now) c.args.source.now (map invocation_of c.args.invocations.now) (sym c.in_ok-cause.ensures ∙ c.in-None.is) c.in-Ok.ensures.0, c.in-Ok.ensures.0, c.in-Ok.ensures.1)

pub returns-in_ok-refusal-in-Err : goal.returns-in_ok-refusal-in-Err
returns-in_ok-refusal-in-Err g c =
    (c.in_ok-text-in-Err.text, segment_starts (g.H.HostSide.serving c.args.hosts.now) c.args.source.now (map invocation_of c.args.invocations.now) c.in-Err.fault c.in_ok-text-in-Err.text (sym c.in_ok-cause.ensures ∙ c.in-None.is) c.in-Err.ensures c.in_ok-text-in-Err.ensures, c.in_ok-refusal-in-Err.ensures)
