use Rattle.std.proofs.Common.{drop}
use Rattle.debugger.specs.Session.{PrintsAll}
use Rattle.debug_command.proofs.Printed.{Leads}
use Rattle.debug_command.proofs.command_list.printed.Given as goal

abbrev pub invariant-loop-command : goal.invariant-loop-command
invariant-loop-command l = Leads (PrintsAll l.fn.session.subject l.fn.session.chosen l.commands) l.session (drop l.command-index l.commands) l.out
