use Rattle.std.proofs.Common.{◌≡◌, ◌++◌, drop}
use Rattle.pm_cli.specs.Show.{global_text}
use Rattle.pm_cli.proofs.dump_text.push_globals.Given as goal
use Rattle.commands.specs.Values.{numbered}

abbrev pub invariant-loop-i : goal.invariant-loop-i
invariant-loop-i l = l.out ++ numbered global_text l.i (drop l.i l.globals) ≡ l.fn.out ++ numbered global_text 0 l.globals
