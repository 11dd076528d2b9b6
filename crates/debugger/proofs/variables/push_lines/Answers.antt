use Rattle.std.proofs.Common.{refl}
use Rattle.debugger.proofs.variables.push_lines.Goals as goal

pub loop-variable-init : goal.loop-variable-init
loop-variable-init c = record {
  lines = refl;
  right = c.no_sources-known.ensures c.args.looks.now;
}
