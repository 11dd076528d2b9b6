use Rattle.std.proofs.Common.{refl}
use Rattle.pm_cli.specs.Show.{global_text}
use Rattle.pm_cli.proofs.Numbered.{goes_on, is_done}
use Rattle.pm_cli.proofs.dump_text.push_globals.Goals as goal

pub loop-i-preserved : goal.loop-i-preserved
loop-i-preserved c = goes_on global_text c.args.globals.now c.loop-i.i _ _ c.loop-i.out c.push_global.new.out _ c.loop-i-test.true refl c.in_ok-push_global.ensures c.loop-i.invariant

pub returns : goal.returns
returns c = is_done global_text c.args.globals.now c.loop-i.i c.loop-i.out _ c.loop-i-test.false c.loop-i.invariant
