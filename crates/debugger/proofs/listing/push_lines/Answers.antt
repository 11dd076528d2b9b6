use Rattle.std.proofs.Common.{refl}
use Rattle.debugger.specs.Listings.{value_line}
use Rattle.debugger.proofs.ListingLines.{goes_on, is_done}
use Rattle.debugger.proofs.listing.push_lines.Goals as goal

pub loop-i-preserved : goal.loop-i-preserved
loop-i-preserved c = goes_on (value_line c.args.label.now) c.args.values.now c.loop-i.i _ _ c.loop-i.out c.push_line.new.out _ c.loop-i-test.true refl c.in_ok-push_line.ensures c.loop-i.invariant

pub returns : goal.returns
returns c = is_done (value_line c.args.label.now) c.args.values.now c.loop-i.i c.loop-i.out _ c.loop-i-test.false c.loop-i.invariant
