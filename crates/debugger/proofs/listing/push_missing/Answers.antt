use Rattle.wasm_syntax.specs.declared.value.Seen.TheVariants.{Missing}
use Rattle.debugger.specs.Listings.{value_line}
use Rattle.debugger.proofs.ListingLines.{same_goes_on, same_done}
use Rattle.debugger.proofs.listing.push_missing.Goals as goal

pub loop-i-preserved : goal.loop-i-preserved
loop-i-preserved c = same_goes_on (value_line c.args.label.now) Missing c.args.count c.loop-i.i c.loop-i.out c.push_line.new.out _ c.loop-i-test.true c.in_ok-push_line.ensures c.loop-i.invariant

pub returns : goal.returns
returns c = same_done (value_line c.args.label.now) Missing c.args.count c.loop-i.i c.loop-i.out _ c.loop-i-test.false c.loop-i.invariant
