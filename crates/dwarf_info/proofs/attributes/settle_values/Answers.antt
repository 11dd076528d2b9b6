use Rattle.std.proofs.Common.{◌∙◌, arith}
use Rattle.dwarf_info.specs.inner.Settling.{placed, meets, settled_by}
use Rattle.dwarf_info.proofs.SettleLaws.{settled_more, settled_whole}
use Rattle.dwarf_info.proofs.attributes.settle_values.Goals as goal

pub loop-value-preserved : goal.loop-value-preserved
loop-value-preserved c = record {
  so_far = settled_more (settled_by (meets (placed c.args.places.now))) c.args.values.now c.loop-value.values c.loop-value.value-index _ _ (omega (arith, c.loop-value-test.true, c.loop-value.auto.values)) c.loop-value.invariant.so_far c.settle_value.ensures;
}

pub returns : goal.returns
returns c =
    c.loop-value.invariant.so_far
    ∙ settled_whole (settled_by (meets (placed c.args.places.now))) c.loop-value.value-index c.args.values.now (omega (arith, c.loop-value-test.false, c.loop-value.auto.values, c.loop-value.auto.value-index-end))
