use Rattle.std.proofs.Common.{List, ap, ◌∙◌, arith}
use Rattle.std.specs.Prelude.{get_or}
use Rattle.dwarf_info.specs.declared.entry.Attribute.{Attribute}
use Rattle.dwarf_info.specs.declared.entry.Entry.{Entry}
use Rattle.dwarf_info.specs.inner.Settling.{placed, meets, entry_by}
use Rattle.dwarf_info.proofs.SettleLaws.{settled_more, settled_whole}
use Rattle.dwarf_info.proofs.settle.settle_entries.Goals as goal

pub loop-entry-preserved : goal.loop-entry-preserved
loop-entry-preserved c = record {
  so_far = settled_more (entry_by (meets (placed c.args.places.now))) c.args.entries.now c.loop-entry.entries c.loop-entry.entry-index _ _ (omega (arith, c.loop-entry-test.true, c.loop-entry.auto.entries)) c.loop-entry.invariant.so_far
      (ap (λ (xs : List Attribute). let x : Entry = record (get_or c.loop-entry.entries c.loop-entry.entry-index c.entry-item.result) { attributes = xs } in x) c.settle.ensures);
}

pub returns : goal.returns
returns c =
    c.loop-entry.invariant.so_far
    ∙ settled_whole (entry_by (meets (placed c.args.places.now))) c.loop-entry.entry-index c.args.entries.now (omega (arith, c.loop-entry-test.false, c.loop-entry.auto.entries, c.loop-entry.auto.entry-index-end))
