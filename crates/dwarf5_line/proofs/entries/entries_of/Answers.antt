use Rattle.std.proofs.Common.{arith}
use Rattle.std.proofs.lemmas.Result.{err_from_is_err_and}
use Rattle.wasm_bytes.specs.declared.faults.ItemFault.TheVariants as faults
use Rattle.wasm_bytes.proofs.Loops.{in_front, one_more, no_more, left_fails, count_on, count_fails, count_done}
use Rattle.dwarf5_line.specs.Entries.{entry_item}
use Rattle.dwarf5_line.specs.Layout5.{texts_of}
use Rattle.dwarf5_line.proofs.entries.entries_of.Goals as goal

pub returns-in_err-entry-clause-item : goal.returns-in_err-entry-clause-item
returns-in_err-entry-clause-item c =
    let p = err_from_is_err_and c.from_residual.result c.from_residual.ensures.1 in
    let failing = count_fails (entry_item (texts_of c.args.sections.now) c.args.pairs.now) c.args.count c.loop.counter c.loop.reader (faults.At c.in_err-entry.field-0.0.at) c.loop-test.true c.in_err-entry.ensures.item in
    rw (p.1, p.2) (left_fails _ _ (in_front c.loop.files) (faults.At c.in_err-entry.field-0.0.at) c.loop.invariant.so_far failing)

pub loop-preserved : goal.loop-preserved
loop-preserved c =
    let on = count_on (entry_item (texts_of c.args.sections.now) c.args.pairs.now) c.args.count c.loop.counter c.loop.reader c.entry.new.reader c.in_ok-entry.field-0 c.loop-test.true c.in_ok-entry.ensures.item in
    record {
      so_far = rw c.in_ok-push.ensures.ok (one_more _ _ c.loop.files c.in_ok-entry.field-0 (rw on at c.loop.invariant.so_far));
      stays = grind arith;
    }

pub returns-clause-item : goal.returns-clause-item
returns-clause-item c =
    let done = count_done (entry_item (texts_of c.args.sections.now) c.args.pairs.now) c.args.count c.loop.counter c.loop.reader c.loop-test.false in
    no_more _ c.loop.files c.loop.reader (rw done at c.loop.invariant.so_far)
