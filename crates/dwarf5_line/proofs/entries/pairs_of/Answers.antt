use Rattle.std.proofs.Common.{arith}
use Rattle.std.proofs.lemmas.Result.{err_from_is_err_and}
use Rattle.wasm_bytes.specs.declared.faults.ItemFault.TheVariants as faults
use Rattle.wasm_bytes.proofs.Loops.{in_front, one_more, no_more, left_fails, count_on, count_fails, count_done}
use Rattle.dwarf_bytes.specs.Format.{read}
use Rattle.dwarf5_line.specs.Entries.{pair}
use Rattle.dwarf5_line.proofs.entries.pairs_of.Goals as goal

pub returns-in_err-read_pair-clause-item : goal.returns-in_err-read_pair-clause-item
returns-in_err-read_pair-clause-item c =
    let p = err_from_is_err_and c.from_residual.result c.from_residual.ensures.1 in
    let failing = count_fails (read pair) c.args.count c.loop.counter c.loop.reader (faults.At c.in_err-read_pair.field-0.0.at) c.loop-test.true c.in_err-read_pair.ensures.item in
    rw (p.1, p.2) (left_fails _ _ (in_front c.loop.pairs) (faults.At c.in_err-read_pair.field-0.0.at) c.loop.invariant.so_far failing)

pub loop-preserved : goal.loop-preserved
loop-preserved c =
    let on = count_on (read pair) c.args.count c.loop.counter c.loop.reader c.read_pair.new.reader c.in_ok-read_pair.field-0 c.loop-test.true c.in_ok-read_pair.ensures.item in
    record {
      so_far = rw c.in_ok-push.ensures.ok (one_more _ _ c.loop.pairs c.in_ok-read_pair.field-0 (rw on at c.loop.invariant.so_far));
      stays = grind arith;
    }

pub returns-clause-item : goal.returns-clause-item
returns-clause-item c =
    let done = count_done (read pair) c.args.count c.loop.counter c.loop.reader c.loop-test.false in
    no_more _ c.loop.pairs c.loop.reader (rw done at c.loop.invariant.so_far)
