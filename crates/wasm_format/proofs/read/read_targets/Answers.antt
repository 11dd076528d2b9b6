use Rattle.std.proofs.Common.{[], ◌∷◌, arith, length-append}
use Rattle.std.proofs.lemmas.Result.{err_from_is_err_and}
use Rattle.wasm_bytes.specs.declared.faults.ItemFault.TheVariants as faults
use Rattle.wasm_bytes.specs.Reading.{u32_item}
use Rattle.wasm_bytes.proofs.Loops.{in_front, one_more, no_more, left_fails, count_on, count_fails, count_done}
use Rattle.wasm_format.proofs.read.read_targets.Goals as goal

pub returns-in_err-u32-clause-item : goal.returns-in_err-u32-clause-item
returns-in_err-u32-clause-item c =
    let p = err_from_is_err_and c.from_residual.result c.from_residual.ensures.1 in
    let failing = count_fails u32_item c.args.count c.targets.counter c.targets.reader (faults.At c.in_err-u32.field-0.0.at) c.targets-test.true c.in_err-u32.ensures.item in
    rw (p.1, p.2) (left_fails _ _ (in_front c.targets.targets) (faults.At c.in_err-u32.field-0.0.at) c.targets.invariant.so_far failing)

pub targets-preserved : goal.targets-preserved
targets-preserved c =
    let on = count_on u32_item c.args.count c.targets.counter c.targets.reader c.u32.new.self c.in_ok-u32.field-0 c.targets-test.true c.in_ok-u32.ensures.item in
    record {
      so_far = rw c.in_ok-push.ensures.ok (one_more _ _ c.targets.targets c.in_ok-u32.field-0 (rw on at c.targets.invariant.so_far));
      stays = grind arith;
      counted = rw c.in_ok-push.ensures.ok (omega (arith, length-append c.targets.targets (c.in_ok-u32.field-0 ∷ []), c.targets.invariant.counted));
      bounded = omega (arith, c.targets.invariant.bounded, c.in_ok-u32.ensures.moves.0);
      within = omega (arith, c.targets-test.true);
    }

pub returns-clause-item : goal.returns-clause-item
returns-clause-item c =
    let done = count_done u32_item c.args.count c.targets.counter c.targets.reader c.targets-test.false in
    no_more _ c.targets.targets c.targets.reader (rw done at c.targets.invariant.so_far)
