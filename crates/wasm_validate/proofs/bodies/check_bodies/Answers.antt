use Rattle.std.proofs.Common.{◌≡◌, ◌+◌, ◌≤◌, length, sym, subst, arith}
use Rattle.wasm_syntax.specs.Valid.{FirstInvalid}
use Rattle.wasm_syntax.specs.declared.place.Place.TheVariants.{Function}
use Rattle.wasm_validate.specs.calls.Whole.{MarkedUpTo}
use Rattle.wasm_validate.proofs.WholeLaws.{all_valid, judged_bad, some_body, bodies_more, marked_more, none_marked, up_to_none}
use Rattle.wasm_validate.proofs.bodies.check_bodies.Goals as goal

pub loop-i-init : goal.loop-i-init
loop-i-init c = record {
  within = omega arith;
  fine = up_to_none c.args.m.now;
  marked = rw c.new-all.ensures (none_marked c.args.m.now);
}

pub loop-i-preserved : goal.loop-i-preserved
loop-i-preserved c = record {
  within = omega (arith, c.loop-i-test.true, c.len.ensures);
  fine = bodies_more c.args.m.now c.loop-i.i c.loop-i.invariant.fine c.in-Ok.ensures.0;
  marked = subst (λ x. MarkedUpTo x c.args.m.now (c.loop-i.i + 1)) (sym c.in_ok-push-in-Ok.ensures.ok) (marked_more c.loop-i.all c.args.m.now c.loop-i.i c.in-Ok.marks c.loop-i.invariant.marked c.in-Ok.ensures.1);
}

pub returns : goal.returns
returns c =
    let e : length c.args.m.now.bodies ≤ c.loop-i.i = omega (arith, c.loop-i-test.false, c.len.ensures) in
    let q : c.loop-i.i ≡ length c.args.m.now.bodies = omega (arith, e, c.loop-i.invariant.within) in
    (all_valid c.args.m.now c.loop-i.i c.requires.others c.loop-i.invariant.fine e, subst (λ n. MarkedUpTo c.loop-i.all c.args.m.now n) q c.loop-i.invariant.marked)

pub returns-in-Err-WrongAt : goal.returns-in-Err-WrongAt
returns-in-Err-WrongAt c =
    let b = some_body c.args.m.now c.loop-i.i (omega (arith, c.loop-i-test.true, c.len.ensures)) in
    rw c.in-Err-WrongAt.field-0-is
    (subst (λ k. FirstInvalid c.args.m.now (Function (k + c.loop-i.i) c.in-Err-WrongAt.offset)) (sym c.len-in-Err-WrongAt.ensures)
    (judged_bad c.in-Err-WrongAt.offset c.args.m.now c.loop-i.i b.0 c.requires.others c.loop-i.invariant.fine b.1 (rw c.in-Err-WrongAt.field-0-is at c.in-Err-WrongAt.ensures)))
