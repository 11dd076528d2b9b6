use Rattle.std.proofs.Common.{◌≡◌, suc, ◌+◌, sym, subst, arith}
use Rattle.wasm_syntax.specs.Tree.{code_of}
use Rattle.operand_spill.specs.inner.Knowing.{Proceeds}
use Rattle.operand_spill.proofs.Knowing.{dead_over, leave_next, starts_at, end_there}
use Rattle.operand_spill.proofs.places.leave.Goals as goal

pub returns-in_ok-cross-in-Some-clause-stays : goal.returns-in_ok-cross-in-Some-clause-stays
returns-in_ok-cross-in-Some-clause-stays c = λ C targets whole e.
    let end = c.end_of_list-end.result in
    let items = code_of targets c.args.ops.now in
    let found = c.end_of_list-end.ensures.end targets e.nodes e.dues e.code_is in
    let over = dead_over C items whole c.args.from end c.args.walk.now e found c.end_of_list-end.ensures.forward in
    let one : suc end ≡ end + 1 = omega arith in (
      leave_next C targets c.args.ops.now whole c.args.from end c.args.walk.now e found c.end_of_list-end.ensures.forward,
      subst (λ n. Proceeds C items whole n c.cross.new.walk) one (c.in_ok-cross-in-Some.ensures C targets items whole end c.in-Some.op.at over (starts_at targets c.args.ops.now end c.in-Some.op (sym c.in-Some.ensures))),
    )

pub returns-in-None-clause-stays : goal.returns-in-None-clause-stays
returns-in-None-clause-stays c = λ C targets whole e.
    let end = c.end_of_list-end.result in
    let items = code_of targets c.args.ops.now in
    let over = dead_over C items whole c.args.from end c.args.walk.now e (c.end_of_list-end.ensures.end targets e.nodes e.dues e.code_is) c.end_of_list-end.ensures.forward in
    absurd (end_there C targets c.args.ops.now whole end c.args.walk.now over c.in-None.ensures)
