use Rattle.std.proofs.Common.{refl, ◌≡◌, ◌∙◌, ◌+◌, ap, sym, subst, arith}
use Rattle.std.specs.Prelude.{Some, None, slice_get}
use Rattle.wasm_syntax.specs.Tree.{item_of}
use Rattle.wasm_syntax.specs.Typing.{body_context}
use Rattle.validate_body.specs.calls.Algorithm.{start, step}
use Rattle.validate_body.specs.inner.Steps.{context_of}
use Rattle.validate_body.proofs.Through.{run_next, wrong_next, all_went, first_gives, in_body}
use Rattle.validate_body.specs.calls.Marks.{MarkIs}
use Rattle.validate_body.proofs.MarksLaws.{SoFar, none_so_far, one_more_mark, all_marked, mark_is}
use Rattle.validate_body.proofs.body.through.Goals as goal

pub returns-in-Err-Wrong-clause-judged : goal.returns-in-Err-Wrong-clause-judged
returns-in-Err-Wrong-clause-judged c =
    let o = c.read_op-op.result in
    let k : step (context_of c.args.m.now c.args.locals.now c.as_slice-results.result.now) c.loop-n.stack (item_of c.as_slice-targets.result.now o.code) ≡ None = rw c.in-Err-Wrong.field-0-is at c.in-Err-Wrong.ensures in
    let s = in_body c.args.m.now c.args.t.now c.args.body.now c.loop-n.stack o.code c.args.locals.now c.as_slice-results.result.now c.as_slice-targets.result.now None c.requires.has_locals c.as_slice-results.ensures c.as_slice-targets.ensures k in
    wrong_next c.args.m.now c.args.t.now c.args.body.now (slice_get c.args.t.now.results 0) c.loop-n.n o c.loop-n.stack (first_gives c.args.t.now.results c.requires.one_result)
    (ap (λ x. slice_get x c.loop-n.n) (sym c.as_slice-ops.ensures) ∙ c.read_op-op.ensures) c.loop-n.invariant.same s

pub loop-n-preserved : goal.loop-n-preserved
loop-n-preserved c =
    let o = c.read_op-op.result in
    let s = in_body c.args.m.now c.args.t.now c.args.body.now c.loop-n.stack o.code c.args.locals.now c.as_slice-results.result.now c.as_slice-targets.result.now (Some c.step.new.stack) c.requires.has_locals c.as_slice-results.ensures c.as_slice-targets.ensures c.in-Ok.ensures in
    record {
      within = grind (arith, c.as_slice-ops.ensures, c.loop-n-test.true);
      marked = subst (λ x. SoFar x c.args.m.now c.args.t.now c.args.body.now (c.loop-n.n + 1)) (sym c.in_ok-push.ensures.ok)
          (one_more_mark c.loop-n.marks c.args.m.now c.args.t.now c.args.body.now c.loop-n.n c.mark_of.result c.loop-n.invariant.marked
          (subst (λ k. MarkIs k c.args.m.now c.args.t.now c.args.body.now c.loop-n.n) (sym c.mark_of.ensures)
          (mark_is c.args.m.now c.args.t.now c.args.body.now (slice_get c.args.t.now.results 0) c.loop-n.n c.loop-n.stack (first_gives c.args.t.now.results c.requires.one_result) c.loop-n.invariant.same)));
      same = run_next (body_context c.args.m.now c.args.t.now c.args.body.now) c.args.body.now.targets c.args.body.now.ops c.loop-n.n o (start (slice_get c.args.t.now.results 0)) c.loop-n.stack c.step.new.stack
          (ap (λ x. slice_get x c.loop-n.n) (sym c.as_slice-ops.ensures) ∙ c.read_op-op.ensures) c.loop-n.invariant.same s;
    }

pub returns-clause-judged : goal.returns-clause-judged
returns-clause-judged c =
    all_went c.args.m.now c.args.t.now c.args.body.now (slice_get c.args.t.now.results 0) c.requires.has_tree.0 c.loop-n.n c.loop-n.stack (first_gives c.args.t.now.results c.requires.one_result) c.requires.has_tree.1 (grind (arith, c.as_slice-ops.ensures, c.loop-n-test.false)) c.loop-n.invariant.same

pub returns-clause-marked : goal.returns-clause-marked
returns-clause-marked c = all_marked c.loop-n.marks c.args.m.now c.args.t.now c.args.body.now c.loop-n.n c.loop-n.invariant.within (grind (arith, c.as_slice-ops.ensures, c.loop-n-test.false)) c.loop-n.invariant.marked

pub loop-n-init : goal.loop-n-init
loop-n-init c = record {
  within = omega arith;
  marked = rw c.requires.no_marks (none_so_far c.args.m.now c.args.t.now c.args.body.now);
  same = rw c.requires.at_start refl;
}
