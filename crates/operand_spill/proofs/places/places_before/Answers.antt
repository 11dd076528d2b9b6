use Rattle.std.proofs.Common.{Some, sym, ap, subst, ◌∙◌, arith}
use Rattle.wasm_syntax.specs.Tree.{code_of}
use Rattle.operand_spill.specs.calls.Before.{before}
use Rattle.operand_spill.specs.inner.Knowing.{Proceeds}
use Rattle.operand_spill.proofs.Knowing.{know_start, known_here, none_past}
use Rattle.operand_spill.proofs.places.places_before.Goals as goal

pub loop-pc-init : goal.loop-pc-init
loop-pc-init c = λ C targets tree l s w. (
  λ lt. absurd (omega (arith, lt)),
  subst (λ x. Proceeds C (code_of targets c.args.ops.now) (before C tree.nodes) 0 x) (sym c.new-walk.ensures) (know_start C targets c.args.ops.now tree w),
)

pub loop-pc-preserved : goal.loop-pc-preserved
loop-pc-preserved c = λ C targets tree l s w.
    let i = c.loop-pc.invariant C targets tree l s w in
    let on = c.in_ok-pc.ensures.stays C targets (before C tree.nodes) l s i.1 in
    (λ lt. on.0 c.args.op (omega (arith, c.loop-pc-test.true, c.min-bound.ensures)) lt, on.1)

pub returns-then-count-op : goal.returns-then-count-op
returns-then-count-op c = λ C targets tree l s w.
    let i = c.loop-pc.invariant C targets tree l s w in
    sym (none_past C targets c.args.ops.now (before C tree.nodes) c.loop-pc.pc c.args.op c.loop-pc.walk (omega (arith, c.loop-pc-test.false, c.min-bound.ensures, c.if-count-op.true)) (omega (arith, c.if-count-op.true)) i.0 i.1)

pub returns-then-op-pc : goal.returns-then-op-pc
returns-then-op-pc c = λ C targets tree l s w. sym ((c.loop-pc.invariant C targets tree l s w).0 c.if-op-pc.true)

pub returns : goal.returns
returns c = λ C targets tree l s w.
    ap Some (c.in_ok-here.ensures ∙ c.places.ensures)
    ∙ known_here C targets c.args.ops.now (before C tree.nodes) c.loop-pc.pc c.args.op c.loop-pc.walk (omega (arith, c.loop-pc-test.false, c.min-bound.ensures, c.if-count-op.false, c.if-op-pc.false)) (omega (arith, c.if-count-op.false)) (c.loop-pc.invariant C targets tree l s w).1
