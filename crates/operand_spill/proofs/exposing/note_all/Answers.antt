use Rattle.std.proofs.Common.{refl, arith}
use Rattle.operand_spill.specs.inner.Exposing.{held}
use Rattle.operand_spill.proofs.Exposings.{exposed_turn, exposed_end}
use Rattle.operand_spill.proofs.exposing.note_all.Goals as goal

pub loop-pc-init : goal.loop-pc-init
loop-pc-init c = λ targets. refl

pub loop-pc-preserved : goal.loop-pc-preserved
loop-pc-preserved c = λ targets.
    exposed_turn (held c.args.marks.now) targets c.args.ops.now c.loop-pc.pc c.read_op-op.result c.loop-pc.knowing c.pass.new.self c.loop-pc.found c.note.new.found _ c.read_op-op.ensures (c.in_ok-pass.ensures targets) (c.in_ok-note.ensures targets) (c.loop-pc.invariant targets)

pub returns : goal.returns
returns c = λ targets.
    exposed_end (held c.args.marks.now) targets c.args.ops.now c.loop-pc.pc c.loop-pc.knowing c.loop-pc.found _ (omega (arith, c.loop-pc-test.false)) (c.loop-pc.invariant targets)
