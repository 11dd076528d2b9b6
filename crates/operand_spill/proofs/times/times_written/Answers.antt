use Rattle.std.proofs.Common.{ap, ◌∙◌, arith}
use Rattle.std.specs.Map.{lookup}
use Rattle.std.specs.Ordering.{nat_cmp}
use Rattle.std.specs.BTreeMap.{is_at}
use Rattle.wasm_syntax.specs.Tree.{code_of}
use Rattle.operand_spill.specs.inner.Deriving.{times_along}
use Rattle.operand_spill.proofs.Derivings.{times_begin, times_turn, times_end}
use Rattle.operand_spill.proofs.times.times_written.Goals as goal

pub loop-pc-init : goal.loop-pc-init
loop-pc-init c = λ targets tree w x.
    ap (times_along (code_of targets c.args.ops.now) x) (ap (lookup (is_at (nat_cmp x))) c.new-times.ensures.empty) ∙ times_begin x targets c.args.ops.now tree w

pub loop-pc-preserved : goal.loop-pc-preserved
loop-pc-preserved c = λ targets tree w x.
    times_turn x targets c.args.ops.now c.loop-pc.pc c.read_op-op.result _ _ _ c.read_op-op.ensures (c.in_ok-count_at.ensures targets x) (c.loop-pc.invariant targets tree w x)

pub returns : goal.returns
returns c = λ targets tree w x. times_end x targets c.args.ops.now c.loop-pc.pc _ _ (omega (arith, c.loop-pc-test.false)) (c.loop-pc.invariant targets tree w x)
