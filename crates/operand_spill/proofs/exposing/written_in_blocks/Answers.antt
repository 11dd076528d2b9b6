use Rattle.std.proofs.Common.{ap, ◌∙◌, arith}
use Rattle.std.specs.List.{list_any}
use Rattle.std.specs.Ordering.{nat_cmp}
use Rattle.std.specs.BTreeMap.{is_at}
use Rattle.wasm_syntax.specs.Tree.{code_of}
use Rattle.operand_spill.specs.inner.Exposing.{marked_along}
use Rattle.operand_spill.proofs.Exposings.{marks_begin, marked_turn, marked_end}
use Rattle.operand_spill.proofs.exposing.written_in_blocks.Goals as goal

pub loop-pc-init : goal.loop-pc-init
loop-pc-init c = record {
  low = omega arith;
  marked = λ targets tree w x.
      ap (marked_along 0 (code_of targets c.args.ops.now) x) (ap (list_any (is_at (nat_cmp x))) c.new-marks.ensures.empty) ∙ marks_begin x targets c.args.ops.now tree w;
}

pub loop-pc-preserved : goal.loop-pc-preserved
loop-pc-preserved c = record {
  low = omega (arith, c.loop-pc.invariant.low, c.deeper-depth.ensures.bound);
  marked = λ targets tree w x.
      marked_turn x targets c.args.ops.now c.loop-pc.pc c.read_op-op.result c.loop-pc.depth c.deeper-depth.result _ _ _ c.read_op-op.ensures (c.deeper-depth.ensures.value targets) (c.in_ok-mark_at.ensures targets x)
      (c.loop-pc.invariant.marked targets tree w x);
}

pub returns : goal.returns
returns c = λ targets tree w x. marked_end x targets c.args.ops.now c.loop-pc.pc c.loop-pc.depth _ _ (omega (arith, c.loop-pc-test.false)) (c.loop-pc.invariant.marked targets tree w x)
