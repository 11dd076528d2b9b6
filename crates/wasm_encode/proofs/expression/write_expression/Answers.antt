use Rattle.wasm_encode.proofs.Targets.{op_inside}
use Rattle.wasm_encode.proofs.expression.write_expression.Goals as goal

pub write_instr-requires : goal.write_instr-requires
write_instr-requires c = op_inside c.args.body.now c.as_slice-op-items.result.now c.loop-op.op-index _ c.requires c.as_slice-op-items.ensures c.loop-op-test.true
