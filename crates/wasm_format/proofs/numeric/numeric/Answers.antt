use Rattle.std.proofs.Common.{arith}
use Rattle.wasm_format.proofs.Numbers.{test_i32, test_i64, operator_i32, operator_i64, float_row_of}
use Rattle.wasm_format.proofs.numeric.numeric.Goals as goal

pub returns-in-69-to-79 : goal.returns-in-69-to-79
returns-in-69-to-79 c = test_i32 c.args.opcode _ (omega arith) c.test.ensures

pub returns-in-80-to-90 : goal.returns-in-80-to-90
returns-in-80-to-90 c = test_i64 c.args.opcode _ (omega arith) c.test-in-80-to-90.ensures

pub returns-in-103-to-120 : goal.returns-in-103-to-120
returns-in-103-to-120 c = operator_i32 c.args.opcode _ (omega arith) c.operator.ensures

pub returns-in-121-to-138 : goal.returns-in-121-to-138
returns-in-121-to-138 c = operator_i64 c.args.opcode _ (omega arith) c.operator-in-121-to-138.ensures

pub returns-in_default-3 : goal.returns-in_default-3
returns-in_default-3 c = float_row_of c.args.opcode (omega arith) (omega arith) (λ h. omega (arith, h)) (λ h. omega (arith, h)) (λ h. omega (arith, h))
