use Rattle.std.proofs.Common.{take, ◌∙◌}
use Rattle.std.specs.List.{flat_map}
use Rattle.wasm_leb.specs.Writing.{unsigned_bytes}
use Rattle.wasm_format.proofs.Written.{front_of, numbers_more, numbers_done}
use Rattle.wasm_format.proofs.write.push_numbers.Goals as goal

pub returns-in_err-write_u32-clause-front : goal.returns-in_err-write_u32-clause-front
returns-in_err-write_u32-clause-front c =
    front_of c.args.out.now.items c.write_u32.new.out.items (flat_map unsigned_bytes (take c.loop-number.number-index c.args.numbers.now)) (c.in_err-write_u32.ensures.kept ∙ c.loop-number.invariant)

pub loop-number-preserved : goal.loop-number-preserved
loop-number-preserved c =
    numbers_more c.args.out.now.items c.loop-number.out.items c.write_u32.new.out.items c.args.numbers.now c.loop-number.number-index c.loop-number.invariant c.loop-number-test.true c.in_ok-write_u32.ensures.exact

pub returns-clause-exact : goal.returns-clause-exact
returns-clause-exact c = numbers_done c.args.out.now.items c.loop-number.out.items c.args.numbers.now c.loop-number.number-index c.loop-number.invariant c.loop-number-test.false

pub returns-clause-front : goal.returns-clause-front
returns-clause-front c = front_of c.args.out.now.items c.loop-number.out.items (flat_map unsigned_bytes (take c.loop-number.number-index c.args.numbers.now)) c.loop-number.invariant
