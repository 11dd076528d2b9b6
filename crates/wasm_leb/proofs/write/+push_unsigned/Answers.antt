use Rattle.std.proofs.Common.{rules, arith, ◌+◌, ◌/◌, ◌%◌}
use Rattle.wasm_leb.specs.Writing.{unsigned_bytes}
use Rattle.wasm_leb.proofs.Appended.{byte_and_rest}
use Rattle.wasm_leb.proofs.UnsignedBytes.{more_bytes}
use Rattle.wasm_leb.proofs.write.+push_unsigned.Goals as goal

pub returns-clause-exact : goal.returns-clause-exact
returns-clause-exact t c =
    let v = c.args.v in
    byte_and_rest c.push_unsigned.result c.args.out.now.items c.push-2.new.self.items c.push_unsigned.new.out.items (unsigned_bytes (v / 128)) (unsigned_bytes v) (v % 128 + 128) (search rules) (more_bytes v (omega arith) (omega arith)) c.push_unsigned.ensures.exact
