use Rattle.std.proofs.Common.{arith}
use Rattle.wasm_leb.specs.calls.Numbers.{IsUnsigned}
use Rattle.wasm_leb.specs.Writing.{unsigned_bytes}
use Rattle.wasm_leb.proofs.Appended.{appends_shortest}
use Rattle.wasm_leb.proofs.UnsignedBytes.{unsigned_shortest}
use Rattle.wasm_leb.proofs.write.write_u32.Goals as goal

pub returns-clause-shortest : goal.returns-clause-shortest
returns-clause-shortest c =
    appends_shortest (IsUnsigned 32) unsigned_bytes c.append_unsigned.result c.args.out.now.items c.append_unsigned.new.out.items c.from.result c.args.v c.from.ensures (unsigned_shortest 32 c.args.v (omega arith) (omega arith)) c.append_unsigned.ensures.exact
