use Rattle.std.proofs.Common.{refl, arith}
use Rattle.wasm_leb.specs.calls.Numbers.{IsUnsigned}
use Rattle.wasm_leb.specs.Writing.{unsigned_bytes}
use Rattle.wasm_leb.proofs.Appended.{appends_shortest}
use Rattle.wasm_leb.proofs.UnsignedBytes.{unsigned_shortest}
use Rattle.wasm_leb.proofs.write.write_u64.Goals as goal

pub returns-clause-shortest : goal.returns-clause-shortest
returns-clause-shortest c =
    appends_shortest (IsUnsigned 64) unsigned_bytes c.append_unsigned.result c.args.out.now.items c.append_unsigned.new.out.items c.args.v c.args.v refl (unsigned_shortest 64 c.args.v (omega arith) (omega arith)) c.append_unsigned.ensures.exact
