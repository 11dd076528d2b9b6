use Rattle.std.proofs.Common.{arith, w64, to_z, of_z}
use Rattle.std.proofs.lemmas.Int.{ints}
use Rattle.wasm_leb.specs.calls.Numbers.{IsSigned}
use Rattle.wasm_leb.specs.Writing.{signed_bytes}
use Rattle.wasm_leb.proofs.Appended.{appends_shortest}
use Rattle.wasm_leb.proofs.SignedBytes.{signed_shortest}
use Rattle.wasm_leb.proofs.write.write_s64.Goals as goal

pub returns-clause-shortest : goal.returns-clause-shortest
returns-clause-shortest c =
    appends_shortest (IsSigned 64) signed_bytes c.append_signed.result c.args.out.now.items c.append_signed.new.out.items (to_z w64 (of_z w64 c.args.v)) c.args.v (omega (arith, ints)) (signed_shortest 64 c.args.v (omega arith) (omega (arith, ints), omega (arith, ints))) c.append_signed.ensures.exact
