use Rattle.std.proofs.Common.{arith}
use Rattle.wasm_bytes.specs.Laws.{IsBytes}
use Rattle.wasm_decode.proofs.Meanings.{found_exactly, malformed_exactly, float_exactly, import_exactly, limit_exactly}
use Rattle.wasm_decode.proofs.Sounds.{ok_within}
use Rattle.wasm_decode.proofs.module.decode.Goals as goal

pub returns : goal.returns
returns c =
    let bytes = c.args.bytes.now in
    let result = c.decoded.result in
    let given = c.decoded.ensures in
    let fits : IsBytes bytes = λ i. omega (arith, c.type_inv.bytes i) in
    record {
      exact = given;
      found = found_exactly bytes result fits given;
      limited = ok_within bytes result (found_exactly bytes result fits given);
      malformed = malformed_exactly bytes result fits given;
      float = float_exactly bytes result fits given;
      import_kind = import_exactly bytes result fits given;
      limit = limit_exactly bytes result fits given;
    }
