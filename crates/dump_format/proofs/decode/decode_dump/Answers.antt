use Rattle.std.proofs.Common.{subst, arith}
use Rattle.wasm_bytes.specs.Laws.{IsBytes}
use Rattle.dump_format.specs.Decode.{dump_from, Answers}
use Rattle.dump_format.proofs.DecodeLaws.{dump_known_from}
use Rattle.dump_format.proofs.Meanings.{found_exactly, malformed_exactly, float_exactly, several_exactly, limit_exactly}
use Rattle.dump_format.proofs.ContainedLaws.{ok_contained, ok_limited}
use Rattle.dump_format.proofs.decode.decode_dump.Goals as goal

pub returns : goal.returns
returns c =
    let bytes = c.args.bytes.now in
    let result = c.decode.result in
    let given : Answers result (dump_from bytes) = subst (Answers result) (dump_known_from bytes) c.decode.ensures in
    let fits : IsBytes bytes = λ i. omega (arith, c.type_inv.bytes i) in
    record {
      exact = given;
      found = found_exactly bytes result fits given;
      contained = ok_contained bytes result (found_exactly bytes result fits given);
      limited = ok_limited bytes result (found_exactly bytes result fits given);
      malformed = malformed_exactly bytes result fits given;
      float = float_exactly bytes result fits given;
      several = several_exactly bytes result fits given;
      limit = limit_exactly bytes result fits given;
    }
