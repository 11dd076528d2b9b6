use Rattle.wasm_leb.proofs.SignedBytes.{size}
use Rattle.wasm_leb.proofs.write.+push_signed.Given as goal

abbrev pub decreases-push_signed : goal.decreases-push_signed
decreases-push_signed l = size l.v
