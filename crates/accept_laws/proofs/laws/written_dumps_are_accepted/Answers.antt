use Rattle.rewrite_promise.proofs.Decoded.{whole, limits}
use Rattle.accept_laws.proofs.Spelled.{decoded}
use Rattle.accept_laws.proofs.Traps.{traps_accepted}
use Rattle.accept_laws.proofs.laws.written_dumps_are_accepted.Goals as goal

pub returns : goal.returns
returns c = record {
  modules = λ p collecting is replies depth n. traps_accepted p collecting is replies depth n;
  decoded = λ bytes p collecting is replies depth n fits e writes valid deep.
      traps_accepted p collecting is replies depth n writes (whole bytes p.module_ fits e) valid (limits bytes p.module_ fits e) (decoded bytes p.module_ fits e) deep;
}
