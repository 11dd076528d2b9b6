use Rattle.std.proofs.Common.{refl, arith}
use Rattle.wasm_validate.specs.inner.Places.{OneFine}
use Rattle.wasm_validate.proofs.Order.{one_only, one_fine}
use Rattle.wasm_validate.proofs.parts.bad_second.Goals as goal

pub returns-then-len-gt1 : goal.returns-then-len-gt1
returns-then-len-gt1 c = one_only c.args.list.now (OneFine c.args.most) c.args.first (λ i y p. p.0) c.requires.first (refl, c.requires.fine) (omega (arith, c.if-len-gt1.true, c.len.ensures))

pub returns : goal.returns
returns c = one_fine c.args.list.now (OneFine c.args.most) c.args.first c.requires.first (refl, c.requires.fine) (omega (arith, c.if-len-gt1.false, c.len.ensures))
