use Rattle.std.proofs.Common.{arith, refl}
use Rattle.wasm_leb.specs.calls.Numbers.{IsSigned}
use Rattle.wasm_leb.specs.Reading.{signed_at, s32_at}
use Rattle.wasm_leb.proofs.Readings.{found_at, truncated_at, too_long_at}
use Rattle.wasm_leb.proofs.Widths.{s32_reading}
use Rattle.wasm_leb.proofs.read.read_s32.Goals as goal

pub returns-clause-found : goal.returns-clause-found
unfolding s32_at
returns-clause-found c = rw c.placed_s32.ensures (found_at (IsSigned 32) (signed_at 32) 5 c.args.at c.args.bytes.now _ s32_reading refl (λ i. omega (arith, c.type_inv.bytes i)) c.requires)

pub returns-clause-truncated : goal.returns-clause-truncated
unfolding s32_at
returns-clause-truncated c = rw c.placed_s32.ensures (truncated_at (IsSigned 32) (signed_at 32) 5 c.args.at c.args.bytes.now s32_reading)

pub returns-clause-too_long : goal.returns-clause-too_long
unfolding s32_at
returns-clause-too_long c = rw c.placed_s32.ensures (too_long_at (IsSigned 32) (signed_at 32) 5 c.args.at c.args.bytes.now s32_reading (λ i. omega (arith, c.type_inv.bytes i)))
