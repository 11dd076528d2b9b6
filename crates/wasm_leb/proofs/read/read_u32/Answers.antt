use Rattle.std.proofs.Common.{arith, refl}
use Rattle.wasm_leb.specs.calls.Numbers.{IsUnsigned}
use Rattle.wasm_leb.specs.Reading.{unsigned_at, u32_at}
use Rattle.wasm_leb.proofs.Readings.{found_at, truncated_at, too_long_at}
use Rattle.wasm_leb.proofs.Widths.{u32_reading}
use Rattle.wasm_leb.proofs.read.read_u32.Goals as goal

pub returns-clause-found : goal.returns-clause-found
unfolding u32_at
returns-clause-found c = rw c.placed_u32.ensures (found_at (IsUnsigned 32) (unsigned_at 32) 5 c.args.at c.args.bytes.now _ u32_reading refl (λ i. omega (arith, c.type_inv.bytes i)) c.requires)

pub returns-clause-truncated : goal.returns-clause-truncated
unfolding u32_at
returns-clause-truncated c = rw c.placed_u32.ensures (truncated_at (IsUnsigned 32) (unsigned_at 32) 5 c.args.at c.args.bytes.now u32_reading)

pub returns-clause-too_long : goal.returns-clause-too_long
unfolding u32_at
returns-clause-too_long c = rw c.placed_u32.ensures (too_long_at (IsUnsigned 32) (unsigned_at 32) 5 c.args.at c.args.bytes.now u32_reading (λ i. omega (arith, c.type_inv.bytes i)))
