use Rattle.std.proofs.Common.{arith, refl}
use Rattle.wasm_leb.specs.calls.Numbers.{IsSigned}
use Rattle.wasm_leb.specs.Reading.{signed_at, s64_at}
use Rattle.wasm_leb.proofs.Readings.{found_at, truncated_at, too_long_at}
use Rattle.wasm_leb.proofs.Widths.{s64_reading}
use Rattle.wasm_leb.proofs.read.read_s64.Goals as goal

pub returns-clause-found : goal.returns-clause-found
unfolding s64_at
returns-clause-found c = rw c.placed_s64.ensures (found_at (IsSigned 64) (signed_at 64) 10 c.args.at c.args.bytes.now _ s64_reading refl (λ i. omega (arith, c.type_inv.bytes i)) c.requires)

pub returns-clause-truncated : goal.returns-clause-truncated
unfolding s64_at
returns-clause-truncated c = rw c.placed_s64.ensures (truncated_at (IsSigned 64) (signed_at 64) 10 c.args.at c.args.bytes.now s64_reading)

pub returns-clause-too_long : goal.returns-clause-too_long
unfolding s64_at
returns-clause-too_long c = rw c.placed_s64.ensures (too_long_at (IsSigned 64) (signed_at 64) 10 c.args.at c.args.bytes.now s64_reading (λ i. omega (arith, c.type_inv.bytes i)))
