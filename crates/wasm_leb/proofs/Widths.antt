-- Reading at the two widths: 5 bytes are the full length at 32 bits, 10 at 64.
use Rattle.std.proofs.Common.{arith}
use Rattle.wasm_leb.specs.calls.Numbers.{IsUnsigned, IsSigned}
use Rattle.wasm_leb.specs.Reading.{unsigned_at, signed_at}
use Rattle.wasm_leb.proofs.Readings.{IsReading}
use Rattle.wasm_leb.proofs.UnsignedLaws.{IsLength, unsigned_reading}
use Rattle.wasm_leb.proofs.SignedLaws.{signed_reading}

full_32 : IsLength 32 5
full_32 = record { enough = omega arith; least = omega arith; some = omega arith }

full_64 : IsLength 64 10
full_64 = record { enough = omega arith; least = omega arith; some = omega arith }

pub u32_reading : IsReading (IsUnsigned 32) (unsigned_at 32) 5
u32_reading = unsigned_reading 32 5 full_32

pub u64_reading : IsReading (IsUnsigned 64) (unsigned_at 64) 10
u64_reading = unsigned_reading 64 10 full_64

pub s32_reading : IsReading (IsSigned 32) (signed_at 32) 5
s32_reading = signed_reading 32 5 full_32

pub s64_reading : IsReading (IsSigned 64) (signed_at 64) 10
s64_reading = signed_reading 64 10 full_64
