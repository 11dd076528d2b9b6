-- Numbers in LEB128: the shortest bytes spell them.
use Rattle.std.proofs.Common.{ℕ, ◌^◌, ◌<◌, lit≤, arith}
use Rattle.std.specs.Int.{w32, w64, cast_signed}
use Rattle.std.proofs.lemmas.Int.{ints}
use Rattle.wasm_leb.specs.Reading.{IsWithin}
use Rattle.wasm_leb.specs.Writing.{unsigned_bytes}
use Rattle.wasm_leb.proofs.UnsignedBytes.{unsigned_spells}
use Rattle.wasm_bytes.specs.calls.Spelling.{u32}

pub u32_spelled : (n at : ℕ) → n < 2 ^ 32 → u32 n at (unsigned_bytes n)
u32_spelled n at small = unsigned_spells 32 n (lit≤ tt) small

pub within_32 : (n : ℕ) → n < 2 ^ 32 → IsWithin 32 (cast_signed w32 n)
within_32 n small = (omega (arith, ints, small), omega (arith, ints, small))

pub within_64 : (n : ℕ) → n < 2 ^ 64 → IsWithin 64 (cast_signed w64 n)
within_64 n small = (omega (arith, ints, small), omega (arith, ints, small))
