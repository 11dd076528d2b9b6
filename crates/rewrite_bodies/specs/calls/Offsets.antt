-- Offsets of accesses (Core 2.4.4).
use Rattle.std.specs.Prelude.{◌<◌, ◌^◌}
use Rattle.wasm_syntax.specs.declared.instruction.Basic.{Basic}
use Rattle.wasm_syntax.specs.declared.instruction.Basic.TheVariants.{Load, Store}

-- the offset of an access is a number of 32 bits
abbrev pub SmallOffset : Basic → Type 0
SmallOffset (Load l align o) = o < 2 ^ 32
SmallOffset (Store l align o) = o < 2 ^ 32
SmallOffset i = Unit {0}
