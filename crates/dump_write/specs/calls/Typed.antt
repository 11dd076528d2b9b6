-- The values that the types of a dump can hold: names are texts, and numbers have 32 or 64 bits.
use Rattle.std.specs.Prelude.{◌^◌, ◌<◌, All}
use Rattle.std.specs.Str.{IsUtf8}
use Rattle.wasm_syntax.specs.declared.value.Seen.{Seen}
use Rattle.wasm_syntax.specs.declared.value.Seen.TheVariants as seen
use Rattle.wasm_syntax.specs.Numbers.{IsValue}
use Rattle.dump_format.specs.declared.dump.Dump.{Dump}
use Rattle.dump_format.specs.declared.dump.Frame.{Frame}

abbrev pub IsSeenTyped : Seen → Type 0
IsSeenTyped (seen.I32 n) = n < 2 ^ 32
IsSeenTyped (seen.I64 n) = n < 2 ^ 64
IsSeenTyped seen.Missing = Unit {0}

pub record IsFrameTyped (f : Frame) : Type 0 where
  pub function : f.function < 2 ^ 32
  pub offset : f.offset < 2 ^ 32
  pub locals : All IsSeenTyped f.locals
  pub operands : All IsSeenTyped f.operands

pub record IsTyped (d : Dump) : Type 0 where
  pub name : IsUtf8 d.name
  pub frames : All IsFrameTyped d.frames
  pub globals : All IsValue d.globals
