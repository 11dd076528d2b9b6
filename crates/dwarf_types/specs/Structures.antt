-- Tags of what stands in structures (DWARF 4, 5.5.9).
use Rattle.std.specs.Prelude.{ℕ}

abbrev pub tag_variant_part : ℕ
tag_variant_part = 0x33
