-- Counts as they are kept.
use Rattle.std.specs.Prelude.{ℕ, ◌+◌, ◌*◌, ◌==◌, if◌then◌else◌, Option, Some, None}
use Rattle.dwarf_types.specs.declared.kept_counts.KeptCount.{KeptCount}

abbrev pub count_of : KeptCount → Option ℕ
count_of k = if k.top == 2 then None else Some (k.top * 0x1_0000_0000_0000_0000 + k.high * 0x1_0000_0000 + k.low)
