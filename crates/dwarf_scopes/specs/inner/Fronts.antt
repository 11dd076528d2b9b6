-- Entries that stand in a list from a number on.
use Rattle.std.specs.Prelude.{◌≡◌, ◌<◌, ◌^◌, ◌+◌, ℕ, List, length, take, drop}
use Rattle.dwarf_info.specs.declared.entry.Entry.{Entry}

pub record StandFrom (start : ℕ) (es all : List Entry) : Type 0 where
  pub are : es ≡ take (length es) (drop start all)
  pub fits : start + length es < 2 ^ 64
