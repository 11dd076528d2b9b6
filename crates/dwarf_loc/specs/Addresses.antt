-- Addresses by their indices (DWARF 5, 7.27): entry i of a table is the 4 bytes at its base + 4 i.
use Rattle.std.specs.Prelude.{ℕ, ◌+◌, ◌*◌, List, Option, option_and_then}
use Rattle.dwarf_bytes.specs.Items.{number_item, read_at}

-- the address of an index, where it has one
abbrev pub Addresses : Type 0
Addresses = ℕ → Option ℕ

-- the bytes of `.debug_addr`, and the base of a unit's table there, where it has one
pub record Table : Type 0 where
  pub section : List ℕ
  pub base : Option ℕ

abbrev pub table : List ℕ → Option ℕ → Table
table section base = record { section = section; base = base }

abbrev pub address_of : Table → Addresses
address_of t i = option_and_then (λ base. read_at (number_item 4) t.section (base + 4 * i)) t.base
