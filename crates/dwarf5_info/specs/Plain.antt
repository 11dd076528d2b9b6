-- An expression of DWARF 5 without `DW_OP_addrx` (DWARF 5, 2.5.1.1): each stands for `DW_OP_addr` with the address of its index.
use Rattle.std.specs.Prelude.{ℕ, zero, suc, List, ◌∷◌, ◌++◌, length, drop, slice_range, Option, Some, None, option_map, Ok, Err, ◌==◌, if◌then◌else◌}
use Rattle.std.specs.Int.{w32, to_le_bytes}
use Rattle.wasm_bytes.specs.Place.{Place, Read}
use Rattle.wasm_bytes.specs.Reading.{◌▷◌, mapped, byte_item, u64_item}
use Rattle.dwarf_bytes.specs.Items.{item_or_none}
use Rattle.dwarf_bytes.specs.Format.{read}
use Rattle.dwarf_expr.specs.Operators.{behind}
use Rattle.dwarf_loc.specs.Addresses.{Addresses}

-- The address that stands for an operator, behind its opcode. None for an operator that stands as it is.
abbrev pub address_behind : Addresses → ℕ → Place → Read (Option ℕ)
address_behind addresses opcode =
    if opcode == 0xa1 then mapped addresses u64_item
    else mapped (λ operator. None) (item_or_none (option_map read (behind opcode)))

unfoldable pub address_item : Addresses → Place → Read (Option ℕ)
address_item addresses = byte_item ▷ address_behind addresses

-- an operator, or `addr` with the address that stands for it
abbrev pub replaced : Option ℕ → List ℕ → List ℕ
replaced (Some address) operator = 0x03 ∷ to_le_bytes w32 address
replaced None operator = operator

-- What has no reading stands as it is, with all behind it.
abbrev pub and_rest : Place → (Place → List ℕ) → Read (Option ℕ) → List ℕ
and_rest p more (Ok x) = replaced x.0 (slice_range p.block p.at x.1.at) ++ more x.1
and_rest p more (Err at) = drop p.at p.block

-- at most so many operators
unfoldable pub plain_from : Addresses → ℕ → Place → List ℕ
plain_from addresses zero p = drop p.at p.block
plain_from addresses (suc n) p = and_rest p (plain_from addresses n) (address_item addresses p)

unfoldable pub plain : Addresses → List ℕ → List ℕ
plain addresses bytes = plain_from addresses (length bytes) (record { block = bytes; at = 0 })
