-- An expression, and what it is without `DW_OP_addrx` (DWARF 5, 2.5.1.1), by the bytes that spell its operators.
use Rattle.std.specs.Prelude.{◌≡◌, ℕ, ◌+◌, Bool, true, false, List, [], ◌∷◌, ◌++◌, length, Option, Some, None, ◌==◌}
use Rattle.wasm_bytes.specs.calls.Spelling.{Spellings, leads, image, byte, u64}
use Rattle.dwarf_bytes.specs.Format.{Format, spelled}
use Rattle.dwarf_bytes.specs.calls.Spelled.{never}
use Rattle.dwarf_info.specs.declared.entry.Unit.{Unit as UnitTree}
use Rattle.dwarf_info.specs.Sections.{SectionBytes5}
use Rattle.dwarf_loc.specs.Addresses.{Addresses, address_of}
use Rattle.dwarf_expr.specs.declared.operators.Operator.{Operator}
use Rattle.dwarf_expr.specs.Operators.{behind}
use Rattle.dwarf5_info.specs.Lists.{is_version5, addresses_of}
use Rattle.dwarf5_info.specs.Plain.{replaced}

-- what stands behind an opcode that is known
abbrev pub known : Option (Format Operator) → Operator → Spellings
known (Some f) = spelled f
known None = never

-- behind `addrx` an index, with its address if it has one; behind another opcode what the table of operators says
abbrev pub operand : Addresses → Bool → ℕ → Option ℕ → Spellings
operand addresses true opcode = image addresses u64
operand addresses false opcode = image (λ operator. None) (known (behind opcode))

-- an operator, with the address that stands for it if one does
abbrev pub operator : Addresses → Option ℕ → Spellings
operator addresses = leads byte (λ opcode. operand addresses (opcode == 0xa1) opcode)

-- No operator stands in front.
abbrev pub NoneStands : Addresses → ℕ → List ℕ → Type 0
NoneStands addresses at bytes = (address : Option ℕ) (front rest : List ℕ) → operator addresses address at front → bytes ≡ front ++ rest → ⊥

-- Operators from an offset on, each with its address in its place or as it stands. Where no more stand, the rest is as it stands.
abbrev pub IsPlainFrom : Addresses → List (Option ℕ) → ℕ → List ℕ → List ℕ → Type 0
IsPlainFrom addresses [] at bytes plain = NoneStands addresses at bytes × (plain ≡ bytes)
IsPlainFrom addresses (address ∷ others) at bytes plain =
    (front : List ℕ) × (rest : List ℕ) × (more : List ℕ) × operator addresses address at front × (bytes ≡ front ++ rest) × (plain ≡ replaced address front ++ more)
    × IsPlainFrom addresses others (at + length front) rest more

abbrev pub IsPlain : Addresses → List ℕ → List ℕ → Type 0
IsPlain addresses bytes plain = (operators : List (Option ℕ)) × IsPlainFrom addresses operators 0 bytes plain

-- where it has addresses by index
abbrev pub IsPlainIf : Bool → Addresses → List ℕ → List ℕ → Type 0
IsPlainIf true addresses bytes plain = IsPlain addresses bytes plain
IsPlainIf false addresses bytes plain = plain ≡ bytes

-- the same of an expression of a unit
abbrev pub IsPlainOf : SectionBytes5 → UnitTree → List ℕ → List ℕ → Type 0
IsPlainOf s u = IsPlainIf (is_version5 u) (address_of (addresses_of s u))
