-- The section at an offset (WebAssembly Core 1.0, 5.5.2): an id, a size, and contents of that size inside the input.
use Rattle.std.specs.Prelude.{◌≡◌, ℕ, ◌+◌, ◌-◌, ◌<◌, ◌≤◌, ◌⊎◌, List, length, slice_get, slice_range, Some, Result, Ok, Bool, nat_le}
use Rattle.wasm_leb.specs.calls.Numbers.{IsUnsigned}
use Rattle.wasm_bytes.specs.declared.sections.SectionFrame.{SectionFrame}
use Rattle.wasm_bytes.specs.Place.{Place, Read}
use Rattle.wasm_bytes.specs.Reading.{◌>>=◌, one_of_item, block_item, value_of}

abbrev pub is_section_id : ℕ → Bool
is_section_id id = nat_le id 11

abbrev pub frame_of : ℕ → Place × Place → SectionFrame × Place
frame_of id block = (record { id = id; at = block.0.at; «end» = length block.0.block }, block.1)

-- the frame of the section at a place
unfoldable pub section_frame_item : Place → Read SectionFrame
section_frame_item p = one_of_item is_section_id p >>= λ id. block_item id.1 >>= λ block. Ok (frame_of id.0 block)

unfoldable pub section_of : List ℕ → ℕ → Result SectionFrame ℕ
section_of bytes at = value_of (section_frame_item (record { block = bytes; at = at }))

-- An id stands at the offset.
abbrev pub IsIdAt : List ℕ → ℕ → ℕ → Type 0
IsIdAt bytes at id = (slice_get bytes at ≡ Some id) × (id ≤ 11)

-- A size stands between two offsets, and the contents behind it end inside the input.
abbrev pub IsSizeAt : List ℕ → ℕ → ℕ → ℕ → Type 0
IsSizeAt bytes at from to = (at < from) × (from ≤ to) × (to ≤ length bytes) × IsUnsigned 32 (slice_range bytes at from) (to - from)

abbrev pub IsSectionAt : List ℕ → ℕ → SectionFrame → Type 0
IsSectionAt bytes at s = IsIdAt bytes at s.id × IsSizeAt bytes (at + 1) s.at s.«end»

-- No section is there, and the offset of the item without a reading: the id, or the size behind it.
abbrev pub NoSectionAt : List ℕ → ℕ → ℕ → Type 0
NoSectionAt bytes at o = ((o ≡ at) × ((id : ℕ) → IsIdAt bytes at id → ⊥)) ⊎ ((o ≡ at + 1) × (id : ℕ) × IsIdAt bytes at id × ((from to : ℕ) → IsSizeAt bytes (at + 1) from to → ⊥))
