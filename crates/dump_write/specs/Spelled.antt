-- The shortest spellings of the parts of a dump (tool-conventions Coredump.md; Core 5.2 and 5.5).
use Rattle.std.specs.Prelude.{ℕ, List, [], ◌∷◌, ◌++◌, length}
use Rattle.std.specs.Int.{w32, w64, cast_signed}
use Rattle.std.specs.List.{flat_map}
use Rattle.wasm_leb.specs.Writing.{unsigned_bytes, signed_bytes}
use Rattle.wasm_syntax.specs.declared.value.Seen.{Seen}
use Rattle.wasm_syntax.specs.declared.value.Seen.TheVariants as seen
use Rattle.wasm_syntax.specs.declared.value.Value.{Value}
use Rattle.wasm_syntax.specs.declared.value.Value.TheVariants as value
use Rattle.dump_format.specs.declared.dump.Frame.{Frame}
use Rattle.dump_format.specs.Region.{Region}

-- a name: its length, and its bytes
unfoldable pub name_bytes : List ℕ → List ℕ
name_bytes name = unsigned_bytes (length name) ++ name

-- a vector: its count, and its elements
unfoldable pub vector_bytes : {A : Type 0} → (A → List ℕ) → List A → List ℕ
vector_bytes item xs = unsigned_bytes (length xs) ++ flat_map item xs

-- a module or the program: a zero byte, and its name
unfoldable pub module_bytes : List ℕ → List ℕ
module_bytes name = 0x00 ∷ name_bytes name

-- a value of a frame
unfoldable pub seen_bytes : Seen → List ℕ
seen_bytes (seen.I32 n) = 0x7f ∷ signed_bytes (cast_signed w32 n)
seen_bytes (seen.I64 n) = 0x7e ∷ signed_bytes (cast_signed w64 n)
seen_bytes seen.Missing = 0x01 ∷ []

-- a frame of the one instance, which has the index 0
unfoldable pub frame_bytes : Frame → List ℕ
frame_bytes f =
    0x00 ∷ 0x00 ∷ (unsigned_bytes f.function ++ unsigned_bytes f.offset ++ vector_bytes seen_bytes f.locals ++ vector_bytes seen_bytes f.operands)

-- a constant global: its type, its mutability and its value
unfoldable pub global_bytes : Value → List ℕ
global_bytes (value.I32 n) = 0x7f ∷ 0x00 ∷ 0x41 ∷ (signed_bytes (cast_signed w32 n) ++ 0x0b ∷ [])
global_bytes (value.I64 n) = 0x7e ∷ 0x00 ∷ 0x42 ∷ (signed_bytes (cast_signed w64 n) ++ 0x0b ∷ [])

-- what stands before the bytes of a segment: the index of its memory, its address, and the count of its bytes
unfoldable pub segment_head : Region → List ℕ
segment_head r = 0x00 ∷ 0x41 ∷ (signed_bytes (cast_signed w32 r.at) ++ 0x0b ∷ [] ++ unsigned_bytes (length r.bytes))

abbrev pub segment_bytes : Region → List ℕ
segment_bytes r = segment_head r ++ r.bytes

-- a section: its id, its size, and its contents
unfoldable pub section_bytes : ℕ → List ℕ → List ℕ
section_bytes id contents = id ∷ (unsigned_bytes (length contents) ++ contents)

-- a custom section: its name, and what stands behind it
unfoldable pub custom_bytes : List ℕ → List ℕ → List ℕ
custom_bytes title contents = section_bytes 0 (name_bytes title ++ contents)
