-- The bytes that spell an instruction (WebAssembly Core 1.0, 5.4): an opcode of the table, and immediates of its form.
use Rattle.std.specs.Prelude.{ℕ, [], ◌∷◌, Option, Some, None}
use Rattle.wasm_bytes.specs.calls.Spelling.{Spellings, pair, leads, always, image, passing, only, one_of, text, u32, s32, s64, run, vector, tagged}
use Rattle.wasm_syntax.specs.declared.instruction.Instr.TheVariants as instr
use Rattle.wasm_format.specs.Spelled.{Spelled, alone, float}
use Rattle.wasm_format.specs.InstructionForm.{Form, bare, indexed, access, typed, labels, indirect, reserved, constant_i32, constant_i64, bulk, float_bare, float_access, float_constant, const_i32, const_i64, br_table, is_zero, call_indirect, is_block_type, block, is_bulk, bulk_of, bulk_zeros}
use Rattle.wasm_format.specs.Table.{form_of}

-- a block type, whose one byte is where it begins
abbrev pub block_type : (ℕ → Spelled) → Spelled → Spellings
block_type to = image to (one_of is_block_type)

-- the number behind FC, and as many zero bytes as it asks for
abbrev pub bulk_number : ℕ → Spellings
bulk_number n = leads (passing is_bulk u32) (λ m. image (λ _. m) (always (text (bulk_zeros m)))) n

-- what stands behind an opcode at that offset, where the body has that many targets so far
abbrev pub immediates : ℕ → ℕ → Form → Spelled → Spellings
immediates base at (bare i) = only (alone i)
immediates base at (indexed to) = image (λ n. alone (to n)) u32
immediates base at (access to) = image (λ x. alone (to x.0 x.1)) (pair u32 u32)
immediates base at (typed to) = λ x here bytes. block_type (block to here) x here bytes
immediates base at labels = image (br_table base) (pair (vector u32) u32)
immediates base at indirect = image call_indirect (pair u32 (passing is_zero u32))
immediates base at (reserved i) = image (λ _. alone i) (always (text (0x00 ∷ [])))
immediates base at constant_i32 = image const_i32 s32
immediates base at constant_i64 = image const_i64 s64
immediates base at bulk = image (λ n. alone (instr.Basic (bulk_of n))) bulk_number
immediates base at float_bare = only (float at)
immediates base at float_access = image (λ _. float at) (pair u32 u32)
immediates base at (float_constant width) = image (λ _. float at) (run width)

-- what stands behind an opcode that is in the table
abbrev pub behind_opcode : ℕ → ℕ → Option Form → Spelled → Spellings
behind_opcode base at None x here bytes = ⊥
behind_opcode base at (Some form) x here bytes = immediates base at form x here bytes

-- an instruction of a body that has that many targets so far
abbrev pub instruction : ℕ → Spelled → Spellings
instruction base x at bytes = tagged (λ opcode. behind_opcode base at (form_of opcode)) x at bytes
