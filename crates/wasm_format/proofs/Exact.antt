-- An instruction is read exactly as it is spelled.
use Rattle.std.proofs.Common.{ℕ, [], ◌∷◌, Option, Some, None}
use Rattle.wasm_syntax.specs.declared.value.ValType.{ValType}
use Rattle.wasm_syntax.specs.declared.instruction.Instr.{Instr}
use Rattle.wasm_syntax.specs.declared.instruction.Instr.TheVariants as instr
use Rattle.wasm_bytes.specs.Reading.{◌⊗◌, mapped, checked, choose, one_of_item, bytes_item, u32_item, s32_item, s64_item, run_item, vector_item}
use Rattle.wasm_bytes.specs.calls.Spelling.{pair, always, image, passing, one_of, text, u32, s32, s64, run, vector, tagged}
use Rattle.wasm_bytes.specs.Laws.{IsExact, PicksExact, TakesBytes}
use Rattle.wasm_bytes.proofs.Exact.{then_exact, image_exact, leads_exact, checked_exact, done_exact}
use Rattle.wasm_bytes.proofs.ExactItems.{u32_exact, s32_exact, s64_exact, one_of_exact, text_exact, run_exact}
use Rattle.wasm_bytes.proofs.ExactLists.{vector_exact, choose_exact}
use Rattle.wasm_bytes.proofs.Takes.{tagged_takes}
use Rattle.wasm_format.specs.Spelled.{alone, float}
use Rattle.wasm_format.specs.InstructionForm.{Form, bare, indexed, access, typed, labels, indirect, reserved, constant_i32, constant_i64, bulk, float_bare, float_access, float_constant, const_i32, const_i64, br_table, is_zero, call_indirect, is_block_type, block, is_bulk, bulk_of, bulk_zeros}
use Rattle.wasm_format.specs.Table.{form_of}
use Rattle.wasm_format.specs.calls.InstructionGrammar.{block_type, bulk_number, immediates, behind_opcode, instruction}
use Rattle.wasm_format.specs.Reading.{block_type_item, bulk_number_item, bulk_item, immediates_item, item_behind, instruction_item}
use Rattle.wasm_bytes.proofs.Offsets.{offset_exact}

pub two_exact : IsExact (pair u32 u32) (u32_item ⊗ u32_item)
two_exact = then_exact u32 u32 u32_item u32_item u32_exact u32_exact

block_type_exact : (to : Option ValType → Instr) → IsExact (λ x at bytes. block_type (block to at) x at bytes) (block_type_item to)
unfolding block_type_item
block_type_exact to = offset_exact (λ at. block_type (block to at)) (λ at. mapped (block to at) (one_of_item is_block_type)) (λ at. image_exact (one_of is_block_type) (block to at) (one_of_item is_block_type) (one_of_exact is_block_type))

bulk_number_exact : IsExact bulk_number bulk_number_item
bulk_number_exact =
    leads_exact (passing is_bulk u32) (λ m. image (λ _. m) (always (text (bulk_zeros m)))) (checked is_bulk u32_item) (λ m. mapped (λ _. m) (bytes_item (bulk_zeros m)))
    (checked_exact is_bulk u32 u32_item u32_exact) (λ m. image_exact (always (text (bulk_zeros m))) (λ _. m) (bytes_item (bulk_zeros m)) (text_exact (bulk_zeros m)))

immediates_exact : (base at : ℕ) (form : Form) → IsExact (immediates base at form) (immediates_item base at form)
unfolding bulk_item
immediates_exact base at (bare i) = done_exact (alone i)
immediates_exact base at (indexed to) = image_exact u32 (λ n. alone (to n)) u32_item u32_exact
immediates_exact base at (access to) = image_exact (pair u32 u32) (λ x. alone (to x.0 x.1)) (u32_item ⊗ u32_item) two_exact
immediates_exact base at (typed to) = block_type_exact to
immediates_exact base at labels = image_exact (pair (vector u32) u32) (br_table base) (vector_item u32_item ⊗ u32_item) (then_exact (vector u32) u32 (vector_item u32_item) u32_item (vector_exact u32 u32_item u32_exact) u32_exact)
immediates_exact base at indirect = image_exact (pair u32 (passing is_zero u32)) call_indirect (u32_item ⊗ checked is_zero u32_item) (then_exact u32 (passing is_zero u32) u32_item (checked is_zero u32_item) u32_exact (checked_exact is_zero u32 u32_item u32_exact))
immediates_exact base at (reserved i) = image_exact (always (text (0x00 ∷ []))) (λ _. alone i) (bytes_item (0x00 ∷ [])) (text_exact (0x00 ∷ []))
immediates_exact base at constant_i32 = image_exact s32 const_i32 s32_item s32_exact
immediates_exact base at constant_i64 = image_exact s64 const_i64 s64_item s64_exact
immediates_exact base at bulk = image_exact bulk_number (λ n. alone (instr.Basic (bulk_of n))) bulk_number_item bulk_number_exact
immediates_exact base at float_bare = done_exact (float at)
immediates_exact base at float_access = image_exact (pair u32 u32) (λ _. float at) (u32_item ⊗ u32_item) two_exact
immediates_exact base at (float_constant width) = image_exact (run width) (λ _. float at) (run_item width) (run_exact width)

behind_exact : (base at : ℕ) (form : Option Form) → PicksExact (behind_opcode base at form) (item_behind base at form)
behind_exact base at None = λ x here bytes s. s
behind_exact base at (Some form) = immediates_exact base at form

-- Reading gives exactly the instructions that are spelled.
pub instruction_exact : (base : ℕ) → IsExact (instruction base) (instruction_item base)
unfolding instruction_item
instruction_exact base =
    offset_exact (λ at. tagged (λ opcode. behind_opcode base at (form_of opcode))) (λ at. choose (λ opcode. item_behind base at (form_of opcode)))
    (λ at. choose_exact (λ opcode. behind_opcode base at (form_of opcode)) (λ opcode. item_behind base at (form_of opcode)) (λ opcode. behind_exact base at (form_of opcode)))

-- Each instruction has a byte.
pub instruction_takes : (base : ℕ) → TakesBytes (instruction base)
instruction_takes base x at front s = tagged_takes (λ opcode. behind_opcode base at (form_of opcode)) x at front s
