-- Where an instruction stops.
use Rattle.std.proofs.Common.{ℕ, [], ◌∷◌, Option, Some, None}
use Rattle.wasm_syntax.specs.declared.value.ValType.{ValType}
use Rattle.wasm_syntax.specs.declared.instruction.Instr.{Instr}
use Rattle.wasm_syntax.specs.declared.instruction.Instr.TheVariants as instr
use Rattle.wasm_bytes.specs.Reading.{◌⊗◌, mapped, checked, choose, one_of_item, bytes_item, u32_item, s32_item, s64_item, run_item, vector_item}
use Rattle.wasm_bytes.specs.calls.Spelling.{passing, one_of, u32, s32, s64, run, vector}
use Rattle.wasm_bytes.specs.calls.Stopping.{unread, text_stops, vector_stops}
use Rattle.wasm_bytes.specs.Laws.{StopsAt, PicksStops}
use Rattle.wasm_bytes.proofs.Exact.{checked_exact}
use Rattle.wasm_bytes.proofs.ExactItems.{u32_exact}
use Rattle.wasm_bytes.proofs.ExactLists.{vector_exact}
use Rattle.wasm_bytes.proofs.Stops.{unread_stops_at, u32_front, checked_front, one_of_stops_at, u32_stops_at, s32_stops_at, s64_stops_at, run_stops_at, done_stops_at, mapped_stops_at, leads_stops_at, then_stops_at, text_stops_at}
use Rattle.wasm_bytes.proofs.StopsLists.{choose_stops_at, vector_stops_at}
use Rattle.wasm_format.specs.Spelled.{alone, float}
use Rattle.wasm_format.specs.InstructionForm.{Form, bare, indexed, access, typed, labels, indirect, reserved, constant_i32, constant_i64, bulk, float_bare, float_access, float_constant, const_i32, const_i64, br_table, is_zero, call_indirect, is_block_type, block, is_bulk, bulk_of, bulk_zeros}
use Rattle.wasm_format.specs.Table.{form_of}
use Rattle.wasm_format.specs.Reading.{block_type_item, bulk_number_item, bulk_item, immediates_item, item_behind, instruction_item}
use Rattle.wasm_format.specs.calls.InstructionBreaking.{two_numbers_stop, immediates_stop, HasForm, IsOpcode, stops_behind, instruction_stops}
use Rattle.wasm_bytes.proofs.Offsets.{offset_stops}

two_stop : StopsAt two_numbers_stop (u32_item ⊗ u32_item)
two_stop = then_stops_at u32 (unread u32) (unread u32) u32_item u32_item u32_exact u32_stops_at u32_stops_at

block_type_stops : (to : Option ValType → Instr) → StopsAt (unread (one_of is_block_type)) (block_type_item to)
unfolding block_type_item
block_type_stops to = offset_stops (unread (one_of is_block_type)) (λ at. mapped (block to at) (one_of_item is_block_type)) (λ at. mapped_stops_at (block to at) (unread (one_of is_block_type)) (one_of_item is_block_type) (one_of_stops_at is_block_type))

bulk_number_stops : StopsAt (immediates_stop bulk) bulk_number_item
bulk_number_stops =
    leads_stops_at (passing is_bulk u32) (unread (passing is_bulk u32)) (λ n. text_stops (bulk_zeros n)) (checked is_bulk u32_item) (λ n. mapped (λ _. n) (bytes_item (bulk_zeros n)))
    (checked_exact is_bulk u32 u32_item u32_exact) (unread_stops_at (passing is_bulk u32) (checked is_bulk u32_item) (checked_exact is_bulk u32 u32_item u32_exact) (checked_front is_bulk u32_item u32_front))
    (λ n. mapped_stops_at (λ _. n) (text_stops (bulk_zeros n)) (bytes_item (bulk_zeros n)) (text_stops_at (bulk_zeros n)))

labels_stop : StopsAt (immediates_stop labels) (vector_item u32_item ⊗ u32_item)
labels_stop = then_stops_at (vector u32) (vector_stops u32 (unread u32)) (unread u32) (vector_item u32_item) u32_item (vector_exact u32 u32_item u32_exact) (vector_stops_at u32 (unread u32) u32_item u32_exact u32_stops_at) u32_stops_at

indirect_stops : StopsAt (immediates_stop indirect) (u32_item ⊗ checked is_zero u32_item)
indirect_stops = then_stops_at u32 (unread u32) (unread (passing is_zero u32)) u32_item (checked is_zero u32_item) u32_exact u32_stops_at (unread_stops_at (passing is_zero u32) (checked is_zero u32_item) (checked_exact is_zero u32 u32_item u32_exact) (checked_front is_zero u32_item u32_front))

immediates_stop_at : (base at : ℕ) (form : Form) → StopsAt (immediates_stop form) (immediates_item base at form)
unfolding bulk_item
immediates_stop_at base at (bare i) = done_stops_at (alone i)
immediates_stop_at base at (indexed to) = mapped_stops_at (λ n. alone (to n)) (unread u32) u32_item u32_stops_at
immediates_stop_at base at (access to) = mapped_stops_at (λ x. alone (to x.0 x.1)) two_numbers_stop (u32_item ⊗ u32_item) two_stop
immediates_stop_at base at (typed to) = block_type_stops to
immediates_stop_at base at labels = mapped_stops_at (br_table base) (immediates_stop labels) (vector_item u32_item ⊗ u32_item) labels_stop
immediates_stop_at base at indirect = mapped_stops_at call_indirect (immediates_stop indirect) (u32_item ⊗ checked is_zero u32_item) indirect_stops
immediates_stop_at base at (reserved i) = mapped_stops_at (λ _. alone i) (text_stops (0x00 ∷ [])) (bytes_item (0x00 ∷ [])) (text_stops_at (0x00 ∷ []))
immediates_stop_at base at constant_i32 = mapped_stops_at const_i32 (unread s32) s32_item s32_stops_at
immediates_stop_at base at constant_i64 = mapped_stops_at const_i64 (unread s64) s64_item s64_stops_at
immediates_stop_at base at bulk = mapped_stops_at (λ n. alone (instr.Basic (bulk_of n))) (immediates_stop bulk) bulk_number_item bulk_number_stops
immediates_stop_at base at float_bare = done_stops_at (float at)
immediates_stop_at base at float_access = mapped_stops_at (λ _. float at) two_numbers_stop (u32_item ⊗ u32_item) two_stop
immediates_stop_at base at (float_constant width) = mapped_stops_at (λ _. float at) (unread (run width)) (run_item width) (run_stops_at width)

behind_stops_at : (base at : ℕ) (form : Option Form) → PicksStops (HasForm form) (stops_behind form) (item_behind base at form)
behind_stops_at base at None = λ h. h
behind_stops_at base at (Some form) = (tt, immediates_stop_at base at form)

-- Reading fails exactly where an instruction stops.
pub instruction_stops_at : (base : ℕ) → StopsAt instruction_stops (instruction_item base)
unfolding instruction_item
instruction_stops_at base =
    offset_stops instruction_stops (λ at. choose (λ opcode. item_behind base at (form_of opcode)))
    (λ at. choose_stops_at IsOpcode (λ opcode. stops_behind (form_of opcode)) (λ opcode. item_behind base at (form_of opcode)) (λ opcode. behind_stops_at base at (form_of opcode)))
