-- Where an instruction stops being one: the offset of its first item without a reading, or of the end where an item is due.
use Rattle.std.specs.Prelude.{ℕ, [], ◌∷◌, Option, Some, None}
use Rattle.wasm_bytes.specs.calls.Spelling.{passing, one_of, u32, s32, s64, run, vector}
use Rattle.wasm_bytes.specs.calls.Stopping.{Stops, never, unread, either, behind, then_stops, text_stops, tagged_stops, vector_stops}
use Rattle.wasm_format.specs.InstructionForm.{Form, bare, indexed, access, typed, labels, indirect, reserved, constant_i32, constant_i64, bulk, float_bare, float_access, float_constant, is_zero, is_block_type, is_bulk, bulk_zeros}
use Rattle.wasm_format.specs.Table.{form_of}

abbrev pub two_numbers_stop : Stops
two_numbers_stop = then_stops u32 (unread u32) (unread u32)

-- behind an opcode
abbrev pub immediates_stop : Form → Stops
immediates_stop (bare i) = never
immediates_stop (indexed to) = unread u32
immediates_stop (access to) = two_numbers_stop
immediates_stop (typed to) = unread (one_of is_block_type)
immediates_stop labels = then_stops (vector u32) (vector_stops u32 (unread u32)) (unread u32)
immediates_stop indirect = then_stops u32 (unread u32) (unread (passing is_zero u32))
immediates_stop (reserved i) = text_stops (0x00 ∷ [])
immediates_stop constant_i32 = unread s32
immediates_stop constant_i64 = unread s64
immediates_stop bulk = either (unread (passing is_bulk u32)) (behind (passing is_bulk u32) (λ n. text_stops (bulk_zeros n)))
immediates_stop float_bare = never
immediates_stop float_access = two_numbers_stop
immediates_stop (float_constant width) = unread (run width)

-- The opcode is in the table.
abbrev pub HasForm : Option Form → Type 0
HasForm None = ⊥
HasForm (Some form) = Unit {0}

abbrev pub IsOpcode : ℕ → Type 0
IsOpcode opcode = HasForm (form_of opcode)

abbrev pub stops_behind : Option Form → Stops
stops_behind None = never
stops_behind (Some form) = immediates_stop form

abbrev pub instruction_stops : Stops
instruction_stops = tagged_stops IsOpcode (λ opcode. stops_behind (form_of opcode))
