-- Reading an instruction (WebAssembly Core 1.0, 5.4).
use Rattle.std.specs.Prelude.{◌≡◌, ℕ, List, [], ◌∷◌, ◌++◌, length, Option, Some, None, Result, Ok, Err}
use Rattle.wasm_syntax.specs.declared.value.ValType.{ValType}
use Rattle.wasm_syntax.specs.declared.blocks.BlockKind.{BlockKind}
use Rattle.wasm_syntax.specs.declared.blocks.BlockKind.TheVariants as kinds
use Rattle.wasm_syntax.specs.declared.instruction.Basic.{Basic}
use Rattle.wasm_syntax.specs.declared.instruction.Instr.{Instr}
use Rattle.wasm_syntax.specs.declared.instruction.Instr.TheVariants as instr
use Rattle.wasm_bytes.specs.declared.faults.Malformed.{Malformed}
use Rattle.wasm_bytes.specs.declared.faults.ItemFault.{ItemFault}
use Rattle.wasm_bytes.specs.declared.faults.ItemFault.TheVariants as faults
use Rattle.wasm_bytes.specs.Place.{Place, Read}
use Rattle.wasm_bytes.specs.Reading.{◌⊗◌, ◌▷◌, mapped, checked, here_item, done_item, one_of_item, bytes_item, u32_item, s32_item, s64_item, run_item, items_from, vector_item, picked, choose}
use Rattle.wasm_format.specs.declared.code.Code.{Code}
use Rattle.wasm_format.specs.declared.code.Code.TheVariants.{Known, Float}
use Rattle.wasm_format.specs.declared.code.ReadInstr.{ReadInstr}
use Rattle.wasm_format.specs.Spelled.{Spelled, alone, float}
use Rattle.wasm_format.specs.InstructionForm.{Form, bare, indexed, access, typed, labels, indirect, reserved, constant_i32, constant_i64, bulk, float_bare, float_access, float_constant, const_i32, const_i64, br_table, is_zero, call_indirect, is_block_type, block, is_bulk, bulk_of, bulk_zeros}
use Rattle.wasm_format.specs.Table.{Rows, form_of}
use Rattle.wasm_bytes.specs.Tables.{lookup}

unfoldable pub block_type_item : (Option ValType → Instr) → Place → Read Spelled
block_type_item to = here_item ▷ λ at. mapped (block to at) (one_of_item is_block_type)

abbrev pub bulk_number_item : Place → Read ℕ
bulk_number_item = checked is_bulk u32_item ▷ λ n. mapped (λ _. n) (bytes_item (bulk_zeros n))

unfoldable pub bulk_item : Place → Read Spelled
bulk_item = mapped (λ n. alone (instr.Basic (bulk_of n))) bulk_number_item

-- an alignment and an offset
abbrev pub access_item : (ℕ → ℕ → Instr) → Place → Read Spelled
access_item to = mapped (λ x. alone (to x.0 x.1)) (u32_item ⊗ u32_item)

abbrev pub float_access_item : ℕ → Place → Read Spelled
float_access_item at = mapped (λ _. float at) (u32_item ⊗ u32_item)

-- the index of a type, and the number of a table
abbrev pub indirect_item : Place → Read Spelled
indirect_item = mapped call_indirect (u32_item ⊗ checked is_zero u32_item)

-- targets and a default, where the body has that many targets so far
abbrev pub labels_item : ℕ → Place → Read Spelled
labels_item base = mapped (br_table base) (vector_item u32_item ⊗ u32_item)

-- what stands behind an opcode at that offset, where the body has that many targets so far
abbrev pub immediates_item : ℕ → ℕ → Form → Place → Read Spelled
immediates_item base at (bare i) = done_item (alone i)
immediates_item base at (indexed to) = mapped (λ n. alone (to n)) u32_item
immediates_item base at (access to) = access_item to
immediates_item base at (typed to) = block_type_item to
immediates_item base at labels = labels_item base
immediates_item base at indirect = indirect_item
immediates_item base at (reserved i) = mapped (λ _. alone i) (bytes_item (0x00 ∷ []))
immediates_item base at constant_i32 = mapped const_i32 s32_item
immediates_item base at constant_i64 = mapped const_i64 s64_item
immediates_item base at bulk = bulk_item
immediates_item base at float_bare = done_item (float at)
immediates_item base at float_access = float_access_item at
immediates_item base at (float_constant width) = mapped (λ _. float at) (run_item width)

abbrev pub item_behind : ℕ → ℕ → Option Form → Option (Place → Read Spelled)
item_behind base at None = None
item_behind base at (Some form) = Some (immediates_item base at form)

-- what stands behind an opcode at that offset, by these rows of the table
abbrev pub row_item : ℕ → ℕ → Rows → ℕ → Place → Read Spelled
row_item base at rows opcode = picked at (item_behind base at (lookup opcode rows))

-- an instruction of a body that has that many targets so far
unfoldable pub instruction_item : ℕ → Place → Read Spelled
instruction_item base = here_item ▷ λ at. choose (λ opcode. item_behind base at (form_of opcode))

-- ---- parts of the code

-- the instruction that opens a block
abbrev pub opening : BlockKind → Option ValType → Instr
opening kinds.Plain = instr.Block
opening kinds.Loop = instr.Loop
opening kinds.Then = instr.If

-- the form of a numeric instruction without immediates, or of one that has a float type
abbrev pub numeric_form : Option Basic → Form
numeric_form (Some i) = bare (instr.Basic i)
numeric_form None = float_bare

-- without targets
abbrev pub made_of : Code → Spelled
made_of code = record { code = code; targets = [] }

-- what stands behind an opcode at that offset, by the whole table
abbrev pub opcode_item : ℕ → ℕ → ℕ → Place → Read Spelled
opcode_item base at opcode = picked at (item_behind base at (form_of opcode))

-- ---- reading into a list

-- a result that has no targets
abbrev pub made : Result Code Malformed → Result Spelled Malformed
made (Ok code) = Ok (made_of code)
made (Err e) = Err e

-- an instruction, and the targets of its body up to its end
abbrev pub with_targets : List ℕ → Spelled → Code × List ℕ
with_targets before x = (x.code, before ++ x.targets)

unfoldable pub code_item : List ℕ → Place → Read (Code × List ℕ)
code_item before = mapped (with_targets before) (instruction_item (length before))

-- targets, and more of them
abbrev pub more_targets : List ℕ → ℕ → Place → Read (List ℕ)
more_targets before count = mapped (λ xs. before ++ xs) (items_from u32_item count)

-- a `br_table`, behind its opcode
abbrev pub labels_code : List ℕ → Place → Read (Code × List ℕ)
labels_code before = mapped (with_targets before) (labels_item (length before))

-- a result, and the list of targets that was left
abbrev pub beside : List ℕ → Result Code ItemFault → Result (Code × List ℕ) ItemFault
beside targets (Ok code) = Ok (code, targets)
beside targets (Err e) = Err e

-- ---- one instruction

abbrev pub code_or_none : Code → Option Instr
code_or_none (Known i) = Some i
code_or_none (Float at) = None

abbrev pub read_of : Spelled × Place → ReadInstr
read_of x = record { code = code_or_none x.0.code; targets = x.0.targets; next = x.1.at }

abbrev pub instr_from : Read Spelled → Result ReadInstr ℕ
instr_from (Ok x) = Ok (read_of x)
instr_from (Err at) = Err at

-- the instruction at an offset, in the bytes up to an end
unfoldable pub instr_at : List ℕ → ℕ → Result ReadInstr ℕ
instr_at block at = instr_from (instruction_item 0 (record { block = block; at = at }))

-- A function answered that, or memory ran out.
abbrev pub Answers : Result ReadInstr ItemFault → Result ReadInstr ℕ → Type 0
Answers (Ok x) answer = answer ≡ Ok x
Answers (Err (faults.At at)) answer = answer ≡ Err at
Answers (Err faults.NoMemory) answer = Unit {0}
