-- What the answer of a reader of one instruction says of the bytes.
use Rattle.std.specs.Prelude.{◌≡◌, ℕ, ◌≤◌, List, length, drop, Result, Err}
use Rattle.std.specs.List.{slice_range}
use Rattle.wasm_bytes.specs.declared.faults.ItemFault.{ItemFault}
use Rattle.wasm_bytes.specs.declared.faults.ItemFault.TheVariants.{NoMemory}
use Rattle.wasm_format.specs.declared.code.ReadInstr.{ReadInstr}
use Rattle.wasm_format.specs.Spelled.{Spelled}
use Rattle.wasm_format.specs.calls.InstructionGrammar.{instruction}
use Rattle.wasm_format.specs.Reading.{code_or_none}
use Rattle.wasm_format.specs.calls.InstructionBreaking.{instruction_stops}

-- The bytes of a block from one offset up to another spell the instruction.
abbrev pub IsInstrAt : List ℕ → ℕ → ReadInstr → Type 0
IsInstrAt block at x = (s : Spelled) × (at ≤ x.next) × (x.next ≤ length block) × instruction 0 s at (slice_range block at x.next) × (code_or_none s.code ≡ x.code) × (s.targets ≡ x.targets)

-- The first item without a reading, from an offset of a block on, is at this one.
abbrev pub BreaksAt : List ℕ → ℕ → ℕ → Type 0
BreaksAt block at o = instruction_stops at (drop at block) o

abbrev pub UnlessNoMemory : Result ReadInstr ItemFault → Type 0 → Type 0
UnlessNoMemory (Err NoMemory) P = Unit {0}
UnlessNoMemory result P = P

-- The answer comes only where the fact holds. Where it holds, the answer comes, or memory ran out.
pub record Exactly (result answer : Result ReadInstr ItemFault) (P : Type 0) : Type 0 where
  pub only : result ≡ answer → P
  pub always : P → UnlessNoMemory result (result ≡ answer)
