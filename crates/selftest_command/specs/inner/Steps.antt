-- The steps of the command.
use Rattle.std.specs.Prelude.{◌≡◌, ℕ, ◌≤◌, ◌-◌, true, false, Bool, List, [], length, Option, Some, None, Ok, if◌then◌else◌, codes}
use Rattle.std.specs.Str.{bytes_eq}
use Rattle.wasm_syntax.specs.declared.parts.FuncType.{FuncType}
use Rattle.wasm_syntax.specs.declared.parts.Import.{Import}
use Rattle.wasm_syntax.specs.declared.module.ModuleParts.{ModuleParts as Module}
use Rattle.wasm_syntax.specs.SameCode.{code_alone}
use Rattle.wasm_syntax.specs.Machine.{Config}
use Rattle.wasm_syntax.specs.Run.{trapped}
use Rattle.wasm_syntax.specs.Valid.{Valid}
use Rattle.wasm_decode.specs.Decode.{module_from}
use Rattle.wasm_validate.specs.Heights.{AllLow}
use Rattle.wasm_bytes.specs.Laws.{IsBytes}
use Rattle.dump_write.specs.ImageBytes.{bytes_of}
use Rattle.host_collector.specs.Collecting.{is_told, is_collected}
use Rattle.wasm_machine.specs.calls.Entries.{first_unserved}
use Rattle.commands.specs.declared.outcome.Outcome.{Outcome}
use Rattle.run_session.specs.Delivery.{Delivery, nothing, whole, torn, Delivers, dump_of}
use Rattle.run_session.specs.Telling.{memory_in}
use Rattle.selftest_command.specs.Selftest.{selftest}
use Rattle.selftest_command.specs.Handing.{fuel, RunsOnce, own_dump}
use Rattle.selftest_command.specs.Summary.{line}
use Rattle.selftest_command.specs.SelftestAnswer.{module_bytes}

-- the collector's imports are served, and no others
abbrev pub collected_alone : Import → FuncType → Bool
collected_alone i type = if is_told i then is_collected i type else false

-- all imports are the collector's
abbrev pub IsCollected : Module → Type 0
IsCollected m = first_unserved collected_alone m ≡ None

-- The bytes spell a valid module with low heights, which imports nothing but from the collector.
pub record IsTaken (bytes : List ℕ) : Type 0 where
  pub decoded : Module
  pub is : module_from bytes ≡ Ok decoded
  pub valid : Valid decoded
  pub low : AllLow decoded
  pub collected : IsCollected decoded

-- ---- the run of the first module

-- The module was run without a collector, and where it trapped these are the bytes of its dump.
pub record RunsAlone (n : ℕ) (m : Module) (dump : List ℕ) : Type 0 where
  pub run : RunsOnce false n m
  pub dump_is : (kind : ℕ) (at : Config) → run.ran.outcome ≡ trapped kind → run.ran.last ≡ Some at → dump ≡ own_dump at

-- ---- the run of the second module

-- the kind of a trap, how many frames its dump has, and the canonical bytes of the dump
pub record Dumped : Type 0 where
  pub kind : ℕ
  pub frames : ℕ
  pub bytes : List ℕ

abbrev pub summary : ℕ → Dumped → (steps : ℕ) → Outcome
summary n d steps = line n d.kind d.frames d.bytes steps

-- there is nothing to count
abbrev pub none_dumped : Dumped
none_dumped = record { kind = 0; frames = 0; bytes = [] }

-- a dump, where it has the bytes of the first module's
abbrev pub compared : (own : List ℕ) → Dumped → Dumped
compared own d = if bytes_eq own d.bytes then d else none_dumped

-- what was handed over, with these bytes of a memory, where that is a whole dump, and that of the first module
abbrev pub dumped : (own : List ℕ) → Delivery → Option (List ℕ) → Dumped
dumped own (whole d) memory = compared own (record { kind = d.kind; frames = length d.frames; bytes = bytes_of (dump_of d memory (codes "module")) })
dumped own nothing memory = none_dumped
dumped own (torn at) memory = none_dumped

-- The line of a module that was run with a collector: the dump that it handed over, where the first module has the same, and the steps that it
-- made until it ended, or all of them.
pub record Runs (n : ℕ) (own : List ℕ) (m : Module) (o : Outcome) : Type 0 where
  pub run : RunsOnce true n m
  pub delivery : Delivery
  pub delivers : Delivers run.ran.collected delivery
  pub answer : o ≡ summary n (dumped own delivery (memory_in run.ran.last)) (fuel - run.ran.left)

-- of the module that these bytes spell
pub record RunsBytes (n : ℕ) (own bytes : List ℕ) (o : Outcome) : Type 0 where
  pub decoded : Module
  pub is : module_from bytes ≡ Ok decoded
  pub runs : Runs n own decoded o

-- ---- the module

-- The module is what the encoding of the self-test's module spells, and is taken.
pub record IsSelftest (n : ℕ) (m : Module) : Type 0 where
  pub least : 1 ≤ n
  pub most : n ≤ 900
  pub are_bytes : IsBytes (module_bytes n)
  pub decoded : module_from (module_bytes n) ≡ Ok m
  pub valid : Valid m
  pub low : AllLow m
  pub same : code_alone m ≡ code_alone (selftest n)
