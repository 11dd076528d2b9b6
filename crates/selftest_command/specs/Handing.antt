-- What the module of a self-test and its rewriting come to.
use Rattle.std.specs.Prelude.{◌≡◌, ◌≢◌, ◌<◌, ℕ, Bool, true, false, List, [], ◌∷◌, length, slice_get, codes, Option, Some, None, option_map, Ok}
use Rattle.wasm_syntax.specs.declared.value.Value.TheVariants as values
use Rattle.wasm_syntax.specs.declared.module.ModuleParts.{ModuleParts as Module}
use Rattle.wasm_syntax.specs.SameCode.{code_alone}
use Rattle.wasm_syntax.specs.Module.{Program, IsProgram}
use Rattle.wasm_syntax.specs.Machine.{Config}
use Rattle.wasm_syntax.specs.Run.{Invocation, Outcome, trapped, running, Ran, run}
use Rattle.wasm_syntax.specs.Valid.{Valid}
use Rattle.wasm_decode.specs.Decode.{module_from}
use Rattle.wasm_validate.specs.Heights.{AllLow}
use Rattle.wasm_encode.specs.Encoding.{encoding}
use Rattle.dump_write.specs.Collected.{collected_dump}
use Rattle.dump_write.specs.Image.{image}
use Rattle.dump_write.specs.ImageBytes.{bytes_of}
use Rattle.rewrite_modules.specs.Simulates.{memory_of, Shows}
use Rattle.rewrite_modules.specs.Weight.{AreHeights}
use Rattle.instrument.specs.Refusal.{refusal}
use Rattle.selftest_command.specs.Selftest.{selftest}

-- ---- what is accepted

-- The module is what the encoding of a self-test's module is decoded as, and has the same code.
pub record IsDecoded (n : ℕ) (m : Module) : Type 0 where
  pub is : module_from (encoding (selftest n)) ≡ Ok m
  pub same : code_alone m ≡ code_alone (selftest n)

-- It is valid with few operands, and there is no cause to refuse to rewrite it.
pub record IsAccepted (m : Module) : Type 0 where
  pub valid : Valid m
  pub low : AllLow m
  pub no_cause : (heights : List (List ℕ)) → AreHeights m heights → refusal m heights ≡ None

-- ---- the runs

-- `main` on the number of functions and 1
abbrev pub main_on : ℕ → Invocation
main_on n = record { name = codes "main"; args = values.I32 n ∷ values.I32 1 ∷ [] }

-- the default number of steps
abbrev pub fuel : ℕ
fuel = 100000000

-- the default number of frames, and two more with a collector
abbrev pub depth : (collecting : Bool) → ℕ
depth false = 1000
depth true = 1002

-- the module is run once, without replies
pub record RunsOnce (collecting : Bool) (n : ℕ) (m : Module) : Type 0 where
  pub program : Program
  pub of_module : program.module_ ≡ m
  pub writes_out : IsProgram program
  pub ran : Ran
  pub runs : run program collecting (main_on n ∷ []) [] (depth collecting) fuel ≡ ran ∷ []

-- what its run with a collector comes to within so many steps
abbrev pub outcome_within : Program → ℕ → (steps : ℕ) → Option Outcome
outcome_within p n steps = option_map (λ r. r.outcome) (slice_get (run p true (main_on n ∷ []) [] (depth true) steps) 0)

-- the least number of steps within which that run ends
pub record IsEnd (p : Program) (n steps : ℕ) : Type 0 where
  pub going : (k : ℕ) → k < steps → outcome_within p n k ≡ Some running
  pub ended : outcome_within p n steps ≢ Some running

-- it divides by zero at this configuration, with so many frames
pub record Divides (n : ℕ) (r : Ran) : Type 0 where
  pub outcome : r.outcome ≡ trapped 2
  pub at : Config
  pub last : r.last ≡ Some at
  pub frames : length at.frames ≡ n

-- the canonical bytes of the dump of a configuration, under the default name
abbrev pub own_dump : Config → List ℕ
own_dump at = bytes_of (image at (codes "module"))

-- Its collector calls and its memory show this configuration, in which another module divides by zero; so both have one dump.
pub record HandsOver (at : Config) (r : Ran) : Type 0 where
  pub there : Config
  pub last : r.last ≡ Some there
  pub shows : Shows 2 at there r
  pub one_dump : bytes_of (collected_dump shows.whole (memory_of there) (codes "module")) ≡ own_dump at

-- The module divides by zero, and each run of the other one with a collector hands that over.
pub record HandsAllOver (n : ℕ) (m other : Module) : Type 0 where
  pub one : RunsOnce false n m
  pub divides : Divides n one.ran
  pub hands : (r : RunsOnce true n other) → HandsOver divides.at r.ran
