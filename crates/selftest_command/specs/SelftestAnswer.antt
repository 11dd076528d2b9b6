-- What `selftest` answers, and what it writes.
use Rattle.std.specs.Prelude.{◌≡◌, ℕ, true, false, List, [], ◌∷◌, Option, Ok, codes}
use Rattle.pm_outside.specs.Contents.{Contents}
use Rattle.wasm_syntax.specs.declared.module.ModuleParts.{ModuleParts as Module}
use Rattle.wasm_syntax.specs.Valid.{Valid}
use Rattle.wasm_decode.specs.Decode.{module_from}
use Rattle.wasm_encode.specs.Encoding.{encoding}
use Rattle.pm_outside.specs.Written.{OnTold}
use Rattle.rewrite_promise.specs.Admitted.{Admits}
use Rattle.commands.specs.declared.outcome.Outcome.{Outcome}
use Rattle.pm_outside.specs.Held.{Writes, HoldThen}
use Rattle.selftest_command.specs.Selftest.{selftest}
use Rattle.selftest_command.specs.Handing.{RunsOnce, Divides, own_dump, HandsOver, IsEnd}
use Rattle.selftest_command.specs.Summary.{line}

-- ---- the files

abbrev pub module_file : List ℕ
module_file = codes "selftest.wasm"

abbrev pub rewritten_file : List ℕ
rewritten_file = codes "selftest.inst.wasm"

-- the module in its shortest encoding
abbrev pub module_bytes : ℕ → List ℕ
module_bytes n = encoding (selftest n)

-- both files
abbrev pub both_files : ℕ → (rewritten : List ℕ) → Writes
both_files n rewritten = (module_file, module_bytes n) ∷ (rewritten_file, rewritten) ∷ []

-- The first file spells a valid module, and these bytes are admitted as what it is rewritten to.
pub record IsRewritten (n : ℕ) (rewritten : List ℕ) : Type 0 where
  pub taken : Module
  pub decoded : module_from (module_bytes n) ≡ Ok taken
  pub valid : Valid taken
  pub admitted : Admits taken rewritten

-- ---- the answer

-- The answer to `selftest`, where these files are written: both are. The module of the first one divides by zero with as many frames as it
-- has functions, and that of the second one hands that over, as one dump. The line tells of it, and of the steps up to the end of the second one.
pub record SelftestAnswer (n : ℕ) (writes : Writes) (o : Outcome) : Type 0 where
  pub rewritten : List ℕ
  pub both : writes ≡ both_files n rewritten
  pub modules : IsRewritten n rewritten
  pub one : RunsOnce false n modules.taken
  pub divides : Divides n one.ran
  pub other : RunsOnce true n modules.admitted.decoded
  pub hands : HandsOver divides.at other.ran
  pub steps : ℕ
  pub is_end : IsEnd other.program n steps
  pub answer : o ≡ line n 2 n (own_dump divides.at) steps

-- Files then hold what is written.
pub record AnsweredOn (n : ℕ) (old new : Option Contents) (o : Outcome) : Type 0 where
  pub writes : Writes
  pub answer : SelftestAnswer n writes o
  pub files : OnTold (HoldThen writes) old new

-- ---- two answers

-- Two answers tell of one dump, and where they write the same, of the same number of steps.
pub record OneDump (n : ℕ) (x y : Writes) (a b : Outcome) : Type 0 where
  pub dump : List ℕ
  pub steps : ℕ
  pub others : ℕ
  pub first : a ≡ line n 2 n dump steps
  pub second : b ≡ line n 2 n dump others
  pub same_steps : x ≡ y → steps ≡ others
