-- What it means that a dump can be one of a module: nine tests, of which the first that fails counts.
use Rattle.std.specs.Prelude.{◌≡◌, ◌≢◌, ℕ, ◌+◌, ◌<◌, ◌≤◌, false, min, [], ◌∷◌, ◌⊎◌, All, length, slice_get, Option, Some, None, unwrap_or}
use Rattle.wasm_syntax.specs.declared.value.Value.{Value}
use Rattle.wasm_syntax.specs.declared.parts.Limits.{Limits}
use Rattle.wasm_syntax.specs.declared.parts.Global.{Global}
use Rattle.wasm_syntax.specs.declared.module.ModuleParts.{ModuleParts as Module}
use Rattle.wasm_syntax.specs.Numbers.{type_of}
use Rattle.wasm_syntax.specs.Module.{const_value, option_then}
use Rattle.wasm_syntax.specs.Valid.{There}
use Rattle.dump_format.specs.declared.dump.Dump.{Dump}
use Rattle.dump_format.specs.declared.dump.Instance.{Instance}
use Rattle.dump_match.specs.declared.mismatch.Mismatch.{Mismatch}
use Rattle.dump_match.specs.declared.mismatch.Mismatch.TheVariants as rows
use Rattle.dump_match.specs.Frames.{FunctionFits, OffsetFits, LocalsFit, OperandsFit, CallFits, CalleeFits}

-- ---- the instance (1), its memory (2) and its globals (3)

pub record OneInstance (dump : Dump) (one : Instance) : Type 0 where
  pub alone : dump.instances ≡ one ∷ []
  pub of_module : one.«module» < length dump.modules
  pub memories : (one.memories ≡ []) ⊎ ((one.memories ≡ 0 ∷ []) × (dump.memory ≢ None))
  pub globals : All (λ g. g < length dump.globals) one.globals
  pub frames : All (λ f. f.instance ≡ 0) dump.frames

-- of the instance, where there is one alone
abbrev pub OfInstance : Dump → (Instance → Type 0) → Type 0
OfInstance dump P = (one : Instance) × (dump.instances ≡ one ∷ []) × P one

-- a recorded memory has a size that the module's memory can have, which is at most 4,096 pages
abbrev pub MemoryFits : Module → Dump → Instance → Type 0
MemoryFits m dump one =
    one.memories ≢ [] →
    (l : Limits) × (pages : ℕ) × (slice_get m.memories 0 ≡ Some l) × (dump.memory ≡ Some pages)
    × (l.min ≤ pages) × (pages ≤ min 4096 (unwrap_or l.max 4096))

-- the recorded global of an index
abbrev pub global_of : Dump → Instance → ℕ → Option Value
global_of dump one i = option_then (slice_get one.globals i) (slice_get dump.globals)

-- a recorded global has its type, and where it can't change its first value
abbrev pub IsOfGlobal : Value → Global → Type 0
IsOfGlobal v g = (type_of v ≡ g.vtype) × (g.mutable ≡ false → const_value [] g.init.ops ≡ Some v)

-- both lists end there, or both have what fits
abbrev pub BothHave : Option Value → Option Global → Type 0
BothHave None None = Unit {0}
BothHave (Some v) (Some g) = IsOfGlobal v g
BothHave _ _ = ⊥

abbrev pub GlobalFits : Module → Dump → ℕ → Instance → Type 0
GlobalFits m dump i one = (one.globals ≡ []) ⊎ BothHave (global_of dump one i) (slice_get m.globals i)

-- ---- all of them

-- the test of a row; a frame that is not there passes
abbrev pub Passes : Module → Dump → Mismatch → Type 0
Passes m dump rows.Instance = (one : Instance) × OneInstance dump one
Passes m dump rows.Memory = OfInstance dump (MemoryFits m dump)
Passes m dump (rows.Global i) = OfInstance dump (GlobalFits m dump i)
Passes m dump (rows.Function i) = There dump.frames i (FunctionFits m)
Passes m dump (rows.Offset i) = There dump.frames i (OffsetFits m)
Passes m dump (rows.Locals i) = There dump.frames i (LocalsFit m)
Passes m dump (rows.Operands i) = There dump.frames i (OperandsFit m i)
Passes m dump (rows.NotACall i) = There dump.frames i (CallFits m i)
Passes m dump (rows.Callee i) = There dump.frames i (CalleeFits m dump.frames i)

-- the dump can be one of the module
abbrev pub Matches : Module → Dump → Type 0
Matches m dump = (row : Mismatch) → Passes m dump row

-- The order of the tests: those of the whole dump, then those of frame 0, of frame 1 and so on.
abbrev pub group : Mismatch → ℕ
group (rows.Function i) = i + 1
group (rows.Offset i) = i + 1
group (rows.Locals i) = i + 1
group (rows.Operands i) = i + 1
group (rows.NotACall i) = i + 1
group (rows.Callee i) = i + 1
group _ = 0

-- the order within a group
abbrev pub place : Mismatch → ℕ
place rows.Instance = 1
place rows.Memory = 2
place (rows.Global i) = 3 + i
place (rows.Function i) = 4
place (rows.Offset i) = 5
place (rows.Locals i) = 6
place (rows.Operands i) = 7
place (rows.NotACall i) = 8
place (rows.Callee i) = 9

abbrev pub Before : Mismatch → Mismatch → Type 0
Before a b = (group a < group b) ⊎ ((group a ≡ group b) × (place a < place b))

-- a test fails, and those before it pass
pub record FirstMismatch (m : Module) (dump : Dump) (row : Mismatch) : Type 0 where
  pub fails : Passes m dump row → ⊥
  pub earlier : (other : Mismatch) → Before other row → Passes m dump other
