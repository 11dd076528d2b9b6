-- The module of a self-test of n functions: each stores, mixes sixteen numbers and calls the next one, and the last divides by zero.
use Rattle.std.specs.Prelude.{ℕ, zero, suc, ◌+◌, ◌*◌, ◌/◌, ◌%◌, ◌^◌, nat_lt, List, [], ◌∷◌, ◌++◌, map, flat_map, replicate, None, if◌then◌else◌, codes}
use Rattle.std.specs.List.{range_with_len}
use Rattle.int_ops.specs.declared.operators.Binary.TheVariants as ops
use Rattle.wasm_syntax.specs.declared.value.ValType.TheVariants.{I32}
use Rattle.wasm_syntax.specs.declared.value.Value.TheVariants as values
use Rattle.wasm_syntax.specs.declared.instruction.Store.TheVariants as stores
use Rattle.wasm_syntax.specs.declared.instruction.Basic.TheVariants as basics
use Rattle.wasm_syntax.specs.declared.instruction.Jump.TheVariants as jumps
use Rattle.wasm_syntax.specs.declared.instruction.Instr.{Instr}
use Rattle.wasm_syntax.specs.declared.instruction.Instr.TheVariants as instr
use Rattle.wasm_syntax.specs.declared.instruction.Op.{Op}
use Rattle.wasm_syntax.specs.declared.parts.ExportKind.TheVariants as kinds
use Rattle.wasm_syntax.specs.declared.parts.Body.{Body}
use Rattle.wasm_syntax.specs.declared.module.ModuleParts.{ModuleParts as Module}

-- ---- numbers

abbrev pub next : ℕ → ℕ
next r = (1103515245 * r + 12345) % 2 ^ 32

-- the number of an index, of which the one of 0 is n
unfoldable pub number : ℕ → ℕ → ℕ
number n zero = n
number n (suc k) = next (number n k)

-- ---- bodies

abbrev pub constant : ℕ → Instr
constant v = instr.Basic (basics.Const (values.I32 v))

abbrev pub local_get : ℕ → Instr
local_get x = instr.Basic (basics.LocalGet x)

abbrev pub add : Instr
add = instr.Basic (basics.Binary I32 ops.Add)

-- what mixes in a number, by the lowest two bits of its upper half
abbrev pub mix : ℕ → Instr
mix zero = add
mix (suc zero) = instr.Basic (basics.Binary I32 ops.Xor)
mix (suc (suc zero)) = instr.Basic (basics.Binary I32 ops.Mul)
mix (suc (suc (suc k))) = instr.Basic (basics.Binary I32 ops.Sub)

-- the number with its lowest bit set
abbrev pub odd : ℕ → ℕ
odd r = 2 * (r / 2) + 1

abbrev pub mixed : ℕ → List Instr
mixed r = constant (odd r) ∷ mix (r / 65536 % 4) ∷ []

-- parameter 0 is stored at 4i, and both parameters are read
abbrev pub beginning : ℕ → List Instr
beginning i = constant (4 * i) ∷ local_get 0 ∷ instr.Basic (basics.Store (stores.Full I32) 2 0) ∷ local_get 1 ∷ local_get 0 ∷ []

-- sixteen numbers, from the one of this index on
abbrev pub mixing : ℕ → ℕ → List Instr
mixing n from = flat_map (λ k. mixed (number n k)) (range_with_len from 16)

abbrev pub ending : ℕ → ℕ → List Instr
ending n i =
    if nat_lt (i + 1) n then local_get 1 ∷ instr.Jump (jumps.Call (i + 1)) ∷ add ∷ []
    else constant 0 ∷ instr.Basic (basics.Binary I32 ops.DivU) ∷ add ∷ []

-- function i takes the numbers of 16i + 1 to 16i + 16
unfoldable pub function_code : ℕ → ℕ → List Instr
function_code n i = beginning i ++ mixing n (16 * i + 1) ++ ending n i ++ instr.End ∷ []

-- ---- the module

-- each instruction stands at its number, counted from this one on
abbrev pub ops_from : ℕ → List Instr → List Op
ops_from at [] = []
ops_from at (i ∷ is) = record { at = at; len = 0; code = i } ∷ ops_from (suc at) is

-- a body without declared locals
abbrev pub body_of : List Instr → Body
body_of code = record { groups = []; ops = ops_from 0 code; targets = []; start = 0 }

abbrev pub bodies : ℕ → ℕ → List Body
bodies n count = map (λ i. body_of (function_code n i)) (range_with_len 0 count)

-- one memory of a page, one type, and the functions, of which the first one is exported as `main`
unfoldable pub selftest : ℕ → Module
selftest n = record {
  types = record { params = I32 ∷ I32 ∷ []; results = I32 ∷ [] } ∷ [];
  imports = [];
  functions = replicate n 0;
  tables = [];
  memories = record { min = 1; max = None } ∷ [];
  globals = [];
  exports = record { name = codes "main"; kind = kinds.Function; index = 0 } ∷ [];
  start = None;
  elements = [];
  segments = [];
  bodies = bodies n n;
  customs = [];
  plain_bytes = 0;
}
