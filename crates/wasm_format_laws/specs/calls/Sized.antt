-- Modules whose lengths are those of a spelling (WebAssembly Core 1.0, 5). A number has many spellings, so that a module and
-- an instruction may be longer than their shortest spellings, and never shorter.
use Rattle.std.specs.Prelude.{ℕ, ◌+◌, ◌≤◌, length, sum_by}
use Rattle.std.specs.List.{AllByRecursion}
use Rattle.wasm_syntax.specs.declared.quantity.Quantity.TheVariants.{ModuleBytes}
use Rattle.wasm_syntax.specs.declared.parts.Body.{Body}
use Rattle.wasm_syntax.specs.declared.module.ModuleParts.{ModuleParts}
use Rattle.wasm_syntax.specs.Quantity.{greatest}
use Rattle.wasm_format.specs.Encoding.{encoding as instruction_bytes}
use Rattle.wasm_encode.specs.Encoding.{encoding}

-- No instruction of an expression is shorter than its shortest spelling (Core 5.4).
abbrev pub OpsSized : Body → Type 0
OpsSized body = AllByRecursion (λ o. length (instruction_bytes body.targets o.code) ≤ o.len) body.ops

-- the same of all bodies and of all constant expressions
pub record CodeSized (m : ModuleParts) : Type 0 where
  pub globals : AllByRecursion (λ g. OpsSized g.init) m.globals
  pub elements : AllByRecursion (λ e. OpsSized e.offset) m.elements
  pub bodies : AllByRecursion OpsSized m.bodies
  pub segments : AllByRecursion (λ s. OpsSized s.offset) m.segments

-- how long the instructions of an expression are together
abbrev pub ops_length : Body → ℕ
ops_length body = sum_by (λ o. o.len) body.ops

-- how long the instructions of all bodies and of all constant expressions are together
abbrev pub code_length : ModuleParts → ℕ
code_length m =
    sum_by (λ g. ops_length g.init) m.globals + sum_by (λ e. ops_length e.offset) m.elements
    + sum_by ops_length m.bodies + sum_by (λ s. ops_length s.offset) m.segments

-- The length of a module without its custom sections is within the limit of decoding, and no less than that of the shortest
-- encoding. It holds all instructions, none of which is shorter than its shortest spelling.
pub record Sized (m : ModuleParts) : Type 0 where
  pub within_limit : m.plain_bytes ≤ greatest ModuleBytes
  pub no_shorter : length (encoding m) ≤ m.plain_bytes
  pub ops : CodeSized m
  pub code : code_length m ≤ m.plain_bytes
