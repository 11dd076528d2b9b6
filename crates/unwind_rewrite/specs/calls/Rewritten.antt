-- The body of a function, rewritten.
use Rattle.std.specs.Prelude.{◌≡◌, ◌≤◌, ◌^◌, ℕ, length, Some, Option}
use Rattle.wasm_syntax.specs.declared.value.ValType.{ValType}
use Rattle.wasm_syntax.specs.declared.parts.FuncType.{FuncType}
use Rattle.wasm_syntax.specs.declared.parts.Body.{Body}
use Rattle.wasm_syntax.specs.declared.module.ModuleParts.{ModuleParts as Module}
use Rattle.wasm_syntax.specs.Tree.{Tree}
use Rattle.wasm_syntax.specs.Machine.{result_of}
use Rattle.wasm_syntax.specs.Module.{Ascend, Program, option_then, type_at, defined, function_at}
use Rattle.wasm_syntax.specs.SameCode.{body_code}
use Rattle.rewrite_modules.specs.calls.Instrument.{new_body}
use Rattle.rewrite_modules.specs.Instrumentable.{program_of}
use Rattle.rewrite_promise.specs.calls.Promise.{Accepted}
use Rattle.operand_spill.specs.calls.Plans.{Planned, IsPlan}

-- an accepted module with its trees
abbrev pub program_in : (m : Module) → Accepted m → Program
program_in m a = program_of m a.premises.whole

-- the plan is that of function f
abbrev pub IsPlanIn : Module → ℕ → Planned → Type 0
IsPlanIn m f plan =
    (a : Accepted m) (body : Body) (tree : Tree) (type : FuncType) → function_at (program_in m a) f ≡ Some (defined body tree type) → IsPlan (program_in m a) f body tree type plan

-- the body of function f in the rewriting, but for offsets
abbrev pub IsRewritten : Module → ℕ → Body → Type 0
IsRewritten m f body = (a : Accepted m) → body_code body ≡ body_code (new_body (program_in m a) f (function_at (program_in m a) f))

-- what function f gives
abbrev pub gives_of : Module → ℕ → Option ValType
gives_of m f = option_then (type_at m f) result_of

-- instructions stand at ascending offsets, where 32 bits count them
abbrev pub Ascends : Body → Type 0
Ascends b = length b.ops ≤ 2 ^ 32 → Ascend 0 b.ops
