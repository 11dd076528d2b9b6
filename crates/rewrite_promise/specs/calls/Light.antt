-- What is said of the sizes of a rewritten module.
use Rattle.std.specs.Prelude.{◌≡◌, ℕ, suc, ◌+◌, ◌≤◌, List, [], ◌∷◌, Option, Some}
use Rattle.std.specs.List.{AllByRecursion}
use Rattle.wasm_syntax.specs.declared.parts.FuncType.{FuncType}
use Rattle.wasm_syntax.specs.declared.parts.Body.{Body}
use Rattle.wasm_syntax.specs.declared.module.ModuleParts.{ModuleParts as Module}
use Rattle.wasm_syntax.specs.Tree.{Tree}
use Rattle.wasm_syntax.specs.Module.{Program, Function, defined, function_at}
use Rattle.rewrite_bodies.specs.Numbering.{import_count}
use Rattle.rewrite_bodies.specs.calls.Slots.{ctx_of, slots_of}
use Rattle.rewrite_bodies.specs.calls.Length.{code_length, live_weight}
use Rattle.rewrite_modules.specs.calls.Instrument.{new_nodes}
use Rattle.rewrite_modules.specs.Instrumentable.{SmallInstr}
use Rattle.rewrite_modules.specs.Weight.{height_at, ops_weight}

-- What the rewriting gives to the live instructions of a function is at most what the weight of the module gives to its instructions.
abbrev pub BodiesLight : Program → List (List ℕ) → Type 0
BodiesLight p heights =
    (i : ℕ) (body : Body) (tree : Tree) (type : FuncType) → function_at p (import_count p.module_ + i) ≡ Some (defined body tree type) →
    live_weight (ctx_of p (import_count p.module_ + i) body type (slots_of p (import_count p.module_ + i) body tree type)) [] tree.nodes ≤ ops_weight (height_at heights i) 0 body.ops

-- the bytes of the rewritten code of function f, without its last `end`
abbrev pub rewritten_length : Program → ℕ → Option Function → ℕ
rewritten_length p f (Some (defined body tree type)) = code_length (new_nodes p f body tree type)
rewritten_length p f _ = 0

-- and of all from function f on
abbrev pub rewritten_lengths : Program → ℕ → List Body → ℕ
rewritten_lengths p f [] = 0
rewritten_lengths p f (b ∷ bs) = rewritten_length p f (function_at p f) + rewritten_lengths p (suc f) bs

-- The offset of each access is a number of 32 bits (Core 5.4.3).
abbrev pub SmallOffsets : Module → Type 0
SmallOffsets m = AllByRecursion (λ body. AllByRecursion (λ o. SmallInstr o.code) body.ops) m.bodies
