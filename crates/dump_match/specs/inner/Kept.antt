-- Groups of locals that are kept by their functions.
use Rattle.std.specs.Prelude.{◌≡◌, ℕ, List, Option, Some, IfSome}
use Rattle.wasm_syntax.specs.declared.parts.LocalGroup.{LocalGroup}
use Rattle.wasm_syntax.specs.declared.parts.Body.{Body}
use Rattle.wasm_syntax.specs.declared.module.ModuleParts.{ModuleParts as Module}
use Rattle.wasm_syntax.specs.Module.{declared_locals}
use Rattle.wasm_syntax.specs.Valid.{body_of}

-- what is kept for a function has its locals
abbrev pub KeepsGroups : Module → (ℕ → Option (List LocalGroup)) → Type 0
KeepsGroups m kept = (f : ℕ) (body : Body) → body_of m f ≡ Some body → IfSome (kept f) (λ groups. declared_locals groups ≡ declared_locals body.groups)
