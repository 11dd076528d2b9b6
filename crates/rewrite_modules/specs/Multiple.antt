-- The bound on the steps that a rewritten module makes for each step of the original.
use Rattle.std.specs.Prelude.{ℕ, suc, ◌+◌, ◌*◌, max, List, [], ◌∷◌, length}
use Rattle.wasm_syntax.specs.declared.instruction.Op.{Op}
use Rattle.wasm_syntax.specs.declared.parts.Body.{Body}
use Rattle.wasm_syntax.specs.declared.module.ModuleParts.{ModuleParts as Module}
use Rattle.wasm_syntax.specs.Module.{type_at}
use Rattle.wasm_syntax.specs.Sizes.{local_count}
use Rattle.rewrite_modules.specs.Weight.{height_at}

-- the most locals, with parameters, of these functions, before the first of which i functions are defined
abbrev pub most_locals : Module → ℕ → List Body → ℕ
most_locals m i [] = 0
most_locals m i (b ∷ bs) = max (local_count (type_at m (length m.imports + i)) b) (most_locals m (suc i) bs)

-- the greatest operand height of these instructions, which are numbered from j on
abbrev pub highest : (ℕ → ℕ) → ℕ → List Op → ℕ
highest height j [] = 0
highest height j (o ∷ os) = max (height j) (highest height (suc j) os)

-- and of these functions
abbrev pub most_operands : List (List ℕ) → ℕ → List Body → ℕ
most_operands heights i [] = 0
most_operands heights i (b ∷ bs) = max (highest (height_at heights i) 0 b.ops) (most_operands heights (suc i) bs)

-- of a module with these operand heights
abbrev pub multiple : Module → List (List ℕ) → ℕ
multiple m heights = 200 + 8 * (most_locals m 0 m.bodies + most_operands heights 0 m.bodies + length m.globals)

-- half of it: what one frame takes to hand over its values
abbrev pub half : Module → List (List ℕ) → ℕ
half m heights = 100 + 4 * (most_locals m 0 m.bodies + most_operands heights 0 m.bodies + length m.globals)
