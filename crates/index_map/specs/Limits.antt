-- The limits of the rewriting, in their order.
use Rattle.std.specs.Prelude.{ℕ, ◌+◌, List, [], ◌∷◌, length, map, nat_lt, if◌then◌else◌, Option, Some, None}
use Rattle.wasm_syntax.specs.declared.quantity.Quantity.{Quantity}
use Rattle.wasm_syntax.specs.declared.quantity.Quantity.TheVariants.{InstrumentLocals, InstrumentParameters, InstrumentHeight, InstrumentNesting, Weight}
use Rattle.wasm_syntax.specs.declared.parts.Body.{Body}
use Rattle.wasm_syntax.specs.declared.module.ModuleParts.{ModuleParts as Module}
use Rattle.wasm_syntax.specs.Quantity.{greatest}
use Rattle.wasm_syntax.specs.Module.{type_at}
use Rattle.wasm_syntax.specs.Sizes.{local_count, nesting}
use Rattle.rewrite_modules.specs.Multiple.{highest}
use Rattle.rewrite_modules.specs.Weight.{height_at, weight}
use Rattle.index_map.specs.declared.limits.Excess.{Excess}
use Rattle.wasm_bytes.specs.Refusals.{◌orelse◌}

-- the locals, with parameters, of each of these functions, before the first of which i functions are defined
abbrev pub function_locals : Module → ℕ → List Body → List ℕ
function_locals m i [] = []
function_locals m i (b ∷ bs) = local_count (type_at m (length m.imports + i)) b ∷ function_locals m (i + 1) bs

-- the greatest operand height of each
abbrev pub function_heights : List (List ℕ) → ℕ → List Body → List ℕ
function_heights heights i [] = []
function_heights heights i (b ∷ bs) = highest (height_at heights i) 0 b.ops ∷ function_heights heights (i + 1) bs

-- the first number that passes the greatest one of the quantity
abbrev pub first_over : Quantity → List ℕ → Option Excess
first_over what [] = None
first_over what (n ∷ ns) = if nat_lt (greatest what) n then Some (record { what = what; count = n }) else first_over what ns

-- the first quantity that passes: of locals by functions, of parameters by types, of operand heights and of nesting by functions, and the
-- weight
unfoldable pub first_excess : Module → List (List ℕ) → Option Excess
first_excess m heights =
    first_over InstrumentLocals (function_locals m 0 m.bodies) orelse first_over InstrumentParameters (map (λ t. length t.params) m.types)
    orelse first_over InstrumentHeight (function_heights heights 0 m.bodies) orelse first_over InstrumentNesting (map nesting m.bodies)
    orelse first_over Weight (weight m heights ∷ [])
