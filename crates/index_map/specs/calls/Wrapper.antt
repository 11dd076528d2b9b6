-- The wrapper of an export.
use Rattle.std.specs.Prelude.{◌≡◌, ℕ, ◌+◌, [], ◌∷◌, length, flat_map, take, slice_get, Some}
use Rattle.wasm_syntax.specs.declared.parts.Export.{Export}
use Rattle.wasm_syntax.specs.declared.module.ModuleParts.{ModuleParts as Module}
use Rattle.rewrite_bodies.specs.Numbering.{wraps, wrapper_base}

-- the export of this number names a function that the module defines
abbrev pub HasWrapper : Module → ℕ → Type 0
HasWrapper m i = (e : Export) × (slice_get m.exports i ≡ Some e) × (wraps m e ≡ e.index ∷ [])

-- its wrapper stands behind those of the exports before it
abbrev pub wrapper_of : Module → ℕ → ℕ
wrapper_of m i = wrapper_base m + length (flat_map (wraps m) (take i m.exports))
