-- The places at which a machine stands.
use Rattle.std.specs.Prelude.{ℕ, zero, suc, ◌+◌, List, [], ◌∷◌, ◌++◌, Option, Some, None}
use Rattle.wasm_syntax.specs.declared.module.ModuleParts.{ModuleParts as Module}
use Rattle.machine_steps.specs.declared.watch.Position.{Position}
use Rattle.machine_steps.specs.Places.{Place, flat_place}

abbrev pub place_at : Module → Option Position → Option Place
place_at m None = None
place_at m (Some at) = flat_place m at.function at.index

-- those of so many instructions of a function, from one on
abbrev pub places_from : Module → (function start count : ℕ) → List (Option Place)
places_from m f s zero = []
places_from m f s (suc n) = places_from m f s n ++ flat_place m f (s + n) ∷ []
